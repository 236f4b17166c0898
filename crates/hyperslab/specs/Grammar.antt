-- The grammar of a selection's text, by its pieces.
use Rattle.std.specs.Prelude.{◌≡◌, ℕ, ◌+◌, ◌*◌, ◌-◌, ◌≤◌, ◌<◌, ◌⊎◌, List, [], ◌∷◌, ◌++◌, length, take, Option, Some, None, Result, Err, nat_eq, if◌then◌else◌}
use Rattle.std.specs.List.{AllZip}
use Rattle.hyperslab.specs.declared.TheConstants.{MAX_DIGITS}
use Rattle.hyperslab.specs.declared.reading.Part.{Part}
use Rattle.hyperslab.specs.declared.Slab.{Slab}
use Rattle.hyperslab.specs.declared.SlabFault.{SlabFault}
use Rattle.hyperslab.specs.declared.SlabFault.TheVariants.{Rank}
use Rattle.shapes.specs.declared.Shape.{Shape}
use Rattle.shapes.specs.Shapes.{dims_of}
use Rattle.hyperslab.specs.Judged.{judged}
use Rattle.hyperslab.specs.Steps.{or_number}

abbrev pub AreSpaces : List ℕ → Type 0
AreSpaces [] = Unit {0}
AreSpaces (b ∷ bs) = (b ≡ 32) × AreSpaces bs

abbrev pub AreDigits : List ℕ → Type 0
AreDigits [] = Unit {0}
AreDigits (b ∷ bs) = (48 ≤ b) × (b ≤ 57) × AreDigits bs

-- the number that digits spell, after those that spell `n`
abbrev pub spelled : ℕ → List ℕ → ℕ
spelled n [] = n
spelled n (b ∷ bs) = spelled (n * 10 + (b - 48)) bs

-- a number: 1 to 10 digits among spaces
pub record IsNumeral (text : List ℕ) (n : ℕ) : Type 0 where
  pub front : List ℕ
  pub digits : List ℕ
  pub back : List ℕ
  pub text_is : text ≡ front ++ (digits ++ back)
  pub spaces_front : AreSpaces front
  pub spaces_back : AreSpaces back
  pub are_digits : AreDigits digits
  pub some_digit : 1 ≤ length digits
  pub few_digits : length digits ≤ MAX_DIGITS
  pub number : n ≡ spelled 0 digits

-- a number, or spaces alone
abbrev pub IsMaybe : List ℕ → Option ℕ → Type 0
IsMaybe text None = AreSpaces text
IsMaybe text (Some n) = IsNumeral text n

-- a number alone selects itself
pub record IsSingle (text : List ℕ) (p : Part) : Type 0 where
  pub n : ℕ
  pub numeral : IsNumeral text n
  pub part : p ≡ record { start = n; stop = Some (n + 1); step = 1 }

-- a start, a colon and a stop
pub record IsRange (text : List ℕ) (p : Part) : Type 0 where
  pub first : List ℕ
  pub second : List ℕ
  pub start : Option ℕ
  pub stop : Option ℕ
  pub text_is : text ≡ first ++ 58 ∷ second
  pub starts : IsMaybe first start
  pub stops : IsMaybe second stop
  pub part : p ≡ record { start = or_number start 0; stop = stop; step = 1 }

-- the same, a colon and a step
pub record IsStepped (text : List ℕ) (p : Part) : Type 0 where
  pub first : List ℕ
  pub second : List ℕ
  pub third : List ℕ
  pub start : Option ℕ
  pub stop : Option ℕ
  pub step : ℕ
  pub text_is : text ≡ first ++ 58 ∷ (second ++ 58 ∷ third)
  pub starts : IsMaybe first start
  pub stops : IsMaybe second stop
  pub steps : IsNumeral third step
  pub part : p ≡ record { start = or_number start 0; stop = stop; step = step }

abbrev pub IsPart : List ℕ → Part → Type 0
IsPart text p = IsSingle text p ⊎ IsRange text p ⊎ IsStepped text p

-- texts, each with a comma after it
abbrev pub commas : List (List ℕ) → List ℕ
commas [] = []
commas (text ∷ texts) = text ++ 44 ∷ commas texts

-- brackets around parts with commas between them, among spaces
pub record IsSelection (text : List ℕ) (parts : List Part) : Type 0 where
  pub front : List ℕ
  pub texts : List (List ℕ)
  pub last : List ℕ
  pub back : List ℕ
  pub earlier : List Part
  pub final : Part
  pub text_is : text ≡ front ++ 91 ∷ (commas texts ++ (last ++ 93 ∷ back))
  pub parts_are : parts ≡ earlier ++ final ∷ []
  pub spaces_front : AreSpaces front
  pub spaces_back : AreSpaces back
  pub are_parts : AllZip IsPart texts earlier
  pub is_part : IsPart last final

-- a selection can follow
abbrev pub CanGoOn : List ℕ → Type 0
CanGoOn text = (more : List ℕ) × ((parts : List Part) × IsSelection (text ++ more) parts)

-- the first byte after which no selection can follow, or the length of a text that ends too early
pub record IsFirstBad (text : List ℕ) (byte : ℕ) : Type 0 where
  pub none : (parts : List Part) → IsSelection text parts → ⊥
  pub before : CanGoOn (take byte text)
  pub within : byte ≤ length text
  pub after : byte < length text → CanGoOn (take (byte + 1) text) → ⊥

-- ---- the selection that parts make

abbrev pub starts_of : List Part → List ℕ
starts_of [] = []
starts_of (p ∷ ps) = p.start ∷ starts_of ps

-- a stop that is left out is the axis's dim
abbrev pub stops_in : List ℕ → List Part → List ℕ
stops_in dims [] = []
stops_in [] (p ∷ ps) = or_number p.stop 0 ∷ stops_in [] ps
stops_in (n ∷ dims) (p ∷ ps) = or_number p.stop n ∷ stops_in dims ps

abbrev pub steps_of : List Part → List ℕ
steps_of [] = []
steps_of (p ∷ ps) = p.step ∷ steps_of ps

abbrev pub slab_in : List ℕ → List Part → Slab
slab_in dims ps = record { start = starts_of ps; stop = stops_in dims ps; step = steps_of ps }

-- a part for each axis, and then the tests in their order
abbrev pub parts_slab : List Part → Shape → Result Slab SlabFault
parts_slab ps shape = if nat_eq (length ps) (length (dims_of shape)) then judged shape (slab_in (dims_of shape) ps) else Err Rank
