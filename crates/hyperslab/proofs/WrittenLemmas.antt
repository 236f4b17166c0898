-- A selection written out is read back.
use Rattle.std.proofs.Common.{◌≡◌, ℕ, ◌+◌, ◌*◌, ◌-◌, ◌/◌, ◌%◌, ◌^◌, ◌<◌, ◌≤◌, cond, List, [], ◌∷◌, ◌++◌, All, map, length, Some, Ok, Err, inr, refl, sym, ap, ◌∙◌, arith}
use Rattle.std.specs.List.{AllZip}
use Rattle.std.specs.Fmt.{decimal}
use Rattle.std.proofs.lemmas.Fmt.{decimal_by_steps, decimal_nonempty, length-decimal-le}
use Rattle.std.proofs.lemmas.Bool.{eq-eqb}
use Rattle.std.proofs.lemmas.List.{append-nil, append_assoc, length-map}
use Rattle.std.proofs.lemmas.List.Elements.{All-head, All-tail}
use Rattle.shapes.specs.declared.Shape.TheVariants.{Simple}
use Rattle.shapes.specs.declared.TheConstants.{MAX_EXTENT}
use Rattle.hyperslab.specs.declared.Slab.{Slab}
use Rattle.hyperslab.specs.declared.SlabFault.TheVariants.{Rank}
use Rattle.hyperslab.specs.declared.reading.Part.{Part}
use Rattle.hyperslab.specs.Selected.{Axis, AreAxes, IsSlab, FitsIn, axes, axes_of}
use Rattle.hyperslab.specs.Judged.{judged}
use Rattle.hyperslab.specs.Grammar.{AreDigits, spelled, IsNumeral, IsPart, commas, IsSelection, slab_in, starts_of, stops_in, steps_of}
use Rattle.hyperslab.specs.Steps.{text_slab}
use Rattle.hyperslab.specs.Written.{written_axis, written_axes, written}
use Rattle.hyperslab.proofs.AxisLemmas.{length-axes}
use Rattle.hyperslab.proofs.ReadLemmas.{digits_push, spelled_push}
use Rattle.hyperslab.proofs.TextLemmas.{text_spelled}
use Rattle.hyperslab.proofs.OutcomeLemmas.{judged_outcome, fits_whole}

-- ---- numbers

abbrev Spells : ℕ → List ℕ → Type 0
Spells n ds = AreDigits ds × (n ≡ spelled 0 ds)

one_digit : (n : ℕ) → n < 10 → Spells n ((48 + n) ∷ [])
one_digit n h = ((omega arith, omega arith, tt), omega arith)

more_digits : (n : ℕ) (ds : List ℕ) → 10 ≤ n → Spells (n / 10) ds → Spells n (ds ++ ((48 + n % 10) ∷ []))
more_digits n ds h p =
    let last : n % 10 < 10 = omega arith in
    let whole : n ≡ n / 10 * 10 + (48 + n % 10 - 48) = omega arith in
    (digits_push ds (48 + n % 10) p.0 (omega arith) (omega (arith, last)), whole ∙ ap (λ m. m * 10 + (48 + n % 10 - 48)) p.1 ∙ sym (spelled_push ds (48 + n % 10) 0))

pub numeral : (n : ℕ) → n < 10 ^ 10 → IsNumeral (decimal n) n
numeral n h =
    let small : n < 2 ^ 64 = omega (arith, h) in
    let digits = decimal_by_steps Spells one_digit more_digits n small in
    record {
      front = [];
      digits = decimal n;
      back = [];
      text_is = sym (append-nil (decimal n));
      spaces_front = tt;
      spaces_back = tt;
      are_digits = digits.0;
      some_digit = omega (arith, decimal_nonempty n small);
      few_digits = length-decimal-le 10 n (omega arith) h small;
      number = digits.1;
    }

-- ---- parts

-- numbers of at most 10 digits
abbrev IsShort : Axis → Type 0
IsShort x = (x.lo < 10 ^ 10) × (x.hi < 10 ^ 10) × (x.by < 10 ^ 10)

abbrev AreShort : List Axis → Type 0
AreShort [] = Unit {0}
AreShort (x ∷ xs) = IsShort x × AreShort xs

abbrev part : Axis → Part
part x = record { start = x.lo; stop = Some x.hi; step = x.by }

written_part : (x : Axis) → IsShort x → IsPart (written_axis x) (part x)
written_part x h = inr (inr (record {
  first = decimal x.lo;
  second = decimal x.hi;
  third = decimal x.by;
  start = Some x.lo;
  stop = Some x.hi;
  step = x.by;
  text_is = refl;
  starts = numeral x.lo h.0;
  stops = numeral x.hi h.1;
  steps = numeral x.by h.2;
  part = refl;
}))

-- the axes' texts, the last of them apart
record IsParted (xs : List Axis) : Type 0 where
  pub texts : List (List ℕ)
  pub last : List ℕ
  pub earlier : List Part
  pub final : Part
  pub text_is : written_axes xs ≡ commas texts ++ last
  pub parts_are : map part xs ≡ earlier ++ final ∷ []
  pub are_parts : AllZip IsPart texts earlier
  pub is_part : IsPart last final

parted : (x : Axis) (xs : List Axis) → IsShort x → AreShort xs → IsParted (x ∷ xs)
parted x [] h k = record {
  texts = [];
  last = written_axis x;
  earlier = [];
  final = part x;
  text_is = refl;
  parts_are = refl;
  are_parts = tt;
  is_part = written_part x h;
}
parted x (y ∷ ys) h k =
    let rest = parted y ys k.0 k.1 in
    record {
      texts = written_axis x ∷ rest.texts;
      last = rest.last;
      earlier = part x ∷ rest.earlier;
      final = rest.final;
      text_is = ap (λ (ns : List ℕ). written_axis x ++ 44 ∷ ns) rest.text_is ∙ sym (append_assoc (written_axis x) (44 ∷ commas rest.texts) rest.last);
      parts_are = ap (λ ps. part x ∷ ps) rest.parts_are;
      are_parts = (written_part x h, rest.are_parts);
      is_part = rest.is_part;
    }

selection : (xs : List Axis) → AreShort xs → 1 ≤ length xs → IsSelection (91 ∷ (written_axes xs ++ 93 ∷ [])) (map part xs)
selection [] h k = absurd (omega arith)
selection (x ∷ xs) h k =
    let split = parted x xs h.0 h.1 in
    record {
      front = [];
      texts = split.texts;
      last = split.last;
      back = [];
      earlier = split.earlier;
      final = split.final;
      text_is = ap (λ (ns : List ℕ). 91 ∷ (ns ++ 93 ∷ [])) split.text_is ∙ ap (λ (ns : List ℕ). 91 ∷ ns) (append_assoc (commas split.texts) split.last (93 ∷ []));
      parts_are = split.parts_are;
      spaces_front = tt;
      spaces_back = tt;
      are_parts = split.are_parts;
      is_part = split.is_part;
    }

-- ---- the selection of these parts

part_starts : (los his bys : List ℕ) → length his ≡ length los → length bys ≡ length los → starts_of (map part (axes los his bys)) ≡ los
part_starts [] his bys h k = refl
part_starts (a ∷ los) [] bys h k = absurd (omega arith)
part_starts (a ∷ los) (b ∷ his) [] h k = absurd (omega arith)
part_starts (a ∷ los) (b ∷ his) (c ∷ bys) h k = ap (λ ns. a ∷ ns) (part_starts los his bys (omega arith) (omega arith))

part_stops : (los his bys dims : List ℕ) → length his ≡ length los → length bys ≡ length los → length dims ≡ length los → stops_in dims (map part (axes los his bys)) ≡ his
part_stops [] [] bys dims h k l = refl
part_stops [] (b ∷ his) bys dims h k l = absurd (omega arith)
part_stops (a ∷ los) [] bys dims h k l = absurd (omega arith)
part_stops (a ∷ los) (b ∷ his) [] dims h k l = absurd (omega arith)
part_stops (a ∷ los) (b ∷ his) (c ∷ bys) [] h k l = absurd (omega arith)
part_stops (a ∷ los) (b ∷ his) (c ∷ bys) (n ∷ ns) h k l = ap (λ ms. b ∷ ms) (part_stops los his bys ns (omega arith) (omega arith) (omega arith))

part_steps : (los his bys : List ℕ) → length his ≡ length los → length bys ≡ length los → steps_of (map part (axes los his bys)) ≡ bys
part_steps [] his [] h k = refl
part_steps [] his (c ∷ bys) h k = absurd (omega arith)
part_steps (a ∷ los) [] bys h k = absurd (omega arith)
part_steps (a ∷ los) (b ∷ his) [] h k = absurd (omega arith)
part_steps (a ∷ los) (b ∷ his) (c ∷ bys) h k = ap (λ ns. c ∷ ns) (part_steps los his bys (omega arith) (omega arith))

abbrev slab_with : List ℕ → List ℕ → List ℕ → Slab
slab_with a b c = record { start = a; stop = b; step = c }

same_slab : (a b c d e f : List ℕ) → a ≡ d → b ≡ e → c ≡ f → slab_with a b c ≡ slab_with d e f
same_slab a b c d e f h k l = cc

-- ---- the whole text

short_axes : (los his bys : List ℕ) → AreAxes (axes los his bys) → All (λ c. c < 10 ^ 10) bys → AreShort (axes los his bys)
short_axes [] his bys h k = tt
short_axes (a ∷ los) [] bys h k = tt
short_axes (a ∷ los) (b ∷ his) [] h k = tt
short_axes (a ∷ los) (b ∷ his) (c ∷ bys) h k =
    let low : b ≤ MAX_EXTENT = h.0.1 in
    ((omega (arith, low, h.0.0), omega (arith, low), All-head (λ n. n < 10 ^ 10) c bys k), short_axes los his bys h.1 (All-tail (λ n. n < 10 ^ 10) c bys k))

pub reads_back : (s : Slab) (dims limits : List ℕ) → IsSlab s → FitsIn s dims → 1 ≤ length dims → All (λ c. c < 10 ^ 10) s.step → text_slab (written s) (Simple dims limits) ≡ Ok s
reads_back s dims limits h fits some small =
    let xs = axes_of s in
    let shape = Simple dims limits in
    let ps = map part xs in
    let good = fits_whole dims s h fits in
    let rank = good.ranked.starts in
    let long = length-axes s.start s.stop s.step h.ranked.stops h.ranked.steps ∙ rank in
    let spells = selection xs (short_axes s.start s.stop s.step h.sound small) (omega (arith, some, long)) in
    let many : length ps ≡ length dims = length-map xs part ∙ long in
    let made : slab_in dims ps ≡ s = same_slab _ _ _ s.start s.stop s.step (part_starts s.start s.stop s.step h.ranked.stops h.ranked.steps)
    (part_stops s.start s.stop s.step dims h.ranked.stops h.ranked.steps (sym rank)) (part_steps s.start s.stop s.step h.ranked.stops h.ranked.steps) in
    text_spelled (written s) shape ps spells
    ∙ ap (λ b. cond b (judged shape (slab_in dims ps)) (Err Rank)) (eq-eqb (length ps) (length dims) many)
    ∙ ap (judged shape) made
    ∙ (judged_outcome shape s (Ok s)).1 (refl, good, h.room)
