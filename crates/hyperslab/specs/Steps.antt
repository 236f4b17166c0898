-- A selection's text, read byte by byte.
use Rattle.std.specs.Prelude.{ℕ, zero, suc, ◌<◌, ◌≤◌, ◌+◌, ◌*◌, ◌-◌, ◌&&◌, Bool, true, false, List, [], ◌∷◌, ◌++◌, length, get_or, Option, Some, None, Result, Ok, Err, nat_le, nat_lt, nat_eq, if◌then◌else◌}
use Rattle.shapes.specs.declared.Shape.{Shape}
use Rattle.shapes.specs.Shapes.{dims_of}
use Rattle.hyperslab.specs.declared.Slab.{Slab}
use Rattle.hyperslab.specs.declared.SlabFault.{SlabFault}
use Rattle.hyperslab.specs.declared.SlabFault.TheVariants.{Syntax, Rank}
use Rattle.hyperslab.specs.declared.TheConstants.{MAX_DIGITS}
use Rattle.hyperslab.specs.declared.reading.Number.{Number}
use Rattle.hyperslab.specs.declared.reading.Number.TheVariants.{Blank, Digits, Spaced}
use Rattle.hyperslab.specs.declared.reading.Piece.{Piece}
use Rattle.hyperslab.specs.declared.reading.Piece.TheVariants.{First, Second, Third}
use Rattle.hyperslab.specs.declared.reading.Phase.{Phase}
use Rattle.hyperslab.specs.declared.reading.Phase.TheVariants.{Before, Inside, Closed}
use Rattle.hyperslab.specs.declared.reading.Part.{Part}
use Rattle.hyperslab.specs.declared.reading.Moved.{Moved}
use Rattle.hyperslab.specs.declared.reading.Kept.{Kept}
use Rattle.hyperslab.specs.Judged.{judged}

abbrev pub or_number : Option ℕ → ℕ → ℕ
or_number None n = n
or_number (Some m) n = m

-- ---- one number among spaces

abbrev pub is_digit : ℕ → Bool
is_digit b = nat_le 48 b && nat_le b 57

abbrev pub digit_step : Number → ℕ → Option Number
digit_step Blank d = Some (Digits 1 d)
digit_step (Digits count n) d = if nat_lt count MAX_DIGITS then Some (Digits (count + 1) (n * 10 + d)) else None
digit_step (Spaced n) d = None

abbrev pub space_step : Number → Number
space_step Blank = Blank
space_step (Digits count n) = Spaced n
space_step (Spaced n) = Spaced n

abbrev pub number_step : Number → ℕ → Option Number
number_step s b = if nat_eq b 32 then Some (space_step s) else (if is_digit b then digit_step s (b - 48) else None)

abbrev pub number_of : Number → Option ℕ
number_of Blank = None
number_of (Digits count n) = Some n
number_of (Spaced n) = Some n

-- numbers of so many digits are below this
abbrev pub ten_to : ℕ → ℕ
ten_to zero = 1
ten_to (suc n) = ten_to n * 10

abbrev pub IsNumber : Number → Type 0
IsNumber Blank = Unit {0}
IsNumber (Digits count n) = (n < ten_to count) × (count ≤ MAX_DIGITS)
IsNumber (Spaced n) = n < ten_to MAX_DIGITS

-- ---- one part

abbrev pub colon_step : Piece → Option Piece
colon_step (First n) = Some (Second (number_of n) Blank)
colon_step (Second start n) = Some (Third start (number_of n) Blank)
colon_step (Third start stop n) = None

abbrev pub with_number : (Number → Piece) → Option Number → Option Piece
with_number f None = None
with_number f (Some n) = Some (f n)

abbrev pub inner_step : Piece → ℕ → Option Piece
inner_step (First n) b = with_number First (number_step n b)
inner_step (Second start n) b = with_number (Second start) (number_step n b)
inner_step (Third start stop n) b = with_number (Third start stop) (number_step n b)

abbrev pub piece_step : Piece → ℕ → Option Piece
piece_step p b = if nat_eq b 58 then colon_step p else inner_step p b

abbrev pub single : Option ℕ → Option Part
single None = None
single (Some n) = Some (record { start = n; stop = Some (n + 1); step = 1 })

abbrev pub stepped_part : Option ℕ → Option ℕ → Option ℕ → Option Part
stepped_part start stop None = None
stepped_part start stop (Some c) = Some (record { start = or_number start 0; stop = stop; step = c })

-- the part that a piece is where it ends
abbrev pub part_of : Piece → Option Part
part_of (First n) = single (number_of n)
part_of (Second start n) = Some (record { start = or_number start 0; stop = number_of n; step = 1 })
part_of (Third start stop n) = stepped_part start stop (number_of n)

abbrev pub IsPiece : Piece → Type 0
IsPiece (First n) = IsNumber n
IsPiece (Second start n) = IsNumber n
IsPiece (Third start stop n) = IsNumber n

-- ---- the whole text

abbrev pub IsPhase : Phase → Type 0
IsPhase Before = Unit {0}
IsPhase (Inside p) = IsPiece p
IsPhase Closed = Unit {0}

abbrev pub moved : Phase → Option Part → Moved
moved f p = record { phase = f; part = p }

abbrev pub still_inside : Option Piece → Option Moved
still_inside None = None
still_inside (Some p) = Some (moved (Inside p) None)

abbrev pub ended_at : Phase → Option Part → Option Moved
ended_at f None = None
ended_at f (Some p) = Some (moved f (Some p))

abbrev pub inside_step : Piece → ℕ → Option Moved
inside_step p b =
    if nat_eq b 44 then ended_at (Inside (First Blank)) (part_of p)
    else (if nat_eq b 93 then ended_at Closed (part_of p) else still_inside (piece_step p b))

abbrev pub before_step : ℕ → Option Moved
before_step b = if nat_eq b 32 then Some (moved Before None) else (if nat_eq b 91 then Some (moved (Inside (First Blank)) None) else None)

abbrev pub closed_step : ℕ → Option Moved
closed_step b = if nat_eq b 32 then Some (moved Closed None) else None

abbrev pub step_of : Phase → ℕ → Option Moved
step_of Before b = before_step b
step_of (Inside p) b = inside_step p b
step_of Closed b = closed_step b

-- ---- what is kept of the parts: as many as there are axes

abbrev pub with_axis : Slab → Part → ℕ → Slab
with_axis s p dim = record { start = s.start ++ p.start ∷ []; stop = s.stop ++ or_number p.stop dim ∷ []; step = s.step ++ p.step ∷ [] }

abbrev pub keep_one : List ℕ → Kept → Part → Kept
keep_one dims k p = if nat_lt (length k.slab.start) (length dims) then record { slab = with_axis k.slab p (get_or dims (length k.slab.start) 0); over = k.over } else record { slab = k.slab; over = true }

abbrev pub keep_part : List ℕ → Kept → Option Part → Kept
keep_part dims k None = k
keep_part dims k (Some p) = keep_one dims k p

abbrev pub on_moved : {A : Type 0} → ℕ → Option Moved → (Moved → Result A ℕ) → Result A ℕ
on_moved i None f = Err i
on_moved i (Some m) f = f m

-- the text from the byte number `i` on
abbrev pub read_on : List ℕ → ℕ → Phase → Kept → List ℕ → Result (Phase × Kept) ℕ
read_on dims i f k [] = Ok (f, k)
read_on dims i f k (b ∷ bs) = on_moved i (step_of f b) (λ m. read_on dims (suc i) m.phase (keep_part dims k m.part) bs)

abbrev pub nothing_kept : Kept
nothing_kept = record { slab = record { start = []; stop = []; step = [] }; over = false }

abbrev pub judged_kept : Shape → Kept → Result Slab SlabFault
judged_kept shape k = if k.over then Err Rank else judged shape k.slab

abbrev pub ended : Shape → ℕ → Phase → Kept → Result Slab SlabFault
ended shape n Before k = Err (Syntax n)
ended shape n (Inside p) k = Err (Syntax n)
ended shape n Closed k = judged_kept shape k

abbrev pub told : Shape → ℕ → Result (Phase × Kept) ℕ → Result Slab SlabFault
told shape n (Err i) = Err (Syntax i)
told shape n (Ok r) = ended shape n r.0 r.1

abbrev pub text_slab : List ℕ → Shape → Result Slab SlabFault
text_slab text shape = told shape (length text) (read_on (dims_of shape) 0 Before nothing_kept text)
