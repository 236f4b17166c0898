-- The steps of a selection that was read have at most 10 digits.
use Rattle.std.proofs.Common.{◌≡◌, ℕ, ◌+◌, ◌*◌, ◌-◌, ◌^◌, ◌<◌, ◌≤◌, List, [], ◌∷◌, ◌++◌, All, length, replicate, Option, Some, None, Ok, Err, inl, inr, nat_eq, refl, sym, ap, subst, ◌∙◌, arith, mul_assoc}
use Rattle.std.specs.Prelude.{IfOk}
use Rattle.std.specs.List.{AllZip}
use Rattle.std.proofs.lemmas.List.Elements.{All-nil, All-cons, All-replicate, All-weaker}
use Rattle.json_trees.proofs.FaultLemmas.{chosen}
use Rattle.serde_json.specs.Data.{Data}
use Rattle.shapes.specs.declared.Shape.{Shape}
use Rattle.shapes.specs.declared.Shape.TheVariants.{Null, Scalar, Simple}
use Rattle.shapes.specs.declared.TheConstants.{MAX_EXTENT}
use Rattle.shapes.specs.Shapes.{dims_of}
use Rattle.shapes.proofs.ShapeLemmas.{small_dims}
use Rattle.hyperslab.specs.declared.Slab.{Slab}
use Rattle.hyperslab.specs.declared.SlabFault.TheVariants.{Rank}
use Rattle.hyperslab.specs.declared.reading.Part.{Part}
use Rattle.hyperslab.specs.Judged.{bounded, judged, all_of, whole_of, judged_lists, lists_in}
use Rattle.hyperslab.specs.Outcomes.{StandsFor}
use Rattle.hyperslab.specs.Steps.{ten_to, text_slab}
use Rattle.hyperslab.specs.Grammar.{AreDigits, spelled, IsNumeral, IsPart, IsSelection, steps_of, slab_in, parts_slab}
use Rattle.hyperslab.proofs.DigitLemmas.{ten_below}
use Rattle.hyperslab.proofs.GivenLemmas.{some_lists}
use Rattle.hyperslab.proofs.OutcomeLemmas.{judged_outcome}
use Rattle.hyperslab.proofs.TextLemmas.{text_spelled, text_told}
use Rattle.hyperslab.proofs.WithinLemmas.{if_ok, bounded_ok}

abbrev IsShort : ℕ → Type 0
IsShort c = c < 10 ^ 10

abbrev AreShort : Slab → Type 0
AreShort s = All IsShort s.step

-- ---- numbers

spelled_below : (ds : List ℕ) (n m : ℕ) → AreDigits ds → n < m → spelled n ds < m * ten_to (length ds)
spelled_below [] n m h l = omega arith
spelled_below (b ∷ ds) n m h l =
    let more : n * 10 + (b - 48) < m * 10 = omega (arith, h.0, h.1) in
    let rest = spelled_below ds (n * 10 + (b - 48)) (m * 10) h.2 more in
    let turned : 10 * ten_to (length ds) ≡ ten_to (length ds) * 10 = omega arith in
    omega (arith, rest, mul_assoc m 10 (ten_to (length ds)), ap (λ k. m * k) turned)

numeral_short : (text : List ℕ) (n : ℕ) → IsNumeral text n → n < 10 ^ 10
numeral_short text n h =
    let low = spelled_below h.digits 0 1 h.are_digits (omega arith) in
    let few : ten_to (length h.digits) ≤ ten_to 10 = ten_below (length h.digits) 10 h.few_digits in
    let ten : ten_to 10 ≡ 10 ^ 10 = refl in
    omega (arith, h.number, low, few, ten)

-- ---- parts

part_short : (text : List ℕ) (p : Part) → IsPart text p → p.step < 10 ^ 10
part_short text p (inl h) =
    let one : p.step ≡ 1 = ap (λ (q : Part). q.step) h.part in
    omega (arith, one)
part_short text p (inr (inl h)) =
    let one : p.step ≡ 1 = ap (λ (q : Part). q.step) h.part in
    omega (arith, one)
part_short text p (inr (inr h)) =
    let same : p.step ≡ h.step = ap (λ (q : Part). q.step) h.part in
    omega (arith, same, numeral_short h.third h.step h.steps)

parts_short : (texts : List (List ℕ)) (ps : List Part) (last : List ℕ) (p : Part) → AllZip IsPart texts ps → IsPart last p → All IsShort (steps_of (ps ++ p ∷ []))
parts_short [] [] last p h k = All-cons IsShort p.step [] (part_short last p k) (All-nil IsShort)
parts_short [] (q ∷ ps) last p h k = absurd h
parts_short (t ∷ texts) [] last p h k = absurd h
parts_short (t ∷ texts) (q ∷ ps) last p h k =
    All-cons IsShort q.step (steps_of (ps ++ p ∷ [])) (part_short t q h.0) (parts_short texts ps last p h.1 k)

selection_short : (text : List ℕ) (ps : List Part) → IsSelection text ps → All IsShort (steps_of ps)
selection_short text ps h =
    let P = λ (qs : List Part). All IsShort (steps_of qs) in
    subst P (sym h.parts_are) (parts_short h.texts h.earlier h.last h.final h.are_parts h.is_part)

-- ---- what is judged

judged_same : (shape : Shape) (s t : Slab) → judged shape s ≡ Ok t → s ≡ t
judged_same Null s t e = cc
judged_same Scalar s t e = cc
judged_same (Simple dims limits) s t e = ((judged_outcome (Simple dims limits) s (Ok t)).0 e).0

judged_short : (shape : Shape) (s t : Slab) → AreShort s → judged shape s ≡ Ok t → AreShort t
judged_short shape s t h e = subst AreShort (judged_same shape s t e) h

parts_judged : (shape : Shape) (ps : List Part) (t : Slab) → All IsShort (steps_of ps) → parts_slab ps shape ≡ Ok t → AreShort t
parts_judged shape ps t h e =
    elim (chosen (nat_eq (length ps) (length (dims_of shape))) (judged shape (slab_in (dims_of shape) ps)) (Err Rank) (Ok t) e) [
      | inl g ↦ judged_short shape (slab_in (dims_of shape) ps) t h g.1
      | inr g ↦ cc
    ]

pub text_short : (text : List ℕ) (shape : Shape) → IfOk (text_slab text shape) (λ s. All (λ c. c < 10 ^ 10) s.step)
text_short text shape = if_ok (text_slab text shape) AreShort
    (λ t e. elim (text_told text shape) [
      | inl s ↦ parts_judged shape s.0 t (selection_short text s.0 s.1) (sym (text_spelled text shape s.0 s.1) ∙ e)
      | inr bad ↦ (let told = bad.tells in cc)
    ])

-- ---- all cells

all_short : (dims : List ℕ) → AreShort (all_of dims)
all_short dims = All-replicate IsShort (length dims) 1 (omega arith)

pub whole_short : (shape : Shape) → IfOk (whole_of shape) (λ s. All (λ c. c < 10 ^ 10) s.step)
whole_short Null = all_short (0 ∷ [])
whole_short Scalar = all_short []
whole_short (Simple dims limits) = if_ok (bounded (all_of dims)) AreShort (λ t e. subst AreShort (bounded_ok (all_of dims) t e) (all_short dims))

-- ---- lists

stands_short : (n : ℕ) (o : Option Data) (ns : List ℕ) → StandsFor (replicate n 1) o ns → All IsShort ns
stands_short n None ns e = subst (All IsShort) (sym e) (All-replicate IsShort n 1 (omega arith))
stands_short n (Some d) ns h = All-weaker (λ m. m ≤ MAX_EXTENT) IsShort (λ m l. omega (arith, l)) ns (small_dims d ns h.0)

listed_short : (shape : Shape) (start stop step : Option Data) (o : Option Slab) (t : Slab) → lists_in (dims_of shape) start stop step ≡ o → judged_lists shape o ≡ Ok t → AreShort t
listed_short shape start stop step None t made e = cc
listed_short shape start stop step (Some s) t made e =
    let lists = some_lists (dims_of shape) start stop step s made in
    judged_short shape s t (stands_short (length (dims_of shape)) step s.step lists.steps) e

-- the dims as they were read
pub given_short : (shape : Shape) (dims : List ℕ) (start stop step : Option Data) (s : Slab) → dims ≡ dims_of shape → lists_in dims start stop step ≡ Some s
    → IfOk (judged shape s) (λ t. All (λ c. c < 10 ^ 10) t.step)
given_short shape dims start stop step s same made =
    let here = sym (ap (λ ns. lists_in ns start stop step) same) ∙ made in
    if_ok (judged shape s) AreShort (λ t e. listed_short shape start stop step (Some s) t here e)
