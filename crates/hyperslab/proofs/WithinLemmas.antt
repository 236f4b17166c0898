-- A selection that was read lies in its shape.
use Rattle.std.proofs.Common.{◌≡◌, ℕ, ◌&&◌, List, [], ◌∷◌, length, Option, Some, None, Result, Ok, Err, inl, inr, nat_le, refl, subst, arith}
use Rattle.std.specs.Prelude.{IfOk}
use Rattle.json_trees.proofs.FaultLemmas.{chosen, test_ok}
use Rattle.serde_json.specs.Data.{Data}
use Rattle.shapes.specs.declared.Shape.{Shape}
use Rattle.shapes.specs.declared.Shape.TheVariants.{Null, Scalar, Simple}
use Rattle.shapes.specs.RowMajor.{room_of}
use Rattle.shapes.specs.Shapes.{dims_of}
use Rattle.hyperslab.specs.declared.Slab.{Slab}
use Rattle.hyperslab.specs.declared.SlabFault.{SlabFault}
use Rattle.hyperslab.specs.declared.SlabFault.TheVariants.{Rank, TooMany}
use Rattle.hyperslab.specs.declared.TheConstants.{MAX_SELECTED}
use Rattle.hyperslab.specs.declared.reading.Phase.{Phase}
use Rattle.hyperslab.specs.declared.reading.Phase.TheVariants.{Before, Inside, Closed}
use Rattle.hyperslab.specs.declared.reading.Kept.{Kept}
use Rattle.hyperslab.specs.Selected.{extents, FitsIn, SlabIn}
use Rattle.hyperslab.specs.Judged.{bounded, judged, all_of, whole_of, judged_lists, lists_slab, lists_in, is_scalar, is_absent}
use Rattle.hyperslab.specs.Steps.{judged_kept, ended, told, text_slab, read_on, nothing_kept}
use Rattle.hyperslab.proofs.OutcomeLemmas.{judged_outcome, whole_fits}

judged_ok : (shape : Shape) (s t : Slab) → judged shape s ≡ Ok t → SlabIn t shape
judged_ok Null s t e = cc
judged_ok Scalar s t e = cc
judged_ok (Simple dims limits) s t e =
    let P = λ (u : Slab). FitsIn u dims in
    let found = (judged_outcome (Simple dims limits) s (Ok t)).0 e in
    subst P found.0 (whole_fits dims s found.1)

pub if_ok : {A E : Type 0} (r : Result A E) (P : A → Type 0) → ((x : A) → r ≡ Ok x → P x) → IfOk r P
if_ok (Ok x) P h = h x refl
if_ok (Err e) P h = tt

pub judged_within : (shape : Shape) (s : Slab) → IfOk (judged shape s) (λ t. SlabIn t shape)
judged_within shape s = if_ok (judged shape s) (λ t. SlabIn t shape) (λ t e. judged_ok shape s t e)

-- ---- all cells

pub all_fits : (dims : List ℕ) → FitsIn (all_of dims) dims
all_fits [] = tt
all_fits (n ∷ ns) = (omega arith, all_fits ns)

pub bounded_ok : (s t : Slab) → bounded s ≡ Ok t → s ≡ t
bounded_ok s t e =
    let few = test_ok (nat_le (room_of (extents s)) MAX_SELECTED) (Ok s) (TooMany (room_of (extents s))) t e in
    cc

all_bounded : (dims limits : List ℕ) (t : Slab) → bounded (all_of dims) ≡ Ok t → SlabIn t (Simple dims limits)
all_bounded dims limits t e =
    let P = λ (u : Slab). FitsIn u dims in
    subst P (bounded_ok (all_of dims) t e) (all_fits dims)

pub whole_within : (shape : Shape) → IfOk (whole_of shape) (λ t. SlabIn t shape)
whole_within Null = refl
whole_within Scalar = tt
whole_within (Simple dims limits) = if_ok (bounded (all_of dims)) (λ t. FitsIn t dims) (λ t e. all_bounded dims limits t e)

-- ---- lists and texts

listed_within : (shape : Shape) (o : Option Slab) → IfOk (judged_lists shape o) (λ t. SlabIn t shape)
listed_within shape None = tt
listed_within shape (Some s) = judged_within shape s

pub lists_within : (shape : Shape) (start stop step : Option Data) → IfOk (lists_slab shape start stop step) (λ t. SlabIn t shape)
lists_within shape start stop step = if_ok (lists_slab shape start stop step) (λ t. SlabIn t shape)
    (λ t e. elim (chosen (is_scalar shape && is_absent start && is_absent stop && is_absent step) (whole_of shape) _ (Ok t) e) [
      | inl h ↦
          let P = λ (r : Result Slab SlabFault). IfOk r (λ u. SlabIn u shape) in
          subst P h.1 (whole_within shape)
      | inr h ↦
          let P = λ (r : Result Slab SlabFault). IfOk r (λ u. SlabIn u shape) in
          subst P h.1 (listed_within shape (lists_in (dims_of shape) start stop step))
    ])

kept_within : (shape : Shape) (k : Kept) → IfOk (judged_kept shape k) (λ t. SlabIn t shape)
kept_within shape k = if_ok (judged_kept shape k) (λ t. SlabIn t shape)
    (λ t e. elim (chosen k.over (Err Rank) (judged shape k.slab) (Ok t) e) [
      | inl h ↦ cc
      | inr h ↦ judged_ok shape k.slab t h.1
    ])

ended_within : (shape : Shape) (n : ℕ) (f : Phase) (k : Kept) → IfOk (ended shape n f k) (λ t. SlabIn t shape)
ended_within shape n Before k = tt
ended_within shape n (Inside p) k = tt
ended_within shape n Closed k = kept_within shape k

told_within : (shape : Shape) (n : ℕ) (r : Result (Phase × Kept) ℕ) → IfOk (told shape n r) (λ t. SlabIn t shape)
told_within shape n (Err i) = tt
told_within shape n (Ok r) = ended_within shape n r.0 r.1

pub text_within : (text : List ℕ) (shape : Shape) → IfOk (text_slab text shape) (λ t. SlabIn t shape)
text_within text shape = told_within shape (length text) (read_on (dims_of shape) 0 Before nothing_kept text)
