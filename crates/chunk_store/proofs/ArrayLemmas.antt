-- Marks and the indexes that they have, after each call.
use Rattle.std.proofs.Common.{◌≡◌, ℕ, Bool, true, false, cond, List, Option, Some, None, IsSome, refl, sym, ap, subst, ◌∙◌, ◌⊎◌, inl, inr}
use Rattle.std.specs.List.{AllByRecursion}
use Rattle.shapes.specs.Shapes.{LiesIn}
use Rattle.chunk_store.specs.Buffers.{IsNoted}
use Rattle.chunk_store.specs.Cells.{put}
use Rattle.chunk_store.specs.Grids.{Grid, IsWhole}
use Rattle.chunk_store.specs.Indexes.{IsIndex}
use Rattle.chunk_store.specs.Marks.{Stored, AreIndexes, state, in_grid, touches, MarksWritten, MarksResized, after_resize, cleared}
use Rattle.chunk_store.proofs.KeyLemmas.{put_cases}
use Rattle.chunk_store.proofs.ChunkLemmas.{index_here}
use Rattle.chunk_store.proofs.TrackLemmas.{touched_grid}

-- a mark that is there was there, or has an index
abbrev IsFrom : Grid → List ℕ → Option Bool → Option Bool → Type 0
IsFrom h i o p = IsSome p → IsSome o ⊎ IsIndex h.chunk i

indexes_from : (s t : Stored) → t.grid.chunk ≡ s.grid.chunk → ((i : List ℕ) → IsFrom s.grid i (state s i) (state t i)) → AreIndexes s → AreIndexes t
indexes_from s t same from indexes = λ i there. subst (λ (c : List ℕ). IsIndex c i) (sym same) (elim (from i there) [
  | inl old ↦ indexes i old
  | inr index ↦ index
])

noted_from : (h : Grid) (i : List ℕ) (touched : Bool) (o p : Option Bool) → (touched ≡ true → IsIndex h.chunk i) → IsNoted touched o p → IsFrom h i o p
noted_from h i touched o p inside noted there = elim noted [
  | inl same ↦ inl (subst (λ (x : Option Bool). IsSome x) same there)
  | inr new ↦ inr (inside new.1)
]

pub indexes_noted : (s t : Stored) (ats : List (List ℕ)) → t.grid.chunk ≡ s.grid.chunk → IsWhole s.grid → AllByRecursion (λ at. LiesIn at s.grid.shape) ats → ((i : List ℕ) → IsNoted (touches s.grid.chunk ats i) (state s i) (state t i)) → AreIndexes s → AreIndexes t
indexes_noted s t ats same w each marks =
    indexes_from s t same (λ i. noted_from s.grid i (touches s.grid.chunk ats i) (state s i) (state t i) (λ t. index_here s.grid i w (touched_grid s.grid ats i w each t)) (marks i))

written_from : (h : Grid) (i : List ℕ) (touched : Bool) (o : Option Bool) → (touched ≡ true → IsIndex h.chunk i) → IsFrom h i o (cond touched (Some true) o)
written_from h i true o inside there = inr (inside refl)
written_from h i false o inside there = inl there

pub indexes_written : (s t : Stored) (ats : List (List ℕ)) → t.grid.chunk ≡ s.grid.chunk → IsWhole s.grid → AllByRecursion (λ at. LiesIn at s.grid.shape) ats → MarksWritten s ats t → AreIndexes s → AreIndexes t
indexes_written s t ats same w each marks =
    indexes_from s t same (λ i. subst (IsFrom s.grid i (state s i)) (sym (marks i)) (written_from s.grid i (touches s.grid.chunk ats i) (state s i) (λ t. index_here s.grid i w (touched_grid s.grid ats i w each t))))

resized_from : (h : Grid) (i : List ℕ) (k : Bool) (o : Option Bool) → IsFrom h i o (after_resize k o)
resized_from h i k None there = inl there
resized_from h i k (Some b) there = inl refl

pub indexes_resized : (s t : Stored) (dims : List ℕ) → t.grid.chunk ≡ s.grid.chunk → MarksResized s dims t → AreIndexes s → AreIndexes t
indexes_resized s t dims same marks = indexes_from s t same (λ i. subst (IsFrom s.grid i (state s i)) (sym (marks i)) (resized_from s.grid i _ (state s i)))

cleared_from : (h : Grid) (i : List ℕ) (k : Bool) (o : Option Bool) → IsFrom h i o (cleared k o)
cleared_from h i k None there = inl there
cleared_from h i k (Some b) there = inl refl

pub indexes_cleared : (s t : Stored) → t.grid.chunk ≡ s.grid.chunk → ((i : List ℕ) → state t i ≡ cleared (in_grid s.grid i) (state s i)) → AreIndexes s → AreIndexes t
indexes_cleared s t same marks = indexes_from s t same (λ i. subst (IsFrom s.grid i (state s i)) (sym (marks i)) (cleared_from s.grid i (in_grid s.grid i) (state s i)))

pub indexes_put : (s t : Stored) (index : List ℕ) → t.grid.chunk ≡ s.grid.chunk → IsWhole s.grid → in_grid s.grid index ≡ true → ((i : List ℕ) → state t i ≡ put (state s) index (Some false) i) → AreIndexes s → AreIndexes t
indexes_put s t index same w inside marks = indexes_from s t same (λ i there. elim (put_cases (state s) index (Some false) i) [
  | inl here ↦ inr (index_here s.grid i w (ap (in_grid s.grid) (sym here.0) ∙ inside))
  | inr other ↦ inl (subst (λ (x : Option Bool). IsSome x) (marks i ∙ other) there)
])

written_noted : (touched : Bool) (o p : Option Bool) → IsNoted touched o p → cond touched (Some true) p ≡ cond touched (Some true) o
written_noted true o p noted = refl
written_noted false o p noted = elim noted [
  | inl same ↦ same
  | inr new ↦ absurd (let both : false ≡ true = new.1 in cc)
]

-- marks that were noted and then flagged
pub noted_flagged : (s : Stored) (ats : List (List ℕ)) (noted flagged : List ℕ → Option Bool) → ((i : List ℕ) → IsNoted (touches s.grid.chunk ats i) (state s i) (noted i)) → ((i : List ℕ) → flagged i ≡ cond (touches s.grid.chunk ats i) (Some true) (noted i))
    → (i : List ℕ) → flagged i ≡ cond (touches s.grid.chunk ats i) (Some true) (state s i)
noted_flagged s ats noted flagged each then = λ i. then i ∙ written_noted (touches s.grid.chunk ats i) (state s i) (noted i) (each i)
