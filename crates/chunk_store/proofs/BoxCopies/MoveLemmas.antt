-- Copies run by run.
use Rattle.std.proofs.Common.{◌≡◌, ℕ, ◌+◌, ◌<◌, List, ◌∷◌, length, drop, inl, inr, refl, sym, ap, subst, ◌∙◌, arith}
use Rattle.std.proofs.lemmas.Bool.{cases_lt}
use Rattle.std.proofs.lemmas.List.{drop_more, length-drop}
use Rattle.hdf_values.specs.Nested.{piece_at}
use Rattle.hyperslab.specs.Runs.{run_at}
use Rattle.hyperslab.specs.declared.runs.Run.{Run}
use Rattle.chunk_store.specs.StridedCopies.Strides.{AreCopied, AreOthersKept, nth}
use Rattle.chunk_store.specs.declared.strided_copies.copies.Strided.{Strided}
use Rattle.chunk_store.specs.BoxCopies.Moves.{AreDistinct, AreMovedTo}

-- the first of the runs that are left
pub record IsNext (runs rest : List Run) (x : Run) (n : ℕ) : Type 0 where
  pub there : n < length runs
  pub is : x ≡ run_at runs n
  pub left : drop (n + 1) runs ≡ rest

pub next_run : (runs rest : List Run) (x : Run) (n : ℕ) → drop n runs ≡ x ∷ rest → IsNext runs rest x n
next_run runs rest x n e =
    let there : n < length runs = omega (arith, length-drop n runs, ap length e) in
    let opened : run_at runs n ∷ drop (n + 1) runs ≡ x ∷ rest = sym (drop_more runs n _ there) ∙ e in
    record { there = there; is = cc; left = cc }

pub moved_first : (to at : Run → Strided) (runs : List Run) (size : ℕ) (from old : List ℕ) → AreMovedTo to at 0 runs size from old old
moved_first to at runs size from old = record { copied = λ k i h step. absurd (omega (arith, h)); kept = λ j apart. refl }

pub moved_next : (to at : Run → Strided) (n : ℕ) (runs : List Run) (size : ℕ) (from old out new : List ℕ) → n < length runs → AreDistinct to runs → AreMovedTo to at n runs size from old out
    → AreCopied (to (run_at runs n)) (at (run_at runs n)) (run_at runs n).len size from new → AreOthersKept (to (run_at runs n)) (run_at runs n).len size out new → AreMovedTo to at (n + 1) runs size from old new
moved_next to at n runs size from old out new there distinct so copied kept = record {
  copied = λ k i h step. elim (cases_lt k n) [
    | inl low ↦
        kept (nth (to (run_at runs k)) i) (λ l less e. let same = distinct.different k n i l step (there, less) e in absurd (omega (arith, same, low)))
        ∙ so.copied k i low step
    | inr high ↦
        let same : k ≡ n = omega (arith, h) in
        let less : i < (run_at runs n).len = subst (λ m. i < (run_at runs m).len) same step.1 in
        ap (λ m. piece_at size (nth (to (run_at runs m)) i) new) same ∙ copied i less ∙ ap (λ m. piece_at size (nth (at (run_at runs m)) i) from) (sym same)
  ];
  kept = λ j apart. kept j (λ i less e. apart n i (omega arith) (there, less) e) ∙ so.kept j (λ k i h step e. apart k i (omega (arith, h)) step e);
}

pub moved_all : (to at : Run → Strided) (n : ℕ) (runs : List Run) (size : ℕ) (from old out : List ℕ) → n ≡ length runs → AreMovedTo to at n runs size from old out → AreMovedTo to at (length runs) runs size from old out
moved_all to at n runs size from old out e so = subst (λ m. AreMovedTo to at m runs size from old out) e so
