-- Copies between a selection and a box.
use Rattle.std.proofs.Common.{◌≡◌, ℕ, ◌+◌, ◌*◌, ◌-◌, ◌<◌, ◌≤◌, List, [], ◌∷◌, length, take, drop, refl, sym, ap, subst, ◌∙◌, arith}
use Rattle.std.proofs.lemmas.Nat.{mul-le}
use Rattle.std.proofs.lemmas.List.{take_all}
use Rattle.shapes.specs.RowMajor.{cell_count, IsInside}
use Rattle.shapes.proofs.RowMajorLemmas.{index_below, index_once}
use Rattle.hyperslab.specs.Selected.{IsSlab, cell_at, extents}
use Rattle.hyperslab.specs.declared.Slab.{Slab}
use Rattle.hyperslab.proofs.CellLemmas.{cell_once}
use Rattle.hdf_values.specs.Nested.{piece_at}
use Rattle.hyperslab.specs.Runs.{AreAll, AreBoxed, AreOnce, AreRuns, InBox, IsBoxed, inner, index_at, offset_at, run_at}
use Rattle.hyperslab.specs.declared.runs.Run.{Run}
use Rattle.chunk_store.specs.BoxCopies.Boxes.{AreFilled, AreRead, AreWritten, offset}
use Rattle.chunk_store.specs.BoxCopies.Moves.{AreDistinct, AreFit, AreMoved, in_box, in_selection, source_of}
use Rattle.chunk_store.specs.declared.box_copies.moves.Way.TheVariants.{Fill}

-- ---- coordinates in a box

inner_inside : (at os ns : List ℕ) → InBox at os ns → IsInside (inner at os) ns
inner_inside [] [] [] h = tt
inner_inside [] [] (n ∷ ns) h = absurd h
inner_inside [] (o ∷ os) ns h = absurd h
inner_inside (x ∷ xs) [] ns h = absurd h
inner_inside (x ∷ xs) (o ∷ os) [] h = absurd h
inner_inside (x ∷ xs) (o ∷ os) (n ∷ ns) h = (omega (arith, h.0, h.1), inner_inside xs os ns h.2)

inner_once : (xs ys os ns : List ℕ) → InBox xs os ns → InBox ys os ns → inner xs os ≡ inner ys os → xs ≡ ys
inner_once [] [] os ns h k e = refl
inner_once [] (y ∷ ys) [] ns h k e = absurd k
inner_once [] (y ∷ ys) (o ∷ os) ns h k e = absurd h
inner_once (x ∷ xs) ys [] ns h k e = absurd h
inner_once (x ∷ xs) [] (o ∷ os) ns h k e = absurd k
inner_once (x ∷ xs) (y ∷ ys) (o ∷ os) [] h k e = absurd h
inner_once (x ∷ xs) (y ∷ ys) (o ∷ os) (n ∷ ns) h k e =
    let first : x - o ≡ y - o = cc in
    let more : inner xs os ≡ inner ys os = cc in
    let same : x ≡ y = omega (arith, first, h.0, k.0) in
    ap (λ z. z ∷ xs) same ∙ ap (λ zs. y ∷ zs) (inner_once xs ys os ns h.2 k.2 more)

offset_below : (s : Slab) (origin chunk : List ℕ) (p o : ℕ) → IsBoxed s origin chunk p o → o < cell_count chunk
offset_below s origin chunk p o h = omega (arith, h.offset, index_below (inner (cell_at s p) origin) chunk (inner_inside (cell_at s p) origin chunk h.inside))

-- no two selected cells of a box have the same offset there
offset_once : (s : Slab) (origin chunk : List ℕ) (p q o : ℕ) → IsSlab s → IsBoxed s origin chunk p o → IsBoxed s origin chunk q o → p ≡ q
offset_once s origin chunk p q o sound h k =
    let a = cell_at s p in
    let b = cell_at s q in
    let same = index_once (inner a origin) (inner b origin) chunk (inner_inside a origin chunk h.inside) (inner_inside b origin chunk k.inside) (h.offset ∙ sym k.offset) in
    cell_once s p q sound h.selected k.selected (inner_once a b origin chunk h.inside k.inside same)

-- ---- runs, as elements of a selection and of a box

one_apart : (p i : ℕ) → p + i * 1 ≡ p + i
one_apart p i = omega arith

room_of_piece : (k n size : ℕ) → k < n → (k + 1) * size ≤ n * size
room_of_piece k n size h = mul-le (k + 1) size n size (omega (arith, h)) (omega arith)

pub selection_fits : (s : Slab) (origin chunk : List ℕ) (runs : List Run) (size bytes : ℕ) → AreBoxed s origin chunk runs → bytes ≡ cell_count (extents s) * size → AreFit in_selection runs size bytes
selection_fits s origin chunk runs size bytes boxed e k few i less =
    let room = room_of_piece (index_at (run_at runs k) i) (cell_count (extents s)) size (boxed k i (few, less)).selected in
    omega (arith, room, e, ap (λ n. (n + 1) * size) (one_apart (run_at runs k).place i))

pub box_fits : (s : Slab) (origin chunk : List ℕ) (runs : List Run) (size bytes : ℕ) → AreBoxed s origin chunk runs → bytes ≡ cell_count chunk * size → AreFit in_box runs size bytes
box_fits s origin chunk runs size bytes boxed e k few i less =
    let low = offset_below s origin chunk (index_at (run_at runs k) i) (offset_at (run_at runs k) i) (boxed k i (few, less)) in
    omega (arith, room_of_piece (offset_at (run_at runs k) i) (cell_count chunk) size low, e)

pub element_fits : (runs : List Run) (size bytes : ℕ) → bytes ≡ size → AreFit (source_of Fill) runs size bytes
element_fits runs size bytes e k few i less =
    let one : (0 + i * 0 + 1) * size ≡ 1 * size = ap (λ n. n * size) (omega arith) in
    omega (arith, one, e)

pub selection_distinct : (runs : List Run) → AreOnce runs → AreDistinct in_selection runs
selection_distinct runs once = record {
  apart = λ k few. omega arith;
  different = λ j k i l a b e. (once j k i l a b (sym (one_apart (run_at runs j).place i) ∙ e ∙ one_apart (run_at runs k).place l)).0;
}

pub box_distinct : (s : Slab) (origin chunk : List ℕ) (runs : List Run) → IsSlab s → AreBoxed s origin chunk runs → AreRuns runs → AreOnce runs → AreDistinct in_box runs
box_distinct s origin chunk runs sound boxed are once = record {
  apart = λ k few. (are k few).apart;
  different = λ j k i l a b e.
      let here = boxed j i a in
      let there : IsBoxed s origin chunk (index_at (run_at runs k) l) (offset_at (run_at runs j) i) = subst (IsBoxed s origin chunk (index_at (run_at runs k) l)) (sym e) (boxed k l b) in
      (once j k i l a b (offset_once s origin chunk (index_at (run_at runs j) i) (index_at (run_at runs k) l) (offset_at (run_at runs j) i) sound here there)).0;
}

-- ---- all runs

pub all_read : (s : Slab) (origin chunk : List ℕ) (runs : List Run) (size : ℕ) (buffer old out : List ℕ) → AreBoxed s origin chunk runs → AreAll s origin chunk runs
    → AreMoved in_selection in_box runs size buffer old out → AreRead s origin chunk size buffer old out
all_read s origin chunk runs size buffer old out boxed all moved = record {
  here = λ p lies.
      let run = all p lies.0 lies.1 in
      let r = run_at runs run.run in
      let i = run.step in
      ap (λ j. piece_at size j out) (sym run.index ∙ sym (one_apart r.place i)) ∙ moved.copied run.run i run.is_step.0 run.is_step
      ∙ ap (λ j. piece_at size j buffer) (sym (boxed run.run i run.is_step).offset) ∙ ap (λ q. piece_at size (offset s origin chunk q) buffer) run.index;
  others = λ p apart. moved.kept p (λ k i few step e.
      let here = boxed k i step in
      let same : index_at (run_at runs k) i ≡ p = sym (e ∙ one_apart (run_at runs k).place i) in
      apart (subst (λ q. q < cell_count (extents s)) same here.selected, subst (λ q. InBox (cell_at s q) origin chunk) same here.inside));
}

whole_element : (blank : List ℕ) (size i : ℕ) → length blank ≡ size → piece_at size (0 + i * 0) blank ≡ blank
whole_element blank size i e =
    let none : (0 + i * 0) * size ≡ 0 * size = ap (λ n. n * size) (omega arith) in
    let zero_size : 0 * size ≡ 0 = omega arith in
    ap (λ n. take size (drop n blank)) (none ∙ zero_size) ∙ take_all size blank (omega (arith, e))

pub all_filled : (s : Slab) (origin chunk : List ℕ) (runs : List Run) (size : ℕ) (blank old out : List ℕ) → AreBoxed s origin chunk runs → AreAll s origin chunk runs → length blank ≡ size
    → AreMoved in_selection (source_of Fill) runs size blank old out → AreFilled s origin chunk size blank old out
all_filled s origin chunk runs size blank old out boxed all long moved = record {
  here = λ p lies.
      let run = all p lies.0 lies.1 in
      let r = run_at runs run.run in
      ap (λ j. piece_at size j out) (sym run.index ∙ sym (one_apart r.place run.step)) ∙ moved.copied run.run run.step run.is_step.0 run.is_step ∙ whole_element blank size run.step long;
  others = λ p apart. moved.kept p (λ k i few step e.
      let here = boxed k i step in
      let same : index_at (run_at runs k) i ≡ p = sym (e ∙ one_apart (run_at runs k).place i) in
      apart (subst (λ q. q < cell_count (extents s)) same here.selected, subst (λ q. InBox (cell_at s q) origin chunk) same here.inside));
}

pub all_written : (s : Slab) (origin chunk : List ℕ) (runs : List Run) (size : ℕ) (bytes old buffer : List ℕ) → AreBoxed s origin chunk runs → AreAll s origin chunk runs
    → AreMoved in_box in_selection runs size bytes old buffer → AreWritten s origin chunk size bytes old buffer
all_written s origin chunk runs size bytes old buffer boxed all moved = record {
  here = λ p lies.
      let run = all p lies.0 lies.1 in
      let r = run_at runs run.run in
      ap (λ q. piece_at size (offset s origin chunk q) buffer) (sym run.index) ∙ ap (λ j. piece_at size j buffer) (boxed run.run run.step run.is_step).offset
      ∙ moved.copied run.run run.step run.is_step.0 run.is_step ∙ ap (λ j. piece_at size j bytes) (one_apart r.place run.step ∙ run.index);
  others = λ o apart. moved.kept o (λ k i few step e.
      let here = boxed k i step in
      apart (index_at (run_at runs k) i) (here.selected, here.inside) (e ∙ sym here.offset));
}
