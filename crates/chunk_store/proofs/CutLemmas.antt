-- Records of the dirty chunks turn what was held into what stands.
use Rattle.std.proofs.Common.{◌≡◌, ℕ, zero, suc, ◌+◌, ◌*◌, ◌<◌, ◌≤◌, Bool, true, false, cond, eq-eqb, List, [], ◌∷◌, ◌++◌, length, take, drop, get_or, Option, Some, None, All, refl, sym, ap, subst, ◌∙◌, ◌⊎◌, inl, inr, arith}
use Rattle.std.specs.List.{flat_map}
use Rattle.std.proofs.lemmas.List.{take_at}
use Rattle.std.proofs.lemmas.List.Elements.{length_all_zip}
use Rattle.std.proofs.Math.Seq.{drop-append-add}
use Rattle.std.proofs.lemmas.Bool.{cases_Bool}
use Rattle.hdf_types.specs.Reading.{size_of}
use Rattle.hdf_values.proofs.EncodedLemmas.{length-encoded}
use Rattle.hdf_values.proofs.PieceLemmas.{some_size}
use Rattle.shapes.specs.declared.Shape.{Shape}
use Rattle.shapes.specs.declared.Shape.TheVariants.{Null, Scalar, Simple}
use Rattle.shapes.specs.RowMajor.{cell_count}
use Rattle.shapes.specs.Shapes.{LiesIn, lies_in, dims_of}
use Rattle.shapes.proofs.InsideLemmas.{lies_told, lies_read}
use Rattle.chunk_layout.specs.Chunks.{IsChunkDim, quotients, offset_of, corner, chunk_cells}
use Rattle.chunk_layout.proofs.CellLemmas.{offset_below, chunk_count, chunk_listed, cell_back}
use Rattle.chunk_layout.proofs.GridLemmas.{covers_shape, grid_begun, in_grid_rank}
use Rattle.chunk_store.specs.Grids.{IsWhole, Grid, value_at, blank_of, all_fill}
use Rattle.chunk_store.proofs.GridLemmas.{value-tabulated}
use Rattle.chunk_store.specs.Marks.{Stored, state, flagged, is_dirty, in_grid, shown, content, all_blank, body_of, Stands, IsTracked, cut, cleared, body_value, ReadsAs}

-- ---- a cut

by_grid : (h : Grid) (i : List ℕ) (b : Bool) → in_grid h i ≡ b → Stands (cond b (content h i) []) (cond b (Some false) None) h i
by_grid h i true e = (e, inl refl)
by_grid h i false e = (refl, λ yes_in. absurd (let both : true ≡ false = sym yes_in ∙ e in cc))

cut_stands : (body : List ℕ) (h : Grid) (i : List ℕ) (o : Option Bool) → Stands body o h i → Stands (cond (flagged o) (body_of h i) body) (cleared (in_grid h i) o) h i
cut_stands body h i None on = on
cut_stands body h i (Some false) on = on
cut_stands body h i (Some true) on = by_grid h i (in_grid h i) refl

-- after the records of the dirty chunks are written, the records stand for each chunk
pub cut_tracked : (kept : List ℕ → List ℕ) (s t : Stored) → t.grid ≡ s.grid → ((i : List ℕ) → state t i ≡ cleared (in_grid s.grid i) (state s i)) → IsTracked kept s → IsTracked (cut kept s) t
unfolding IsTracked
cut_tracked kept s t same states on = λ i.
    subst (λ (h : Grid). Stands (cut kept s i) (state t i) h i) (sym same)
    (subst (λ (o : Option Bool). Stands (cut kept s i) o s.grid i) (sym (states i)) (cut_stands (kept i) s.grid i (state s i) (on i)))

-- ---- each cell has one chunk and one offset in it

pub cell_in_chunk : (at chunk : List ℕ) → All IsChunkDim chunk → length at ≡ length chunk
    → (offset_of at chunk < length (chunk_cells (quotients at chunk) chunk)) × (get_or (chunk_cells (quotients at chunk) chunk) (offset_of at chunk) [] ≡ at)
cell_in_chunk at chunk dims e =
    let low : offset_of at chunk < cell_count chunk = offset_below at chunk dims e in (
      rw (chunk_count chunk (quotients at chunk)) low,
      chunk_listed chunk (quotients at chunk) (offset_of at chunk) dims low ∙ cell_back chunk at dims e,
    )

-- ---- what the records say of each cell

pub lies_rank : (at : List ℕ) (s : Shape) → LiesIn at s → length at ≡ length (dims_of s)
lies_rank at Null h = absurd h
lies_rank at Scalar h = length_all_zip (λ x n. x < n) at [] h
lies_rank at (Simple dims limits) h = length_all_zip (λ x n. x < n) at dims h

-- the chunk of a cell of the array is in the grid
pub grid_here : (h : Grid) (at : List ℕ) → IsWhole h → LiesIn at h.shape → in_grid h (quotients at h.chunk) ≡ true
grid_here h at w on =
    let there = covers_shape h.shape h.chunk at w.dims w.rank on in
    let begun = grid_begun h.shape h.chunk (quotients at h.chunk) w.dims w.rank there in
    rw (eq-eqb (length (quotients at h.chunk)) (length h.chunk) (in_grid_rank h.shape h.chunk (quotients at h.chunk) w.rank there)) (lies_read (corner (quotients at h.chunk) h.chunk) h.shape begun)

pub piece_of : (g : List ℕ → List ℕ) (k : ℕ) → ((x : List ℕ) → length (g x) ≡ k) → (xs : List (List ℕ)) (j : ℕ) → j < length xs → take k (drop (j * k) (flat_map g xs)) ≡ g (get_or xs j [])
piece_of g k each [] j h = absurd (omega arith)
piece_of g k each (x ∷ xs) zero h =
    let none : zero * k ≡ 0 = omega arith in
    rw none (take_at (g x) (flat_map g xs) k (each x))
piece_of g k each (x ∷ xs) (suc j) h =
    let more : suc j * k ≡ length (g x) + j * k = omega (arith, each x) in
    rw (more, drop-append-add (g x) (flat_map g xs) (j * k)) (piece_of g k each xs j (omega arith))

cond_length : (b : Bool) (xs ys : List ℕ) (k : ℕ) → (b ≡ true → length xs ≡ k) → length ys ≡ k → length (cond b xs ys) ≡ k
cond_length true xs ys k h l = h refl
cond_length false xs ys k h l = l

pub shown_size : (h : Grid) → IsWhole h → (at : List ℕ) → length (shown h at) ≡ size_of h.kind
shown_size h w at =
    cond_length (lies_in at h.shape) (value_at h at) (blank_of h.kind h.fill) (size_of h.kind)
    (λ on. length-encoded h.kind (value_at h at) w.kind.formed (w.values at (lies_told at h.shape on)))
    (length-encoded h.kind (blank_of h.kind h.fill) w.kind.formed w.blank)

-- the bytes at a cell's offset in its chunk are the cell's
pub content_piece : (h : Grid) (at : List ℕ) → IsWhole h → LiesIn at h.shape → take (size_of h.kind) (drop (offset_of at h.chunk * size_of h.kind) (content h (quotients at h.chunk))) ≡ value_at h at
unfolding content
content_piece h at w on =
    let e : length at ≡ length h.chunk = lies_rank at h.shape on ∙ sym w.rank in
    let in_chunk = cell_in_chunk at h.chunk w.dims e in
    piece_of (shown h) (size_of h.kind) (shown_size h w) (chunk_cells (quotients at h.chunk) h.chunk) (offset_of at h.chunk) in_chunk.0
    ∙ ap (shown h) in_chunk.1 ∙ ap (λ b. cond b (value_at h at) (blank_of h.kind h.fill)) (lies_read at h.shape on)

pub blank_piece : (h : Grid) (at : List ℕ) → IsWhole h → LiesIn at h.shape → take (size_of h.kind) (drop (offset_of at h.chunk * size_of h.kind) (all_blank h (quotients at h.chunk))) ≡ blank_of h.kind h.fill
unfolding all_blank
blank_piece h at w on =
    let e : length at ≡ length h.chunk = lies_rank at h.shape on ∙ sym w.rank in
    let in_chunk = cell_in_chunk at h.chunk w.dims e in
    piece_of (λ x. blank_of h.kind h.fill) (size_of h.kind) (λ x. length-encoded h.kind (blank_of h.kind h.fill) w.kind.formed w.blank) (chunk_cells (quotients at h.chunk) h.chunk) (offset_of at h.chunk) in_chunk.0

pub take_nil : (k : ℕ) → take {A = ℕ} k [] ≡ []
take_nil zero = refl
take_nil (suc k) = refl

drop_nil : (j : ℕ) → drop {A = ℕ} j [] ≡ []
drop_nil zero = refl
drop_nil (suc j) = refl

pub body_take : (h : Grid) (bs at : List ℕ) → 1 ≤ length (take (size_of h.kind) (drop (offset_of at h.chunk * size_of h.kind) bs)) → body_value h bs at ≡ take (size_of h.kind) (drop (offset_of at h.chunk * size_of h.kind) bs)
body_take h (b ∷ bs) at some = refl
body_take h [] at some =
    let none : take {A = ℕ} (size_of h.kind) (drop (offset_of at h.chunk * size_of h.kind) []) ≡ [] = rw (drop_nil (offset_of at h.chunk * size_of h.kind)) (take_nil (size_of h.kind)) in
    absurd (omega (arith, some, ap length none))

clean : (body : List ℕ) (h : Grid) (i : List ℕ) (o : Option Bool) → flagged o ≡ false → in_grid h i ≡ true → Stands body o h i → (body ≡ content h i) ⊎ ((body ≡ []) × (content h i ≡ all_blank h i))
clean body h i None f g on = inr (on.0, on.1 g)
clean body h i (Some true) f g on = absurd (let both : true ≡ false = f in cc)
clean body h i (Some false) f g on = on.1

-- the bytes of a cell, by those of its chunk
pub content_value : (h : Grid) (at : List ℕ) → IsWhole h → LiesIn at h.shape → body_value h (content h (quotients at h.chunk)) at ≡ value_at h at
content_value h at w lies =
    let some : 1 ≤ size_of h.kind = some_size h.kind w.kind.formed in
    let size = length-encoded h.kind (value_at h at) w.kind.formed (w.values at lies) in
    body_take h (content h (quotients at h.chunk)) at (omega (arith, size, some, ap length (content_piece h at w lies))) ∙ content_piece h at w lies

-- the record that stands for the chunk of a cell gives the cell its bytes
clean_value : (body : List ℕ) (h : Grid) (at : List ℕ) (o : Option Bool) → IsWhole h → LiesIn at h.shape → flagged o ≡ false → Stands body o h (quotients at h.chunk) → body_value h body at ≡ value_at h at
clean_value body h at o w lies none on = elim (clean body h (quotients at h.chunk) o none (grid_here h at w lies) on) [
  | inl same ↦ ap (λ bs. body_value h bs at) same ∙ content_value h at w lies
  | inr blank ↦
      ap (λ bs. body_value h bs at) blank.0 ∙ sym (blank_piece h at w lies)
      ∙ ap (λ bs. take (size_of h.kind) (drop (offset_of at h.chunk * size_of h.kind) bs)) (sym blank.1) ∙ content_piece h at w lies
]

-- where no chunk is marked as dirty, the records give each cell its bytes
pub reads_back : (kept : List ℕ → List ℕ) (s : Stored) → IsWhole s.grid → IsTracked kept s → ((i : List ℕ) → is_dirty s i ≡ false) → ReadsAs kept s.grid
unfolding IsTracked
reads_back kept s w on none = λ at lies.
    let i = quotients at s.grid.chunk in
    clean_value (kept i) s.grid at (state s i) w lies (none i) (on i)

-- so do the records after those of the dirty chunks are written
pub cut_reads : (kept : List ℕ → List ℕ) (s : Stored) → IsWhole s.grid → IsTracked kept s → ReadsAs (cut kept s) s.grid
unfolding IsTracked
cut_reads kept s w on = λ at lies.
    let h = s.grid in
    let i = quotients at s.grid.chunk in
    elim (cases_Bool (is_dirty s i)) [
      | inl dirty ↦
          ap (λ b. body_value h (cond b (body_of h i) (kept i)) at) dirty ∙ ap (λ b. body_value h (cond b (content h i) []) at) (grid_here h at w lies) ∙ content_value h at w lies
      | inr none ↦ ap (λ b. body_value h (cond b (body_of h i) (kept i)) at) none ∙ clean_value (kept i) h at (state s i) w lies none (on i)
    ]

pub flat_same : (f g : List ℕ → List ℕ) → ((x : List ℕ) → f x ≡ g x) → (xs : List (List ℕ)) → flat_map f xs ≡ flat_map g xs
flat_same f g h [] = refl
flat_same f g h (x ∷ xs) = ap (λ y. y ++ flat_map f xs) (h x) ∙ ap (λ ys. g x ++ ys) (flat_same f g h xs)

-- of a new array nothing is known, and no record is needed
made_content : (h : Grid) (i : List ℕ) → content (all_fill h.kind h.shape h.chunk h.fill) i ≡ all_blank (all_fill h.kind h.shape h.chunk h.fill) i
unfolding content all_blank
made_content h i = flat_same (shown (all_fill h.kind h.shape h.chunk h.fill)) (λ at. blank_of h.kind h.fill) (λ at. elim (cases_Bool (lies_in at h.shape)) [
  | inl on ↦
      ap (λ b. cond b (value_at (all_fill h.kind h.shape h.chunk h.fill) at) (blank_of h.kind h.fill)) on
      ∙ value-tabulated h.kind h.shape h.chunk h.fill (λ x. blank_of h.kind h.fill) at (lies_told at h.shape on)
  | inr off ↦ ap (λ b. cond b (value_at (all_fill h.kind h.shape h.chunk h.fill) at) (blank_of h.kind h.fill)) off
]) (chunk_cells i h.chunk)

pub made_tracked : (s : Stored) → (h : Grid) → s.grid ≡ all_fill h.kind h.shape h.chunk h.fill → ((i : List ℕ) → state s i ≡ None) → IsTracked (λ i. []) s
unfolding IsTracked
made_tracked s h is none = λ i.
    subst (λ (x : Grid). Stands [] (state s i) x i) (sym is)
    (subst (λ (o : Option Bool). Stands [] o (all_fill h.kind h.shape h.chunk h.fill) i) (sym (none i)) (refl, λ g. made_content h i))
