-- A chunk that is put in is the one whose bytes are read.
use Rattle.std.proofs.Common.{◌≡◌, ℕ, suc, ◌+◌, ◌*◌, ◌<◌, ◌≤◌, Bool, true, false, cond, bytes_eq, List, [], ◌∷◌, ◌++◌, length, take, drop, get_or, Option, Some, All, refl, sym, ap, subst, ◌∙◌, inl, inr, arith}
use Rattle.std.specs.List.{flat_map}
use Rattle.std.proofs.lemmas.Bool.{cases_Bool}
use Rattle.std.proofs.lemmas.Nat.{mul-le}
use Rattle.std.proofs.lemmas.List.{take-append-drop, length-drop, drop-drop, length-take-le, nil_from_length}
use Rattle.std.proofs.lemmas.Slice.Eq.{bytes_eq-Decides}
use Rattle.hdf_types.specs.Reading.{size_of}
use Rattle.hdf_values.proofs.PieceLemmas.{some_size}
use Rattle.shapes.specs.RowMajor.{cell_count}
use Rattle.shapes.specs.Shapes.{lies_in}
use Rattle.shapes.proofs.InsideLemmas.{lies_told}
use Rattle.chunk_layout.specs.Chunks.{IsChunkDim, quotients, offset_of, chunk_cells}
use Rattle.chunk_layout.proofs.CellLemmas.{cell_offset, chunk_count, chunk_listed}
use Rattle.chunk_store.specs.Cells.{put}
use Rattle.chunk_store.specs.Grids.{IsWhole, Grid, value_at, blank_of}
use Rattle.chunk_store.proofs.GridLemmas.{value-tabulated, reads_same}
use Rattle.chunk_store.specs.Marks.{Stored, state, shown, content, all_blank, in_grid, Stands, IsTracked, body_value, IsChunkOf, with_chunk}
use Rattle.chunk_store.proofs.CutLemmas.{body_take}
use Rattle.chunk_store.proofs.TrackLemmas.{IsCellOf, cell_of_chunk, cells_of_chunk, rank_of, stands_same}

-- the cell at an offset of a chunk
pub cell_there : (chunk i : List ℕ) (k : ℕ) → All IsChunkDim chunk → length i ≡ length chunk → k < cell_count chunk → offset_of (get_or (chunk_cells i chunk) k []) chunk ≡ k
cell_there chunk i k dims e low = ap (λ x. offset_of x chunk) (chunk_listed chunk i k dims low) ∙ cell_offset chunk i k dims e low

-- pieces one after another
pub flat_pieces : (g : List ℕ → List ℕ) (s k : ℕ) (xs : List (List ℕ)) (bs : List ℕ) → length bs ≡ length xs * s → ((j : ℕ) → j < length xs → g (get_or xs j []) ≡ take s (drop (j * s) bs)) → flat_map g xs ≡ bs
flat_pieces g s k [] bs e each = sym (nil_from_length bs (e ∙ omega arith))
flat_pieces g s k (x ∷ xs) bs e each =
    let none : 0 * s ≡ 0 = omega arith in
    let first : g x ≡ take s bs = each 0 (omega arith) ∙ ap (λ n. take s (drop n bs)) none in
    let rest : length (drop s bs) ≡ length xs * s = rw (length-drop s bs) (omega (arith, e)) in
    ap (λ b. b ++ flat_map g xs) first
    ∙ ap (λ b. take s bs ++ b) (flat_pieces g s k xs (drop s bs) rest (λ j h.
    let next : suc j * s ≡ s + j * s = omega arith in
    each (suc j) (omega (arith, h)) ∙ ap (λ n. take s (drop n bs)) next ∙ ap (take s) (sym (drop-drop (j * s) s bs))))
    ∙ take-append-drop s bs

-- the content of a chunk that was put in
pub installed_content : (h : Grid) (i bytes : List ℕ) → IsWhole h → IsChunkOf h i bytes → content (with_chunk h i bytes) i ≡ bytes
unfolding content
installed_content h i bytes w is =
    let some : 1 ≤ size_of h.kind = some_size h.kind w.kind.formed in
    let cells = chunk_cells i h.chunk in
    let s = size_of h.kind in
    let rank = rank_of h i is.inside in
    let many : length (chunk_cells i h.chunk) ≡ cell_count h.chunk = chunk_count h.chunk i in
    flat_pieces (shown (with_chunk h i bytes)) s 0 cells bytes (is.encoded.whole ∙ ap (λ n. n * size_of h.kind) (sym many)) (λ j low.
    let x = get_or (chunk_cells i h.chunk) j [] in
    let cell : IsCellOf h.chunk i (get_or (chunk_cells i h.chunk) j []) = cell_of_chunk h.chunk i j w.dims rank (omega (arith, low, many)) in
    let here : quotients (get_or (chunk_cells i h.chunk) j []) h.chunk ≡ i = cell.1 in
    let offset_is : offset_of (get_or (chunk_cells i h.chunk) j []) h.chunk ≡ j = cell_there h.chunk i j w.dims rank (omega (arith, low, many)) in
    let wide : suc j * size_of h.kind ≤ cell_count h.chunk * size_of h.kind = mul-le (suc j) (size_of h.kind) (cell_count h.chunk) (size_of h.kind) (omega (arith, low, many)) (omega arith) in
    let left : size_of h.kind ≤ length (drop (offset_of (get_or (chunk_cells i h.chunk) j []) h.chunk * size_of h.kind) bytes) =
    rw (offset_is, length-drop (j * size_of h.kind) bytes) (omega (arith, wide, is.encoded.whole)) in
    let taken = body_take h bytes x (omega (arith, some, length-take-le (size_of h.kind) (drop (offset_of (get_or (chunk_cells i h.chunk) j []) h.chunk * size_of h.kind) bytes) left)) in
    let by_body : shown (with_chunk h i bytes) (get_or (chunk_cells i h.chunk) j []) ≡ body_value h bytes (get_or (chunk_cells i h.chunk) j []) = elim (cases_Bool (lies_in x h.shape)) [
      | inl on ↦
          ap (λ b. cond b (value_at (with_chunk h i bytes) x) (blank_of h.kind h.fill)) on
          ∙ value-tabulated h.kind h.shape h.chunk h.fill (λ at. cond (bytes_eq (quotients at h.chunk) i) (body_value h bytes at) (value_at h at)) x (lies_told x h.shape on)
          ∙ ap (λ b. cond b (body_value h bytes x) (value_at h x)) ((bytes_eq-Decides (quotients x h.chunk) i).1 here)
      | inr off ↦ ap (λ b. cond b (value_at (with_chunk h i bytes) x) (blank_of h.kind h.fill)) off ∙ sym (is.outside x cell.0 here off)
    ] in
    by_body ∙ taken ∙ ap (λ n. take (size_of h.kind) (drop (n * size_of h.kind) bytes)) offset_is)

pub other_content : (h : Grid) (i j bytes : List ℕ) → IsWhole h → (i ≡ j → ⊥) → in_grid h j ≡ true → content (with_chunk h i bytes) j ≡ content h j
unfolding content
other_content h i j bytes w apart g =
    reads_same (IsCellOf h.chunk j) (shown (with_chunk h i bytes)) (shown h) (λ x here. elim (cases_Bool (lies_in x h.shape)) [
      | inl on ↦
          ap (λ b. cond b (value_at (with_chunk h i bytes) x) (blank_of h.kind h.fill)) on
          ∙ value-tabulated h.kind h.shape h.chunk h.fill (λ at. cond (bytes_eq (quotients at h.chunk) i) (body_value h bytes at) (value_at h at)) x (lies_told x h.shape on)
          ∙ elim (cases_Bool (bytes_eq (quotients x h.chunk) i)) [
            | inl same ↦ absurd (apart (sym ((bytes_eq-Decides (quotients x h.chunk) i).0 same) ∙ here.1))
            | inr other ↦ ap (λ b. cond b (body_value h bytes x) (value_at h x)) other
          ]
          ∙ sym (ap (λ b. cond b (value_at h x) (blank_of h.kind h.fill)) on)
      | inr off ↦ ap (λ b. cond b (value_at (with_chunk h i bytes) x) (blank_of h.kind h.fill)) off ∙ sym (ap (λ b. cond b (value_at h x) (blank_of h.kind h.fill)) off)
    ]) (chunk_cells j h.chunk) (cells_of_chunk h.chunk j w.dims (rank_of h j g))

installed_blank : (h : Grid) (i j bytes : List ℕ) → all_blank (with_chunk h i bytes) j ≡ all_blank h j
unfolding all_blank
installed_blank h i j bytes = refl

pub install_tracked : (kept : List ℕ → List ℕ) (s t : Stored) (i bytes : List ℕ) → IsWhole s.grid → IsChunkOf s.grid i bytes → t.grid ≡ with_chunk s.grid i bytes
    → ((j : List ℕ) → state t j ≡ put (state s) i (Some false) j) → IsTracked kept s → IsTracked (put kept i bytes) t
unfolding IsTracked
install_tracked kept s t i bytes w is same marks on = λ j.
    let h = s.grid in
    let k = with_chunk s.grid i bytes in
    subst (λ (x : Grid). Stands (put kept i bytes j) (state t j) x j) (sym same)
    (subst (λ (o : Option Bool). Stands (put kept i bytes j) o k j) (sym (marks j))
    (elim (cases_Bool (bytes_eq i j)) as (λ v. Stands (put kept i bytes j) (put (state s) i (Some false) j) k j) [
      | inl here ↦
          let e = (bytes_eq-Decides i j).0 here in
          let stands : Stands bytes (Some false) k i = (is.inside, inl (sym (installed_content h i bytes w is))) in
          subst (λ (b : Bool). Stands (cond b bytes (kept j)) (cond b (Some false) (state s j)) k j) (sym here) (subst (λ (x : List ℕ). Stands bytes (Some false) k x) e stands)
      | inr apart ↦
          let no_cell : i ≡ j → ⊥ = λ e. let both : true ≡ false = sym ((bytes_eq-Decides i j).1 e) ∙ apart in cc in
          subst (λ (b : Bool). Stands (cond b bytes (kept j)) (cond b (Some false) (state s j)) k j) (sym apart)
          (stands_same (kept j) (state s j) h k j refl (installed_blank h i j bytes) (λ g. other_content h i j bytes w no_cell g) (on j))
    ]))
