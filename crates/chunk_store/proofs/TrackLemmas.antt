-- Writes and other dims keep what the records stand for.
use Rattle.std.proofs.Common.{◌≡◌, ℕ, suc, ◌+◌, ◌*◌, ◌/◌, ◌%◌, ◌<◌, ◌≤◌, ◌||◌, Bool, true, false, cond, min, nat_eq, nat_lt, nat_le, bytes_eq, eqb-true, eq-eqb, List, [], ◌∷◌, length, take, drop, get_or, All, Option, Some, None, refl, sym, ap, subst, ◌∙◌, ◌⊎◌, inl, inr, arith}
use Rattle.std.specs.List.{AllByRecursion}
use Rattle.std.proofs.lemmas.Bool.{cases_Bool, ltb-true, leb-true, or_parts, and_parts}
use Rattle.std.proofs.lemmas.Nat.{div-add-mod', mod_below}
use Rattle.std.proofs.lemmas.List.Elements.{All-head, All-tail}
use Rattle.std.proofs.lemmas.Slice.Eq.{bytes_eq-Decides}
use Rattle.hdf_types.specs.Reading.{size_of}
use Rattle.shapes.specs.declared.Shape.{Shape}
use Rattle.shapes.specs.declared.Shape.TheVariants.{Null, Scalar, Simple}
use Rattle.shapes.specs.RowMajor.{cell_count, is_inside, IsInside}
use Rattle.shapes.specs.Shapes.{LiesIn, lies_in, IsResized, dims_of}
use Rattle.shapes.proofs.InsideLemmas.{lies_told, inside_told, inside_read}
use Rattle.chunk_layout.specs.Chunks.{IsChunkDim, quotients, offset_of, corner, chunk_cells}
use Rattle.chunk_layout.proofs.CellLemmas.{cell_rank, cell_chunk, chunk_count, chunk_listed}
use Rattle.chunk_store.specs.Cells.{put}
use Rattle.chunk_store.proofs.KeyLemmas.{put_cases}
use Rattle.chunk_store.specs.Grids.{IsWhole, Grid, value_at, blank_of, written, writes, with_dims, resized_to}
use Rattle.chunk_store.proofs.GridLemmas.{value-tabulated, reads_same}
use Rattle.chunk_store.proofs.KeptLemmas.{new_rank}
use Rattle.chunk_store.specs.Marks.{Stored, state, in_grid, shown, content, all_blank, Stands, IsTracked, touches, MarksWritten, MarksResized, keeps, keeps_axis, after_resize}
use Rattle.chunk_store.proofs.CutLemmas.{grid_here, content_piece, blank_piece}
use Rattle.json_trees.proofs.ListLemmas.{all_weaker}

pub by_index : (P : List ℕ → Type 0) (xs : List (List ℕ)) → ((k : ℕ) → k < length xs → P (get_or xs k [])) → AllByRecursion P xs
by_index P [] h = tt
by_index P (x ∷ xs) h = (h 0 (omega arith), by_index P xs (λ k low. h (suc k) (omega (arith, low))))

-- a cell that lies in the chunk, with a number for each axis
abbrev pub IsCellOf : List ℕ → List ℕ → List ℕ → Type 0
IsCellOf chunk i x = (length x ≡ length chunk) × (quotients x chunk ≡ i)

pub cell_of_chunk : (chunk i : List ℕ) (k : ℕ) → All IsChunkDim chunk → length i ≡ length chunk → k < cell_count chunk → IsCellOf chunk i (get_or (chunk_cells i chunk) k [])
cell_of_chunk chunk i k dims e low = subst (IsCellOf chunk i) (sym (chunk_listed chunk i k dims low)) (cell_rank chunk i k e, cell_chunk chunk i k dims e low)

pub cells_of_chunk : (chunk i : List ℕ) → All IsChunkDim chunk → length i ≡ length chunk → AllByRecursion (IsCellOf chunk i) (chunk_cells i chunk)
cells_of_chunk chunk i dims e = by_index (IsCellOf chunk i) (chunk_cells i chunk) (λ k low. cell_of_chunk chunk i k dims e (omega (arith, low, chunk_count chunk i)))

pub rank_of : (h : Grid) (i : List ℕ) → in_grid h i ≡ true → length i ≡ length h.chunk
rank_of h i g = eqb-true (length i) (length h.chunk) (and_parts (nat_eq (length i) (length h.chunk)) (lies_in (corner i h.chunk) h.shape) g).0

-- ---- what stands for a chunk whose cells stay

pub stands_same : (body : List ℕ) (o : Option Bool) (h k : Grid) (i : List ℕ) → in_grid k i ≡ in_grid h i → all_blank k i ≡ all_blank h i → (in_grid h i ≡ true → content k i ≡ content h i) → Stands body o h i → Stands body o k i
stands_same body None h k i grid blank same on = (on.0, λ g. let g_old = sym grid ∙ g in same g_old ∙ on.1 g_old ∙ sym blank)
stands_same body (Some true) h k i grid blank same on = tt
stands_same body (Some false) h k i grid blank same on = (
  grid ∙ on.0,
  elim on.1 as (λ v. (body ≡ content k i) ⊎ ((body ≡ []) × (content k i ≡ all_blank k i))) [
    | inl e ↦ inl (e ∙ sym (same on.0))
    | inr e ↦ inr (e.0, same on.0 ∙ e.1 ∙ sym blank)
  ],
)

-- ---- writes

pub written_other : (f : List ℕ → List ℕ) (s : ℕ) (ats : List (List ℕ)) (bs x : List ℕ) → AllByRecursion (λ at. at ≡ x → ⊥) ats → written f s ats bs x ≡ f x
written_other f s [] bs x h = refl
written_other f s (at ∷ ats) bs x h = written_other (put f at (take s bs)) s ats (drop s bs) x h.1 ∙ elim (put_cases f at (take s bs) x) [
  | inl same ↦ absurd (h.0 same.0)
  | inr other ↦ other
]

-- none of these cells lies in the chunk
abbrev IsApart : List ℕ → List (List ℕ) → List ℕ → Type 0
IsApart chunk ats i = AllByRecursion (λ at. quotients at chunk ≡ i → ⊥) ats

untouched : (chunk : List ℕ) (ats : List (List ℕ)) (i : List ℕ) → touches chunk ats i ≡ false → IsApart chunk ats i
untouched chunk [] i h = tt
untouched chunk (at ∷ ats) i h =
    let both = or_parts (bytes_eq (quotients at chunk) i) (touches chunk ats i) h in
    (λ e. let no_cell : true ≡ false = sym ((bytes_eq-Decides (quotients at chunk) i).1 e) ∙ both.0 in absurd (cc), untouched chunk ats i both.1)

-- a chunk with one of the cells is in the grid
pub touched_grid : (h : Grid) (ats : List (List ℕ)) (i : List ℕ) → IsWhole h → AllByRecursion (λ at. LiesIn at h.shape) ats → touches h.chunk ats i ≡ true → in_grid h i ≡ true
touched_grid h [] i w each t = absurd (let both : false ≡ true = t in cc)
touched_grid h (at ∷ ats) i w each t = elim (cases_Bool (bytes_eq (quotients at h.chunk) i)) [
  | inl here ↦ ap (in_grid h) (sym ((bytes_eq-Decides (quotients at h.chunk) i).0 here)) ∙ grid_here h at w each.0
  | inr other ↦ touched_grid h ats i w each.1 (ap (λ b. b || touches h.chunk ats i) (sym other) ∙ t)
]

content_unwritten : (h : Grid) (i : List ℕ) (ats : List (List ℕ)) (bs : List ℕ) → IsWhole h → IsApart h.chunk ats i → in_grid h i ≡ true → content (writes h ats bs) i ≡ content h i
unfolding content
content_unwritten h i ats bs w apart g =
    reads_same (IsCellOf h.chunk i) (shown (writes h ats bs)) (shown h) (λ x here. elim (cases_Bool (lies_in x h.shape)) [
      | inl on ↦
          ap (λ b. cond b (value_at (writes h ats bs) x) (blank_of h.kind h.fill)) on
          ∙ value-tabulated h.kind h.shape h.chunk h.fill (written (value_at h) (size_of h.kind) ats bs) x (lies_told x h.shape on)
          ∙ written_other (value_at h) (size_of h.kind) ats bs x (all_weaker (λ at. quotients at h.chunk ≡ i → ⊥) (λ at. at ≡ x → ⊥) (λ at no_cell e. no_cell (ap (λ y. quotients y h.chunk) e ∙ here.1)) ats apart)
          ∙ sym (ap (λ b. cond b (value_at h x) (blank_of h.kind h.fill)) on)
      | inr off ↦ ap (λ b. cond b (value_at (writes h ats bs) x) (blank_of h.kind h.fill)) off ∙ sym (ap (λ b. cond b (value_at h x) (blank_of h.kind h.fill)) off)
    ]) (chunk_cells i h.chunk) (cells_of_chunk h.chunk i w.dims (rank_of h i g))

written_blank : (h : Grid) (i : List ℕ) (ats : List (List ℕ)) (bs : List ℕ) → all_blank (writes h ats bs) i ≡ all_blank h i
unfolding all_blank
written_blank h i ats bs = refl

pub write_tracked : (kept : List ℕ → List ℕ) (s t : Stored) (ats : List (List ℕ)) (bs : List ℕ) → IsWhole s.grid → t.grid ≡ writes s.grid ats bs → MarksWritten s ats t → IsTracked kept s → IsTracked kept t
unfolding IsTracked
write_tracked kept s t ats bs w is marks on = λ i.
    let h = s.grid in
    subst (λ (x : Grid). Stands (kept i) (state t i) x i) (sym is)
    (subst (λ (o : Option Bool). Stands (kept i) o (writes h ats bs) i) (sym (marks i))
    (elim (cases_Bool (touches h.chunk ats i)) [
      | inl dirty ↦ subst (λ (b : Bool). Stands (kept i) (cond b (Some true) (state s i)) (writes h ats bs) i) (sym dirty) tt
      | inr stays ↦
          subst (λ (b : Bool). Stands (kept i) (cond b (Some true) (state s i)) (writes h ats bs) i) (sym stays)
          (stands_same (kept i) (state s i) h (writes h ats bs) i refl (written_blank h i ats bs) (content_unwritten h i ats bs w (untouched h.chunk ats i stays)) (on i))
    ]))

-- the same array with the same marks
pub same_tracked : (kept : List ℕ → List ℕ) (s t : Stored) → t.grid ≡ s.grid → ((i : List ℕ) → state t i ≡ state s i) → IsTracked kept s → IsTracked kept t
unfolding IsTracked
same_tracked kept s t is marks on = λ i.
    subst (λ (x : Grid). Stands (kept i) (state t i) x i) (sym is) (subst (λ (o : Option Bool). Stands (kept i) o s.grid i) (sym (marks i)) (on i))

-- ---- other dims

pub new_lies : (x : List ℕ) (s t : Shape) (dims : List ℕ) → IsResized s dims t → (lies_in x s ≡ is_inside x (dims_of s)) × (lies_in x (with_dims s dims) ≡ is_inside x dims)
new_lies x Null t dims h = absurd h
new_lies x Scalar t dims h = absurd h
new_lies x (Simple old limits) t dims h = (refl, refl)

axis_told : (i n old new : ℕ) → keeps_axis i n old new ≡ true → (i * n < new) × (min (i * n + n) old ≤ new)
axis_told i n old new h = (ltb-true (i * n) new (and_parts (nat_lt (i * n) new) (nat_le (min (i * n + n) old) new) h).0, leb-true (min (i * n + n) old) new (and_parts (nat_lt (i * n) new) (nat_le (min (i * n + n) old) new) h).1)

-- the number of a kept chunk's cell is below the new dim
kept_number : (x i n old new : ℕ) → 1 ≤ n → x / n ≡ i → keeps_axis i n old new ≡ true → x < old → x < new
kept_number x i n old new some here h low =
    let told = axis_told i n old new h in
    let whole : i * n + x % n ≡ x = ap (λ k. k * n + x % n) (sym here) ∙ div-add-mod' x n in
    let rest : x % n < n = mod_below x n some in
    omega (arith, told.1, whole, rest, low)

-- each cell of a kept chunk that the old dims have, the new ones have too
pub kept_cell : (is ns olds news xs : List ℕ) → All IsChunkDim ns → length is ≡ length ns → length olds ≡ length ns → length news ≡ length ns → quotients xs ns ≡ is → keeps is ns olds news ≡ true → IsInside xs olds → IsInside xs news
kept_cell is ns [] [] [] dims e l m here h on = tt
kept_cell is ns [] [] (x ∷ xs) dims e l m here h on = absurd on
kept_cell is ns [] (w ∷ news) xs dims e l m here h on = absurd (omega (arith, l, m))
kept_cell is ns (o ∷ olds) [] xs dims e l m here h on = absurd (omega (arith, l, m))
kept_cell is ns (o ∷ olds) (w ∷ news) [] dims e l m here h on = absurd on
kept_cell is [] (o ∷ olds) (w ∷ news) (x ∷ xs) dims e l m here h on = absurd (omega (arith, l))
kept_cell [] (n ∷ ns) (o ∷ olds) (w ∷ news) (x ∷ xs) dims e l m here h on = absurd (omega (arith, e))
kept_cell (i ∷ is) (n ∷ ns) (o ∷ olds) (w ∷ news) (x ∷ xs) dims e l m here h on =
    let first = (and_parts (keeps_axis i n o w) (keeps is ns olds news) h).0 in
    let rest = (and_parts (keeps_axis i n o w) (keeps is ns olds news) h).1 in
    let front : x / n ≡ i = ap (λ qs. get_or qs 0 0) here in (
      kept_number x i n o w (All-head IsChunkDim n ns dims).0 front first on.0,
      kept_cell is ns olds news xs (All-tail IsChunkDim n ns dims) (omega (arith, e)) (omega (arith, l)) (omega (arith, m)) (ap (drop 1) here) rest on.1,
    )

-- the first cell of a kept chunk is inside the new dims
kept_corner : (is ns olds news : List ℕ) → length is ≡ length ns → length olds ≡ length ns → length news ≡ length ns → keeps is ns olds news ≡ true → IsInside (corner is ns) news
kept_corner [] [] [] [] e l m h = tt
kept_corner [] [] [] (w ∷ news) e l m h = absurd (omega (arith, m))
kept_corner [] [] (o ∷ olds) news e l m h = absurd (omega (arith, l))
kept_corner [] (n ∷ ns) olds news e l m h = absurd (omega (arith, e))
kept_corner (i ∷ is) [] olds news e l m h = absurd (omega (arith, e))
kept_corner (i ∷ is) (n ∷ ns) [] news e l m h = absurd (omega (arith, l))
kept_corner (i ∷ is) (n ∷ ns) (o ∷ olds) [] e l m h = absurd (omega (arith, m))
kept_corner (i ∷ is) (n ∷ ns) (o ∷ olds) (w ∷ news) e l m h = (
  (axis_told i n o w (and_parts (keeps_axis i n o w) (keeps is ns olds news) h).0).0,
  kept_corner is ns olds news (omega (arith, e)) (omega (arith, l)) (omega (arith, m)) (and_parts (keeps_axis i n o w) (keeps is ns olds news) h).1,
)

-- a cell of the array of other dims
resized_shown : (h : Grid) (dims x : List ℕ) → lies_in x (with_dims h.shape dims) ≡ true → shown (resized_to h dims) x ≡ cond (lies_in x h.shape) (value_at h x) (blank_of h.kind h.fill)
resized_shown h dims x on =
    ap (λ b. cond b (value_at (resized_to h dims) x) (blank_of h.kind h.fill)) on
    ∙ value-tabulated h.kind (with_dims h.shape dims) h.chunk h.fill (λ at. cond (lies_in at h.shape) (value_at h at) (blank_of h.kind h.fill)) x (lies_told x (with_dims h.shape dims) on)

resized_blank : (h : Grid) (dims i : List ℕ) → all_blank (resized_to h dims) i ≡ all_blank h i
unfolding all_blank
resized_blank h dims i = refl

-- a chunk that keeps its cells keeps its bytes
resized_content : (h : Grid) (dims i : List ℕ) → AllByRecursion (λ x. lies_in x h.shape ≡ true → lies_in x (with_dims h.shape dims) ≡ true) (chunk_cells i h.chunk) → content (resized_to h dims) i ≡ content h i
unfolding content
resized_content h dims i each =
    reads_same (λ x. lies_in x h.shape ≡ true → lies_in x (with_dims h.shape dims) ≡ true) (shown (resized_to h dims)) (shown h) (λ x stays. elim (cases_Bool (lies_in x (with_dims h.shape dims))) [
      | inl on ↦ resized_shown h dims x on
      | inr off ↦
          ap (λ b. cond b (value_at (resized_to h dims) x) (blank_of h.kind h.fill)) off
          ∙ elim (cases_Bool (lies_in x h.shape)) [
            | inl old ↦ absurd (let both : true ≡ false = sym (stays old) ∙ off in cc)
            | inr gone ↦ sym (ap (λ b. cond b (value_at h x) (blank_of h.kind h.fill)) gone)
          ]
    ]) (chunk_cells i h.chunk) each

-- a chunk of which all cells have the fill still has it
blank_content : (h : Grid) (dims i : List ℕ) → IsWhole h → length i ≡ length h.chunk → (in_grid h i ≡ true → content h i ≡ all_blank h i) → content (resized_to h dims) i ≡ all_blank (resized_to h dims) i
unfolding content all_blank
blank_content h dims i w rank blank =
    reads_same (IsCellOf h.chunk i) (shown (resized_to h dims)) (λ x. blank_of h.kind h.fill) (λ x cell. elim (cases_Bool (lies_in x (with_dims h.shape dims))) [
      | inl on ↦ resized_shown h dims x on ∙ elim (cases_Bool (lies_in x h.shape)) [
        | inl old ↦
            let here = cell.1 in
            let lies = lies_told x h.shape old in
            let all = blank (ap (in_grid h) (sym here) ∙ grid_here h x w lies) in
            ap (λ b. cond b (value_at h x) (blank_of h.kind h.fill)) old
            ∙ sym (content_piece h x w lies)
            ∙ ap (λ j. take (size_of h.kind) (drop (offset_of x h.chunk * size_of h.kind) (content h j))) here
            ∙ ap (λ bs. take (size_of h.kind) (drop (offset_of x h.chunk * size_of h.kind) bs)) all
            ∙ ap (λ j. take (size_of h.kind) (drop (offset_of x h.chunk * size_of h.kind) (all_blank h j))) (sym here)
            ∙ blank_piece h x w lies
        | inr new ↦ ap (λ b. cond b (value_at h x) (blank_of h.kind h.fill)) new
      ]
      | inr off ↦ ap (λ b. cond b (value_at (resized_to h dims) x) (blank_of h.kind h.fill)) off
    ]) (chunk_cells i h.chunk) (cells_of_chunk h.chunk i w.dims rank)

module _ (h : Grid) (dims i : List ℕ) (t : Shape) (w : IsWhole h) (re : IsResized h.shape dims t) where
  ranks : length dims ≡ length h.chunk
  ranks = new_rank h.shape t dims w.shape re ∙ sym w.rank

  pub stays_in : in_grid h i ≡ true → keeps i h.chunk (dims_of h.shape) dims ≡ true → in_grid (resized_to h dims) i ≡ true
  stays_in g k =
      let rank = rank_of h i g in
      let inside = kept_corner i h.chunk (dims_of h.shape) dims rank (sym w.rank) ranks k in
      rw (eq-eqb (length i) (length h.chunk) rank) ((new_lies (corner i h.chunk) h.shape t dims re).1 ∙ inside_read (corner i h.chunk) dims inside)

  stays_on : in_grid h i ≡ true → keeps i h.chunk (dims_of h.shape) dims ≡ true → (x : List ℕ) → IsCellOf h.chunk i x → lies_in x h.shape ≡ true → lies_in x (with_dims h.shape dims) ≡ true
  stays_on g k x cell on =
      let old = inside_told x (dims_of h.shape) (sym (new_lies x h.shape t dims re).0 ∙ on) in
      (new_lies x h.shape t dims re).1 ∙ inside_read x dims (kept_cell i h.chunk (dims_of h.shape) dims x w.dims (rank_of h i g) (sym w.rank) ranks cell.1 k old)

  after_stands : (body : List ℕ) (k : Bool) (o : Option Bool) → keeps i h.chunk (dims_of h.shape) dims ≡ k → Stands body o h i → Stands body (after_resize k o) (resized_to h dims) i
  after_stands body k None e on = (on.0, λ g. blank_content h dims i w (rank_of (resized_to h dims) i g) on.1)
  after_stands body false (Some b) e on = tt
  after_stands body true (Some true) e on = tt
  after_stands body true (Some false) e on =
      let same = resized_content h dims i (all_weaker (IsCellOf h.chunk i) (λ x. lies_in x h.shape ≡ true → lies_in x (with_dims h.shape dims) ≡ true) (stays_on on.0 e) (chunk_cells i h.chunk) (cells_of_chunk h.chunk i w.dims (rank_of h i on.0))) in (
        stays_in on.0 e,
        elim on.1 as (λ v. (body ≡ content (resized_to h dims) i) ⊎ ((body ≡ []) × (content (resized_to h dims) i ≡ all_blank (resized_to h dims) i))) [
          | inl is ↦ inl (is ∙ sym same)
          | inr is ↦ inr (is.0, same ∙ is.1 ∙ sym (resized_blank h dims i))
        ],
      )

pub resize_tracked : (kept : List ℕ → List ℕ) (s t : Stored) (dims : List ℕ) (shape : Shape) → IsWhole s.grid → IsResized s.grid.shape dims shape → t.grid ≡ resized_to s.grid dims → MarksResized s dims t → IsTracked kept s → IsTracked kept t
unfolding IsTracked
resize_tracked kept s t dims shape w re is marks on = λ i.
    let h = s.grid in
    subst (λ (x : Grid). Stands (kept i) (state t i) x i) (sym is)
    (subst (λ (o : Option Bool). Stands (kept i) o (resized_to h dims) i) (sym (marks i))
    (after_stands h dims i shape w re (kept i) (keeps i h.chunk (dims_of h.shape) dims) (state s i) refl (on i)))
