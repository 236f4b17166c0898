-- The grid of chunks, on each axis by a quotient that is rounded up.
use Rattle.std.proofs.Common.{◌≡◌, ℕ, suc, ◌+◌, ◌*◌, ◌/◌, ◌^◌, ◌<◌, ◌≤◌, ◌↔◌, IsTrue, Bool, List, [], ◌∷◌, length, drop, get_or, All, refl, sym, subst, ap, ◌∙◌, arith}
use Rattle.std.specs.Int.{div_ceil}
use Rattle.std.proofs.lemmas.Grind.{div_ceil_times}
use Rattle.std.proofs.lemmas.Nat.{div-mul-add, div_below, mul-le}
use Rattle.std.proofs.lemmas.List.{drop_more, drop_all}
use Rattle.std.proofs.lemmas.List.Elements.{All-nil, All-cons, All-head, All-tail}
use Rattle.shapes.specs.declared.Shape.{Shape}
use Rattle.shapes.specs.declared.Shape.TheVariants.{Null, Scalar, Simple}
use Rattle.shapes.specs.declared.TheConstants.{MAX_EXTENT}
use Rattle.shapes.specs.RowMajor.{IsInside}
use Rattle.shapes.specs.Shapes.{IsSound, LiesIn, dims_of}
use Rattle.chunk_layout.specs.Chunks.{IsChunkDim, quotients, corner}
use Rattle.chunk_layout.specs.Grids.{grid_dims, LiesInGrid}

-- a number of chunks is below the chunks of an axis exactly where its first cell is below the dim
number_begun : (q d n : ℕ) → 1 ≤ n → q < div_ceil d n → q * n < d
number_begun q d n some h =
    let ends = div_ceil_times d n some in
    let more : (q + 1) * n ≤ div_ceil d n * n = mul-le (q + 1) n (div_ceil d n) n (omega arith) (omega arith) in
    let short = ends.1 in
    omega (arith, more, short)

below_count : (x d n : ℕ) → 1 ≤ n → x < d → x / n < div_ceil d n
below_count x d n some h =
    let ends = div_ceil_times d n some in
    let long = ends.0 in
    div_below x n (div_ceil d n) some (omega (arith, long, h))

begun_number : (q d n : ℕ) → 1 ≤ n → q * n < d → q < div_ceil d n
begun_number q d n some h =
    let P = λ (k : ℕ). k < div_ceil d n in
    let same : (q * n + 0) / n ≡ q = div-mul-add q n 0 some in
    subst P same (below_count (q * n + 0) d n some (omega (arith, h)))

pub in_grid_begun : (index dims chunk : List ℕ) → All IsChunkDim chunk → length chunk ≡ length dims → IsInside index (grid_dims dims chunk) → IsInside (corner index chunk) dims
in_grid_begun [] [] chunk a e h = tt
in_grid_begun [] (d ∷ ds) [] a e h = absurd (omega (arith, e))
in_grid_begun [] (d ∷ ds) (n ∷ ns) a e h = absurd h
in_grid_begun (q ∷ qs) [] chunk a e h = absurd h
in_grid_begun (q ∷ qs) (d ∷ ds) [] a e h = absurd h
in_grid_begun (q ∷ qs) (d ∷ ds) (n ∷ ns) a e h =
    (number_begun q d n (All-head IsChunkDim n ns a).0 h.0, in_grid_begun qs ds ns (All-tail IsChunkDim n ns a) (omega (arith, e)) h.1)

pub begun_in_grid : (index dims chunk : List ℕ) → All IsChunkDim chunk → length index ≡ length chunk → IsInside (corner index chunk) dims → IsInside index (grid_dims dims chunk)
begun_in_grid [] [] chunk a e h = tt
begun_in_grid [] (d ∷ ds) chunk a e h = absurd h
begun_in_grid (q ∷ qs) dims [] a e h = absurd (omega (arith, e))
begun_in_grid (q ∷ qs) [] (n ∷ ns) a e h = absurd h
begun_in_grid (q ∷ qs) (d ∷ ds) (n ∷ ns) a e h =
    (begun_number q d n (All-head IsChunkDim n ns a).0 h.0, begun_in_grid qs ds ns (All-tail IsChunkDim n ns a) (omega (arith, e)) h.1)

covered : (at dims chunk : List ℕ) → All IsChunkDim chunk → length chunk ≡ length dims → IsInside at dims → IsInside (quotients at chunk) (grid_dims dims chunk)
covered [] [] chunk a e h = tt
covered [] (d ∷ ds) chunk a e h = absurd h
covered (x ∷ xs) [] chunk a e h = absurd h
covered (x ∷ xs) (d ∷ ds) [] a e h = absurd (omega (arith, e))
covered (x ∷ xs) (d ∷ ds) (n ∷ ns) a e h =
    (below_count x d n (All-head IsChunkDim n ns a).0 h.0, covered xs ds ns (All-tail IsChunkDim n ns a) (omega (arith, e)) h.1)

pub covers_shape : (s : Shape) (chunk at : List ℕ) → All IsChunkDim chunk → length chunk ≡ length (dims_of s) → LiesIn at s → LiesInGrid (quotients at chunk) chunk s
covers_shape Null chunk at a e h = h
covers_shape Scalar [] [] a e h = tt
covers_shape Scalar (n ∷ ns) at a e h = absurd (omega (arith, e))
covers_shape Scalar [] (x ∷ xs) a e h = absurd h
covers_shape (Simple dims limits) chunk at a e h = covered at dims chunk a e h

pub grid_begun : (s : Shape) (chunk index : List ℕ) → All IsChunkDim chunk → length chunk ≡ length (dims_of s) → LiesInGrid index chunk s → LiesIn (corner index chunk) s
grid_begun Null chunk index a e h = h
grid_begun Scalar chunk [] a e h = tt
grid_begun Scalar chunk (q ∷ qs) a e h = absurd h
grid_begun (Simple dims limits) chunk index a e h = in_grid_begun index dims chunk a e h

pub begun_grid : (s : Shape) (chunk index : List ℕ) → All IsChunkDim chunk → length index ≡ length chunk → LiesIn (corner index chunk) s → LiesInGrid index chunk s
begun_grid Null chunk index a e h = h
begun_grid Scalar chunk [] a e h = tt
begun_grid Scalar [] (q ∷ qs) a e h = absurd (omega (arith, e))
begun_grid Scalar (n ∷ ns) (q ∷ qs) a e h = absurd h
begun_grid (Simple dims limits) chunk index a e h = begun_in_grid index dims chunk a e h

pub corner_chunk : (chunk index : List ℕ) → All IsChunkDim chunk → length index ≡ length chunk → quotients (corner index chunk) chunk ≡ index
corner_chunk [] [] a e = refl
corner_chunk [] (q ∷ qs) a e = absurd (omega (arith, e))
corner_chunk (n ∷ ns) [] a e = absurd (omega (arith, e))
corner_chunk (n ∷ ns) (q ∷ qs) a e =
    let some : 0 < n = (All-head IsChunkDim n ns a).0 in
    let plain : q * n + 0 ≡ q * n = omega arith in
    let first : (q * n) / n ≡ q = ap (λ k. k / n) (sym plain) ∙ div-mul-add q n 0 some in
    ap (λ k. k ∷ quotients (corner qs ns) ns) first ∙ ap (λ ks. q ∷ ks) (corner_chunk ns qs (All-tail IsChunkDim n ns a) (omega (arith, e)))

-- ---- ranks

inside_rank : (at dims : List ℕ) → IsInside at dims → length at ≡ length dims
inside_rank [] [] h = refl
inside_rank [] (d ∷ ds) h = absurd h
inside_rank (x ∷ xs) [] h = absurd h
inside_rank (x ∷ xs) (d ∷ ds) h = ap suc (inside_rank xs ds h.1)

grid_rank : (dims chunk : List ℕ) → length chunk ≡ length dims → length (grid_dims dims chunk) ≡ length chunk
grid_rank [] [] e = refl
grid_rank [] (n ∷ ns) e = absurd (omega (arith, e))
grid_rank (d ∷ ds) [] e = absurd (omega (arith, e))
grid_rank (d ∷ ds) (n ∷ ns) e = ap suc (grid_rank ds ns (omega (arith, e)))

pub in_grid_rank : (s : Shape) (chunk index : List ℕ) → length chunk ≡ length (dims_of s) → LiesInGrid index chunk s → length index ≡ length chunk
in_grid_rank Null chunk index e h = absurd h
in_grid_rank Scalar chunk index e h = inside_rank index [] h ∙ sym e
in_grid_rank (Simple dims limits) chunk index e h = inside_rank index (grid_dims dims chunk) h ∙ grid_rank dims chunk e

-- ---- four bytes for each number

number_small : (q d n : ℕ) → 1 ≤ n → d ≤ MAX_EXTENT → q < div_ceil d n → q < 2 ^ 32
number_small q d n some small h =
    let whole : q * 1 ≤ q * n = mul-le q 1 q n (omega arith) some in
    let first = number_begun q d n some h in
    omega (arith, whole, first, small)

small_in : (index dims chunk : List ℕ) → All IsChunkDim chunk → All (λ d. d ≤ MAX_EXTENT) dims → IsInside index (grid_dims dims chunk) → All (λ q. q < 2 ^ 32) index
small_in [] dims chunk a b h = All-nil (λ q. q < 2 ^ 32)
small_in (q ∷ qs) [] chunk a b h = absurd h
small_in (q ∷ qs) (d ∷ ds) [] a b h = absurd h
small_in (q ∷ qs) (d ∷ ds) (n ∷ ns) a b h =
    All-cons (λ q. q < 2 ^ 32) q qs
    (number_small q d n (All-head IsChunkDim n ns a).0 (All-head (λ d. d ≤ MAX_EXTENT) d ds b) h.0)
    (small_in qs ds ns (All-tail IsChunkDim n ns a) (All-tail (λ d. d ≤ MAX_EXTENT) d ds b) h.1)

pub small_index : (s : Shape) (chunk index : List ℕ) → All IsChunkDim chunk → IsSound s → LiesInGrid index chunk s → All (λ q. q < 2 ^ 32) index
small_index Null chunk index a b h = absurd h
small_index Scalar chunk [] a b h = All-nil (λ q. q < 2 ^ 32)
small_index Scalar chunk (q ∷ qs) a b h = absurd h
small_index (Simple dims limits) chunk index a b h = small_in index dims chunk a b.small_dims h

-- ---- the walk over the axes

-- the chunk is in the grid exactly where the axes from `i` on say so
pub record IsLeft (i : ℕ) (index dims chunk : List ℕ) : Type 0 where
  pub told : IsInside (drop i index) (grid_dims (drop i dims) (drop i chunk)) → IsInside index (grid_dims dims chunk)
  pub read : IsInside index (grid_dims dims chunk) → IsInside (drop i index) (grid_dims (drop i dims) (drop i chunk))

pub left_first : (index dims chunk : List ℕ) → IsLeft 0 index dims chunk
left_first index dims chunk = record { told = λ h. h; read = λ h. h }

-- one axis of what is left
left_axis : (i : ℕ) (index dims chunk : List ℕ) → i < length index → i < length dims → i < length chunk
    → IsInside (drop i index) (grid_dims (drop i dims) (drop i chunk)) ≡ ((get_or index i 0 < div_ceil (get_or dims i 0) (get_or chunk i 0)) × IsInside (drop (i + 1) index) (grid_dims (drop (i + 1) dims) (drop (i + 1) chunk)))
left_axis i index dims chunk a b c = rw (drop_more index i 0 a, drop_more dims i 0 b, drop_more chunk i 0 c)

pub left_next : (i : ℕ) (index dims chunk : List ℕ) → i < length index → i < length dims → i < length chunk
    → get_or index i 0 < div_ceil (get_or dims i 0) (get_or chunk i 0) → IsLeft i index dims chunk → IsLeft (i + 1) index dims chunk
left_next i index dims chunk a b c below left =
    let axis = left_axis i index dims chunk a b c in
    record {
      told = λ h. left.told (rw axis (below, h));
      read = λ h. let both = rw axis at (left.read h) in both.1;
    }

pub left_out : (i : ℕ) (index dims chunk : List ℕ) → i < length index → i < length dims → i < length chunk
    → div_ceil (get_or dims i 0) (get_or chunk i 0) ≤ get_or index i 0 → IsLeft i index dims chunk → IsInside index (grid_dims dims chunk) → ⊥
left_out i index dims chunk a b c above left h =
    let axis = left_axis i index dims chunk a b c in
    let both = rw axis at (left.read h) in
    omega (arith, above, both.0)

pub left_all : (i : ℕ) (index dims chunk : List ℕ) → length index ≤ i → length dims ≤ i → IsLeft i index dims chunk → IsInside index (grid_dims dims chunk)
left_all i index dims chunk a b left = left.told (rw (drop_all i index a, drop_all i dims b) tt)

pub other_rank : (index dims chunk : List ℕ) → length chunk ≡ length dims → (length index ≡ length dims → ⊥) → IsInside index (grid_dims dims chunk) → ⊥
other_rank index dims chunk e apart h = apart (inside_rank index (grid_dims dims chunk) h ∙ grid_rank dims chunk e ∙ e)

-- ---- a shape without an axis

pub scalar_grid : (s : Shape) (b : Bool) (index chunk : List ℕ) → s ≡ Scalar → (IsTrue b ↔ (length index ≡ 0)) → (IsTrue b ↔ LiesInGrid index chunk s)
scalar_grid s b index chunk is e = subst (λ t. IsTrue b ↔ LiesInGrid index chunk t) (sym is) (empty index e)
  where
    empty : (index : List ℕ) → (IsTrue b ↔ (length index ≡ 0)) → (IsTrue b ↔ IsInside index [])
    empty [] e = (λ h. tt, λ h. e.1 refl)
    empty (q ∷ qs) e = (λ h. absurd (omega (arith, e.0 h)), λ h. absurd h)
