-- Cells behind one another in a row of a grid and of its chunks.
use Rattle.std.proofs.Common.{◌≡◌, ℕ, zero, suc, ◌+◌, ◌-◌, ◌*◌, ◌/◌, ◌%◌, ◌<◌, ◌≤◌, min, All, List, [], ◌∷◌, length, drop, get_or, refl, sym, ap, subst, ◌∙◌, arith}
use Rattle.std.proofs.lemmas.List.{get_or-take, get_or-drop}
use Rattle.std.proofs.lemmas.List.Elements.{All-head, All-tail}
use Rattle.std.proofs.lemmas.Nat.{div-add-mod', mod_below, div-mul-add, mod-mul-add}
use Rattle.json_trees.proofs.TreeLemmas.{length-AllZip}
use Rattle.shapes.specs.declared.Shape.{Shape}
use Rattle.shapes.specs.declared.Shape.TheVariants.{Null, Scalar, Simple}
use Rattle.shapes.specs.RowMajor.{cell_count, IsInside, linear_index}
use Rattle.shapes.specs.Shapes.{LiesIn, cells_of, cell_of, count_of, dims_of}
use Rattle.shapes.proofs.CellLemmas.{cell-index}
use Rattle.chunk_layout.specs.Chunks.{IsChunkDim, IsChunk, quotients, remainders, offset_of}
use Rattle.chunk_layout.proofs.CellLemmas.{offset_below}
use Rattle.chunk_store.specs.Picked.{cells_from}
use Rattle.chunk_store.specs.Stretches.{IsNumber, IsStretch, row_left}
use Rattle.chunk_store.specs.declared.stretches.Stretch.{Stretch}
use Rattle.chunk_store.proofs.CutLemmas.{lies_rank}
use Rattle.chunk_store.proofs.PickLemmas.{cells_from_length}
use Rattle.hyperslab.proofs.SelectLemmas.{lies_inside}

-- the cell `j` numbers behind on the last axis
moved : List ℕ → ℕ → List ℕ
moved [] j = []
moved (x ∷ []) j = (x + j) ∷ []
moved (x ∷ y ∷ ys) j = x ∷ moved (y ∷ ys) j

record IsMoved (at dims chunk : List ℕ) (j : ℕ) (to : List ℕ) : Type 0 where
  inside : IsInside to dims
  rank : length to ≡ length at
  number : linear_index to dims ≡ linear_index at dims + j
  index : quotients to chunk ≡ quotients at chunk
  offset : linear_index (remainders to chunk) chunk ≡ linear_index (remainders at chunk) chunk + j

pub digits_of : (x n j : ℕ) → x % n + j < n → ((x + j) / n ≡ x / n) × ((x + j) % n ≡ x % n + j)
digits_of x n j h =
    let whole : x + j ≡ x / n * n + (x % n + j) = omega (arith, div-add-mod' x n) in
    (ap (λ y. y / n) whole ∙ div-mul-add (x / n) n (x % n + j) h, ap (λ y. y % n) whole ∙ mod-mul-add (x / n) n (x % n + j) h)

last_moved : (x d n j : ℕ) → x < d → 1 ≤ n → j < min (d - x) (n - x % n) → IsMoved (x ∷ []) (d ∷ []) (n ∷ []) j ((x + j) ∷ [])
last_moved x d n j low some h =
    let rest : x % n < n = mod_below x n some in
    let digits = digits_of x n j (omega (arith, rest, h)) in
    record {
      inside = (omega (arith, low, h), tt);
      rank = refl;
      number = omega arith;
      index = ap (λ q. q ∷ []) digits.0;
      offset = omega (arith, digits.1);
    }

further_moved : (x d n j : ℕ) (at dims chunk to : List ℕ) → x < d → IsMoved at dims chunk j to → IsMoved (x ∷ at) (d ∷ dims) (n ∷ chunk) j (x ∷ to)
further_moved x d n j at dims chunk to low h = record {
  inside = (low, h.inside);
  rank = ap suc h.rank;
  number = ap (λ p. x * cell_count dims + p) h.number ∙ omega arith;
  index = ap (λ q. x / n ∷ q) h.index;
  offset = ap (λ p. x % n * cell_count chunk + p) h.offset ∙ omega arith;
}

row_moved : (at dims chunk : List ℕ) (j : ℕ) → IsInside at dims → All IsChunkDim chunk → length chunk ≡ length dims → j < row_left at dims chunk → IsMoved at dims chunk j (moved at j)
unfolding moved
row_moved [] [] chunk j on ns e h = record { inside = tt; rank = refl; number = omega (arith, h); index = refl; offset = omega (arith, h) }
row_moved [] (d ∷ dims) chunk j on ns e h = absurd on
row_moved (x ∷ at) [] chunk j on ns e h = absurd on
row_moved (x ∷ at) (d ∷ dims) [] j on ns e h = absurd (omega (arith, e))
row_moved (x ∷ []) (d ∷ []) (n ∷ []) j on ns e h = last_moved x d n j on.0 (All-head IsChunkDim n [] ns).0 h
row_moved (x ∷ []) (d ∷ []) (n ∷ m ∷ ms) j on ns e h = absurd (omega (arith, e))
row_moved (x ∷ []) (d ∷ c ∷ ds) (n ∷ ms) j on ns e h = absurd on.1
row_moved (x ∷ y ∷ ys) (d ∷ ds) (n ∷ ms) j on ns e h = further_moved x d n j (y ∷ ys) ds ms (moved (y ∷ ys) j) on.0 (row_moved (y ∷ ys) ds ms j on.1 (All-tail IsChunkDim n ms ns) (omega (arith, e)) h)

pub row_some : (at dims chunk : List ℕ) → IsInside at dims → All IsChunkDim chunk → length chunk ≡ length dims → 1 ≤ row_left at dims chunk
row_some [] dims chunk on ns e = omega arith
row_some (x ∷ at) [] chunk on ns e = absurd on
row_some (x ∷ at) (d ∷ dims) [] on ns e = absurd (omega (arith, e))
row_some (x ∷ []) (d ∷ dims) (n ∷ ms) on ns e =
    let rest : x % n < n = mod_below x n (All-head IsChunkDim n ms ns).0 in
    omega (arith, rest, on.0)
row_some (x ∷ y ∷ ys) (d ∷ ds) (n ∷ ms) on ns e = row_some (y ∷ ys) ds ms on.1 (All-tail IsChunkDim n ms ns) (omega (arith, e))

-- ---- the row of a shape's cell

in_shape : (at to : List ℕ) (s : Shape) → LiesIn at s → IsInside to (dims_of s) → LiesIn to s
in_shape at to Null h on = absurd h
in_shape at to Scalar h on = on
in_shape at to (Simple dims limits) h on = on

row_cell : (s : Shape) (chunk at : List ℕ) (p j : ℕ) → All IsChunkDim chunk → length chunk ≡ length (dims_of s) → LiesIn at s → linear_index at (dims_of s) ≡ p → j < row_left at (dims_of s) chunk
    → (cell_of s (p + j) ≡ moved at j) × IsMoved at (dims_of s) chunk j (moved at j)
row_cell s chunk at p j ns rank lies here low =
    let to = row_moved at (dims_of s) chunk j (lies_inside at s lies) ns rank low in
    let there : p + j ≡ linear_index (moved at j) (dims_of s) = ap (λ n. n + j) (sym here) ∙ sym to.number in
    (ap (cell_of s) there ∙ cell-index s (moved at j) (in_shape at (moved at j) s lies to.inside), to)

pub from_at : (s : Shape) (p len j : ℕ) → j < len → get_or (cells_from p len s) j [] ≡ cell_of s (p + j)
from_at s p len j low = get_or-take len (drop p (cells_of s)) j [] low ∙ get_or-drop p (cells_of s) j []

moved_number : (chunk at to : List ℕ) (dims : List ℕ) (j : ℕ) (t : Stretch) → length at ≡ length chunk → t.index ≡ quotients at chunk → t.offset ≡ offset_of at chunk → IsMoved at dims chunk j to → IsNumber chunk t j to
moved_number chunk at to dims j t rank index offset h = record {
  rank = h.rank ∙ rank;
  index = h.index ∙ sym index;
  offset = h.offset ∙ ap (λ o. o + j) (sym offset);
}

-- the cells from a linear index on that stay in the row
pub row_stretch : (s : Shape) (chunk at : List ℕ) (p left : ℕ) (t : Stretch) → IsChunk chunk → length chunk ≡ length (dims_of s) → LiesIn at s → linear_index at (dims_of s) ≡ p
    → t.index ≡ quotients at chunk → t.offset ≡ offset_of at chunk → t.len ≡ min (row_left at (dims_of s) chunk) left → 1 ≤ left → p + left ≤ count_of s → IsStretch chunk t (cells_from p t.len s)
row_stretch s chunk at p left t c rank lies here index offset len some inside =
    let row = row_some at (dims_of s) chunk (lies_inside at s lies) c.dims rank in
    let many : t.len ≡ length (cells_from p t.len s) = cells_from_length p t.len s (omega (arith, len, inside)) in
    record {
      some = omega (arith, len, row, some);
      many = sym many;
      each = λ j low.
          let few : j < t.len = omega (arith, many, low) in
          let cell = row_cell s chunk at p j c.dims rank lies here (omega (arith, few, len)) in
          subst (IsNumber chunk t j) (sym (from_at s p t.len j few ∙ cell.0)) (moved_number chunk at (moved at j) (dims_of s) j t (lies_rank at s lies ∙ sym rank) index offset cell.1);
    }

-- a stretch ends within its chunk
pub stretch_room : (chunk : List ℕ) (t : Stretch) (ats : List (List ℕ)) → IsChunk chunk → IsStretch chunk t ats → t.offset + t.len ≤ cell_count chunk
stretch_room chunk t ats c h =
    let last = h.each (t.len - 1) (omega (arith, h.many, h.some)) in
    omega (arith, h.some, last.offset, offset_below (get_or ats (t.len - 1) []) chunk c.dims last.rank)

-- the row, by the numbers of the last axis
row_last : (at dims chunk : List ℕ) (k : ℕ) → length at ≡ suc k → length dims ≡ length at → length chunk ≡ length at → min (get_or dims k 0 - get_or at k 0) (get_or chunk k 0 - get_or at k 0 % get_or chunk k 0) ≡ row_left at dims chunk
row_last [] dims chunk k e d c = absurd (omega (arith, e))
row_last (x ∷ at) [] chunk k e d c = absurd (omega (arith, d))
row_last (x ∷ at) (n ∷ dims) [] k e d c = absurd (omega (arith, c))
row_last (x ∷ []) (n ∷ dims) (m ∷ chunk) zero e d c = refl
row_last (x ∷ []) (n ∷ dims) (m ∷ chunk) (suc k) e d c = absurd (omega (arith, e))
row_last (x ∷ y ∷ ys) (n ∷ dims) (m ∷ chunk) zero e d c = absurd (omega (arith, e))
row_last (x ∷ y ∷ ys) (n ∷ dims) (m ∷ chunk) (suc k) e d c = row_last (y ∷ ys) dims chunk k (omega (arith, e)) (omega (arith, d)) (omega (arith, c))

pub row_read : (at dims chunk : List ℕ) (k x d n : ℕ) → IsInside at dims → length chunk ≡ length dims → length at ≡ suc k → x ≡ get_or at k 0 → d ≡ get_or dims k 0 → n ≡ get_or chunk k 0 → min (d - x) (n - x % n) ≡ row_left at dims chunk
row_read at dims chunk k x d n on rank last x_is d_is n_is =
    let ranks = length-AllZip (λ a b. a < b) at dims on in
    ap (λ v. min (v - x) (n - x % n)) d_is
    ∙ ap (λ v. min (get_or dims k 0 - v) (n - v % n)) x_is
    ∙ ap (λ v. min (get_or dims k 0 - get_or at k 0) (v - get_or at k 0 % v)) n_is
    ∙ row_last at dims chunk k last ranks (rank ∙ ranks)
