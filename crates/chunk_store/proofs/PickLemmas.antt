-- Picked cells lie in the shape, and there are as many as said.
use Rattle.std.proofs.Common.{◌≡◌, ℕ, zero, suc, ◌+◌, ◌<◌, ◌≤◌, ◌^◌, Bool, true, false, cond, List, [], ◌∷◌, length, take, drop, All, sym, subst, arith}
use Rattle.std.specs.List.{AllByRecursion, filter}
use Rattle.std.proofs.lemmas.List.{length-take-le, length-drop}
use Rattle.std.proofs.lemmas.List.Elements.{All-head, All-tail}
use Rattle.shapes.specs.declared.Shape.{Shape}
use Rattle.shapes.specs.declared.Shape.TheVariants.{Null, Scalar, Simple}
use Rattle.shapes.specs.RowMajor.{cell_count, IsInside, coordinates}
use Rattle.shapes.specs.Shapes.{IsSound, LiesIn, cells_of, count_of}
use Rattle.shapes.proofs.CellLemmas.{cells_length, count_small, cells_inside as all_inside}
use Rattle.hyperslab.specs.declared.Slab.{Slab}
use Rattle.hyperslab.specs.Selected.{axes_of, extents, is_at}
use Rattle.chunk_store.specs.declared.picks.Picks.{Picks}
use Rattle.chunk_store.specs.declared.picks.Picks.TheVariants as picks
use Rattle.hyperslab.specs.Selected.{slab_cells}
use Rattle.chunk_store.specs.Picked.{cells_from, picked, PicksIn}
use Rattle.hyperslab.proofs.CellLemmas.{cells_counted}

-- ---- each member of a list

each_cond : {A : Type 0} (P : A → Type 0) (b : Bool) (x : A) (xs : List A) → P x → AllByRecursion P xs → AllByRecursion P (cond b (x ∷ xs) xs)
each_cond P true x xs h k = (h, k)
each_cond P false x xs h k = k

each_filter : {A : Type 0} (P : A → Type 0) (p : A → Bool) (xs : List A) → AllByRecursion P xs → AllByRecursion P (filter p xs)
each_filter P p [] h = tt
each_filter P p (x ∷ xs) h = each_cond P (p x) x (filter p xs) h.0 (each_filter P p xs h.1)

each_take : {A : Type 0} (P : A → Type 0) (n : ℕ) (xs : List A) → AllByRecursion P xs → AllByRecursion P (take n xs)
each_take P zero xs h = tt
each_take P (suc n) [] h = tt
each_take P (suc n) (x ∷ xs) h = (h.0, each_take P n xs h.1)

each_drop : {A : Type 0} (P : A → Type 0) (n : ℕ) (xs : List A) → AllByRecursion P xs → AllByRecursion P (drop n xs)
each_drop P zero xs h = h
each_drop P (suc n) [] h = tt
each_drop P (suc n) (x ∷ xs) h = each_drop P n xs h.1

pub each_all : {A : Type 0} (P : A → Type 0) (xs : List A) → All P xs → AllByRecursion P xs
each_all P [] h = tt
each_all P (x ∷ xs) h = (All-head P x xs h, each_all P xs (All-tail P x xs h))

-- ---- all coordinates are inside

pub cells_inside : (s : Shape) → AllByRecursion (λ at. LiesIn at s) (cells_of s)
cells_inside s = each_all (λ at. LiesIn at s) (cells_of s) (all_inside s)

pub coordinates_inside : (dims : List ℕ) → AllByRecursion (λ at. IsInside at dims) (coordinates dims)
coordinates_inside dims = cells_inside (Simple dims dims)

-- ---- picked cells

slab_inside : (b : Slab) (s : Shape) → AllByRecursion (λ at. LiesIn at s) (slab_cells b s)
slab_inside b Null = tt
slab_inside b Scalar = each_filter (λ at. IsInside at []) (is_at (axes_of b)) (coordinates []) (coordinates_inside [])
slab_inside b (Simple dims limits) = each_filter (λ at. IsInside at dims) (is_at (axes_of b)) (coordinates dims) (coordinates_inside dims)

pub picked_inside : (p : Picks) (s : Shape) → PicksIn p s → AllByRecursion (λ at. LiesIn at s) (picked p s)
picked_inside (picks.Slab b) s h = slab_inside b s
picked_inside (picks.Points ps) s h = each_all (λ at. LiesIn at s) ps.now h.1
picked_inside (picks.Places from many) s h = each_take (λ at. LiesIn at s) many (drop from (cells_of s)) (each_drop (λ at. LiesIn at s) from (cells_of s) (cells_inside s))

pub cells_from_length : (from many : ℕ) (s : Shape) → from + many ≤ count_of s → many ≡ length (cells_from from many s)
cells_from_length from many s h =
    let room : many ≤ length (drop from (cells_of s)) = rw (length-drop from (cells_of s), cells_length s) (omega arith) in
    sym (length-take-le many (drop from (cells_of s)) room)

-- ---- at what the code has matched

pub many_picked : (p : Picks) (from many : ℕ) (s : Shape) → p ≡ picks.Places from many → PicksIn p s → many ≡ length (picked p s)
many_picked p from many s e = subst (λ (x : Picks). PicksIn x s → many ≡ length (picked x s)) (sym e) (λ h. cells_from_length from many s h)

pub slab_below : (p : Picks) (b : Slab) (s : Shape) (k : ℕ) → p ≡ picks.Slab b → PicksIn p s → k < length (picked p s) → k < cell_count (extents b)
slab_below p b s k e = subst (λ (x : Picks). PicksIn x s → k < length (picked x s) → k < cell_count (extents b)) (sym e) (λ h low. rw (cells_counted b s h.0 h.1) at low)

pub linear_index_small : (p : Picks) (from many : ℕ) (s : Shape) (k : ℕ) → p ≡ picks.Places from many → IsSound s → PicksIn p s → k < length (picked p s) → (from + k < 2 ^ 64) × (from + k < count_of s)
linear_index_small p from many s k e sound =
    subst (λ (x : Picks). PicksIn x s → k < length (picked x s) → (from + k < 2 ^ 64) × (from + k < count_of s)) (sym e)
    (λ h low.
    let fewer : k < many = omega (arith, cells_from_length from many s h, low) in
    (omega (arith, count_small s sound, h, fewer), omega (arith, h, fewer)))
