-- Chunks and offsets in them, on each axis by quotient and remainder.
use Rattle.std.proofs.Common.{◌≡◌, ℕ, zero, suc, ◌+◌, ◌*◌, ◌/◌, ◌%◌, ◌<◌, ◌≤◌, List, [], ◌∷◌, ◌++◌, length, drop, get_or, All, refl, sym, ap, ◌∙◌, arith}
use Rattle.std.proofs.lemmas.Nat.{div-add-mod', div-mul-add, mod-mul-add, div_below, mod_below, mul-le}
use Rattle.std.proofs.lemmas.List.{drop_more, drop_all, append_assoc, append-nil, length-map, get_or-map}
use Rattle.std.proofs.lemmas.List.Elements.{All-head, All-tail, All-get_or}
use Rattle.shapes.specs.declared.TheConstants.{MAX_EXTENT}
use Rattle.shapes.specs.RowMajor.{cell_count, IsInside, linear_index, coordinates, digits_by}
use Rattle.shapes.proofs.RowMajorLemmas.{index_below, index_once, horner_bound, horner_end, step_next as step_next_dim, step_above}
use Rattle.shapes.proofs.CellLemmas.{digits_in}
use Rattle.shapes.proofs.GridLemmas.{length-coordinates, coordinates-index}
use Rattle.chunk_layout.specs.Chunks.{IsChunkDim, quotients, remainders, offset_of, corner, added, cell_at, chunk_cells}

pub dim_at : (ns : List ℕ) (i : ℕ) → All IsChunkDim ns → i < length ns → 1 ≤ get_or ns i 0
dim_at [] i h k = absurd (omega arith)
dim_at (n ∷ ns) zero h k = (All-head IsChunkDim n ns h).0
dim_at (n ∷ ns) (suc i) h k = dim_at ns i (All-tail IsChunkDim n ns h) (omega arith)

-- ---- the walks over the axes

pub quotient_next : (i : ℕ) (xs ns done : List ℕ) → i < length xs → i < length ns
    → done ++ quotients (drop i xs) (drop i ns) ≡ (done ++ get_or xs i 0 / get_or ns i 0 ∷ []) ++ quotients (drop (i + 1) xs) (drop (i + 1) ns)
quotient_next i xs ns done h k = rw (drop_more xs i 0 h, drop_more ns i 0 k) (sym (append_assoc done (get_or xs i 0 / get_or ns i 0 ∷ []) (quotients (drop (i + 1) xs) (drop (i + 1) ns))))

pub inside_remainders : (xs ns : List ℕ) → All IsChunkDim ns → length xs ≡ length ns → IsInside (remainders xs ns) ns
inside_remainders [] [] h e = tt
inside_remainders [] (n ∷ ns) h e = absurd (omega (arith, e))
inside_remainders (x ∷ xs) [] h e = absurd (omega (arith, e))
inside_remainders (x ∷ xs) (n ∷ ns) h e = (mod_below x n (All-head IsChunkDim n ns h).0, inside_remainders xs ns (All-tail IsChunkDim n ns h) (omega (arith, e)))

pub length-remainders : (xs ns : List ℕ) → length xs ≡ length ns → length (remainders xs ns) ≡ length ns
length-remainders [] [] e = refl
length-remainders [] (n ∷ ns) e = absurd (omega (arith, e))
length-remainders (x ∷ xs) [] e = absurd (omega (arith, e))
length-remainders (x ∷ xs) (n ∷ ns) e = ap suc (length-remainders xs ns (omega (arith, e)))

pub remainder_at : (xs ns : List ℕ) (i : ℕ) → length xs ≡ length ns → i < length ns → get_or (remainders xs ns) i 0 ≡ get_or xs i 0 % get_or ns i 0
remainder_at [] [] i e h = absurd (omega (arith, h))
remainder_at [] (n ∷ ns) i e h = absurd (omega (arith, e))
remainder_at (x ∷ xs) [] i e h = absurd (omega (arith, e))
remainder_at (x ∷ xs) (n ∷ ns) zero e h = refl
remainder_at (x ∷ xs) (n ∷ ns) (suc i) e h = remainder_at xs ns i (omega (arith, e)) (omega (arith, h))

regrouped : (t n r c p q : ℕ) → t * (n * c) + (r * c + q) ≡ p → (t * n + r) * c + q ≡ p
regrouped t n r c p q e = omega (arith, e)

pub offset_next : (t i : ℕ) (rs ns : List ℕ) (p : ℕ) → i < length rs → i < length ns → t * cell_count (drop i ns) + linear_index (drop i rs) (drop i ns) ≡ p
    → (t * get_or ns i 0 + get_or rs i 0) * cell_count (drop (i + 1) ns) + linear_index (drop (i + 1) rs) (drop (i + 1) ns) ≡ p
offset_next t i rs ns p h k e =
    let whole = rw (drop_more rs i 0 h, drop_more ns i 0 k) at e in
    regrouped t (get_or ns i 0) (get_or rs i 0) (cell_count (drop (i + 1) ns)) p (linear_index (drop (i + 1) rs) (drop (i + 1) ns)) whole

pub inside_next : (i : ℕ) (rs ns : List ℕ) → i < length rs → i < length ns → IsInside (drop i rs) (drop i ns) → IsInside (drop (i + 1) rs) (drop (i + 1) ns)
inside_next i rs ns h k inside =
    let both = rw (drop_more rs i 0 h, drop_more ns i 0 k) at inside in
    both.1

-- ---- the laws

pub offset_below : (xs ns : List ℕ) → All IsChunkDim ns → length xs ≡ length ns → offset_of xs ns < cell_count ns
offset_below xs ns h e = index_below (remainders xs ns) ns (inside_remainders xs ns h e)

same_number : (x y n : ℕ) → x / n ≡ y / n → x % n ≡ y % n → x ≡ y
same_number x y n q r = sym (div-add-mod' x n) ∙ rw (q, r) (div-add-mod' y n)

same_cells : (ns xs ys : List ℕ) → length xs ≡ length ns → length ys ≡ length ns → quotients xs ns ≡ quotients ys ns → remainders xs ns ≡ remainders ys ns → xs ≡ ys
same_cells [] [] [] e f q r = refl
same_cells [] [] (y ∷ ys) e f q r = absurd (omega (arith, f))
same_cells [] (x ∷ xs) ys e f q r = absurd (omega (arith, e))
same_cells (n ∷ ns) [] ys e f q r = absurd (omega (arith, e))
same_cells (n ∷ ns) (x ∷ xs) [] e f q r = absurd (omega (arith, f))
same_cells (n ∷ ns) (x ∷ xs) (y ∷ ys) e f q r =
    let first : x / n ≡ y / n = cc in
    let second : x % n ≡ y % n = cc in
    let quots : quotients xs ns ≡ quotients ys ns = cc in
    let rems : remainders xs ns ≡ remainders ys ns = cc in
    ap (λ z. z ∷ xs) (same_number x y n first second) ∙ ap (λ zs. y ∷ zs) (same_cells ns xs ys (omega (arith, e)) (omega (arith, f)) quots rems)

pub one_cell_there : (ns xs ys : List ℕ) → All IsChunkDim ns → length xs ≡ length ns → length ys ≡ length ns → quotients xs ns ≡ quotients ys ns → offset_of xs ns ≡ offset_of ys ns → xs ≡ ys
one_cell_there ns xs ys h e f q o =
    same_cells ns xs ys e f q (index_once (remainders xs ns) (remainders ys ns) ns (inside_remainders xs ns h e) (inside_remainders ys ns h f) o)

-- ---- the cell at an offset of a chunk

-- the cell of a chunk with these coordinates inside it
parts_again : (ns qs rs : List ℕ) → length qs ≡ length ns → IsInside rs ns → (quotients (added (corner qs ns) rs) ns ≡ qs) × (remainders (added (corner qs ns) rs) ns ≡ rs)
parts_again [] [] [] e h = (refl, refl)
parts_again [] [] (r ∷ rs) e h = absurd h
parts_again [] (q ∷ qs) rs e h = absurd (omega (arith, e))
parts_again (n ∷ ns) [] rs e h = absurd (omega (arith, e))
parts_again (n ∷ ns) (q ∷ qs) [] e h = absurd h
parts_again (n ∷ ns) (q ∷ qs) (r ∷ rs) e h =
    let rest = parts_again ns qs rs (omega (arith, e)) h.1 in
    (rw (div-mul-add q n r h.0, rest.0), rw (mod-mul-add q n r h.0, rest.1))

pub cell_rank : (ns qs : List ℕ) (k : ℕ) → length qs ≡ length ns → length (cell_at qs k ns) ≡ length ns
cell_rank [] [] k e = refl
cell_rank [] (q ∷ qs) k e = absurd (omega (arith, e))
cell_rank (n ∷ ns) [] k e = absurd (omega (arith, e))
cell_rank (n ∷ ns) (q ∷ qs) k e = ap suc (cell_rank ns qs (k % cell_count ns) (omega (arith, e)))

pub cell_chunk : (ns qs : List ℕ) (k : ℕ) → All IsChunkDim ns → length qs ≡ length ns → k < cell_count ns → quotients (cell_at qs k ns) ns ≡ qs
cell_chunk ns qs k h e l = (parts_again ns qs (digits_by ns k) e (digits_in ns k l).0).0

pub cell_offset : (ns qs : List ℕ) (k : ℕ) → All IsChunkDim ns → length qs ≡ length ns → k < cell_count ns → offset_of (cell_at qs k ns) ns ≡ k
cell_offset ns qs k h e l =
    let placed = digits_in ns k l in
    ap (λ rs. linear_index rs ns) (parts_again ns qs (digits_by ns k) e placed.0).1 ∙ placed.1

length-quotients : (xs ns : List ℕ) → length xs ≡ length ns → length (quotients xs ns) ≡ length ns
length-quotients [] [] e = refl
length-quotients [] (n ∷ ns) e = absurd (omega (arith, e))
length-quotients (x ∷ xs) [] e = absurd (omega (arith, e))
length-quotients (x ∷ xs) (n ∷ ns) e = ap suc (length-quotients xs ns (omega (arith, e)))

pub cell_back : (ns xs : List ℕ) → All IsChunkDim ns → length xs ≡ length ns → cell_at (quotients xs ns) (offset_of xs ns) ns ≡ xs
cell_back ns xs h e =
    let rank = length-quotients xs ns e in
    let below = offset_below xs ns h e in
    one_cell_there ns (cell_at (quotients xs ns) (offset_of xs ns) ns) xs h (cell_rank ns (quotients xs ns) (offset_of xs ns) rank) e
    (cell_chunk ns (quotients xs ns) (offset_of xs ns) h rank below) (cell_offset ns (quotients xs ns) (offset_of xs ns) h rank below)

-- ---- the list of a chunk's cells

pub chunk_count : (ns qs : List ℕ) → length (chunk_cells qs ns) ≡ cell_count ns
chunk_count ns qs = length-map (coordinates ns) (λ inner. added (corner qs ns) inner) ∙ length-coordinates ns

pub chunk_listed : (ns qs : List ℕ) (k : ℕ) → All IsChunkDim ns → k < cell_count ns → get_or (chunk_cells qs ns) k [] ≡ cell_at qs k ns
chunk_listed ns qs k h l =
    let placed = digits_in ns k l in
    let f = λ (inner : List ℕ). added (corner qs ns) inner in
    let low : k < length (coordinates ns) = rw (length-coordinates ns) l in
    get_or-map f (coordinates ns) k [] [] low ∙ ap f (ap (λ j. get_or (coordinates ns) j []) (sym placed.1) ∙ coordinates-index (digits_by ns k) ns placed.0)

-- ---- one step towards the cell

pub dim_most : (ns : List ℕ) (i : ℕ) → All IsChunkDim ns → i < length ns → get_or ns i 0 ≤ MAX_EXTENT
dim_most ns i h l = (All-get_or IsChunkDim ns i 0 l h).1

cell_next : (i : ℕ) (qs ns done : List ℕ) (r t : ℕ) → i < length qs → i < length ns → t ≡ cell_count (drop (i + 1) ns)
    → done ++ cell_at (drop i qs) r (drop i ns) ≡ (done ++ (get_or qs i 0 * get_or ns i 0 + r / t) ∷ []) ++ cell_at (drop (i + 1) qs) (r % t) (drop (i + 1) ns)
cell_next i qs ns done r t h k e =
    rw (drop_more qs i 0 h, drop_more ns i 0 k, e)
    (sym (append_assoc done ((get_or qs i 0 * get_or ns i 0 + r / cell_count (drop (i + 1) ns)) ∷ []) (cell_at (drop (i + 1) qs) (r % cell_count (drop (i + 1) ns)) (drop (i + 1) ns))))

pub cell_pushed : (i : ℕ) (qs ns coords pushed whole : List ℕ) (r s n q x : ℕ) → i < length qs → i < length ns → s ≡ cell_count (drop i ns) → r < s
    → n ≡ get_or ns i 0 → q ≡ get_or qs i 0 → x ≡ q * n + r / (s / n) → pushed ≡ coords ++ x ∷ [] → coords ++ cell_at (drop i qs) r (drop i ns) ≡ whole
    → (pushed ++ cell_at (drop (i + 1) qs) (r % (s / n)) (drop (i + 1) ns) ≡ whole) × (s / n ≡ cell_count (drop (i + 1) ns)) × (r % (s / n) < s / n)
cell_pushed i qs ns coords pushed whole r s n q x along within step below n_is q_is x_is pushed_is is =
    let next : s / n ≡ cell_count (drop (i + 1) ns) = rw n_is (step_next_dim s r i ns within step below) in
    let above : 0 < s / n = rw n_is (step_above s r i ns within step below) in
    let number : x ≡ get_or qs i 0 * get_or ns i 0 + r / (s / n) = x_is ∙ ap (λ a. a * n + r / (s / n)) q_is ∙ ap (λ a. get_or qs i 0 * a + r / (s / n)) n_is in
    let rest = cell_at (drop (i + 1) qs) (r % (s / n)) (drop (i + 1) ns) in
    (ap (λ p. p ++ rest) (pushed_is ∙ ap (λ y. coords ++ y ∷ []) number) ∙ sym (cell_next i qs ns coords r (s / n) along within next) ∙ is, next, mod_below r (s / n) above)

pub cell_end : (i : ℕ) (qs ns done : List ℕ) (r : ℕ) → length qs ≤ i → done ++ cell_at (drop i qs) r (drop i ns) ≡ done
cell_end i qs ns done r h = rw (drop_all i qs h) (append-nil done)

pub digit_below : (i r s : ℕ) (ns : List ℕ) → i < length ns → s ≡ cell_count (drop i ns) → r < s → r / (s / get_or ns i 0) < get_or ns i 0
digit_below i r s ns h e l =
    let next = step_next_dim s r i ns h e l in
    let some = step_above s r i ns h e l in
    let whole : cell_count (drop i ns) ≡ get_or ns i 0 * cell_count (drop (i + 1) ns) = ap cell_count (drop_more ns i 0 h) in
    div_below r (s / get_or ns i 0) (get_or ns i 0) some (rw next (omega (arith, e, l, whole)))

-- ---- one step towards the offset

step_number : (t n x i : ℕ) (xs ns : List ℕ) → length xs ≡ length ns → i < length ns → n ≡ get_or ns i 0 → x ≡ get_or xs i 0 → t * n + x % n ≡ t * get_or ns i 0 + get_or (remainders xs ns) i 0
step_number t n x i xs ns same within en ex =
    let there = remainder_at xs ns i same within in
    cc

pub step_bound : (t n x i : ℕ) (xs ns : List ℕ) → All IsChunkDim ns → length xs ≡ length ns → i < length ns → n ≡ get_or ns i 0 → x ≡ get_or xs i 0
    → IsInside (drop i (remainders xs ns)) (drop i ns) → t * cell_count (drop i ns) + linear_index (drop i (remainders xs ns)) (drop i ns) ≡ offset_of xs ns → t * n + x % n < cell_count ns
step_bound t n x i xs ns h same within en ex inside e =
    let long = length-remainders xs ns same in
    let along : i < length (remainders xs ns) = omega (arith, long, within) in
    let below = horner_bound t i (remainders xs ns) ns (offset_of xs ns) within along inside e in
    let number = step_number t n x i xs ns same within en ex in
    omega (arith, below, number, offset_below xs ns h same)

pub step_next : (t n x i : ℕ) (xs ns : List ℕ) → length xs ≡ length ns → i < length ns → n ≡ get_or ns i 0 → x ≡ get_or xs i 0
    → t * cell_count (drop i ns) + linear_index (drop i (remainders xs ns)) (drop i ns) ≡ offset_of xs ns
    → (t * n + x % n) * cell_count (drop (i + 1) ns) + linear_index (drop (i + 1) (remainders xs ns)) (drop (i + 1) ns) ≡ offset_of xs ns
step_next t n x i xs ns same within en ex e =
    let long = length-remainders xs ns same in
    let along : i < length (remainders xs ns) = omega (arith, long, within) in
    ap (λ z. z * cell_count (drop (i + 1) ns) + linear_index (drop (i + 1) (remainders xs ns)) (drop (i + 1) ns)) (step_number t n x i xs ns same within en ex)
    ∙ offset_next t i (remainders xs ns) ns (offset_of xs ns) along within e

pub step_inside : (i : ℕ) (xs ns : List ℕ) → length xs ≡ length ns → i < length ns → IsInside (drop i (remainders xs ns)) (drop i ns) → IsInside (drop (i + 1) (remainders xs ns)) (drop (i + 1) ns)
step_inside i xs ns same within inside =
    let long = length-remainders xs ns same in
    let along : i < length (remainders xs ns) = omega (arith, long, within) in
    inside_next i (remainders xs ns) ns along within inside

pub step_end : (t i : ℕ) (xs ns : List ℕ) → length xs ≡ length ns → length ns ≤ i → t * cell_count (drop i ns) + linear_index (drop i (remainders xs ns)) (drop i ns) ≡ offset_of xs ns → t ≡ offset_of xs ns
step_end t i xs ns same past e =
    let long = length-remainders xs ns same in
    horner_end t i (remainders xs ns) ns (offset_of xs ns) past (omega (arith, long, past)) e

pub step_first : (xs ns : List ℕ) → 0 * cell_count ns + linear_index (remainders xs ns) ns ≡ offset_of xs ns
step_first xs ns = omega arith
