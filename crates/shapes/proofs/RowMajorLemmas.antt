-- Linear indices and coordinates.
use Rattle.std.proofs.Common.{◌≡◌, ℕ, zero, suc, ◌+◌, ◌*◌, ◌/◌, ◌%◌, ◌<◌, ◌≤◌, max, List, [], ◌∷◌, ◌++◌, length, drop, get_or, refl, sym, ap, ◌∙◌, arith, mul_assoc, mul_comm}
use Rattle.std.proofs.Math.Nat.{mul-div_cancel_left}
use Rattle.std.proofs.lemmas.Nat.{mul-le, mul-add-lt, div-add-mod', div_below, same_from_place}
use Rattle.std.proofs.lemmas.List.{drop_more, drop_all, append_assoc, append-nil}
use Rattle.shapes.specs.RowMajor.{cell_count, room_of, IsInside, linear_index}

pub cell_count-room : (ns : List ℕ) → cell_count ns ≤ room_of ns
cell_count-room [] = omega arith
cell_count-room (n ∷ ns) = mul-le n (cell_count ns) (max n 1) (room_of ns) (omega arith) (cell_count-room ns)

pub one-room : (ns : List ℕ) → 1 ≤ room_of ns
one-room [] = omega arith
one-room (n ∷ ns) = mul-le 1 1 (max n 1) (room_of ns) (omega arith) (one-room ns)

-- one factor more
room_step : (t n m r : ℕ) → 1 ≤ r → n ≤ m → t * n ≤ t * (m * r)
room_step t n m r h k =
    let larger : t * n ≤ t * m = mul-le t n t m (omega arith) k in
    let wider : (t * m) * 1 ≤ (t * m) * r = mul-le (t * m) 1 (t * m) r (omega arith) h in
    omega (arith, larger, wider, mul_assoc t m r)

pub room_bound : (t i : ℕ) (dims : List ℕ) (r : ℕ) → i < length dims → t * room_of (drop i dims) ≤ r → t * get_or dims i 0 ≤ r
room_bound t i dims r h k =
    let rest = drop (i + 1) dims in
    let whole : t * room_of (get_or dims i 0 ∷ rest) ≤ r = rw (drop_more dims i 0 h) at k in
    let below : t * get_or dims i 0 ≤ t * (max (get_or dims i 0) 1 * room_of rest) = room_step t (get_or dims i 0) (max (get_or dims i 0) 1) (room_of rest) (one-room rest) (omega arith) in
    omega (arith, whole, below)

-- coordinates inside the dims have a linear index below the number of cells
pub index_below : (at dims : List ℕ) → IsInside at dims → linear_index at dims < cell_count dims
index_below [] [] h = omega arith
index_below [] (n ∷ ns) h = absurd h
index_below (x ∷ xs) [] h = absurd h
index_below (x ∷ xs) (n ∷ ns) h = rw (mul_comm n (cell_count ns)) (mul-add-lt x (cell_count ns) (linear_index xs ns) n h.0 (index_below xs ns h.1))

-- two coordinates of one linear index are equal
pub index_once : (xs ys dims : List ℕ) → IsInside xs dims → IsInside ys dims → linear_index xs dims ≡ linear_index ys dims → xs ≡ ys
index_once [] [] [] h k e = refl
index_once [] (y ∷ ys) [] h k e = absurd k
index_once (x ∷ xs) ys [] h k e = absurd h
index_once [] ys (n ∷ ns) h k e = absurd h
index_once (x ∷ xs) [] (n ∷ ns) h k e = absurd k
index_once (x ∷ xs) (y ∷ ys) (n ∷ ns) h k e =
    let parts = same_from_place x (linear_index xs ns) y (linear_index ys ns) (cell_count ns) (index_below xs ns h.1) (index_below ys ns k.1) e in
    ap (λ z. z ∷ xs) parts.0 ∙ ap (λ zs. y ∷ zs) (index_once xs ys ns h.1 k.1 parts.1)

-- a step of the walk over the axes stays below the linear index
horner : (t x n : ℕ) (xs ns : List ℕ) (p : ℕ) → IsInside xs ns → t * cell_count (n ∷ ns) + linear_index (x ∷ xs) (n ∷ ns) ≡ p → t * n + x ≤ p
horner t x n xs ns p h e =
    let wider : (t * n + x) * 1 ≤ (t * n + x) * cell_count ns = mul-le (t * n + x) 1 (t * n + x) (cell_count ns) (omega arith) (omega (arith, index_below xs ns h)) in
    omega (arith, wider, e)

pub horner_bound : (t i : ℕ) (at dims : List ℕ) (p : ℕ) → i < length dims → i < length at → IsInside (drop i at) (drop i dims) → t * cell_count (drop i dims) + linear_index (drop i at) (drop i dims) ≡ p → t * get_or dims i 0 + get_or at i 0 ≤ p
horner_bound t i at dims p h k inside e =
    let xs = drop (i + 1) at in
    let ns = drop (i + 1) dims in
    let within = rw (drop_more dims i 0 h, drop_more at i 0 k) at inside in
    let whole = rw (drop_more dims i 0 h, drop_more at i 0 k) at e in
    horner t (get_or at i 0) (get_or dims i 0) xs ns p within.1 whole

pub horner_end : (t i : ℕ) (at dims : List ℕ) (p : ℕ) → length dims ≤ i → length at ≤ i → t * cell_count (drop i dims) + linear_index (drop i at) (drop i dims) ≡ p → t ≡ p
horner_end t i at dims p h k e =
    let whole = rw (drop_all i dims h, drop_all i at k) at e in
    omega (arith, whole)

-- ---- from a linear index to coordinates

-- what follows the coordinates found so far completes them
abbrev pub GoesOn : List ℕ → List ℕ → ℕ → ℕ → ℕ → Type 0
GoesOn dims coords i rest p = (ys : List ℕ) → IsInside ys (drop i dims) → linear_index ys (drop i dims) ≡ rest → IsInside (coords ++ ys) dims × (linear_index (coords ++ ys) dims ≡ p)

pub some_factor : (n c r : ℕ) → r < n * c → (0 < n) × (0 < c)
some_factor zero c r h = absurd (omega arith)
some_factor (suc n) zero r h = absurd (omega arith)
some_factor (suc n) (suc c) r h = (omega arith, omega arith)

cells_at : (s i : ℕ) (dims : List ℕ) → i < length dims → s ≡ cell_count (drop i dims) → s ≡ get_or dims i 0 * cell_count (drop (i + 1) dims)
cells_at s i dims h e = e ∙ ap cell_count (drop_more dims i 0 h)

pub dim_above : (s r i : ℕ) (dims : List ℕ) → i < length dims → s ≡ cell_count (drop i dims) → r < s → 0 < get_or dims i 0
dim_above s r i dims h e k = (some_factor (get_or dims i 0) (cell_count (drop (i + 1) dims)) r (omega (arith, k, cells_at s i dims h e))).0

pub step_next : (s r i : ℕ) (dims : List ℕ) → i < length dims → s ≡ cell_count (drop i dims) → r < s → s / get_or dims i 0 ≡ cell_count (drop (i + 1) dims)
step_next s r i dims h e k =
    ap (λ n. n / get_or dims i 0) (cells_at s i dims h e) ∙ mul-div_cancel_left (cell_count (drop (i + 1) dims)) (dim_above s r i dims h e k)

pub step_above : (s r i : ℕ) (dims : List ℕ) → i < length dims → s ≡ cell_count (drop i dims) → r < s → 0 < s / get_or dims i 0
step_above s r i dims h e k =
    let above = (some_factor (get_or dims i 0) (cell_count (drop (i + 1) dims)) r (omega (arith, k, cells_at s i dims h e))).1 in
    rw (step_next s r i dims h e k) above

pub goes_next : (dims coords : List ℕ) (s r i p : ℕ) → i < length dims → s ≡ cell_count (drop i dims) → r < s → GoesOn dims coords i r p
    → GoesOn dims (coords ++ r / (s / get_or dims i 0) ∷ []) (i + 1) (r % (s / get_or dims i 0)) p
goes_next dims coords s r i p h e k on ys inside here =
    let c = s / get_or dims i 0 in
    let q = r / c in
    let next = step_next s r i dims h e k in
    let low : q < get_or dims i 0 = div_below r c (get_or dims i 0) (step_above s r i dims h e k) (omega (arith, k, cells_at s i dims h e, ap (λ m. get_or dims i 0 * m) next)) in
    let lies : IsInside (q ∷ ys) (drop i dims) = rw (drop_more dims i 0 h) (low, inside) in
    let total : q * cell_count (drop (i + 1) dims) + linear_index ys (drop (i + 1) dims) ≡ r = ap (λ m. q * m + linear_index ys (drop (i + 1) dims)) (sym next) ∙ ap (λ m. q * c + m) here ∙ div-add-mod' r c in
    let stands : linear_index (q ∷ ys) (drop i dims) ≡ r = rw (drop_more dims i 0 h) total in
    rw (append_assoc coords (q ∷ []) ys) (on (q ∷ ys) lies stands)

pub goes_end : (dims coords : List ℕ) (s r i p : ℕ) → length dims ≤ i → s ≡ cell_count (drop i dims) → r < s → GoesOn dims coords i r p → IsInside coords dims × (linear_index coords dims ≡ p)
goes_end dims coords s r i p h e k on =
    let none : 0 ≡ r = omega (arith, k, e ∙ ap cell_count (drop_all i dims h)) in
    let lies : IsInside [] (drop i dims) = rw (drop_all i dims h) tt in
    let found = on [] lies none in
    rw (append-nil coords) at found

-- ---- a shape without an axis

pub inside_none : (at : List ℕ) → IsInside at [] → at ≡ []
inside_none [] h = refl
inside_none (x ∷ xs) h = absurd h

pub index_none : (at : List ℕ) → 0 ≡ linear_index at []
index_none [] = refl
index_none (x ∷ xs) = refl
