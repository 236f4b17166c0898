-- The selected cells are all choices of a selected number from each axis.
use Rattle.std.proofs.Common.{subst, ◌≡◌, ℕ, zero, suc, ◌+◌, ◌*◌, ◌-◌, ◌/◌, ◌%◌, ◌<◌, ◌≤◌, max, ◌&&◌, Bool, true, false, cond, List, [], ◌∷◌, ◌++◌, length, drop, get_or, map, inl, inr, nat_eq, nat_lt, nat_le, refl, sym, ap, ◌∙◌, arith}
use Rattle.std.specs.List.{filter, flat_map, AllZip}
use Rattle.std.proofs.Math.Nat.{add-div_left, div-eq_of_lt, add-mod_left, mod-eq_of_lt, mod-le, div-mul-le_self}
use Rattle.std.proofs.lemmas.Nat.{mul-le}
use Rattle.std.proofs.lemmas.Bool.{lt-ltb, le-ltb, le-leb, cases_lt}
use Rattle.std.proofs.lemmas.Bool.Decides.{nat_tests}
use Rattle.std.proofs.lemmas.List.{drop_all}
use Rattle.std.proofs.lemmas.List.Elements.{filter-append}
use Rattle.shapes.specs.RowMajor.{cell_count, room_of, IsInside, linear_index, grid, extents_of, picked, run_from, coordinates}
use Rattle.shapes.specs.Shapes.{IsWithin, LiesIn, dims_of}
use Rattle.shapes.specs.declared.Shape.{Shape}
use Rattle.shapes.specs.declared.Shape.TheVariants.{Null, Scalar, Simple}
use Rattle.shapes.proofs.RowMajorLemmas.{one-room}
use Rattle.shapes.proofs.GridLemmas.{length-grid, grid-index}
use Rattle.hyperslab.specs.Selected.{Axis, AreAxes, is_on, is_at, extent, on_count, point}
use Rattle.hyperslab.proofs.AxisLemmas.{axis_with, extent_some, extent_none}

-- `n` numbers from `a` on, `c` apart
abbrev pub steps_from : ℕ → ℕ → ℕ → List ℕ
steps_from a c zero = []
steps_from a c (suc n) = a ∷ steps_from (a + c) c n

abbrev pub numbers : Axis → List ℕ
numbers x = steps_from x.lo x.by (extent x)

extent_next : (a b c : ℕ) → 1 ≤ c → a < b → extent (axis_with a b c) ≡ suc (extent (axis_with (a + c) b c))
extent_next a b c h k = extent_some a b c k ∙ elim (cases_lt (a + c) b) [
  | inl more ↦
      let split : b - a - 1 ≡ c + (b - (a + c) - 1) = omega arith in
      let less = add-div_left (b - (a + c) - 1) {k = c} (omega arith) in
      let whole : (b - a - 1) / c + 1 ≡ suc ((b - (a + c) - 1) / c + 1) = omega (arith, ap (λ n. n / c) split, less) in
      whole ∙ ap suc (sym (extent_some (a + c) b c more))
  | inr last ↦
      let low : b - a - 1 < c = omega arith in
      let none = div-eq_of_lt low in
      let whole : (b - a - 1) / c + 1 ≡ 1 = omega (arith, none) in
      whole ∙ ap suc (sym (extent_none (a + c) b c last))
]

-- ---- the numbers of one axis

first_false : (a b c : Bool) → a ≡ false → (a && b && c) ≡ false
first_false a b c e = rw e refl

mid_false : (a b c : Bool) → b ≡ false → (a && b && c) ≡ false
mid_false true b c e = rw e refl
mid_false false b c e = refl

last_false : (a b c : Bool) → c ≡ false → (a && b && c) ≡ false
last_false true true c e = e
last_false true false c e = refl
last_false false b c e = refl

pub on_before : (a b c n : ℕ) → n < a → is_on (axis_with a b c) n ≡ false
on_before a b c n h =
    let low : nat_le a n ≡ false = grind (arith, nat_tests) in
    first_false (nat_le a n) (nat_lt n b) (nat_eq ((n - a) % c) 0) low

pub on_past : (a b c n : ℕ) → b ≤ n → is_on (axis_with a b c) n ≡ false
on_past a b c n h = mid_false (nat_le a n) (nat_lt n b) (nat_eq ((n - a) % c) 0) (le-ltb n b h)

on_here : (a b c n : ℕ) → n ≡ a → a < b → is_on (axis_with a b c) n ≡ true
on_here a b c n e h =
    let first : nat_le a n ≡ true = le-leb a n (omega arith) in
    let within : nat_lt n b ≡ true = lt-ltb n b (omega arith) in
    let none : n - a ≡ 0 = omega arith in
    let rest : 0 % c ≡ 0 = omega (arith, mod-le 0 c) in
    rw (first, within, none, rest) refl

on_shift : (a b c n : ℕ) → 1 ≤ c → a < n → is_on (axis_with a b c) n ≡ is_on (axis_with (a + c) b c) n
on_shift a b c n h k = elim (cases_lt n (a + c)) [
  | inl low ↦
      let small : n - a < c = omega arith in
      let rest = mod-eq_of_lt small in
      let some : nat_eq ((n - a) % c) 0 ≡ false = rw rest (grind (arith, nat_tests)) in
      last_false (nat_le a n) (nat_lt n b) (nat_eq ((n - a) % c) 0) some ∙ sym (on_before (a + c) b c n low)
  | inr high ↦
      let split : n - a ≡ c + (n - (a + c)) = omega arith in
      let same = ap (λ m. m % c) split ∙ add-mod_left c (n - (a + c)) in
      rw (le-leb a n (omega arith), le-leb (a + c) n high) (ap (λ m. nat_lt n b && nat_eq m 0) same)
]

filter_same : (p q : ℕ → Bool) (s n : ℕ) → ((m : ℕ) → s ≤ m → p m ≡ q m) → filter p (run_from s n) ≡ filter q (run_from s n)
filter_same p q s zero h = refl
filter_same p q s (suc n) h = rw (h s (omega arith), filter_same p q (suc s) n (λ m l. h m (omega (arith, l)))) refl

filter_none : (p : ℕ → Bool) (s n : ℕ) → ((m : ℕ) → s ≤ m → p m ≡ false) → filter p (run_from s n) ≡ []
filter_none p s zero h = refl
filter_none p s (suc n) h = rw (h s (omega arith)) (filter_none p (suc s) n (λ m l. h m (omega (arith, l))))

walk : (n s a b c : ℕ) → 1 ≤ c → s ≤ a → b ≤ s + n → filter (is_on (axis_with a b c)) (run_from s n) ≡ numbers (axis_with a b c)
walk zero s a b c h k l = sym (ap (steps_from a c) (extent_none a b c (omega arith)))
walk (suc n) s a b c h k l = elim (cases_lt s a) [
  | inl low ↦ rw (on_before a b c s low) (walk n (suc s) a b c h (omega arith) (omega arith))
  | inr high ↦ elim (cases_lt a b) [
    | inl some ↦
        let same : s ≡ a = omega arith in
        let x = axis_with a b c in
        let y = axis_with (a + c) b c in
        let rest : filter (is_on x) (run_from (suc s) n) ≡ numbers y =
        filter_same (is_on x) (is_on y) (suc s) n (λ m j. on_shift a b c m h (omega (arith, j))) ∙ walk n (suc s) (a + c) b c h (omega arith) (omega arith) in
        rw (on_here a b c s same some)
        (ap (λ m. m ∷ filter (is_on x) (run_from (suc s) n)) same ∙ ap (λ ms. a ∷ ms) rest ∙ sym (ap (steps_from a c) (extent_next a b c h some)))
    | inr none ↦ filter_none (is_on (axis_with a b c)) s (suc n) (λ m j. on_past a b c m (omega (arith, j))) ∙ sym (ap (steps_from a c) (extent_none a b c none))
  ]
]

axis_filter : (x : Axis) (n : ℕ) → 1 ≤ x.by → x.hi ≤ n → filter (is_on x) (run_from 0 n) ≡ numbers x
axis_filter x n h k = walk n 0 x.lo x.hi x.by h (omega arith) (omega arith)

length-steps : (a c n : ℕ) → length (steps_from a c n) ≡ n
length-steps a c zero = refl
length-steps a c (suc n) = ap suc (length-steps (a + c) c n)

pub on_counts : (xs : List Axis) → AreAxes xs → map extent xs ≡ map on_count xs
on_counts [] h = refl
on_counts (x ∷ xs) h =
    let here : on_count x ≡ extent x = ap length (axis_filter x x.hi h.0.2 (omega arith)) ∙ length-steps x.lo x.by (extent x) in
    ap (λ n. n ∷ map extent xs) (sym here) ∙ ap (λ ns. on_count x ∷ ns) (on_counts xs h.1)

-- ---- the choices

chosen_row : (b : Bool) (n : ℕ) (r : List ℕ) (rs : List (List ℕ)) → cond b ((n ∷ r) ∷ map (λ s. n ∷ s) rs) (map (λ s. n ∷ s) rs) ≡ map (λ s. n ∷ s) (cond b (r ∷ rs) rs)
chosen_row true n r rs = refl
chosen_row false n r rs = refl

row : (t q : List ℕ → Bool) (n : ℕ) (b : Bool) → ((r : List ℕ) → t (n ∷ r) ≡ (b && q r)) → (rs : List (List ℕ)) → filter t (map (λ r. n ∷ r) rs) ≡ cond b (map (λ r. n ∷ r) (filter q rs)) []
row t q n true h [] = refl
row t q n false h [] = refl
row t q n true h (r ∷ rs) = rw (h r, row t q n true h rs) (chosen_row (q r) n r (filter q rs))
row t q n false h (r ∷ rs) = rw (h r) (row t q n false h rs)

joined : (b : Bool) (f : ℕ → List (List ℕ)) (n : ℕ) (ns : List ℕ) → cond b (f n) [] ++ flat_map f ns ≡ flat_map f (cond b (n ∷ ns) ns)
joined true f n ns = refl
joined false f n ns = refl

rows : (x : Axis) (xs : List Axis) (ns : List ℕ) (rs : List (List ℕ))
    → filter (is_at (x ∷ xs)) (flat_map (λ n. map (λ r. n ∷ r) rs) ns) ≡ flat_map (λ n. map (λ r. n ∷ r) (filter (is_at xs) rs)) (filter (is_on x) ns)
rows x xs [] rs = refl
rows x xs (n ∷ ns) rs =
    let f = λ (m : ℕ). map (λ (r : List ℕ). m ∷ r) rs in
    let g = λ (m : ℕ). map (λ (r : List ℕ). m ∷ r) (filter (is_at xs) rs) in
    filter-append (is_at (x ∷ xs)) (f n) (flat_map f ns)
    ∙ ap (λ ls. ls ++ filter (is_at (x ∷ xs)) (flat_map f ns)) (row (is_at (x ∷ xs)) (is_at xs) n (is_on x n) (λ r. refl) rs)
    ∙ ap (λ ls. cond (is_on x n) (g n) [] ++ ls) (rows x xs ns rs)
    ∙ joined (is_on x n) g n (filter (is_on x) ns)

pub selected_grid : (xs : List Axis) (dims : List ℕ) → AreAxes xs → AllZip (λ x n. x.hi ≤ n) xs dims → filter (is_at xs) (coordinates dims) ≡ grid (map numbers xs)
selected_grid [] [] h k = refl
selected_grid [] (n ∷ ns) h k = absurd k
selected_grid (x ∷ xs) [] h k = absurd k
selected_grid (x ∷ xs) (n ∷ ns) h k =
    rows x xs (run_from 0 n) (coordinates ns)
    ∙ ap (λ ls. flat_map (λ m. map (λ r. m ∷ r) ls) (filter (is_on x) (run_from 0 n))) (selected_grid xs ns h.1 k.1)
    ∙ ap (λ ms. flat_map (λ m. map (λ r. m ∷ r) (grid (map numbers xs))) ms) (axis_filter x n h.0.2 k.0)

pub extents_numbers : (xs : List Axis) → extents_of (map numbers xs) ≡ map extent xs
extents_numbers [] = refl
extents_numbers (x ∷ xs) = ap (λ n. n ∷ extents_of (map numbers xs)) (length-steps x.lo x.by (extent x)) ∙ ap (λ ns. extent x ∷ ns) (extents_numbers xs)

pub selected_count : (xs : List Axis) (dims : List ℕ) → AreAxes xs → AllZip (λ x n. x.hi ≤ n) xs dims → length (filter (is_at xs) (coordinates dims)) ≡ cell_count (map extent xs)
selected_count xs dims h k = ap length (selected_grid xs dims h k) ∙ length-grid (map numbers xs) ∙ ap cell_count (extents_numbers xs)

-- ---- the cell with a linear index

get_or-steps : (a c n k : ℕ) → k < n → get_or (steps_from a c n) k 0 ≡ a + k * c
get_or-steps a c zero k h = absurd (omega arith)
get_or-steps a c (suc n) zero h = omega arith
get_or-steps a c (suc n) (suc k) h = get_or-steps (a + c) c n k (omega arith) ∙ omega arith

picked_point : (ks : List ℕ) (xs : List Axis) → IsInside ks (map extent xs) → picked ks (map numbers xs) ≡ point ks xs
picked_point [] [] h = refl
picked_point [] (x ∷ xs) h = absurd h
picked_point (k ∷ ks) [] h = absurd h
picked_point (k ∷ ks) (x ∷ xs) h =
    ap (λ n. n ∷ picked ks (map numbers xs)) (get_or-steps x.lo x.by (extent x) k h.0) ∙ ap (λ ns. (x.lo + k * x.by) ∷ ns) (picked_point ks xs h.1)

pub selected_at : (xs : List Axis) (dims ks : List ℕ) → AreAxes xs → AllZip (λ x n. x.hi ≤ n) xs dims → IsInside ks (map extent xs)
    → get_or (filter (is_at xs) (coordinates dims)) (linear_index ks (map extent xs)) [] ≡ point ks xs
selected_at xs dims ks h k inside =
    let lies : IsInside ks (extents_of (map numbers xs)) = rw (extents_numbers xs) inside in
    ap (λ ls. get_or ls (linear_index ks (map extent xs)) []) (selected_grid xs dims h k)
    ∙ ap (λ ns. get_or (grid (map numbers xs)) (linear_index ks ns) []) (sym (extents_numbers xs))
    ∙ grid-index ks (map numbers xs) lies
    ∙ picked_point ks xs inside

-- a step below the extent stays below the end
pub point_below : (a b c k : ℕ) → 1 ≤ c → k < extent (axis_with a b c) → a + k * c < b
point_below a b c k h l = elim (cases_lt a b) [
  | inl some ↦
      let q = (b - a - 1) / c in
      let few : k ≤ (b - a - 1) / c = omega (arith, l, extent_some a b c some) in
      let low = mul-le k c q c few (omega arith) in
      omega (arith, low, div-mul-le_self (b - a - 1) c)
  | inr none ↦ absurd (omega (arith, l, extent_none a b c none))
]

-- ---- a shape of extents

pub within_self : (ns : List ℕ) → AllZip IsWithin ns ns
within_self [] = tt
within_self (n ∷ ns) = (inr (omega arith), within_self ns)

pub below_room : (ns : List ℕ) (k d : ℕ) → k < length ns → get_or ns k d ≤ room_of ns
below_room [] k d h = absurd (omega arith)
below_room (n ∷ ns) zero d h =
    let wider : max n 1 * 1 ≤ max n 1 * room_of ns = mul-le (max n 1) 1 (max n 1) (room_of ns) (omega arith) (one-room ns) in
    omega (arith, wider)
below_room (n ∷ ns) (suc k) d h =
    let wider : 1 * room_of ns ≤ max n 1 * room_of ns = mul-le 1 (room_of ns) (max n 1) (room_of ns) (omega arith) (omega arith) in
    omega (arith, wider, below_room ns k d (omega arith))

pub lies_inside : (at : List ℕ) (shape : Shape) → LiesIn at shape → IsInside at (dims_of shape)
lies_inside at Null h = absurd h
lies_inside at Scalar h = h
lies_inside at (Simple dims limits) h = h

-- ---- one axis after another

pub inside_some : (i : ℕ) (at : List ℕ) (n : ℕ) (ns : List ℕ) → IsInside (drop i at) (n ∷ ns) → i < length at
inside_some i at n ns h = elim (cases_lt i (length at)) [
  | inl some ↦ some
  | inr none ↦
      let P = λ (ks : List ℕ). IsInside ks (n ∷ ns) in
      absurd (subst P (drop_all i at none) h)
]

pub point_end : (ks : List ℕ) (xs : List Axis) → xs ≡ [] → point ks xs ≡ []
point_end [] xs e = refl
point_end (k ∷ ks) xs e = rw e refl
