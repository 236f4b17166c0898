-- The cells of a selection in a box: a choice of a step on each axis between two numbers.
use Rattle.std.proofs.Common.{◌≡◌, ℕ, suc, ◌+◌, ◌*◌, ◌-◌, ◌/◌, ◌%◌, ◌<◌, ◌≤◌, min, List, [], ◌∷◌, map, inl, inr, refl, sym, ap, ◌∙◌, arith}
use Rattle.std.proofs.lemmas.Nat.{mul-le, mod_below, div-add-mod', div-mul-add, mod-mul-add}
use Rattle.std.proofs.lemmas.Bool.{cases_lt}
use Rattle.shapes.specs.RowMajor.{cell_count, IsInside}
use Rattle.shapes.proofs.RowMajorLemmas.{some_factor}
use Rattle.hyperslab.specs.Selected.{Axis, AreAxes, extent, point}
use Rattle.hyperslab.proofs.AxisLemmas.{axis_with}
use Rattle.hyperslab.proofs.SelectLemmas.{point_below}
use Rattle.hyperslab.proofs.CellLemmas.{extent_above}
use Rattle.hyperslab.specs.Runs.{InBox, inner}
use Rattle.hyperslab.specs.Numbered.{Side, first_of, count_of, extent_of, wide_of, steps_to, inner_to, index_to, offset_to, last_count, last_step}

abbrev pub axis_of : Side → Axis
axis_of s = s.axis

abbrev pub low_of : Side → ℕ
low_of s = s.low

-- ---- one axis

pub axis_in : (a b c o n k : ℕ) → 1 ≤ c → extent (axis_with a (min b o) c) ≤ k → k < extent (axis_with a (min b (o + n)) c)
    → (k < extent (axis_with a b c)) × (o ≤ a + k * c) × (a + k * c < o + n)
axis_in a b c o n k h f g =
    let high : a + k * c < min b (o + n) = point_below a (min b (o + n)) c k h g in
    let within : a + k * c < b = omega (arith, high) in
    let past : a + k * c < o + n = omega (arith, high) in
    let low : o ≤ a + k * c = elim (cases_lt (a + k * c) o) [
      | inl before ↦
          let both : a + k * c < min b o = omega (arith, within, before) in
          absurd (omega (arith, extent_above a (min b o) c k h both, f))
      | inr after ↦ after
    ] in
    (extent_above a b c k h within, low, past)

pub axis_out : (a b c o n k : ℕ) → 1 ≤ c → k < extent (axis_with a b c) → o ≤ a + k * c → a + k * c < o + n
    → (extent (axis_with a (min b o) c) ≤ k) × (k < extent (axis_with a (min b (o + n)) c))
axis_out a b c o n k h e l m =
    let within : a + k * c < b = point_below a b c k h e in
    let both : a + k * c < min b (o + n) = omega (arith, within, m) in
    let low : extent (axis_with a (min b o) c) ≤ k = elim (cases_lt k (extent (axis_with a (min b o) c))) [
      | inl less ↦
          let early : a + k * c < min b o = point_below a (min b o) c k h less in
          absurd (omega (arith, early, l))
      | inr there ↦ there
    ] in
    (low, extent_above a (min b (o + n)) c k h both)

-- ---- all axes

pub box_in : (ss : List Side) (ds : List ℕ) → AreAxes (map axis_of ss) → IsInside ds (map count_of ss)
    → IsInside (steps_to ss ds) (map extent_of ss) × InBox (point (steps_to ss ds) (map axis_of ss)) (map low_of ss) (map wide_of ss)
    × (inner_to ss ds ≡ inner (point (steps_to ss ds) (map axis_of ss)) (map low_of ss))
box_in [] [] h l = (tt, tt, refl)
box_in [] (d ∷ ds) h l = absurd l
box_in (s ∷ ss) [] h l = absurd l
box_in (s ∷ ss) (d ∷ ds) h l =
    let here = axis_in s.axis.lo s.axis.hi s.axis.by s.low s.wide (first_of s + d) h.0.2 (omega arith) (omega (arith, l.0)) in
    let rest = box_in ss ds h.1 l.1 in
    ((here.0, rest.0), (here.1, here.2, rest.1), ap (λ xs. (s.axis.lo + (first_of s + d) * s.axis.by - s.low) ∷ xs) rest.2)

pub box_of : (ss : List Side) (ks : List ℕ) → AreAxes (map axis_of ss) → IsInside ks (map extent_of ss) → InBox (point ks (map axis_of ss)) (map low_of ss) (map wide_of ss)
    → (ds : List ℕ) × IsInside ds (map count_of ss) × (steps_to ss ds ≡ ks)
box_of [] [] h l b = ([], tt, refl)
box_of [] (k ∷ ks) h l b = absurd l
box_of (s ∷ ss) [] h l b = absurd l
box_of (s ∷ ss) (k ∷ ks) h l b =
    let here = axis_out s.axis.lo s.axis.hi s.axis.by s.low s.wide k h.0.2 l.0 b.0 b.1 in
    let rest = box_of ss ks h.1 l.1 b.2 in
    let first : first_of s + (k - first_of s) ≡ k = omega (arith, here.0) in
    let few : k - first_of s < count_of s = omega (arith, here.0, here.1) in
    ((k - first_of s) ∷ rest.0, (few, rest.1), ap (λ n. n ∷ steps_to ss rest.0) first ∙ ap (λ ns. k ∷ ns) rest.2)

pub steps_once : (ss : List Side) (ds es : List ℕ) → IsInside ds (map count_of ss) → IsInside es (map count_of ss) → steps_to ss ds ≡ steps_to ss es → ds ≡ es
steps_once [] [] [] h k e = refl
steps_once [] [] (x ∷ es) h k e = absurd k
steps_once [] (d ∷ ds) es h k e = absurd h
steps_once (s ∷ ss) [] es h k e = absurd h
steps_once (s ∷ ss) (d ∷ ds) [] h k e = absurd k
steps_once (s ∷ ss) (d ∷ ds) (x ∷ es) h k e =
    let first : first_of s + d ≡ first_of s + x = cc in
    let more : steps_to ss ds ≡ steps_to ss es = cc in
    let same : d ≡ x = omega (arith, first) in
    ap (λ n. n ∷ ds) same ∙ ap (λ ns. x ∷ ns) (steps_once ss ds es h.1 k.1 more)

-- ---- along the last axis

pub last_divides : (ss : List Side) → (q : ℕ) × (cell_count (map count_of ss) ≡ q * last_count ss)
last_divides [] = (1, omega arith)
last_divides (s ∷ []) = (1, omega arith)
last_divides (s ∷ (t ∷ ss)) =
    let rest = last_divides (t ∷ ss) in
    (count_of s * rest.0, ap (λ n. count_of s * n) rest.1 ∙ omega arith)

abbrev pub counts : List Side → List ℕ
counts ss = map count_of ss

abbrev pub extents_to : List Side → List ℕ
extents_to ss = map extent_of ss

abbrev pub wides : List Side → List ℕ
wides ss = map wide_of ss

pub shifted : (a f d c o i : ℕ) → o ≤ a + (f + d) * c → (a + (f + (d + i)) * c - o) ≡ (a + (f + d) * c - o) + i * c
shifted a f d c o i h =
    let spread : (f + (d + i)) * c ≡ (f + d) * c + i * c = omega arith in
    omega (arith, spread, h)

split_digit : (r q l i : ℕ) → i < l → 0 < q → ((r * l + i) / (q * l) ≡ r / q) × ((r * l + i) % (q * l) ≡ r % q * l + i)
split_digit r q l i h some =
    let low : r % q * l + i < q * l =
    (let less = mod_below r q some in
    let room = mul-le (suc (r % q)) l q l (omega (arith, less)) (omega arith) in
    omega (arith, room, h)) in
    let whole : r * l + i ≡ r / q * (q * l) + (r % q * l + i) =
    (let parts = ap (λ n. n * l) (sym (div-add-mod' r q)) in
    omega (arith, parts)) in
    (ap (λ n. n / (q * l)) whole ∙ div-mul-add (r / q) (q * l) (r % q * l + i) low, ap (λ n. n % (q * l)) whole ∙ mod-mul-add (r / q) (q * l) (r % q * l + i) low)

one_digit : (j : ℕ) → j / 1 ≡ j
one_digit j = omega (arith, div-add-mod' j 1)

-- two numbers that differ behind an axis are as far apart as they are there
pub lifted : (s : Side) (ss : List Side) (q l i j r x y : ℕ) → cell_count (counts ss) ≡ q * l → 0 < q → i < l → j < l
    → (index_to ss (r % q * l + i) ≡ index_to ss (r % q * l + j) + x) × (offset_to ss (r % q * l + i) ≡ offset_to ss (r % q * l + j) + y)
    → (index_to (s ∷ ss) (r * l + i) ≡ index_to (s ∷ ss) (r * l + j) + x) × (offset_to (s ∷ ss) (r * l + i) ≡ offset_to (s ∷ ss) (r * l + j) + y)
lifted s ss q l i j r x y cells some hi hj rest =
    let one = split_digit r q l i hi some in
    let two = split_digit r q l j hj some in
    let d = r / q in
    let m = r % q in
    let d_one : (r * l + i) / cell_count (counts ss) ≡ d = rw cells one.0 in
    let m_one : (r * l + i) % cell_count (counts ss) ≡ m * l + i = rw cells one.1 in
    let d_two : (r * l + j) / cell_count (counts ss) ≡ d = rw cells two.0 in
    let m_two : (r * l + j) % cell_count (counts ss) ≡ m * l + j = rw cells two.1 in
    let p = λ (e k : ℕ). (first_of s + e) * cell_count (extents_to ss) + index_to ss k in
    let o = λ (e k : ℕ). (s.axis.lo + (first_of s + e) * s.axis.by - s.low) * cell_count (wides ss) + offset_to ss k in
    let p_one = ap (λ e. p e ((r * l + i) % cell_count (counts ss))) d_one ∙ ap (p d) m_one in
    let p_two = ap (λ e. p e ((r * l + j) % cell_count (counts ss))) d_two ∙ ap (p d) m_two in
    let o_one = ap (λ e. o e ((r * l + i) % cell_count (counts ss))) d_one ∙ ap (o d) m_one in
    let o_two = ap (λ e. o e ((r * l + j) % cell_count (counts ss))) d_two ∙ ap (o d) m_two in
    let p_mid : p d (m * l + i) ≡ p d (m * l + j) + x = omega (arith, rest.0) in
    let o_mid : o d (m * l + i) ≡ o d (m * l + j) + y = omega (arith, rest.1) in
    (p_one ∙ p_mid ∙ ap (λ n. n + x) (sym p_two), o_one ∙ o_mid ∙ ap (λ n. n + y) (sym o_two))

pub run_step : (ss : List Side) (r i : ℕ) → AreAxes (map axis_of ss) → i < last_count ss → r * last_count ss + i < cell_count (counts ss)
    → (index_to ss (r * last_count ss + i) ≡ index_to ss (r * last_count ss) + i) × (offset_to ss (r * last_count ss + i) ≡ offset_to ss (r * last_count ss) + i * last_step ss)
run_step [] r i h l b = (omega arith, omega arith)
run_step (s ∷ []) r i h l b =
    let none : r ≡ 0 = elim (cases_lt r 1) [
      | inl low ↦ omega arith
      | inr high ↦ absurd (omega (arith, b, mul-le 1 (count_of s) r (count_of s) high (omega arith)))
    ] in
    let start : r * count_of s ≡ 0 = ap (λ n. n * count_of s) none ∙ omega arith in
    let few : i < count_of s = l in
    let lies = axis_in s.axis.lo s.axis.hi s.axis.by s.low s.wide (first_of s + 0) h.0.2 (omega arith) (omega (arith, few)) in
    let many : (r * count_of s + i) / 1 ≡ 0 + i = one_digit (r * count_of s + i) ∙ omega (arith, start) in
    let first : (r * count_of s) / 1 ≡ 0 = one_digit (r * count_of s) ∙ start in
    let off = shifted s.axis.lo (first_of s) 0 s.axis.by s.low i lies.1 in
    (rw (many, first) (omega arith), rw (many, first) (omega (arith, off)))
run_step (s ∷ (t ∷ ss)) r i h l b =
    let div = last_divides (t ∷ ss) in
    let long = last_count (t ∷ ss) in
    let cells : cell_count (counts (t ∷ ss)) ≡ div.0 * last_count (t ∷ ss) = div.1 in
    let some_c = (some_factor (count_of s) (cell_count (counts (t ∷ ss))) (r * last_count (t ∷ ss) + i) b).1 in
    let some = (some_factor div.0 (last_count (t ∷ ss)) 0 (omega (arith, some_c, cells))).0 in
    let m = r % div.0 in
    let room : m * long + i < cell_count (counts (t ∷ ss)) =
    (let less = mod_below r div.0 some in
    let wide = mul-le (suc m) long div.0 long (omega (arith, less)) (omega arith) in
    omega (arith, wide, l, cells)) in
    let rest = run_step (t ∷ ss) m i h.1 l room in
    let start : m * long ≡ m * long + 0 = omega arith in
    let whole : r * long + 0 ≡ r * long = omega arith in
    let up = lifted s (t ∷ ss) div.0 long i 0 r i (i * last_step (t ∷ ss)) cells some l (omega (arith, l))
    (rest.0 ∙ ap (λ j. index_to (t ∷ ss) j + i) start, rest.1 ∙ ap (λ j. offset_to (t ∷ ss) j + i * last_step (t ∷ ss)) start) in
    (up.0 ∙ ap (λ j. index_to (s ∷ (t ∷ ss)) j + i) whole, up.1 ∙ ap (λ j. offset_to (s ∷ (t ∷ ss)) j + i * last_step (t ∷ ss)) whole)
