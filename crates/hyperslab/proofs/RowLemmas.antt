-- Runs that follow one another along an axis.
use Rattle.std.proofs.Common.{◌≡◌, ℕ, zero, suc, ◌+◌, ◌*◌, ◌-◌, ◌/◌, ◌%◌, ◌<◌, ◌≤◌, List, [], ◌∷◌, All, length, drop, get_or, map, inl, inr, refl, sym, ap, subst, ◌∙◌, arith}
use Rattle.std.proofs.lemmas.Nat.{mul-le, mod_below, div-add-mod', div-mul-add, mod-mul-add}
use Rattle.std.proofs.lemmas.Bool.{cases_lt}
use Rattle.std.proofs.lemmas.List.{drop_more, length-map}
use Rattle.shapes.specs.RowMajor.{cell_count}
use Rattle.shapes.proofs.RowMajorLemmas.{cell_count-room, some_factor}
use Rattle.shapes.specs.declared.TheConstants.{MAX_CHUNK_BYTES}
use Rattle.hyperslab.specs.declared.TheConstants.{MAX_SELECTED}
use Rattle.hyperslab.specs.declared.numbered.Numbered.{Numbered}
use Rattle.hyperslab.specs.declared.numbered.Row.{Row}
use Rattle.hyperslab.specs.declared.numbered.Last.{Last}
use Rattle.shapes.specs.ChunkDims.{IsChunkDim}
use Rattle.hyperslab.specs.Selected.{AreAxes, IsAxis, extents}
use Rattle.hyperslab.specs.Numbered.{AreNumbered, IsLast, IsRow, Side, sides_of, run_of, moved, first_of, count_of, extent_of, wide_of, index_to, offset_to, last_count}
use Rattle.hyperslab.proofs.BoxLemmas.{axis_of, counts, extents_to, wides, axis_in, lifted, shifted}
use Rattle.hyperslab.proofs.SideLemmas.{got, by_of, no_side, sound_at, wide_some}
use Rattle.hyperslab.proofs.BoxRunLemmas.{runs_sided, number_below, number_small, counts_le, same_run}

-- ---- from one number of an axis to the next

split_here : (r m n e : ℕ) → r ≡ 0 → 0 < n → ((r * (m * n) + e * n) / n ≡ e) × ((r * (m * n) + e * n) % n ≡ 0)
split_here r m n e z h =
    let whole : r * (m * n) + e * n ≡ e * n + 0 = ap (λ q. q * (m * n) + e * n) z ∙ omega arith in
    (ap (λ j. j / n) whole ∙ div-mul-add e n 0 h, ap (λ j. j % n) whole ∙ mod-mul-add e n 0 h)

row_head : (s : Side) (ss : List Side) (r d : ℕ) → IsAxis s.axis → d + 1 < count_of s → r * (count_of s * cell_count (counts ss)) + (d + 1) * cell_count (counts ss) < count_of s * cell_count (counts ss)
    → (index_to (s ∷ ss) (r * (count_of s * cell_count (counts ss)) + (d + 1) * cell_count (counts ss)) ≡ index_to (s ∷ ss) (r * (count_of s * cell_count (counts ss)) + d * cell_count (counts ss)) + cell_count (extents_to ss))
    × (offset_to (s ∷ ss) (r * (count_of s * cell_count (counts ss)) + (d + 1) * cell_count (counts ss)) ≡ offset_to (s ∷ ss) (r * (count_of s * cell_count (counts ss)) + d * cell_count (counts ss)) + by_of s * cell_count (wides ss))
row_head s ss r d h l b =
    let m = count_of s in
    let n = cell_count (counts ss) in
    let some : 0 < cell_count (counts ss) = (some_factor (count_of s) (cell_count (counts ss)) _ b).1 in
    let none : r ≡ 0 = elim (cases_lt r 1) [
      | inl low ↦ omega arith
      | inr high ↦ absurd (omega (arith, b, mul-le 1 (count_of s * cell_count (counts ss)) r (count_of s * cell_count (counts ss)) high (omega arith)))
    ] in
    let up = split_here r m n (d + 1) none some in
    let here = split_here r m n d none some in
    let lies = axis_in s.axis.lo s.axis.hi s.axis.by s.low s.wide (first_of s + d) h.2 (omega arith) (omega (arith, l)) in
    let off : (s.axis.lo + (first_of s + (d + 1)) * s.axis.by - s.low) ≡ (s.axis.lo + (first_of s + d) * s.axis.by - s.low) + 1 * s.axis.by = shifted s.axis.lo (first_of s) d s.axis.by s.low 1 lies.1 in
    let ce = cell_count (extents_to ss) in
    let cw = cell_count (wides ss) in
    let p = λ (e j : ℕ). (first_of s + e) * ce + index_to ss j in
    let o = λ (e j : ℕ). (s.axis.lo + (first_of s + e) * s.axis.by - s.low) * cw + offset_to ss j in
    let j = r * (m * n) + d * n in
    let k = r * (m * n) + (d + 1) * n in
    let p_up = ap (λ e. p e (k % n)) up.0 ∙ ap (p (d + 1)) up.1 in
    let p_here = ap (λ e. p e (j % n)) here.0 ∙ ap (p d) here.1 in
    let o_up = ap (λ e. o e (k % n)) up.0 ∙ ap (o (d + 1)) up.1 in
    let o_here = ap (λ e. o e (j % n)) here.0 ∙ ap (o d) here.1 in
    let p_mid : p (d + 1) 0 ≡ p d 0 + ce = omega arith in
    let o_mid : o (d + 1) 0 ≡ o d 0 + s.axis.by * cw = ap (λ x. x * cw + offset_to ss 0) off ∙ omega arith in
    (p_up ∙ p_mid ∙ ap (λ x. x + ce) (sym p_here), o_up ∙ o_mid ∙ ap (λ x. x + s.axis.by * cw) (sym o_here))

divides_at : (ss : List Side) (i : ℕ) → i < length ss → (q : ℕ) × (cell_count (counts ss) ≡ q * (count_of (get_or ss i no_side) * cell_count (counts (drop (suc i) ss))))
divides_at [] i h = absurd (omega arith)
divides_at (s ∷ ss) zero h = (1, omega arith)
divides_at (s ∷ ss) (suc i) h =
    let rest = divides_at ss i (omega arith) in
    (count_of s * rest.0, ap (λ n. count_of s * n) rest.1 ∙ omega arith)

row_step : (ss : List Side) (i r d m n : ℕ) → AreAxes (map axis_of ss) → i < length ss → m ≡ count_of (get_or ss i no_side) → n ≡ cell_count (counts (drop (suc i) ss)) → d + 1 < m
    → r * (m * n) + (d + 1) * n < cell_count (counts ss)
    → (index_to ss (r * (m * n) + (d + 1) * n) ≡ index_to ss (r * (m * n) + d * n) + cell_count (extents_to (drop (suc i) ss)))
    × (offset_to ss (r * (m * n) + (d + 1) * n) ≡ offset_to ss (r * (m * n) + d * n) + by_of (get_or ss i no_side) * cell_count (wides (drop (suc i) ss)))
row_step [] i r d m n sound h em en l b = absurd (omega arith)
row_step (s ∷ ss) zero r d m n sound h em en l b =
    let bound : r * (count_of s * cell_count (counts ss)) + (d + 1) * cell_count (counts ss) < count_of s * cell_count (counts ss) = rw (em, en) at b in
    rw (em, en) (row_head s ss r d sound.0 (omega (arith, em, l)) bound)
row_step (s ∷ ss) (suc i) r d m n sound h em en l b =
    let div = divides_at ss i (omega arith) in
    let q = div.0 in
    let cells : cell_count (counts ss) ≡ div.0 * (m * n) = div.1 ∙ ap (λ c. div.0 * (c * cell_count (counts (drop (suc i) ss)))) (sym em) ∙ ap (λ c. div.0 * (m * c)) (sym en) in
    let some_c = (some_factor (count_of s) (cell_count (counts ss)) _ b).1 in
    let both = some_factor div.0 (m * n) 0 (omega (arith, some_c, cells)) in
    let some_n = (some_factor m n 0 (omega (arith, both.1))).1 in
    let row = mul-le (suc (d + 1)) n m n (omega (arith, l)) (omega arith) in
    let up : (d + 1) * n < m * n = omega (arith, row, some_n) in
    let here : d * n < m * n = omega (arith, up) in
    let room : r % div.0 * (m * n) + (d + 1) * n < cell_count (counts ss) =
    (let less = mod_below r div.0 both.0 in
    let wide = mul-le (suc (r % div.0)) (m * n) div.0 (m * n) (omega (arith, less)) (omega arith) in
    omega (arith, wide, up, cells)) in
    let rest = row_step ss i (r % q) d m n sound.1 (omega arith) em en l room in
    lifted s ss q (m * n) ((d + 1) * n) (d * n) r _ _ cells both.0 up here rest

drop_more_at : (ss : List Side) (i : ℕ) (z : Side) → i < length ss → drop i ss ≡ get_or ss i z ∷ drop (suc i) ss
drop_more_at ss i z h =
    let next : i + 1 ≡ suc i = omega arith in
    drop_more ss i z h ∙ ap (λ j. get_or ss i z ∷ drop j ss) next

-- ---- the axes behind the row's

pub record IsTail (r : Numbered) (i p o : ℕ) : Type 0 where
  pub len : r.len ≡ cell_count (counts (drop i (sides_of r)))
  pub indices : p ≡ cell_count (extents_to (drop i (sides_of r)))
  pub offsets : o ≡ cell_count (wides (drop i (sides_of r)))

last_tail : (ss : List Side) (k : ℕ) → length ss ≡ suc k → (last_count ss ≡ cell_count (counts (drop k ss))) × (drop k ss ≡ get_or ss k no_side ∷ [])
last_tail [] k h = absurd (omega (arith, h))
last_tail (s ∷ []) zero h = (omega arith, refl)
last_tail (s ∷ []) (suc k) h = absurd (omega (arith, h))
last_tail (s ∷ (t ∷ ss)) zero h = absurd (omega (arith, h))
last_tail (s ∷ (t ∷ ss)) (suc k) h = last_tail (t ∷ ss) k (omega (arith, h))

factors_most : (f : Side → ℕ) (ss : List Side) (i : ℕ) → 0 < cell_count (map f ss) → cell_count (map f (drop i ss)) ≤ cell_count (map f ss)
factors_most f [] zero h = omega arith
factors_most f [] (suc i) h = omega arith
factors_most f (s ∷ ss) zero h = omega arith
factors_most f (s ∷ ss) (suc i) h =
    let both = some_factor (f s) (cell_count (map f ss)) 0 h in
    let rest = factors_most f ss i both.1 in
    omega (arith, rest, mul-le 1 (cell_count (map f ss)) (f s) (cell_count (map f ss)) both.0 (omega arith))

factor_some : (f : Side → ℕ) (ss : List Side) (i : ℕ) → i < length ss → 0 < cell_count (map f ss) → 0 < f (get_or ss i no_side)
factor_some f [] i l h = absurd (omega arith)
factor_some f (s ∷ ss) zero l h = (some_factor (f s) (cell_count (map f ss)) 0 h).0
factor_some f (s ∷ ss) (suc i) l h = factor_some f ss i (omega arith) (some_factor (f s) (cell_count (map f ss)) 0 h).1

-- what a box of some cells has
pub record IsFilled (r : Numbered) : Type 0 where
  pub some_cells : 0 < cell_count (counts (sides_of r))
  pub some_indices : 0 < cell_count (extents_to (sides_of r))
  pub some_offsets : 0 < cell_count (wides (sides_of r))
  pub indices_most : cell_count (extents_to (sides_of r)) ≤ MAX_SELECTED
  pub offsets_most : cell_count (wides (sides_of r)) ≤ MAX_CHUNK_BYTES

pub filled : (r : Numbered) → AreNumbered r → 0 < r.many → IsFilled r
filled r h l =
    let parts = runs_sided r h in
    let some = number_below r 0 0 h l (h.some_len 0 l) in
    let pos : 0 < cell_count (counts (sides_of r)) = omega (arith, some) in
    let fewer = counts_le (sides_of r) parts.sound in
    let dims = subst (λ ns. All IsChunkDim ns) parts.side h.chunk.dims in
    record {
      some_cells = pos;
      some_indices = omega (arith, pos, fewer);
      some_offsets = wide_some (sides_of r) 0 dims;
      indices_most = omega (arith, ap cell_count parts.extents, cell_count-room (extents r.slab), h.slab.room);
      offsets_most = omega (arith, ap cell_count parts.side, h.chunk.cells);
    }

pub tail_first : (r : Numbered) (k p o : ℕ) → AreNumbered r → length r.counts ≡ suc k → p ≡ get_or r.extents k 0 → o ≡ get_or r.chunk k 0 → IsTail r k p o
tail_first r k p o h l ep eo =
    let ss = sides_of r in
    let parts = runs_sided r h in
    let long : length (sides_of r) ≡ suc k = omega (arith, l, ap length h.counts, length-map (sides_of r) count_of) in
    let last = last_tail ss k long in
    let within : k < length (sides_of r) = omega (arith, long) in
    record {
      len = h.len ∙ last.0;
      indices = ep ∙ got extent_of ss r.extents k (h.extents ∙ parts.extents) within ∙ omega arith ∙ ap (λ ts. cell_count (extents_to ts)) (sym last.1);
      offsets = eo ∙ got wide_of ss r.chunk k parts.side within ∙ omega arith ∙ ap (λ ts. cell_count (wides ts)) (sym last.1);
    }

pub tail_from : (r : Numbered) (i j p o : ℕ) → i ≡ j → IsTail r i p o → IsTail r j p o
tail_from r i j p o e tail = subst (λ n. IsTail r n p o) e tail

-- with one axis more, which has one number in the box
pub record IsNext (r : Numbered) (i p o e w : ℕ) : Type 0 where
  pub indices_fit : p * e ≤ MAX_SELECTED
  pub offsets_fit : o * w ≤ MAX_CHUNK_BYTES
  pub tail : IsTail r i (p * e) (o * w)

pub tail_next : (r : Numbered) (i m p o e w : ℕ) → AreNumbered r → 0 < r.many → i < length r.counts → IsTail r (suc i) p o
    → m ≡ get_or r.counts i 0 → m ≤ 1 → e ≡ get_or r.extents i 0 → w ≡ get_or r.chunk i 0 → IsNext r i p o e w
tail_next r i m p o e w h some l tail em few ee ew =
    let ss = sides_of r in
    let parts = runs_sided r h in
    let box = filled r h some in
    let long : i < length (sides_of r) = omega (arith, l, ap length h.counts, length-map (sides_of r) count_of) in
    let opened = drop_more_at ss i no_side long in
    let one : count_of (get_or ss i no_side) ≡ 1 = omega (arith, em ∙ got count_of ss r.counts i h.counts long, few, factor_some count_of ss i long box.some_cells) in
    let len : r.len ≡ cell_count (counts (drop i (sides_of r))) =
    tail.len ∙ omega arith ∙ ap (λ n. n * cell_count (counts (drop (suc i) ss))) (sym one) ∙ ap (λ ts. cell_count (counts ts)) (sym opened) in
    let indices : p * e ≡ cell_count (extents_to (drop i (sides_of r))) =
    ap (λ n. n * e) tail.indices ∙ ap (λ n. cell_count (extents_to (drop (suc i) ss)) * n) (ee ∙ got extent_of ss r.extents i (h.extents ∙ parts.extents) long) ∙ omega arith ∙ ap (λ ts. cell_count (extents_to ts)) (sym opened) in
    let offsets : o * w ≡ cell_count (wides (drop i (sides_of r))) =
    ap (λ n. n * w) tail.offsets ∙ ap (λ n. cell_count (wides (drop (suc i) ss)) * n) (ew ∙ got wide_of ss r.chunk i parts.side long) ∙ omega arith ∙ ap (λ ts. cell_count (wides ts)) (sym opened) in
    record {
      indices_fit = omega (arith, indices, factors_most extent_of ss i box.some_indices, box.indices_most);
      offsets_fit = omega (arith, offsets, factors_most wide_of ss i box.some_offsets, box.offsets_most);
      tail = record { len = len; indices = indices; offsets = offsets };
    }

-- ---- the row along an axis

abbrev pub record_row : ℕ → ℕ → ℕ → Row
record_row m p o = record { many = m; index_step = p; offset_step = o }

-- a step of an axis with two numbers in the box is less than the box is wide
pub step_fits : (r : Numbered) (i m p o c : ℕ) → AreNumbered r → 0 < r.many → i < length r.counts → IsTail r (suc i) p o → m ≡ get_or r.counts i 0 → 1 < m → c ≡ get_or r.slab.step i 0 → c * o ≤ MAX_CHUNK_BYTES
step_fits r i m p o c h some l tail em several ec =
    let ss = sides_of r in
    let s = get_or ss i no_side in
    let parts = runs_sided r h in
    let box = filled r h some in
    let long : i < length (sides_of r) = omega (arith, l, ap length h.counts, length-map (sides_of r) count_of) in
    let axis = sound_at ss i parts.sound long in
    let count : 1 < count_of s = omega (arith, several, em ∙ got count_of ss r.counts i h.counts long) in
    let low = axis_in s.axis.lo s.axis.hi s.axis.by s.low s.wide (first_of s + 0) axis.2 (omega arith) (omega (arith, count)) in
    let high = axis_in s.axis.lo s.axis.hi s.axis.by s.low s.wide (first_of s + 1) axis.2 (omega arith) (omega (arith, count)) in
    let spread : (first_of s + 1) * s.axis.by ≡ (first_of s + 0) * s.axis.by + s.axis.by = omega arith in
    let small : c ≤ wide_of s = omega (arith, low.1, high.2, spread, ec ∙ got by_of ss r.slab.step i parts.steps long) in
    let wide : wide_of s * cell_count (wides (drop (suc i) ss)) ≡ cell_count (wides (drop i ss)) = ap (λ ts. cell_count (wides ts)) (sym (drop_more_at ss i no_side long)) in
    omega (arith, mul-le c o (wide_of s) (cell_count (wides (drop (suc i) ss))) small (omega (arith, tail.offsets)), wide, factors_most wide_of ss i box.some_offsets, box.offsets_most)

along_goes : (r : Numbered) (i k m p o c : ℕ) → AreNumbered r → i < length (sides_of r) → IsTail r (suc i) p o → m ≡ count_of (get_or (sides_of r) i no_side) → 1 < m → c ≡ by_of (get_or (sides_of r) i no_side)
    → k + 1 < r.many → 0 < (k + 1) % m → run_of r (k + 1) ≡ moved (record_row m p (c * o)) (run_of r k)
along_goes r i k m p o c h long tail m_is several c_is below more =
    let ss = sides_of r in
    let parts = runs_sided r h in
    let n = r.len in
    let q = (k + 1) / m in
    let d = (k + 1) % m - 1 in
    let split = div-add-mod' (k + 1) m in
    let less = mod_below (k + 1) m (omega (arith, several)) in
    let digit : (k + 1) % m ≡ d + 1 = omega (arith, more) in
    let number : k ≡ q * m + d = omega (arith, split, digit) in
    let up : (k + 1) * n ≡ q * (m * n) + (d + 1) * n = ap (λ j. (j + 1) * n) number ∙ omega arith in
    let here : k * n ≡ q * (m * n) + d * n = ap (λ j. j * n) number ∙ omega arith in
    let inside = number_below r (k + 1) 0 h below (h.some_len (k + 1) below) in
    let step = row_step ss i q d m n parts.sound long m_is tail.len (omega (arith, less, digit)) (omega (arith, inside, up)) in
    let indices : index_to ss ((k + 1) * n) ≡ index_to ss (k * n) + p =
    ap (index_to ss) up ∙ step.0 ∙ ap (λ j. index_to ss j + cell_count (extents_to (drop (suc i) ss))) (sym here) ∙ ap (λ x. index_to ss (k * n) + x) (sym tail.indices) in
    let apart : by_of (get_or ss i no_side) * cell_count (wides (drop (suc i) ss)) ≡ c * o = ap (λ x. x * cell_count (wides (drop (suc i) ss))) (sym c_is) ∙ ap (λ x. c * x) (sym tail.offsets) in
    let offsets : offset_to ss ((k + 1) * n) ≡ offset_to ss (k * n) + c * o =
    ap (offset_to ss) up ∙ step.1 ∙ ap (λ j. offset_to ss j + by_of (get_or ss i no_side) * cell_count (wides (drop (suc i) ss))) (sym here) ∙ ap (λ x. offset_to ss (k * n) + x) apart in
    same_run _ _ _ _ r.stride r.len indices offsets

pub row_along : (r : Numbered) (i m p o c : ℕ) → AreNumbered r → i < length r.counts → IsTail r (suc i) p o → m ≡ get_or r.counts i 0 → 1 < m → c ≡ get_or r.slab.step i 0 → IsRow r (record_row m p (c * o))
row_along r i m p o c h l tail em several ec =
    let ss = sides_of r in
    let parts = runs_sided r h in
    let long : i < length (sides_of r) = omega (arith, l, ap length h.counts, length-map (sides_of r) count_of) in
    let m_is : m ≡ count_of (get_or ss i no_side) = em ∙ got count_of ss r.counts i h.counts long in
    let c_is : c ≡ by_of (get_or ss i no_side) = ec ∙ got by_of ss r.slab.step i parts.steps long in
    record { some = omega (arith, several); goes = λ k below more. along_goes r i k m p o c h long tail m_is several c_is below more }

pub row_single : (r : Numbered) (w : Row) → w.many ≡ 1 → IsRow r w
row_single r w e = record {
  some = omega (arith, e);
  goes = λ k below more.
      let none : (k + 1) % 1 ≡ 0 = omega arith in
      absurd (omega (arith, more, ap (λ m. (k + 1) % m) e, none));
}

-- ---- one run after another

none_over : (m : ℕ) → 0 < m → 0 % m ≡ 0
none_over m h =
    let none : 0 ≡ 0 * m + 0 = omega arith in
    ap (λ n. n % m) none ∙ mod-mul-add 0 m 0 h

-- where some of a row are left, a run came before, and the next is of its row
pub inside_row : (r : Numbered) (w : Row) (k : ℕ) (x : Last) → IsLast r w k x → 0 < x.left → (0 < k % w.many) × (0 < k)
inside_row r w k x h l =
    let m = w.many in
    let inner : 0 < k % w.many = elim (cases_lt 0 (k % w.many)) [
      | inl some ↦ some
      | inr none_left ↦
          let zero_digit : k % w.many ≡ 0 = omega (arith, none_left) in
          let whole : k + x.left ≡ k / m * m + x.left = ap (λ n. n + x.left) (sym (div-add-mod' k m) ∙ ap (λ d. k / m * m + d) zero_digit) ∙ omega arith in
          absurd (omega (arith, l, h.ends, ap (λ n. n % m) whole ∙ mod-mul-add (k / m) m x.left h.few))
    ] in (
      inner,
      elim (cases_lt 0 k) [
        | inl some ↦ some
        | inr none_left ↦
            let none : k ≡ 0 = omega (arith, none_left) in
            let small : 0 % w.many ≡ 0 = none_over m (omega (arith, h.few)) in
            absurd (omega (arith, inner, ap (λ n. n % m) none, small))
      ],
    )

-- the next run is the one before it moved
pub record IsMoved (r : Numbered) (w : Row) (k : ℕ) (x : Last) : Type 0 where
  pub run : run_of r k ≡ moved w x.run
  pub index_fits : x.run.place + w.index_step ≤ MAX_SELECTED
  pub offset_fits : x.run.offset + w.offset_step ≤ MAX_CHUNK_BYTES

pub is_moved : (r : Numbered) (w : Row) (k : ℕ) (x : Last) → AreNumbered r → IsRow r w → k < r.many → IsLast r w k x → 0 < x.left → IsMoved r w k x
is_moved r w k x h row below last some =
    let inside = inside_row r w k x last some in
    let before : k - 1 + 1 ≡ k = omega (arith, inside.1) in
    let goes = row.goes (k - 1) (omega (arith, before, below)) (omega (arith, inside.0, ap (λ n. n % w.many) before)) in
    let run : run_of r k ≡ moved w x.run = ap (run_of r) (sym before) ∙ goes ∙ ap (moved w) (sym (last.run some)) in
    let small = number_small r k h below in
    record {
      run = run;
      index_fits = omega (arith, ap (λ y. y.place) run, small.place);
      offset_fits = omega (arith, ap (λ y. y.offset) run, small.offset);
    }

-- the run that was found is the last, with one less of its row left
pub last_inside : (r : Numbered) (w : Row) (k : ℕ) (x y : Last) → IsLast r w k x → 0 < x.left → y.left ≡ x.left - 1 → y.run ≡ run_of r k → IsLast r w (k + 1) y
last_inside r w k x y last some left run =
    let same : k + 1 + y.left ≡ k + x.left = omega (arith, some, left) in
    let at : k ≡ k + 1 - 1 = omega arith in
    record {
      ends = ap (λ n. n % w.many) same ∙ last.ends;
      few = omega (arith, left, last.few);
      run = λ h. run ∙ ap (run_of r) at;
    }

pub last_first : (r : Numbered) (w : Row) (k : ℕ) (x y : Last) → IsRow r w → IsLast r w k x → x.left ≡ 0 → y.left ≡ w.many - 1 → y.run ≡ run_of r k → IsLast r w (k + 1) y
last_first r w k x y row last none left run =
    let m = w.many in
    let start : k + x.left ≡ k = omega (arith, none) in
    let digit : k % w.many ≡ 0 = ap (λ n. n % m) (sym start) ∙ last.ends in
    let whole : k + 1 + y.left ≡ (k / m + 1) * m + 0 =
    (let parts : k ≡ k / m * m + 0 = sym (div-add-mod' k m) ∙ ap (λ d. k / m * m + d) digit in
    omega (arith, parts, left, row.some)) in
    let at : k ≡ k + 1 - 1 = omega arith in
    record {
      ends = ap (λ n. n % m) whole ∙ mod-mul-add (k / m + 1) m 0 (omega (arith, row.some));
      few = omega (arith, left, row.some);
      run = λ h. run ∙ ap (run_of r) at;
    }

pub last_none : (r : Numbered) (w : Row) (x : Last) → IsRow r w → x.left ≡ 0 → IsLast r w 0 x
last_none r w x row e =
    let m = w.many in
    let none : 0 + x.left ≡ 0 = omega (arith, e) in
    record {
      ends = ap (λ n. n % m) none ∙ none_over m (omega (arith, row.some));
      few = omega (arith, e, row.some);
      run = λ h. absurd (omega (arith, h, e));
    }
