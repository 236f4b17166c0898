-- The chunks in which a selection has cells.
use Rattle.std.proofs.Common.{◌≡◌, ℕ, zero, suc, ◌+◌, ◌*◌, ◌-◌, ◌^◌, ◌/◌, ◌%◌, ◌<◌, ◌≤◌, true, false, nat_eq, nat_le, All, List, [], ◌∷◌, ◌++◌, length, drop, get_or, map, inl, inr, refl, sym, ap, subst, ◌∙◌, arith}
use Rattle.std.proofs.Math.Nat.{mul-div_cancel_left, div-mul-le_self}
use Rattle.std.proofs.lemmas.Nat.{mul-le, le-div, div_below, mod_below, div-add-mod'}
use Rattle.std.proofs.lemmas.Bool.{cases_lt, le-leb}
use Rattle.std.proofs.lemmas.Bool.Decides.{nat_tests}
use Rattle.std.proofs.lemmas.List.{drop_more, drop_all, append_assoc, append-nil}
use Rattle.std.proofs.lemmas.List.Elements.{All-nil, All-cons, All-head, All-tail}
use Rattle.shapes.specs.RowMajor.{cell_count, digits_by, IsInside, linear_index}
use Rattle.shapes.specs.declared.TheConstants.{MAX_EXTENT}
use Rattle.shapes.proofs.RowMajorLemmas.{index_below, some_factor}
use Rattle.shapes.proofs.CellLemmas.{digits_in}
use Rattle.hyperslab.specs.Selected.{AreAxes, IsAxis, IsSlab, axes_of, extent, extents, point}
use Rattle.hyperslab.specs.declared.Slab.{Slab}
use Rattle.hyperslab.specs.Numbered.{Side, extent_of, wide_of}
use Rattle.hyperslab.proofs.SelectLemmas.{point_below}
use Rattle.hyperslab.proofs.AxisLemmas.{axis_with}
use Rattle.hyperslab.proofs.CellLemmas.{cell_indexed, digits_back}
use Rattle.hyperslab.proofs.BoxLemmas.{axis_of, low_of, extents_to, wides}
use Rattle.hyperslab.proofs.SideLemmas.{IsSided, sided, got, no_side, lo_of, hi_of, by_of, sound_at}
use Rattle.chunk_layout.specs.Chunks.{IsChunk, IsChunkDim, quotients}
use Rattle.chunk_layout.proofs.CellLemmas.{dim_at}
use Rattle.chunk_store.specs.Indexes.{IsIndex}
use Rattle.chunk_store.specs.declared.touched.Touched.{Touched}
use Rattle.chunk_store.specs.Touched.{AreTouched, chunk_at, chunks_to, layers, side_at, slots_of, touched_at, touched_count}

-- ---- one axis

slots_none : (s : Side) → extent s.axis ≡ 0 → slots_of s ≡ 0
slots_none s h =
    let none : nat_eq (extent s.axis) 0 ≡ true = grind (arith, nat_tests) in
    rw none refl

some_extent : (s : Side) → 0 < extent s.axis → nat_eq (extent s.axis) 0 ≡ false
some_extent s h = grind (arith, nat_tests)

slots_near : (s : Side) → 0 < extent s.axis → s.axis.by ≤ s.wide → slots_of s ≡ (s.axis.lo + (extent s.axis - 1) * s.axis.by) / s.wide - s.axis.lo / s.wide + 1
slots_near s h k = rw (some_extent s h, le-leb s.axis.by s.wide k) refl

not_near : (s : Side) → s.wide < s.axis.by → nat_le s.axis.by s.wide ≡ false
not_near s h = grind (arith, nat_tests)

slots_far : (s : Side) → 0 < extent s.axis → s.wide < s.axis.by → slots_of s ≡ extent s.axis
slots_far s h k = rw (some_extent s h, not_near s k) refl

chunk_near : (s : Side) (t : ℕ) → s.axis.by ≤ s.wide → chunk_at s t ≡ s.axis.lo / s.wide + t
chunk_near s t k = rw (le-leb s.axis.by s.wide k) refl

chunk_far : (s : Side) (t : ℕ) → s.wide < s.axis.by → chunk_at s t ≡ (s.axis.lo + t * s.axis.by) / s.wide
chunk_far s t k = rw (not_near s k) refl

pub div_up : (a b w : ℕ) → 0 < w → a ≤ b → a / w ≤ b / w
div_up a b w h k = le-div (a / w) b w h (omega (arith, div-mul-le_self a w))

pub slots_few : (s : Side) → 1 ≤ s.wide → slots_of s ≤ extent_of s
slots_few s h = elim (cases_lt 0 (extent s.axis)) [
  | inr none ↦
      let none_e : extent s.axis ≡ 0 = omega arith in
      omega (arith, slots_none s none_e)
  | inl some ↦ elim (cases_lt s.wide s.axis.by) [
    | inl far ↦ omega (arith, slots_far s some far)
    | inr near ↦
        let e = extent s.axis in
        let q = s.axis.lo / s.wide in
        let wider = mul-le (extent s.axis - 1) s.axis.by (extent s.axis - 1) s.wide (omega arith) near in
        let grown : (s.axis.lo / s.wide + extent s.axis) * s.wide ≡ s.axis.lo / s.wide * s.wide + s.wide + (extent s.axis - 1) * s.wide =
        (let split : s.axis.lo / s.wide + extent s.axis ≡ s.axis.lo / s.wide + 1 + (extent s.axis - 1) = omega arith in
        ap (λ n. n * s.wide) split ∙ omega arith) in
        let rest = mod_below s.axis.lo s.wide (omega arith) in
        let whole = div-add-mod' s.axis.lo s.wide in
        let low = div_below (s.axis.lo + (extent s.axis - 1) * s.axis.by) s.wide (s.axis.lo / s.wide + extent s.axis) (omega arith) (omega (arith, wider, grown, rest, whole)) in
        omega (arith, slots_near s some near, low)
  ]
]

pub slot_in : (s : Side) (k : ℕ) → 1 ≤ s.wide → k < extent s.axis → (t : ℕ) × (t < slots_of s) × (chunk_at s t ≡ (s.axis.lo + k * s.axis.by) / s.wide)
slot_in s k h l = elim (cases_lt s.wide s.axis.by) [
  | inl far ↦ (k, omega (arith, slots_far s (omega arith) far, l), chunk_far s k far)
  | inr near ↦
      let some : 0 < extent s.axis = omega arith in
      let steps = mul-le k s.axis.by (extent s.axis - 1) s.axis.by (omega (arith, l)) (omega arith) in
      let low = div_up s.axis.lo (s.axis.lo + k * s.axis.by) s.wide (omega arith) (omega arith) in
      let high = div_up (s.axis.lo + k * s.axis.by) (s.axis.lo + (extent s.axis - 1) * s.axis.by) s.wide (omega arith) (omega (arith, steps)) in
      ((s.axis.lo + k * s.axis.by) / s.wide - s.axis.lo / s.wide, omega (arith, slots_near s some near, low, high), chunk_near s _ near ∙ omega (arith, low))
]

-- with steps no wider than a chunk, none is left out between the first number's and a later one's
none_between : (a c w q k : ℕ) → 0 < w → c ≤ w → a / w ≤ q → q ≤ (a + k * c) / w → (j : ℕ) × (j ≤ k) × ((a + j * c) / w ≡ q)
none_between a c w q zero h l m n =
    let none : a + 0 * c ≡ a = omega arith in
    let here = ap (λ x. x / w) none in
    (0, omega arith, omega (arith, here, m, n))
none_between a c w q (suc k) h l m n = elim (cases_lt ((a + k * c) / w) q) [
  | inr there ↦
      let rest = none_between a c w q k h l m (omega (arith, there)) in
      (rest.0, omega (arith, rest.1), rest.2)
  | inl past ↦
      let whole = div-add-mod' (a + k * c) w in
      let part = mod_below (a + k * c) w h in
      let grown : ((a + k * c) / w + 2) * w ≡ (a + k * c) / w * w + w + w = omega arith in
      let next : a + suc k * c ≡ a + k * c + c = omega arith in
      let up = div_below (a + suc k * c) w ((a + k * c) / w + 2) h (omega (arith, whole, part, grown, next, l)) in
      (suc k, omega arith, omega (arith, up, past, n))
]

slot_some : (s : Side) (t : ℕ) → 1 ≤ s.wide → t < slots_of s → (k : ℕ) × (k < extent s.axis) × ((s.axis.lo + k * s.axis.by) / s.wide ≡ chunk_at s t)
slot_some s t h l = elim (cases_lt 0 (extent s.axis)) [
  | inr none ↦
      let none_e : extent s.axis ≡ 0 = omega arith in
      absurd (omega (arith, slots_none s none_e, l))
  | inl some ↦ elim (cases_lt s.wide s.axis.by) [
    | inl far ↦ (t, omega (arith, l, slots_far s some far), sym (chunk_far s t far))
    | inr near ↦
        let low = div_up s.axis.lo (s.axis.lo + (extent s.axis - 1) * s.axis.by) s.wide (omega arith) (omega arith) in
        let few : s.axis.lo / s.wide + t ≤ (s.axis.lo + (extent s.axis - 1) * s.axis.by) / s.wide = omega (arith, l, slots_near s some near, low) in
        let found = none_between s.axis.lo s.axis.by s.wide (s.axis.lo / s.wide + t) (extent s.axis - 1) (omega arith) near (omega arith) few in
        (found.0, omega (arith, found.1, some), found.2 ∙ sym (chunk_near s t near))
  ]
]

pub slot_small : (s : Side) (t : ℕ) → IsAxis s.axis → 1 ≤ s.wide → t < slots_of s → chunk_at s t * s.wide ≤ MAX_EXTENT
slot_small s t axis h l = elim (cases_lt 0 (extent s.axis)) [
  | inr none ↦
      let none_e : extent s.axis ≡ 0 = omega arith in
      absurd (omega (arith, slots_none s none_e, l))
  | inl some ↦ elim (cases_lt s.wide s.axis.by) [
    | inl far ↦
        let below = point_below s.axis.lo s.axis.hi s.axis.by t axis.2 (omega (arith, l, slots_far s some far)) in
        let down = div-mul-le_self (s.axis.lo + t * s.axis.by) s.wide in
        omega (arith, below, down, ap (λ n. n * s.wide) (chunk_far s t far), axis.1)
    | inr near ↦
        let last = point_below s.axis.lo s.axis.hi s.axis.by (extent s.axis - 1) axis.2 (omega (arith, some)) in
        let low = div_up s.axis.lo (s.axis.lo + (extent s.axis - 1) * s.axis.by) s.wide (omega arith) (omega arith) in
        let few : s.axis.lo / s.wide + t ≤ (s.axis.lo + (extent s.axis - 1) * s.axis.by) / s.wide = omega (arith, l, slots_near s some near, low) in
        let up = mul-le (s.axis.lo / s.wide + t) s.wide ((s.axis.lo + (extent s.axis - 1) * s.axis.by) / s.wide) s.wide few (omega arith) in
        let down = div-mul-le_self (s.axis.lo + (extent s.axis - 1) * s.axis.by) s.wide in
        omega (arith, last, up, down, ap (λ n. n * s.wide) (chunk_near s t near), axis.1)
  ]
]

-- ---- all axes

touched_from : (ss : List Side) (ks : List ℕ) → All IsChunkDim (wides ss) → IsInside ks (extents_to ss) → (ts : List ℕ) × IsInside ts (map slots_of ss) × (chunks_to ss ts ≡ quotients (point ks (map axis_of ss)) (wides ss))
touched_from [] [] h l = ([], tt, refl)
touched_from [] (k ∷ ks) h l = absurd l
touched_from (s ∷ ss) [] h l = absurd l
touched_from (s ∷ ss) (k ∷ ks) h l =
    let here = slot_in s k (All-head IsChunkDim (wide_of s) (wides ss) h).0 l.0 in
    let rest = touched_from ss ks (All-tail IsChunkDim (wide_of s) (wides ss) h) l.1 in
    (here.0 ∷ rest.0, (here.1, rest.1), ap (λ n. n ∷ chunks_to ss rest.0) here.2 ∙ ap (λ ns. (s.axis.lo + k * s.axis.by) / s.wide ∷ ns) rest.2)

some_from : (ss : List Side) (ts : List ℕ) → All IsChunkDim (wides ss) → IsInside ts (map slots_of ss) → (ks : List ℕ) × IsInside ks (extents_to ss) × (quotients (point ks (map axis_of ss)) (wides ss) ≡ chunks_to ss ts)
some_from [] [] h l = ([], tt, refl)
some_from [] (t ∷ ts) h l = absurd l
some_from (s ∷ ss) [] h l = absurd l
some_from (s ∷ ss) (t ∷ ts) h l =
    let here = slot_some s t (All-head IsChunkDim (wide_of s) (wides ss) h).0 l.0 in
    let rest = some_from ss ts (All-tail IsChunkDim (wide_of s) (wides ss) h) l.1 in
    (here.0 ∷ rest.0, (here.1, rest.1), ap (λ n. n ∷ quotients (point rest.0 (map axis_of ss)) (wides ss)) here.2 ∙ ap (λ ns. chunk_at s t ∷ ns) rest.2)

index_from : (ss : List Side) (ts : List ℕ) → AreAxes (map axis_of ss) → All IsChunkDim (wides ss) → IsInside ts (map slots_of ss) → IsIndex (wides ss) (chunks_to ss ts)
index_from [] [] a h l = record { rank = refl; small = All-nil (λ q. q < 2 ^ 32) }
index_from [] (t ∷ ts) a h l = absurd l
index_from (s ∷ ss) [] a h l = absurd l
index_from (s ∷ ss) (t ∷ ts) a h l =
    let wide = (All-head IsChunkDim (wide_of s) (wides ss) h).0 in
    let rest = index_from ss ts a.1 (All-tail IsChunkDim (wide_of s) (wides ss) h) l.1 in
    let small = slot_small s t a.0 wide l.0 in
    let least = mul-le (chunk_at s t) 1 (chunk_at s t) s.wide (omega arith) wide in
    record { rank = ap suc rest.rank; small = All-cons (λ q. q < 2 ^ 32) (chunk_at s t) (chunks_to ss ts) (omega (arith, small, least)) rest.small }

pub layered : (s : Slab) (chunk : List ℕ) → IsSlab s → length chunk ≡ length s.start → IsSided s chunk chunk (layers s chunk)
layered s chunk h l = sided s chunk chunk h l l

pub touched_index : (s : Slab) (chunk : List ℕ) (b : ℕ) → IsSlab s → IsChunk chunk → length chunk ≡ length s.start → b < touched_count s chunk → IsIndex chunk (touched_at s chunk b)
touched_index s chunk b h k l m =
    let ss = layers s chunk in
    let parts = layered s chunk h l in
    let dims = subst (λ ns. All IsChunkDim ns) parts.side k.dims in
    let lies = digits_in (map slots_of ss) b m in
    subst (λ ns. IsIndex ns (touched_at s chunk b)) (sym parts.side) (index_from ss (digits_by (map slots_of ss) b) parts.sound dims lies.0)

pub touched : (s : Slab) (chunk : List ℕ) → IsSlab s → IsChunk chunk → length chunk ≡ length s.start → AreTouched s chunk
touched s chunk h k l =
    let ss = layers s chunk in
    let parts = layered s chunk h l in
    let wide = subst (λ ns. All IsChunkDim ns) parts.side k.dims in
    let same = λ (ks : List ℕ). ap (λ xs. quotients (point ks xs) (wides ss)) parts.axes ∙ ap (quotients (point ks (axes_of s))) (sym parts.side) in
    record {
      each = λ p low.
          let lies = digits_in (extents s) p low in
          let ks = digits_by (extents s) p in
          let made = touched_from ss ks wide (subst (λ ns. IsInside ks ns) parts.extents lies.0) in
          (linear_index made.0 (map slots_of ss), index_below made.0 (map slots_of ss) made.1, ap (chunks_to ss) (digits_back made.0 (map slots_of ss) made.1) ∙ made.2 ∙ same ks);
      some = λ b low.
          let lies = digits_in (map slots_of ss) b low in
          let made = some_from ss (digits_by (map slots_of ss) b) wide lies.0 in
          let inside = subst (λ ns. IsInside made.0 ns) (sym parts.extents) made.1 in
          (linear_index made.0 (extents s), index_below made.0 (extents s) inside, ap (λ at. quotients at chunk) (cell_indexed s made.0 h inside) ∙ sym (same made.0) ∙ made.2);
    }

-- ---- the walks

mk : ℕ → ℕ → ℕ → ℕ → ℕ → Side
mk a b c l w = record { axis = axis_with a b c; low = l; wide = w }

mk_same : (a b c l w d e f m x : ℕ) → a ≡ d → b ≡ e → c ≡ f → l ≡ m → w ≡ x → mk a b c l w ≡ mk d e f m x
mk_same a b c l w d e f m x h i j k n = rw (h, i, j, k, n) refl

mk_parts : (s : Side) → mk (lo_of s) (hi_of s) (by_of s) (low_of s) (wide_of s) ≡ s
unfolding mk
mk_parts s = refl

mk_side : (a b c n : ℕ) → side_at a b c n ≡ mk a b c n n
unfolding mk
mk_side a b c n = refl

pub record IsLayer (s : Slab) (chunk : List ℕ) (i a b c n : ℕ) : Type 0 where
  pub inside : i < length (layers s chunk)
  pub same : side_at a b c n ≡ get_or (layers s chunk) i no_side
  pub axis : IsAxis (side_at a b c n).axis
  pub wide : 1 ≤ n
  pub extent : get_or (extents s) i 0 ≡ extent (side_at a b c n).axis

pub layer : (s : Slab) (chunk : List ℕ) → IsSlab s → IsChunk chunk → length chunk ≡ length s.start → (i a b c n : ℕ) → i < length s.start → a ≡ get_or s.start i 0 → b ≡ get_or s.stop i 0 → c ≡ get_or s.step i 0 → n ≡ get_or chunk i 0
    → IsLayer s chunk i a b c n
layer s chunk h k l i a b c n within ea eb ec en =
    let ss = layers s chunk in
    let parts = layered s chunk h l in
    let long : i < length (layers s chunk) = omega (arith, parts.long) in
    let t = get_or ss i no_side in
    let same : side_at a b c n ≡ t = mk_side a b c n ∙ mk_same a b c n n (lo_of t) (hi_of t) (by_of t) (low_of t) (wide_of t) (ea ∙ got lo_of ss s.start i parts.starts long) (eb ∙ got hi_of ss s.stop i parts.stops long) (ec ∙ got by_of ss s.step i parts.steps long)
    (en ∙ got low_of ss chunk i parts.origin long) (en ∙ got wide_of ss chunk i parts.side long) ∙ mk_parts t in
    record {
      inside = long;
      same = same;
      axis = subst (λ x. IsAxis (axis_of x)) (sym same) (sound_at ss i parts.sound long);
      wide = omega (arith, en, dim_at chunk i k.dims (omega (arith, l)));
      extent = got extent_of ss (extents s) i parts.extents long ∙ ap extent_of (sym same);
    }

-- how many slots the side has was found
pub record IsCounted (s : Slab) (chunk : List ℕ) (i found : ℕ) : Type 0 where
  pub inside : i < length (layers s chunk)
  pub is : found ≡ slots_of (get_or (layers s chunk) i no_side)
  pub few : found ≤ extent_of (get_or (layers s chunk) i no_side)

pub counted : (s : Slab) (chunk : List ℕ) (i a b c n found : ℕ) → IsLayer s chunk i a b c n → found ≡ slots_of (side_at a b c n) → IsCounted s chunk i found
counted s chunk i a b c n found known is = record {
  inside = known.inside;
  is = is ∙ ap slots_of known.same;
  few = omega (arith, is, slots_few (side_at a b c n) known.wide, ap extent_of known.same);
}

pub product_next : (f : Side → ℕ) (ss : List Side) (i t m all : ℕ) → i < length ss → m ≡ f (get_or ss i no_side) → t * cell_count (map f (drop i ss)) ≡ all → t * m * cell_count (map f (drop (i + 1) ss)) ≡ all
product_next f ss i t m all h e whole =
    let rest = rw (drop_more ss i no_side h) at whole in
    let c = cell_count (map f (drop (i + 1) ss)) in
    let same : t * m * cell_count (map f (drop (i + 1) ss)) ≡ t * (f (get_or ss i no_side) * cell_count (map f (drop (i + 1) ss))) = ap (λ n. t * n * c) e ∙ omega arith in
    same ∙ rest

pub product_end : (f : Side → ℕ) (ss : List Side) (i t all : ℕ) → length ss ≤ i → t * cell_count (map f (drop i ss)) ≡ all → t ≡ all
product_end f ss i t all h whole =
    let rest = rw (drop_all i ss h) at whole in
    omega (arith, rest)

pub record IsIndexed (ss : List Side) (i st rest m : ℕ) (found whole : List ℕ) : Type 0 where
  pub some_slot : 0 < m
  pub some_step : 0 < st
  pub step_is : st ≡ cell_count (map slots_of (drop (i + 1) ss))
  pub less : rest % st < st
  pub slot : rest / st < m
  pub next : (found ++ chunk_at (get_or ss i no_side) (rest / st) ∷ []) ++ chunks_to (drop (i + 1) ss) (digits_by (map slots_of (drop (i + 1) ss)) (rest % st)) ≡ whole

pub index_step : (ss : List Side) (i step st rest m : ℕ) (found whole : List ℕ) → i < length ss → m ≡ slots_of (get_or ss i no_side) → step ≡ cell_count (map slots_of (drop i ss)) → rest < step → st ≡ step / m
    → found ++ chunks_to (drop i ss) (digits_by (map slots_of (drop i ss)) rest) ≡ whole → IsIndexed ss i st rest m found whole
index_step ss i step st rest m found whole h em es l est so =
    let t = get_or ss i no_side in
    let tail = drop (i + 1) ss in
    let opened = drop_more ss i no_side h in
    let es_here = rw opened at es in
    let so_here = rw opened at so in
    let some = (some_factor (slots_of t) (cell_count (map slots_of tail)) rest (omega (arith, l, es_here))).1 in
    let slot = div_below rest (cell_count (map slots_of tail)) (slots_of t) some (omega (arith, l, es_here)) in
    let now : st ≡ cell_count (map slots_of tail) = est ∙ ap (λ n. step / n) em ∙ ap (λ n. n / slots_of t) es_here ∙ mul-div_cancel_left (cell_count (map slots_of tail)) (omega (arith, slot)) in
    rw (em, now) (record {
      some_slot = omega (arith, slot);
      some_step = some;
      step_is = refl;
      less = mod_below rest (cell_count (map slots_of tail)) some;
      slot = slot;
      next = append_assoc found (chunk_at t (rest / cell_count (map slots_of tail)) ∷ []) _ ∙ so_here;
    })

pub index_end : (ss : List Side) (i rest : ℕ) (found whole : List ℕ) → length ss ≤ i → found ++ chunks_to (drop i ss) (digits_by (map slots_of (drop i ss)) rest) ≡ whole → found ≡ whole
index_end ss i rest found whole h so =
    let rest_is = rw (drop_all i ss h) at so in
    sym (append-nil found) ∙ rest_is

-- ---- the chunks that a value counts

pub same_count : (t : Touched) (s : Slab) (chunk : List ℕ) → t.slab ≡ s → t.chunk ≡ chunk → touched_count t.slab t.chunk ≡ touched_count s chunk
same_count t s chunk h k = ap (λ x. touched_count x t.chunk) h ∙ ap (touched_count s) k

pub same_at : (t : Touched) (s : Slab) (chunk : List ℕ) (b : ℕ) → t.slab ≡ s → t.chunk ≡ chunk → touched_at t.slab t.chunk b ≡ touched_at s chunk b
same_at t s chunk b h k = ap (λ x. touched_at x t.chunk b) h ∙ ap (λ ns. touched_at s ns b) k
