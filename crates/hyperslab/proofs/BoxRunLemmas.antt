-- The runs of a box cover its selected cells.
use Rattle.std.proofs.Common.{◌≡◌, ℕ, suc, ◌+◌, ◌*◌, ◌-◌, ◌/◌, ◌%◌, ◌<◌, ◌≤◌, List, [], ◌∷◌, All, length, drop, get_or, map, refl, sym, ap, subst, ◌∙◌, arith}
use Rattle.std.specs.List.{range_with_len}
use Rattle.std.proofs.lemmas.Nat.{mul-le, div_below, mod_below, div-add-mod', div-mul-add, mod-mul-add}
use Rattle.std.proofs.lemmas.List.{length-map, drop_all}
use Rattle.std.proofs.lemmas.List.FromFn.{length-map-range_with_len, get_or-map-range_with_len}
use Rattle.shapes.specs.RowMajor.{cell_count, IsInside, digits_by, linear_index}
use Rattle.shapes.proofs.RowMajorLemmas.{index_below, index_once, cell_count-room, some_factor}
use Rattle.shapes.proofs.CellLemmas.{digits_in}
use Rattle.hyperslab.specs.declared.TheConstants.{MAX_SELECTED}
use Rattle.hyperslab.specs.Selected.{AreAxes, axes_of, cell_at, extents, point}
use Rattle.hyperslab.proofs.SelectLemmas.{below_room}
use Rattle.hyperslab.proofs.CellLemmas.{cell_indexed}
use Rattle.shapes.specs.declared.TheConstants.{MAX_CHUNK_BYTES}
use Rattle.shapes.specs.ChunkDims.{IsChunkDim}
use Rattle.hyperslab.specs.declared.numbered.Numbered.{Numbered}
use Rattle.hyperslab.specs.declared.runs.Run.{Run}
use Rattle.hyperslab.specs.Runs.{InBox, inner, IsBoxed, IsRun, IsStep, AreRuns, AreBoxed, AreAll, AreOnce, run_at, index_at, offset_at}
use Rattle.hyperslab.specs.Numbered.{AreNumbered, Side, sides_of, run_of, runs_from, first_of, count_of, extent_of, wide_of, steps_to, inner_to, index_to, offset_to, last_count, last_step}
use Rattle.hyperslab.proofs.BoxLemmas.{axis_of, low_of, counts, extents_to, wides, box_in, box_of, steps_once, run_step, axis_in}
use Rattle.hyperslab.proofs.SideLemmas.{IsSided, sided, count_facts, IsTurn, walk_step, wide_some, got, lo_of, by_of}

pub runs_sided : (r : Numbered) → AreNumbered r → IsSided r.slab r.origin r.chunk (sides_of r)
runs_sided r h = sided r.slab r.origin r.chunk h.slab h.origin_rank h.chunk_rank

abbrev pub record_run : ℕ → ℕ → ℕ → ℕ → Run
record_run p o stride len = record { place = p; offset = o; stride = stride; len = len }

-- the number of a run's cell
pub number_below : (r : Numbered) (k i : ℕ) → AreNumbered r → k < r.many → i < r.len → k * r.len + i < cell_count (counts (sides_of r))
number_below r k i h l m =
    let row = mul-le (suc k) r.len r.many r.len (omega arith) (omega arith) in
    omega (arith, row, h.many, h.cells, ap cell_count h.counts)

-- the cell number `j` of the box
cell_boxed : (r : Numbered) (j : ℕ) → AreNumbered r → j < cell_count (counts (sides_of r)) → IsBoxed r.slab r.origin r.chunk (index_to (sides_of r) j) (offset_to (sides_of r) j)
cell_boxed r j h l =
    let ss = sides_of r in
    let parts = runs_sided r h in
    let lies = digits_in (counts ss) j l in
    let ks = steps_to ss (digits_by (counts ss) j) in
    let box = box_in ss (digits_by (counts ss) j) parts.sound lies.0 in
    let inside : IsInside ks (extents r.slab) = subst (λ ns. IsInside ks ns) (sym parts.extents) box.0 in
    let found : cell_at r.slab (linear_index ks (extents_to ss)) ≡ point ks (axes_of r.slab) = ap (λ ns. cell_at r.slab (linear_index ks ns)) (sym parts.extents) ∙ cell_indexed r.slab ks h.slab inside in
    let there : InBox (point ks (axes_of r.slab)) r.origin r.chunk =
    subst (λ xs. InBox (point ks xs) r.origin r.chunk) parts.axes (subst (λ os. InBox (point ks (map axis_of ss)) os r.chunk) (sym parts.origin) (subst (λ ns. InBox (point ks (map axis_of ss)) (map low_of ss) ns) (sym parts.side) box.1)) in
    let offs : inner (point ks (axes_of r.slab)) r.origin ≡ inner_to ss (digits_by (counts ss) j) =
    ap (λ xs. inner (point ks xs) r.origin) (sym parts.axes) ∙ ap (inner (point ks (map axis_of ss))) parts.origin ∙ sym box.2 in
    record {
      selected = subst (λ ns. linear_index ks (extents_to ss) < cell_count ns) (sym parts.extents) (index_below ks (extents_to ss) box.0);
      inside = subst (λ xs. InBox xs r.origin r.chunk) (sym found) there;
      offset = ap (λ xs. linear_index (inner xs r.origin) r.chunk) found ∙ ap (λ xs. linear_index xs r.chunk) offs ∙ ap (linear_index (inner_to ss (digits_by (counts ss) j))) parts.side;
    }

pub run_cells : (r : Numbered) (k i : ℕ) → AreNumbered r → k < r.many → i < r.len
    → (index_to (sides_of r) (k * r.len + i) ≡ index_to (sides_of r) (k * r.len) + i) × (offset_to (sides_of r) (k * r.len + i) ≡ offset_to (sides_of r) (k * r.len) + i * r.stride)
run_cells r k i h l m =
    let ss = sides_of r in
    let parts = runs_sided r h in
    let within = number_below r k i h l m in
    let few : i < last_count (sides_of r) = omega (arith, m, h.len) in
    let step = run_step ss k i parts.sound few (subst (λ n. k * n + i < cell_count (counts ss)) h.len within) in (
      ap (λ n. index_to ss (k * n + i)) h.len ∙ step.0 ∙ ap (λ n. index_to ss (k * n) + i) (sym h.len),
      ap (λ n. offset_to ss (k * n + i)) h.len ∙ step.1 ∙ ap (λ n. offset_to ss (k * last_count ss) + i * n) (sym h.stride) ∙ ap (λ n. offset_to ss (k * n) + i * r.stride) (sym h.len),
    )

run_boxed : (r : Numbered) (k i : ℕ) → AreNumbered r → k < r.many → i < r.len → IsBoxed r.slab r.origin r.chunk (index_at (run_of r k) i) (offset_at (run_of r k) i)
run_boxed r k i h l m =
    let e = run_cells r k i h l m in
    subst (λ o. IsBoxed r.slab r.origin r.chunk (index_at (run_of r k) i) o) e.1 (subst (λ p. IsBoxed r.slab r.origin r.chunk p (offset_to (sides_of r) (k * r.len + i))) e.0 (cell_boxed r (k * r.len + i) h (number_below r k i h l m)))

-- ---- the runs as a list

run_there : (r : Numbered) (k : ℕ) → k < r.many → run_at (runs_from r 0) k ≡ run_of r k
run_there r k l = get_or-map-range_with_len (run_of r) 0 (r.many - 0) k k _ (omega (arith, l)) (omega arith)

many_runs : (r : Numbered) → length (runs_from r 0) ≡ r.many
many_runs r = length-map-range_with_len (run_of r) 0 (r.many - 0) ∙ omega arith

step_there : (r : Numbered) (k i : ℕ) → IsStep (runs_from r 0) k i → (k < r.many) × (i < r.len)
step_there r k i h =
    let few : k < r.many = omega (arith, h.0, many_runs r) in
    (few, subst (λ x. i < x.len) (run_there r k few) h.1)

there_step : (r : Numbered) (k i : ℕ) → k < r.many → i < r.len → IsStep (runs_from r 0) k i
there_step r k i few small = (omega (arith, few, many_runs r), subst (λ x. i < x.len) (sym (run_there r k few)) small)

pub all_boxed : (r : Numbered) → AreNumbered r → AreBoxed r.slab r.origin r.chunk (runs_from r 0)
all_boxed r h k i step =
    let there = step_there r k i step in
    subst (λ x. IsBoxed r.slab r.origin r.chunk (index_at x i) (offset_at x i)) (sym (run_there r k there.0)) (run_boxed r k i h there.0 there.1)

pub all_in : (r : Numbered) → AreNumbered r → AreAll r.slab r.origin r.chunk (runs_from r 0)
all_in r h p l box =
    let ss = sides_of r in
    let parts = runs_sided r h in
    let lies = digits_in (extents r.slab) p l in
    let ks = digits_by (extents r.slab) p in
    let sided_here =
    subst (λ ns. InBox (point ks (map axis_of ss)) (map low_of ss) ns) parts.side (subst (λ os. InBox (point ks (map axis_of ss)) os r.chunk) parts.origin (subst (λ xs. InBox (point ks xs) r.origin r.chunk) (sym parts.axes) box)) in
    let in_ext = subst (λ ns. IsInside ks ns) parts.extents lies.0 in
    let made = box_of ss ks parts.sound in_ext sided_here in
    let j = linear_index made.0 (counts ss) in
    let below = index_below made.0 (counts ss) made.1 in
    let round = digits_in (counts ss) j below in
    let same : digits_by (counts ss) j ≡ made.0 = index_once (digits_by (counts ss) j) made.0 (counts ss) round.0 made.1 round.1 in
    let at : index_to ss j ≡ p = ap (λ ds. linear_index (steps_to ss ds) (extents_to ss)) same ∙ ap (λ xs. linear_index xs (extents_to ss)) made.2 ∙ ap (linear_index ks) (sym parts.extents) ∙ lies.1 in
    let total : cell_count (counts (sides_of r)) ≡ r.many * r.len = sym (ap cell_count h.counts) ∙ sym h.cells ∙ sym h.many in
    let few : j < r.many * r.len = subst (λ n. j < n) total below in
    let some = (some_factor r.many r.len j few).1 in
    let k = j / r.len in
    let i = j % r.len in
    let some_run = div_below j r.len r.many some few in
    let some_step = mod_below j r.len some in
    let split = div-add-mod' j r.len in
    let here : index_at (run_of r k) i ≡ p = sym (run_cells r k i h some_run some_step).0 ∙ ap (index_to ss) split ∙ at in
    record {
      run = k;
      step = i;
      is_step = there_step r k i some_run some_step;
      index = ap (λ x. index_at x i) (run_there r k some_run) ∙ here;
    }

number_once : (r : Numbered) → AreNumbered r → (j k : ℕ) → j < cell_count (counts (sides_of r)) → k < cell_count (counts (sides_of r)) → index_to (sides_of r) j ≡ index_to (sides_of r) k → j ≡ k
number_once r h j k l m e =
    let ss = sides_of r in
    let parts = runs_sided r h in
    let one = digits_in (counts ss) j l in
    let two = digits_in (counts ss) k m in
    let a = (box_in ss (digits_by (counts ss) j) parts.sound one.0).0 in
    let b = (box_in ss (digits_by (counts ss) k) parts.sound two.0).0 in
    let same = steps_once ss (digits_by (counts ss) j) (digits_by (counts ss) k) one.0 two.0 (index_once (steps_to ss (digits_by (counts ss) j)) (steps_to ss (digits_by (counts ss) k)) (extents_to ss) a b e) in
    sym one.1 ∙ ap (λ ds. linear_index ds (counts ss)) same ∙ two.1

step_once : (r : Numbered) → AreNumbered r → (j k i l : ℕ) → (j < r.many) × (i < r.len) → (k < r.many) × (l < r.len) → index_at (run_of r j) i ≡ index_at (run_of r k) l → (j ≡ k) × (i ≡ l)
step_once r h j k i l one two e =
    let a = run_cells r j i h one.0 one.1 in
    let b = run_cells r k l h two.0 two.1 in
    let same = number_once r h (j * r.len + i) (k * r.len + l) (number_below r j i h one.0 one.1) (number_below r k l h two.0 two.1) (a.0 ∙ e ∙ sym b.0) in
    (sym (div-mul-add j r.len i one.1) ∙ ap (λ n. n / r.len) same ∙ div-mul-add k r.len l two.1, sym (mod-mul-add j r.len i one.1) ∙ ap (λ n. n % r.len) same ∙ mod-mul-add k r.len l two.1)

pub all_once : (r : Numbered) → AreNumbered r → AreOnce (runs_from r 0)
all_once r h j k i l one two e =
    let a = step_there r j i one in
    let b = step_there r k l two in
    step_once r h j k i l a b (ap (λ x. index_at x i) (sym (run_there r j a.0)) ∙ e ∙ ap (λ x. index_at x l) (run_there r k b.0))

stride_some : (ss : List Side) → AreAxes (map axis_of ss) → 1 ≤ last_step ss
stride_some [] h = omega arith
stride_some (s ∷ []) h = h.0.2
stride_some (s ∷ (t ∷ ss)) h = stride_some (t ∷ ss) h.1

pub all_runs : (r : Numbered) → AreNumbered r → AreRuns (runs_from r 0)
all_runs r h k l =
    let few : k < r.many = omega (arith, l, many_runs r) in
    subst IsRun (sym (run_there r k few)) (record { some = h.some_len k few; apart = omega (arith, h.stride, stride_some (sides_of r) (runs_sided r h).sound) })

-- ---- one run after another

pub runs_more : (r : Numbered) (k : ℕ) → k < r.many → runs_from r k ≡ run_of r k ∷ runs_from r (k + 1)
runs_more r k l =
    let more : r.many - k ≡ suc (r.many - (k + 1)) = omega (arith, l) in
    ap (λ n. map (run_of r) (range_with_len k n)) more

pub runs_end : (r : Numbered) (k : ℕ) → k ≡ r.many → runs_from r k ≡ []
runs_end r k e =
    let none : r.many - k ≡ 0 = omega (arith, e) in
    ap (λ n. map (run_of r) (range_with_len k n)) none

-- ---- what a run's walk knows

pub record IsSmall (r : Numbered) (k : ℕ) : Type 0 where
  pub below : k * r.len < r.cells
  pub total : k * r.len ≤ MAX_SELECTED
  pub place : index_to (sides_of r) (k * r.len) ≤ MAX_SELECTED
  pub offset : offset_to (sides_of r) (k * r.len) ≤ MAX_CHUNK_BYTES

pub counts_le : (ss : List Side) → AreAxes (map axis_of ss) → cell_count (counts ss) ≤ cell_count (extents_to ss)
counts_le [] h = omega arith
counts_le (s ∷ ss) h = mul-le (count_of s) (cell_count (counts ss)) (extent_of s) (cell_count (extents_to ss)) (count_facts s h.0).1 (counts_le ss h.1)

pub inner_in : (ss : List Side) (ds : List ℕ) → AreAxes (map axis_of ss) → IsInside ds (counts ss) → IsInside (inner_to ss ds) (wides ss)
inner_in [] [] h l = tt
inner_in [] (d ∷ ds) h l = absurd l
inner_in (s ∷ ss) [] h l = absurd l
inner_in (s ∷ ss) (d ∷ ds) h l =
    let here = axis_in s.axis.lo s.axis.hi s.axis.by s.low s.wide (first_of s + d) h.0.2 (omega arith) (omega (arith, l.0)) in
    (omega (arith, here.1, here.2), inner_in ss ds h.1 l.1)

pub cells_few : (r : Numbered) → AreNumbered r → cell_count (counts (sides_of r)) ≤ MAX_SELECTED
cells_few r h =
    let parts = runs_sided r h in
    let fewer = counts_le (sides_of r) parts.sound in
    let room = cell_count-room (extents r.slab) in
    omega (arith, fewer, ap cell_count parts.extents, room, h.slab.room)

pub number_small : (r : Numbered) (k : ℕ) → AreNumbered r → k < r.many → IsSmall r k
number_small r k h l =
    let some = h.some_len k l in
    let row = number_below r k 0 h l some in
    let start : k * r.len < cell_count (counts (sides_of r)) = omega (arith, row) in
    let boxed = cell_boxed r (k * r.len) h start in
    let parts = runs_sided r h in
    let lies = digits_in (counts (sides_of r)) (k * r.len) start in
    let inside = (inner_in (sides_of r) (digits_by (counts (sides_of r)) (k * r.len)) parts.sound lies.0) in
    let off = index_below (inner_to (sides_of r) (digits_by (counts (sides_of r)) (k * r.len))) (wides (sides_of r)) inside in
    let room = cell_count-room (extents r.slab) in
    record {
      below = omega (arith, start, h.cells, ap cell_count h.counts);
      total = omega (arith, start, cells_few r h);
      place = omega (arith, boxed.selected, room, h.slab.room);
      offset = omega (arith, off, ap cell_count parts.side, h.chunk.cells);
    }

-- one step of a run's walk, by what the calls have given
pub step_of : (r : Numbered) (i step rest p o all off m f e w a by lo st : ℕ) → AreNumbered r → i < length r.counts
    → step ≡ cell_count (counts (drop i (sides_of r))) → rest < step → p * cell_count (extents_to (drop i (sides_of r))) + index_to (drop i (sides_of r)) rest ≡ all → o * cell_count (wides (drop i (sides_of r))) + offset_to (drop i (sides_of r)) rest ≡ off
    → m ≡ get_or r.counts i 0 → f ≡ get_or r.firsts i 0 → e ≡ get_or r.extents i 0 → w ≡ get_or r.chunk i 0
    → a ≡ get_or r.slab.start i 0 → by ≡ get_or r.slab.step i 0 → lo ≡ get_or r.origin i 0 → st ≡ step / m
    → IsTurn (sides_of r) i st rest p o all off m f e w a by lo
step_of r i step rest p o all off m f e w a by lo st h l es less ep eo em ef ee ew ea ec el est =
    let ss = sides_of r in
    let parts = runs_sided r h in
    let long : i < length (sides_of r) = omega (arith, l, ap length h.counts, length-map (sides_of r) count_of) in
    let dims = subst (λ ns. All IsChunkDim ns) parts.side h.chunk.dims in
    walk_step ss i step st rest p o all off m f e w a by lo long parts.sound (wide_some ss (i + 1) dims) es less ep eo
    (em ∙ got count_of ss r.counts i h.counts long) (ef ∙ got first_of ss r.firsts i h.firsts long) (ee ∙ got extent_of ss r.extents i (h.extents ∙ parts.extents) long) (ew ∙ got wide_of ss r.chunk i parts.side long)
    (ea ∙ got lo_of ss r.slab.start i parts.starts long) (ec ∙ got by_of ss r.slab.step i parts.steps long) (el ∙ got low_of ss r.origin i parts.origin long) est

pub record IsLong (r : Numbered) : Type 0 where
  pub firsts : length r.firsts ≡ length r.counts
  pub extents : length r.extents ≡ length r.counts
  pub side : length r.chunk ≡ length r.counts
  pub starts : length r.slab.start ≡ length r.counts
  pub steps : length r.slab.step ≡ length r.counts
  pub origin : length r.origin ≡ length r.counts

pub all_long : (r : Numbered) → AreNumbered r → IsLong r
all_long r h =
    let parts = runs_sided r h in
    let ss = sides_of r in
    let one : length r.counts ≡ length r.slab.start = ap length h.counts ∙ length-map ss count_of ∙ parts.long in
    record {
      firsts = ap length h.firsts ∙ length-map ss first_of ∙ parts.long ∙ sym one;
      extents = ap length h.extents ∙ ap length parts.extents ∙ length-map ss extent_of ∙ parts.long ∙ sym one;
      side = h.chunk_rank ∙ sym one;
      starts = sym one;
      steps = h.slab.ranked.steps ∙ sym one;
      origin = h.origin_rank ∙ sym one;
    }

pub below_extent : (r : Numbered) (i : ℕ) → AreNumbered r → i < length r.counts → get_or r.extents i 0 ≤ MAX_SELECTED
below_extent r i h l =
    let longs = all_long r h in
    let e = ap (λ ns. get_or ns i 0) h.extents in
    let few = below_room (extents r.slab) i 0 (omega (arith, longs.extents, l, ap length h.extents)) in
    omega (arith, e, few, h.slab.room)

pub run_ended : (r : Numbered) (i rest p o all off : ℕ) → AreNumbered r → length r.counts ≤ i → p * cell_count (extents_to (drop i (sides_of r))) + index_to (drop i (sides_of r)) rest ≡ all
    → o * cell_count (wides (drop i (sides_of r))) + offset_to (drop i (sides_of r)) rest ≡ off → (p ≡ all) × (o ≡ off)
run_ended r i rest p o all off h l ep eo =
    let past : length (sides_of r) ≤ i = omega (arith, l, ap length h.counts, length-map (sides_of r) count_of) in
    let a = rw (drop_all i (sides_of r) past) at ep in
    let b = rw (drop_all i (sides_of r) past) at eo in
    (omega (arith, a), omega (arith, b))

pub same_run : (p q o u stride len : ℕ) → p ≡ q → o ≡ u → record_run p o stride len ≡ record_run q u stride len
same_run p q o u stride len h k = rw (h, k) refl
