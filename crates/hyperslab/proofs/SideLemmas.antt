-- The walks over the axes of a box.
use Rattle.std.proofs.Common.{◌≡◌, ℕ, zero, suc, ◌+◌, ◌*◌, ◌-◌, ◌^◌, ◌/◌, ◌%◌, ◌<◌, ◌≤◌, min, max, List, [], ◌∷◌, ◌++◌, All, length, drop, get_or, map, inl, inr, refl, sym, ap, subst, ◌∙◌, arith}
use Rattle.std.proofs.lemmas.Nat.{mul-le, div_below, mod_below}
use Rattle.std.proofs.Math.Nat.{mul-div_cancel_left, mul-div_cancel}
use Rattle.std.proofs.lemmas.Bool.{cases_lt}
use Rattle.std.proofs.lemmas.List.{drop_more, drop_all, append_assoc, append-nil, length-map}
use Rattle.std.specs.List.{AllZip}
use Rattle.std.proofs.lemmas.List.Elements.{All-tail, AllZip-get_or}
use Rattle.shapes.specs.RowMajor.{cell_count, room_of, digits_by}
use Rattle.shapes.proofs.RowMajorLemmas.{index_below, one-room, some_factor}
use Rattle.shapes.proofs.CellLemmas.{digits_in}
use Rattle.shapes.specs.declared.TheConstants.{MAX_EXTENT}
use Rattle.hyperslab.specs.Selected.{Axis, AreAxes, IsAxis, IsSlab, axes, axes_of, extent, extents}
use Rattle.hyperslab.specs.declared.Slab.{Slab}
use Rattle.hyperslab.proofs.AxisLemmas.{axis_with, length-axes, same_axis}
use Rattle.hyperslab.proofs.SelectLemmas.{point_below}
use Rattle.hyperslab.proofs.CellLemmas.{extent_above}
use Rattle.shapes.specs.ChunkDims.{IsChunkDim}
use Rattle.shapes.proofs.ChunkDimLemmas.{one_cell}
use Rattle.hyperslab.specs.Numbered.{Side, sides, below, first_of, count_of, extent_of, wide_of, steps_to, index_to, offset_to, last_count, last_step}
use Rattle.hyperslab.proofs.BoxLemmas.{axis_of, low_of, counts, extents_to, wides, axis_in, box_in, last_divides}

abbrev pub no_side : Side
no_side = record { axis = axis_with 0 0 0; low = 0; wide = 0 }

abbrev pub lo_of : Side → ℕ
lo_of s = s.axis.lo

abbrev pub hi_of : Side → ℕ
hi_of s = s.axis.hi

abbrev pub by_of : Side → ℕ
by_of s = s.axis.by

-- ---- lists of parts

pub got : (f : Side → ℕ) (ss : List Side) (ns : List ℕ) (i : ℕ) → ns ≡ map f ss → i < length ss → get_or ns i 0 ≡ f (get_or ss i no_side)
got f [] ns i e h = absurd (omega arith)
got f (s ∷ ss) ns zero e h = ap (λ ms. get_or ms 0 0) e
got f (s ∷ ss) [] (suc i) e h = absurd (omega (arith, ap length e))
got f (s ∷ ss) (n ∷ ns) (suc i) e h =
    let rest : ns ≡ map f ss = cc in
    got f ss ns i rest (omega arith)

map_axes : (f : Axis → ℕ) (ss : List Side) → map (λ s. f s.axis) ss ≡ map f (map axis_of ss)
map_axes f [] = refl
map_axes f (s ∷ ss) = ap (λ ns. f s.axis ∷ ns) (map_axes f ss)

axes_parts : (ls bs cs : List ℕ) → length bs ≡ length ls → length cs ≡ length ls → (map (λ x. x.lo) (axes ls bs cs) ≡ ls) × (map (λ x. x.hi) (axes ls bs cs) ≡ bs) × (map (λ x. x.by) (axes ls bs cs) ≡ cs)
axes_parts [] [] [] h k = (refl, refl, refl)
axes_parts [] [] (c ∷ cs) h k = absurd (omega (arith, k))
axes_parts [] (b ∷ bs) cs h k = absurd (omega (arith, h))
axes_parts (a ∷ ls) [] cs h k = absurd (omega (arith, h))
axes_parts (a ∷ ls) (b ∷ bs) [] h k = absurd (omega (arith, k))
axes_parts (a ∷ ls) (b ∷ bs) (c ∷ cs) h k =
    let rest = axes_parts ls bs cs (omega (arith, h)) (omega (arith, k)) in
    (ap (λ ns. a ∷ ns) rest.0, ap (λ ns. b ∷ ns) rest.1, ap (λ ns. c ∷ ns) rest.2)

sides_parts : (xs : List Axis) (os ns : List ℕ) → length os ≡ length xs → length ns ≡ length xs → (map axis_of (sides xs os ns) ≡ xs) × (map low_of (sides xs os ns) ≡ os) × (map wide_of (sides xs os ns) ≡ ns)
sides_parts [] [] [] h k = (refl, refl, refl)
sides_parts [] [] (c ∷ cs) h k = absurd (omega (arith, k))
sides_parts [] (b ∷ bs) cs h k = absurd (omega (arith, h))
sides_parts (a ∷ ls) [] cs h k = absurd (omega (arith, h))
sides_parts (a ∷ ls) (b ∷ bs) [] h k = absurd (omega (arith, k))
sides_parts (a ∷ ls) (b ∷ bs) (c ∷ cs) h k =
    let rest = sides_parts ls bs cs (omega (arith, h)) (omega (arith, k)) in
    (ap (λ ns. a ∷ ns) rest.0, ap (λ ns. b ∷ ns) rest.1, ap (λ ns. c ∷ ns) rest.2)

-- what the lists of a selection and a box are of one list of sides
pub record IsSided (s : Slab) (os ns : List ℕ) (ss : List Side) : Type 0 where
  pub axes : map axis_of ss ≡ axes_of s
  pub starts : s.start ≡ map lo_of ss
  pub stops : s.stop ≡ map hi_of ss
  pub steps : s.step ≡ map by_of ss
  pub origin : os ≡ map low_of ss
  pub side : ns ≡ map wide_of ss
  pub extents : extents s ≡ map extent_of ss
  pub sound : AreAxes (map axis_of ss)
  pub long : length ss ≡ length s.start

pub sided : (s : Slab) (os ns : List ℕ) → IsSlab s → length os ≡ length s.start → length ns ≡ length s.start → IsSided s os ns (sides (axes_of s) os ns)
sided s os ns h k l =
    let ss = sides (axes_of s) os ns in
    let long = length-axes s.start s.stop s.step h.ranked.stops h.ranked.steps in
    let outer = sides_parts (axes_of s) os ns (omega (arith, long, k)) (omega (arith, long, l)) in
    let inside = axes_parts s.start s.stop s.step h.ranked.stops h.ranked.steps in
    record {
      axes = outer.0;
      starts = sym inside.0 ∙ ap (map (λ x. x.lo)) (sym outer.0) ∙ sym (map_axes (λ x. x.lo) ss);
      stops = sym inside.1 ∙ ap (map (λ x. x.hi)) (sym outer.0) ∙ sym (map_axes (λ x. x.hi) ss);
      steps = sym inside.2 ∙ ap (map (λ x. x.by)) (sym outer.0) ∙ sym (map_axes (λ x. x.by) ss);
      origin = sym outer.1;
      side = sym outer.2;
      extents = ap (map extent) (sym outer.0) ∙ sym (map_axes extent ss);
      sound = subst AreAxes (sym outer.0) h.sound;
      long = sym (length-map ss axis_of) ∙ ap length outer.0 ∙ long;
    }

-- ---- numbers pushed one by one

pub push_next : (f : Side → ℕ) (ss : List Side) (i n : ℕ) (found all : List ℕ) → i < length ss → n ≡ f (get_or ss i no_side) → found ++ map f (drop i ss) ≡ all → (found ++ n ∷ []) ++ map f (drop (i + 1) ss) ≡ all
push_next f ss i n found all h e whole =
    let rest = rw (drop_more ss i no_side h) at whole in
    append_assoc found (n ∷ []) (map f (drop (i + 1) ss)) ∙ ap (λ m. found ++ m ∷ map f (drop (i + 1) ss)) e ∙ rest

pub push_end : (f : Side → ℕ) (ss : List Side) (i : ℕ) (found all : List ℕ) → length ss ≤ i → found ++ map f (drop i ss) ≡ all → found ≡ all
push_end f ss i found all h whole =
    let rest = rw (drop_all i ss h) at whole in
    sym (append-nil found) ∙ rest

pub sound_at : (ss : List Side) (i : ℕ) → AreAxes (map axis_of ss) → i < length ss → IsAxis (axis_of (get_or ss i no_side))
sound_at [] i h l = absurd (omega arith)
sound_at (s ∷ ss) zero h l = h.0
sound_at (s ∷ ss) (suc i) h l = sound_at ss i h.1 (omega arith)

pub sound_from : (ss : List Side) (i : ℕ) → AreAxes (map axis_of ss) → AreAxes (map axis_of (drop i ss))
sound_from [] zero h = h
sound_from [] (suc i) h = h
sound_from (s ∷ ss) zero h = h
sound_from (s ∷ ss) (suc i) h = sound_from ss i h.1

pub extent_more : (a h k c : ℕ) → 1 ≤ c → h ≤ k → extent (axis_with a h c) ≤ extent (axis_with a k c)
extent_more a h k c l m = elim (cases_lt (extent (axis_with a k c)) (extent (axis_with a h c))) [
  | inl less ↦
      let early = point_below a h c (extent (axis_with a k c)) l less in
      let here = extent_above a k c (extent (axis_with a k c)) l (omega (arith, early)) in
      absurd (omega (arith, here))
  | inr fine ↦ fine
]

-- what is known of a side
pub count_facts : (s : Side) → IsAxis s.axis → (first_of s ≤ below s.axis (s.low + s.wide)) × (count_of s ≤ extent_of s)
count_facts s h =
    let low : min s.axis.hi s.low ≤ min s.axis.hi (s.low + s.wide) = omega arith in
    let high : min s.axis.hi (s.low + s.wide) ≤ s.axis.hi = omega arith in
    let up = extent_more s.axis.lo (min s.axis.hi s.low) (min s.axis.hi (s.low + s.wide)) s.axis.by h.2 low in
    let most = extent_more s.axis.lo (min s.axis.hi (s.low + s.wide)) s.axis.hi s.axis.by h.2 high in
    (up, omega (arith, most))

pub cells_next : (ss : List Side) (i t m all : ℕ) → i < length ss → m ≡ count_of (get_or ss i no_side) → t * cell_count (counts (drop i ss)) ≡ all → t * m * cell_count (counts (drop (i + 1) ss)) ≡ all
cells_next ss i t m all h e whole =
    let rest = rw (drop_more ss i no_side h) at whole in
    let c = cell_count (counts (drop (i + 1) ss)) in
    let same : t * m * cell_count (counts (drop (i + 1) ss)) ≡ t * (count_of (get_or ss i no_side) * cell_count (counts (drop (i + 1) ss))) = ap (λ n. t * n * c) e ∙ omega arith in
    same ∙ rest

pub cells_end : (ss : List Side) (i t all : ℕ) → length ss ≤ i → t * cell_count (counts (drop i ss)) ≡ all → t ≡ all
cells_end ss i t all h whole =
    let rest = rw (drop_all i ss h) at whole in
    omega (arith, rest)

pub room_next : (ss : List Side) (i t m top : ℕ) → i < length ss → m ≤ extent_of (get_or ss i no_side) → t * room_of (extents_to (drop i ss)) ≤ top
    → (t * m * room_of (extents_to (drop (i + 1) ss)) ≤ top) × (t * m ≤ top)
room_next ss i t m top h e whole =
    let rest = rw (drop_more ss i no_side h) at whole in
    let r = room_of (extents_to (drop (i + 1) ss)) in
    let wide = max (extent_of (get_or ss i no_side)) 1 in
    let one = one-room (extents_to (drop (i + 1) ss)) in
    let step : m * room_of (extents_to (drop (i + 1) ss)) ≤ max (extent_of (get_or ss i no_side)) 1 * room_of (extents_to (drop (i + 1) ss)) = mul-le m r wide r (omega arith) (omega arith) in
    let both = mul-le t (m * r) t (wide * r) (omega arith) step in
    let less : t * m * room_of (extents_to (drop (i + 1) ss)) ≤ top = omega (arith, both, rest) in
    let alone = mul-le (t * m) 1 (t * m) r (omega arith) one in
    (less, omega (arith, alone, less))

-- ---- one step of a run's walk

pub record IsTurn (ss : List Side) (i st rest p o all off m f e w a by lo : ℕ) : Type 0 where
  pub some_count : 0 < m
  pub some_step : 0 < st
  pub step_is : st ≡ cell_count (counts (drop (i + 1) ss))
  pub less : rest % st < st
  pub within : f + rest / st < e
  pub low : lo ≤ a + (f + rest / st) * by
  pub high : a + (f + rest / st) * by < lo + w
  pub most : a + (f + rest / st) * by ≤ MAX_EXTENT
  pub indices : (p * e + (f + rest / st)) * cell_count (extents_to (drop (i + 1) ss)) + index_to (drop (i + 1) ss) (rest % st) ≡ all
  pub offsets : (o * w + (a + (f + rest / st) * by - lo)) * cell_count (wides (drop (i + 1) ss)) + offset_to (drop (i + 1) ss) (rest % st) ≡ off
  pub index_most : p * e + (f + rest / st) ≤ all
  pub offset_most : o * w + (a + (f + rest / st) * by - lo) ≤ off

factor_most : (x c q p : ℕ) → 0 < c → x * c + q ≡ p → x ≤ p
factor_most x c q p h e = omega (arith, mul-le x 1 x c (omega arith) (omega arith), e)

step_here : (s : Side) (ss : List Side) (step rest p o all off : ℕ) → IsAxis s.axis → AreAxes (map axis_of ss) → step ≡ count_of s * cell_count (counts ss) → rest < step
    → p * cell_count (extents_to (s ∷ ss)) + index_to (s ∷ ss) rest ≡ all → o * cell_count (wides (s ∷ ss)) + offset_to (s ∷ ss) rest ≡ off
    → 0 < cell_count (wides ss)
    → (0 < count_of s) × (step / count_of s ≡ cell_count (counts ss)) × (0 < cell_count (counts ss)) × (rest / cell_count (counts ss) < count_of s)
    × (0 < cell_count (extents_to ss))
step_here s ss step rest p o all off sound more e l x y wide =
    let some = (some_factor (count_of s) (cell_count (counts ss)) rest (omega (arith, l, e))).1 in
    let digit = div_below rest (cell_count (counts ss)) (count_of s) some (omega (arith, l, e)) in
    let pos : 0 < count_of s = omega (arith, digit) in
    let lies = digits_in (counts ss) 0 some in
    let inside = (box_in ss (digits_by (counts ss) 0) more lies.0).0 in
    let ext : 0 < cell_count (extents_to ss) = omega (arith, index_below (steps_to ss (digits_by (counts ss) 0)) (extents_to ss) inside) in
    (pos, ap (λ n. n / count_of s) e ∙ mul-div_cancel_left (cell_count (counts ss)) pos, some, digit, ext)

pub walk_step : (ss : List Side) (i step st rest p o all off m f e w a by lo : ℕ) → i < length ss → AreAxes (map axis_of ss) → 0 < cell_count (wides (drop (i + 1) ss))
    → step ≡ cell_count (counts (drop i ss)) → rest < step → p * cell_count (extents_to (drop i ss)) + index_to (drop i ss) rest ≡ all → o * cell_count (wides (drop i ss)) + offset_to (drop i ss) rest ≡ off
    → m ≡ count_of (get_or ss i no_side) → f ≡ first_of (get_or ss i no_side) → e ≡ extent_of (get_or ss i no_side) → w ≡ wide_of (get_or ss i no_side)
    → a ≡ lo_of (get_or ss i no_side) → by ≡ by_of (get_or ss i no_side) → lo ≡ low_of (get_or ss i no_side)
    → st ≡ step / m → IsTurn ss i st rest p o all off m f e w a by lo
walk_step ss i step st rest p o all off m f e w a by lo h sound wide es l ep eo em ef ee ew ea ec el est =
    let s = get_or ss i no_side in
    let tail = drop (i + 1) ss in
    let opened = drop_more ss i no_side h in
    let axis = sound_at ss i sound h in
    let more = sound_from ss (i + 1) sound in
    let es_here = rw opened at es in
    let ep_here = rw opened at ep in
    let eo_here = rw opened at eo in
    let k = step_here s tail step rest p o all off axis more es_here l ep_here eo_here wide in
    let d = rest / cell_count (counts tail) in
    let lies = axis_in s.axis.lo s.axis.hi s.axis.by s.low s.wide (first_of s + d) axis.2 (omega arith) (omega (arith, k.3)) in
    let indices : (p * extent_of s + (first_of s + d)) * cell_count (extents_to tail) + index_to tail (rest % cell_count (counts tail)) ≡ all = omega (arith, ep_here) in
    let offsets : (o * wide_of s + (s.axis.lo + (first_of s + d) * s.axis.by - s.low)) * cell_count (wides tail) + offset_to tail (rest % cell_count (counts tail)) ≡ off = omega (arith, eo_here) in
    let now : st ≡ cell_count (counts tail) = est ∙ ap (λ n. step / n) em ∙ k.1 in
    rw (em, ef, ee, ew, ea, ec, el, now) (record {
      some_count = k.0;
      some_step = k.2;
      step_is = refl;
      less = mod_below rest (cell_count (counts tail)) k.2;
      within = lies.0;
      low = lies.1;
      high = lies.2;
      most = omega (arith, point_below s.axis.lo s.axis.hi s.axis.by (first_of s + d) axis.2 lies.0, axis.1);
      indices = indices;
      offsets = offsets;
      index_most = factor_most (p * extent_of s + (first_of s + d)) (cell_count (extents_to tail)) _ all k.4 indices;
      offset_most = factor_most (o * wide_of s + (s.axis.lo + (first_of s + d) * s.axis.by - s.low)) (cell_count (wides tail)) _ off wide offsets;
    })

pub wide_some : (ss : List Side) (i : ℕ) → All IsChunkDim (map wide_of ss) → 0 < cell_count (wides (drop i ss))
wide_some [] zero h = omega arith
wide_some [] (suc i) h = omega arith
wide_some (s ∷ ss) zero h = omega (arith, one_cell (wides (s ∷ ss)) h)
wide_some (s ∷ ss) (suc i) h = wide_some ss i (All-tail IsChunkDim (wide_of s) (map wide_of ss) h)

-- ---- the last number

pub last_none : (ns : List ℕ) → length ns ≡ 0 → 1 ≡ get_or ns (length ns - 1) 1
last_none [] h = refl
last_none (n ∷ ns) h = absurd (omega (arith, h))

pub last_counts : (ss : List Side) → get_or (map count_of ss) (length (map count_of ss) - 1) 1 ≡ last_count ss
last_counts [] = refl
last_counts (s ∷ []) =
    let e : length (map count_of (s ∷ [])) - 1 ≡ 0 = omega arith in
    rw e refl
last_counts (s ∷ (t ∷ ss)) =
    let e : length (map count_of (s ∷ (t ∷ ss))) - 1 ≡ suc (length (map count_of (t ∷ ss)) - 1) = omega arith in
    rw e (last_counts (t ∷ ss))

pub last_steps : (ss : List Side) → get_or (map by_of ss) (length (map by_of ss) - 1) 1 ≡ last_step ss
last_steps [] = refl
last_steps (s ∷ []) =
    let e : length (map by_of (s ∷ [])) - 1 ≡ 0 = omega arith in
    ap (λ i. get_or (map by_of (s ∷ [])) i 1) e
last_steps (s ∷ (t ∷ ss)) =
    let e : length (map by_of (s ∷ (t ∷ ss))) - 1 ≡ suc (length (map by_of (t ∷ ss)) - 1) = omega arith in
    ap (λ i. get_or (map by_of (s ∷ (t ∷ ss))) i 1) e ∙ last_steps (t ∷ ss)

pub parts_whole : (ss : List Side) (cells len many : ℕ) → cells ≡ cell_count (counts ss) → len ≡ last_count ss → (len ≡ 0 → many ≡ 0) → (0 < len → many ≡ cells / len) → many * len ≡ cells
parts_whole ss cells len many e l none some =
    let d = last_divides ss in
    let split : cells ≡ d.0 * len = e ∙ d.1 ∙ ap (λ n. d.0 * n) (sym l) in
    elim (cases_lt 0 len) [
      | inl pos ↦ ap (λ n. n * len) (some pos ∙ ap (λ n. n / len) split ∙ mul-div_cancel d.0 pos) ∙ sym split
      | inr none_left ↦
          let z : len ≡ 0 = omega arith in
          ap (λ n. many * n) z ∙ omega arith ∙ sym (split ∙ ap (λ n. d.0 * n) z)
    ]

pub some_part : (len many : ℕ) → (len ≡ 0 → many ≡ 0) → (k : ℕ) → k < many → 0 < len
some_part len many none k h = elim (cases_lt 0 len) [
  | inl pos ↦ pos
  | inr none_left ↦ absurd (omega (arith, none (omega arith), h))
]

-- ---- one step of the walk that makes runs

same_extent : (a b c d e f : ℕ) → a ≡ b → c ≡ d → e ≡ f → extent (axis_with a c e) ≡ extent (axis_with b d f)
same_extent a b c d e f h k l = ap extent (same_axis a c e b d f h k l)

same_min : (a b c d : ℕ) → a ≡ b → c ≡ d → min a c ≡ min b d
same_min a b c d h k = cc

same_sum : (a b c d : ℕ) → a ≡ b → c ≡ d → a + c ≡ b + d
same_sum a b c d h k = cc

same_gap : (a b c d : ℕ) → a ≡ b → c ≡ d → a - c ≡ b - d
same_gap a b c d h k = cc

-- the numbers of an axis that were read of the lists
pub record IsRead (s : Slab) (os ns : List ℕ) (i a b c o n : ℕ) : Type 0 where
  pub start : a ≡ get_or s.start i 0
  pub stop : b ≡ get_or s.stop i 0
  pub step : c ≡ get_or s.step i 0
  pub low : o ≡ get_or os i 0
  pub wide : n ≡ get_or ns i 0

pub record IsSideRead (s : Slab) (os ns : List ℕ) (i a b c o n : ℕ) : Type 0 where
  pub inside : i < length (sides (axes_of s) os ns)
  pub start : a ≡ lo_of (get_or (sides (axes_of s) os ns) i no_side)
  pub stop : b ≡ hi_of (get_or (sides (axes_of s) os ns) i no_side)
  pub step : c ≡ by_of (get_or (sides (axes_of s) os ns) i no_side)
  pub low : o ≡ low_of (get_or (sides (axes_of s) os ns) i no_side)
  pub wide : n ≡ wide_of (get_or (sides (axes_of s) os ns) i no_side)
  pub sound : IsAxis (axis_of (get_or (sides (axes_of s) os ns) i no_side))
  pub some_step : 1 ≤ c
  pub sum : o + n < 2 ^ 64

pub side_read : (s : Slab) (os ns : List ℕ) → IsSlab s → length os ≡ length s.start → length ns ≡ length s.start → AllZip (λ o n. o + n < 2 ^ 64) os ns
    → (i a b c o n : ℕ) → i < length s.start → IsRead s os ns i a b c o n → IsSideRead s os ns i a b c o n
side_read s os ns h k l z i a b c o n within read =
    let ss = sides (axes_of s) os ns in
    let parts = sided s os ns h k l in
    let long : i < length (sides (axes_of s) os ns) = omega (arith, within, parts.long) in
    let sound = sound_at ss i parts.sound long in
    let step = read.step ∙ got by_of ss s.step i parts.steps long in
    record {
      inside = long;
      start = read.start ∙ got lo_of ss s.start i parts.starts long;
      stop = read.stop ∙ got hi_of ss s.stop i parts.stops long;
      step = step;
      low = read.low ∙ got low_of ss os i parts.origin long;
      wide = read.wide ∙ got wide_of ss ns i parts.side long;
      sound = sound;
      some_step = omega (arith, step, sound.2);
      sum = omega (arith, read.low, read.wide, AllZip-get_or (λ o n. o + n < 2 ^ 64) os ns i 0 0 z (omega (arith, k, within)));
    }

-- how many numbers lie before the box, and how many in it
pub record IsCounted (ss : List Side) (i f g : ℕ) : Type 0 where
  pub first : f ≡ first_of (get_or ss i no_side)
  pub count : g - f ≡ count_of (get_or ss i no_side)
  pub up : f ≤ g
  pub few : g - f ≤ extent_of (get_or ss i no_side)

pub side_counted : (s : Slab) (os ns : List ℕ) (i a b c o n f g h k : ℕ) → IsSideRead s os ns i a b c o n → h ≡ min b o → k ≡ min b (o + n)
    → f ≡ extent (axis_with a h c) → g ≡ extent (axis_with a k c) → IsCounted (sides (axes_of s) os ns) i f g
side_counted s os ns i a b c o n f g h k read eh ek ef eg =
    let t = get_or (sides (axes_of s) os ns) i no_side in
    let facts = count_facts t read.sound in
    let low : h ≡ min (hi_of t) (low_of t) = eh ∙ same_min b (hi_of t) o (low_of t) read.stop read.low in
    let high : k ≡ min (hi_of t) (t.low + t.wide) = ek ∙ same_min b (hi_of t) (o + n) (t.low + t.wide) read.stop (same_sum o t.low n t.wide read.low read.wide) in
    let first : f ≡ first_of t = ef ∙ same_extent a (lo_of t) h (min (hi_of t) (low_of t)) c (by_of t) read.start low read.step in
    let past : g ≡ below t.axis (t.low + t.wide) = eg ∙ same_extent a (lo_of t) k (min (hi_of t) (t.low + t.wide)) c (by_of t) read.start high read.step in
    let count : g - f ≡ count_of t = same_gap g (below t.axis (t.low + t.wide)) f (first_of t) past first in
    record {
      first = first;
      count = count;
      up = omega (arith, first, past, facts.0);
      few = omega (arith, count, facts.1);
    }
