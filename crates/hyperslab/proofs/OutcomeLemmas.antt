-- The tests in their order tell each outcome where it holds.
use Rattle.std.proofs.Common.{◌≡◌, ◌↔◌, ℕ, zero, suc, ◌+◌, ◌<◌, ◌≤◌, ◌&&◌, ◌⊎◌, true, false, cond, List, [], ◌∷◌, length, get_or, Option, Some, None, Result, Ok, Err, inl, inr, nat_eq, nat_lt, nat_le, refl, sym, ap, subst, ◌∙◌, arith}
use Rattle.std.proofs.lemmas.Bool.{and_from, and_parts, eq-eqb, eqb-true, ne_eqb, le-leb, lt-leb, leb-true, leb-false, lt-ltb, le-ltb, ltb-true, ltb-false, eqb-false, cases_lt}
use Rattle.std.specs.List.{AllZip}
use Rattle.json_trees.proofs.FaultLemmas.{chosen}
use Rattle.json_trees.proofs.TreeLemmas.{length-AllZip}
use Rattle.shapes.specs.declared.Shape.{Shape}
use Rattle.shapes.specs.declared.Shape.TheVariants.{Null, Scalar, Simple}
use Rattle.shapes.specs.RowMajor.{room_of}
use Rattle.hyperslab.specs.declared.Slab.{Slab}
use Rattle.hyperslab.specs.declared.SlabFault.{SlabFault}
use Rattle.hyperslab.specs.declared.SlabFault.TheVariants.{Syntax, Rank, Step, Order, Past, TooMany}
use Rattle.hyperslab.specs.declared.TheConstants.{MAX_SELECTED}
use Rattle.hyperslab.specs.Selected.{Axis, AreAxes, IsSlab, FitsIn, axes, axes_of, extents}
use Rattle.hyperslab.specs.Judged.{fault_on, or_fault, first_fault, bounded, unless_fault, has_rank, judged_in, judged}
use Rattle.hyperslab.specs.Outcomes.{HasRank, axis_of, IsGood, AreGood, IsWhole, IsOutcomeIn, IsOutcome}
use Rattle.hyperslab.proofs.AxisLemmas.{axis_at, axis_with, length-axes, no_fault_on, or_none}

-- ---- the rank

rank_true : (dims : List ℕ) (s : Slab) → HasRank dims s → has_rank (length dims) s ≡ true
rank_true dims s h =
    let n = length dims in
    and_from (nat_eq (length s.start) n && nat_eq (length s.stop) n) (nat_eq (length s.step) n)
    (and_from (nat_eq (length s.start) n) (nat_eq (length s.stop) n) (eq-eqb (length s.start) n h.starts) (eq-eqb (length s.stop) n h.stops))
    (eq-eqb (length s.step) n h.steps)

true_rank : (dims : List ℕ) (s : Slab) → has_rank (length dims) s ≡ true → HasRank dims s
true_rank dims s e =
    let n = length dims in
    let one = and_parts (nat_eq (length s.start) n && nat_eq (length s.stop) n) (nat_eq (length s.step) n) e in
    let two = and_parts (nat_eq (length s.start) n) (nat_eq (length s.stop) n) one.0 in
    record { starts = eqb-true (length s.start) n two.0; stops = eqb-true (length s.stop) n two.1; steps = eqb-true (length s.step) n one.1 }

-- ---- one axis

abbrev IsStep : ℕ → Axis → Type 0
IsStep n x = x.by ≡ 0

abbrev IsOrder : ℕ → Axis → Type 0
IsOrder n x = (1 ≤ x.by) × (x.hi < x.lo)

abbrev IsPast : ℕ → Axis → Type 0
IsPast n x = (1 ≤ x.by) × (x.lo ≤ x.hi) × (n < x.hi)

some_step : (k n : ℕ) (x : Axis) → IsStep n x → fault_on k n x ≡ Some (Step k)
some_step k n x h = rw (eq-eqb x.by 0 h) refl

some_order : (k n : ℕ) (x : Axis) → IsOrder n x → fault_on k n x ≡ Some (Order k)
some_order k n x h =
    let step : nat_eq x.by 0 ≡ false = ne_eqb x.by 0 (λ e. omega (arith, h.0, e)) in
    rw (step, lt-ltb x.hi x.lo h.1) refl

some_past : (k n : ℕ) (x : Axis) → IsPast n x → fault_on k n x ≡ Some (Past k)
some_past k n x h =
    let step : nat_eq x.by 0 ≡ false = ne_eqb x.by 0 (λ e. omega (arith, h.0, e)) in
    rw (step, le-ltb x.hi x.lo h.1, lt-ltb n x.hi h.2) refl

no_fault : (k n : ℕ) (x : Axis) → IsGood n x → fault_on k n x ≡ None
no_fault k n x h =
    let step : nat_eq x.by 0 ≡ false = ne_eqb x.by 0 (λ e. omega (arith, h.0, e)) in
    rw (step, le-ltb x.hi x.lo h.1, le-ltb n x.hi h.2) refl

-- which fault an axis has
abbrev IsTold : ℕ → ℕ → Axis → SlabFault → Type 0
IsTold k n x f = ((Step k ≡ f) × IsStep n x) ⊎ ((Order k ≡ f) × IsOrder n x) ⊎ ((Past k ≡ f) × IsPast n x)

told_on : (k n : ℕ) (x : Axis) (f : SlabFault) → fault_on k n x ≡ Some f → IsTold k n x f
told_on k n x f e =
    elim (chosen (nat_eq x.by 0) (Some (Step k)) _ (Some f) e) [
      | inl h ↦ inl (cc, eqb-true x.by 0 h.0)
      | inr h ↦
          let some : x.by ≡ 0 → ⊥ = eqb-false x.by 0 h.0 in
          let pos : 1 ≤ x.by = elim (cases_lt 0 x.by) [ inl more ↦ more | inr none ↦ absurd (some (omega arith)) ] in
          elim (chosen (nat_lt x.hi x.lo) (Some (Order k)) _ (Some f) h.1) [
            | inl g ↦ inr (inl (cc, (pos, ltb-true x.hi x.lo g.0)))
            | inr g ↦
                elim (chosen (nat_lt n x.hi) (Some (Past k)) None (Some f) g.1) [
                  | inl d ↦ inr (inr (cc, (pos, ltb-false x.hi x.lo g.0, ltb-true n x.hi d.0)))
                  | inr d ↦ cc
                ]
          ]
    ]

-- ---- the first fault of the axes

-- the axis number `j` of these lists is the first that is told to have a fault, counted from `k`
record IsFound (k : ℕ) (dims los his bys : List ℕ) (f : SlabFault) : Type 0 where
  pub j : ℕ
  pub axis : j < length dims
  pub before : (i : ℕ) → i < j → IsGood (get_or dims i 0) (axis_at i los his bys)
  pub told : fault_on (k + j) (get_or dims j 0) (axis_at j los his bys) ≡ Some f

good_before : (n a b c : ℕ) (ns los his bys : List ℕ) (j : ℕ) → IsGood n (axis_with a b c) → ((i : ℕ) → i < j → IsGood (get_or ns i 0) (axis_at i los his bys))
    → (i : ℕ) → i < suc j → IsGood (get_or (n ∷ ns) i 0) (axis_at i (a ∷ los) (b ∷ his) (c ∷ bys))
good_before n a b c ns los his bys j h k zero l = h
good_before n a b c ns los his bys j h k (suc i) l = k i (omega arith)

or_some : (f g : Option SlabFault) (h : SlabFault) → or_fault f g ≡ Some h → (f ≡ Some h) ⊎ ((f ≡ None) × (g ≡ Some h))
or_some (Some x) g h e = inl e
or_some None g h e = inr (refl, e)

told_at : (j k n : ℕ) (x : Axis) (f : SlabFault) → k ≡ j → fault_on j n x ≡ Some f → fault_on k n x ≡ Some f
told_at j k n x f same e = ap (λ m. fault_on m n x) same ∙ e

first_found : (k : ℕ) (dims los his bys : List ℕ) (f : SlabFault) → length los ≡ length dims → length his ≡ length dims → length bys ≡ length dims
    → first_fault k dims (axes los his bys) ≡ Some f → IsFound k dims los his bys f
first_found k [] los his bys f p q r e = cc
first_found k (n ∷ ns) [] his bys f p q r e = absurd (omega arith)
first_found k (n ∷ ns) (a ∷ los) [] bys f p q r e = absurd (omega arith)
first_found k (n ∷ ns) (a ∷ los) (b ∷ his) [] f p q r e = absurd (omega arith)
first_found k (n ∷ ns) (a ∷ los) (b ∷ his) (c ∷ bys) f p q r e =
    let x = axis_with a b c in
    elim (or_some (fault_on k n x) (first_fault (suc k) ns (axes los his bys)) f e) [
      | inl here ↦
          record { j = 0; axis = omega arith; before = λ i l. absurd (omega (arith, l)); told = told_at k (k + 0) n x f (omega arith) here }
      | inr later ↦
          let rest = first_found (suc k) ns los his bys f (omega arith) (omega arith) (omega arith) later.1 in
          let good = no_fault_on k n x later.0 in
          record {
            j = suc rest.j;
            axis = omega (arith, rest.axis);
            before = good_before n a b c ns los his bys rest.j (good.0, good.1, good.2) rest.before;
            told = told_at (suc k + rest.j) (k + suc rest.j) (get_or ns rest.j 0) (axis_at rest.j los his bys) f (omega arith) rest.told;
          }
    ]

-- and the other way
found_first : (k : ℕ) (dims los his bys : List ℕ) (f : SlabFault) (j : ℕ) → length los ≡ length dims → length his ≡ length dims → length bys ≡ length dims → j < length dims
    → ((i : ℕ) → i < j → IsGood (get_or dims i 0) (axis_at i los his bys)) → fault_on (k + j) (get_or dims j 0) (axis_at j los his bys) ≡ Some f
    → first_fault k dims (axes los his bys) ≡ Some f
found_first k [] los his bys f j p q r l before e = absurd (omega arith)
found_first k (n ∷ ns) [] his bys f j p q r l before e = absurd (omega arith)
found_first k (n ∷ ns) (a ∷ los) [] bys f j p q r l before e = absurd (omega arith)
found_first k (n ∷ ns) (a ∷ los) (b ∷ his) [] f j p q r l before e = absurd (omega arith)
found_first k (n ∷ ns) (a ∷ los) (b ∷ his) (c ∷ bys) f zero p q r l before e =
    let same : k ≡ k + 0 = omega arith in
    ap (λ o. or_fault o (first_fault (suc k) ns (axes los his bys))) (ap (λ m. fault_on m n (axis_with a b c)) same ∙ e)
found_first k (n ∷ ns) (a ∷ los) (b ∷ his) (c ∷ bys) f (suc j) p q r l before e =
    let same : suc k + j ≡ k + suc j = omega arith in
    ap (λ o. or_fault o (first_fault (suc k) ns (axes los his bys))) (no_fault k n (axis_with a b c) (before 0 (omega arith)))
    ∙ found_first (suc k) ns los his bys f j (omega arith) (omega arith) (omega arith) (omega arith) (λ i m. before (suc i) (omega (arith, m)))
    (ap (λ m. fault_on m (get_or ns j 0) (axis_at j los his bys)) same ∙ e)

none_good : (k : ℕ) (dims los his bys : List ℕ) → length los ≡ length dims → length his ≡ length dims → length bys ≡ length dims
    → first_fault k dims (axes los his bys) ≡ None → (i : ℕ) → i < length dims → IsGood (get_or dims i 0) (axis_at i los his bys)
none_good k [] los his bys p q r e i l = absurd (omega arith)
none_good k (n ∷ ns) [] his bys p q r e i l = absurd (omega arith)
none_good k (n ∷ ns) (a ∷ los) [] bys p q r e i l = absurd (omega arith)
none_good k (n ∷ ns) (a ∷ los) (b ∷ his) [] p q r e i l = absurd (omega arith)
none_good k (n ∷ ns) (a ∷ los) (b ∷ his) (c ∷ bys) p q r e i l =
    let parts = or_none (fault_on k n (axis_with a b c)) (first_fault (suc k) ns (axes los his bys)) e in
    let good = no_fault_on k n (axis_with a b c) parts.0 in
    good_before n a b c ns los his bys (length ns) (good.0, good.1, good.2) (none_good (suc k) ns los his bys (omega arith) (omega arith) (omega arith) parts.1) i l

good_none : (k : ℕ) (dims los his bys : List ℕ) → length los ≡ length dims → length his ≡ length dims → length bys ≡ length dims
    → ((i : ℕ) → i < length dims → IsGood (get_or dims i 0) (axis_at i los his bys)) → first_fault k dims (axes los his bys) ≡ None
good_none k [] los his bys p q r good = refl
good_none k (n ∷ ns) [] his bys p q r good = absurd (omega arith)
good_none k (n ∷ ns) (a ∷ los) [] bys p q r good = absurd (omega arith)
good_none k (n ∷ ns) (a ∷ los) (b ∷ his) [] p q r good = absurd (omega arith)
good_none k (n ∷ ns) (a ∷ los) (b ∷ his) (c ∷ bys) p q r good =
    ap (λ o. or_fault o (first_fault (suc k) ns (axes los his bys))) (no_fault k n (axis_with a b c) (good 0 (omega arith)))
    ∙ good_none (suc k) ns los his bys (omega arith) (omega arith) (omega arith) (λ i m. good (suc i) (omega (arith, m)))

-- ---- from the tests to the outcome

told_fault : (dims : List ℕ) (s : Slab) (f : SlabFault) → HasRank dims s → IsFound 0 dims s.start s.stop s.step f → IsOutcomeIn dims s (Err f)
told_fault dims s f h found =
    let P = λ (g : SlabFault). IsOutcomeIn dims s (Err g) in
    let at : 0 + found.j ≡ found.j = omega arith in
    let here = ap (λ m. fault_on m (get_or dims found.j 0) (axis_of s found.j)) (sym at) ∙ found.told in
    elim (told_on found.j (get_or dims found.j 0) (axis_of s found.j) f here) [
      | inl step ↦ subst P step.0 (record { ranked = h; axis = found.axis; before = found.before; fault = step.1 })
      | inr rest ↦ elim rest [
        | inl order ↦ subst P order.0 (record { ranked = h; axis = found.axis; before = found.before; fault = order.1 })
        | inr past ↦ subst P past.0 (record { ranked = h; axis = found.axis; before = found.before; fault = past.1 })
      ]
    ]

bounded_told : (dims : List ℕ) (s : Slab) (r : Result Slab SlabFault) → IsWhole dims s → bounded s ≡ r → IsOutcomeIn dims s r
bounded_told dims s r h e =
    let n = room_of (extents s) in
    let P = λ (q : Result Slab SlabFault). IsOutcomeIn dims s q in
    elim (chosen (nat_le n MAX_SELECTED) (Ok s) (Err (TooMany n)) r e) [
      | inl few ↦ subst P few.1 (refl, h, leb-true n MAX_SELECTED few.0)
      | inr many ↦ subst P many.1 (h, refl, leb-false n MAX_SELECTED many.0)
    ]

axes_told : (dims : List ℕ) (s : Slab) (o : Option SlabFault) (r : Result Slab SlabFault) → HasRank dims s → first_fault 0 dims (axes_of s) ≡ o → unless_fault o s ≡ r → IsOutcomeIn dims s r
axes_told dims s None r h e t = bounded_told dims s r (record { ranked = h; axes = none_good 0 dims s.start s.stop s.step h.starts h.stops h.steps e }) t
axes_told dims s (Some f) r h e t =
    let P = λ (q : Result Slab SlabFault). IsOutcomeIn dims s q in
    subst P t (told_fault dims s f h (first_found 0 dims s.start s.stop s.step f h.starts h.stops h.steps e))

told_in : (dims : List ℕ) (s : Slab) (r : Result Slab SlabFault) → judged_in dims s ≡ r → IsOutcomeIn dims s r
unfolding judged_in
told_in dims s r e =
    let P = λ (q : Result Slab SlabFault). IsOutcomeIn dims s q in
    elim (chosen (has_rank (length dims) s) (unless_fault (first_fault 0 dims (axes_of s)) s) (Err Rank) r e) [
      | inl ranked ↦ axes_told dims s (first_fault 0 dims (axes_of s)) r (true_rank dims s ranked.0) refl ranked.1
      | inr other ↦
          let none = λ (h : HasRank dims s). (let yes_rank = rank_true dims s h in let out : ⊥ = cc in out) in
          subst P other.1 none
    ]

-- ---- from the outcome to the tests

ranked_in : (dims : List ℕ) (s : Slab) → HasRank dims s → judged_in dims s ≡ unless_fault (first_fault 0 dims (axes_of s)) s
unfolding judged_in
ranked_in dims s h = ap (λ b. cond b (unless_fault (first_fault 0 dims (axes_of s)) s) (Err Rank)) (rank_true dims s h)

first_in : (dims : List ℕ) (s : Slab) (f : SlabFault) (k : ℕ) → HasRank dims s → k < length dims → AreGood dims s k
    → fault_on k (get_or dims k 0) (axis_of s k) ≡ Some f → judged_in dims s ≡ Err f
first_in dims s f k h l before e =
    let at : 0 + k ≡ k = omega arith in
    ranked_in dims s h ∙ ap (λ o. unless_fault o s)
    (found_first 0 dims s.start s.stop s.step f k h.starts h.stops h.steps l before (ap (λ m. fault_on m (get_or dims k 0) (axis_of s k)) at ∙ e))

whole_in : (dims : List ℕ) (s : Slab) → IsWhole dims s → judged_in dims s ≡ bounded s
whole_in dims s h =
    ranked_in dims s h.ranked ∙ ap (λ o. unless_fault o s) (good_none 0 dims s.start s.stop s.step h.ranked.starts h.ranked.stops h.ranked.steps h.axes)

unranked : (dims : List ℕ) (s : Slab) → (HasRank dims s → ⊥) → judged_in dims s ≡ Err Rank
unfolding judged_in
unranked dims s none =
    elim (has_rank (length dims) s) as (λ b. has_rank (length dims) s ≡ b → cond b (unless_fault (first_fault 0 dims (axes_of s)) s) (Err Rank) ≡ Err Rank) [
      | true ↦ λ e. absurd (none (true_rank dims s e))
      | false ↦ λ e. refl
    ] refl

outcome_in : (dims : List ℕ) (s : Slab) (r : Result Slab SlabFault) → IsOutcomeIn dims s r → judged_in dims s ≡ r
outcome_in dims s (Ok t) h =
    let n = room_of (extents s) in
    whole_in dims s h.1 ∙ ap (λ b. cond b (Ok s) (Err (TooMany n))) (le-leb n MAX_SELECTED h.2) ∙ ap (λ u. Ok u) h.0
outcome_in dims s (Err (Syntax byte)) h = absurd h
outcome_in dims s (Err Rank) h = unranked dims s h
outcome_in dims s (Err (Step k)) h = first_in dims s (Step k) k h.ranked h.axis h.before (some_step k (get_or dims k 0) (axis_of s k) h.fault)
outcome_in dims s (Err (Order k)) h = first_in dims s (Order k) k h.ranked h.axis h.before (some_order k (get_or dims k 0) (axis_of s k) h.fault)
outcome_in dims s (Err (Past k)) h = first_in dims s (Past k) k h.ranked h.axis h.before (some_past k (get_or dims k 0) (axis_of s k) h.fault)
outcome_in dims s (Err (TooMany count)) h =
    let n = room_of (extents s) in
    let over : nat_le n MAX_SELECTED ≡ false = lt-leb n MAX_SELECTED (omega (arith, h.1, h.2)) in
    whole_in dims s h.0 ∙ ap (λ b. cond b (Ok s) (Err (TooMany n))) over ∙ ap (λ m. Err (TooMany m)) (sym h.1)

pub judged_outcome : (shape : Shape) (s : Slab) (r : Result Slab SlabFault) → ((judged shape s ≡ r) ↔ IsOutcome shape s r)
judged_outcome Null s r = (λ e. sym e, λ e. sym e)
judged_outcome Scalar s r = (λ e. sym e, λ e. sym e)
judged_outcome (Simple dims limits) s r = (told_in dims s r, outcome_in dims s r)

-- ---- a good selection lies within its dims

good_fits : (dims los his bys : List ℕ) → length los ≡ length dims → length his ≡ length dims → length bys ≡ length dims
    → ((i : ℕ) → i < length dims → IsGood (get_or dims i 0) (axis_at i los his bys)) → AllZip (λ x n. x.hi ≤ n) (axes los his bys) dims
good_fits [] [] his bys p q r good = tt
good_fits [] (a ∷ los) his bys p q r good = absurd (omega arith)
good_fits (n ∷ ns) [] his bys p q r good = absurd (omega arith)
good_fits (n ∷ ns) (a ∷ los) [] bys p q r good = absurd (omega arith)
good_fits (n ∷ ns) (a ∷ los) (b ∷ his) [] p q r good = absurd (omega arith)
good_fits (n ∷ ns) (a ∷ los) (b ∷ his) (c ∷ bys) p q r good =
    ((good 0 (omega arith)).2, good_fits ns los his bys (omega arith) (omega arith) (omega arith) (λ i m. good (suc i) (omega (arith, m))))

fits_good : (dims los his bys : List ℕ) → length los ≡ length dims → length his ≡ length dims → length bys ≡ length dims
    → AreAxes (axes los his bys) → AllZip (λ x n. x.hi ≤ n) (axes los his bys) dims → (i : ℕ) → i < length dims → IsGood (get_or dims i 0) (axis_at i los his bys)
fits_good [] los his bys p q r sound fits i l = absurd (omega arith)
fits_good (n ∷ ns) [] his bys p q r sound fits i l = absurd (omega arith)
fits_good (n ∷ ns) (a ∷ los) [] bys p q r sound fits i l = absurd (omega arith)
fits_good (n ∷ ns) (a ∷ los) (b ∷ his) [] p q r sound fits i l = absurd (omega arith)
fits_good (n ∷ ns) (a ∷ los) (b ∷ his) (c ∷ bys) p q r sound fits i l =
    good_before n a b c ns los his bys (length ns) (sound.0.2, sound.0.0, fits.0) (fits_good ns los his bys (omega arith) (omega arith) (omega arith) sound.1 fits.1) i l

pub whole_fits : (dims : List ℕ) (s : Slab) → IsWhole dims s → FitsIn s dims
whole_fits dims s h = good_fits dims s.start s.stop s.step h.ranked.starts h.ranked.stops h.ranked.steps h.axes

pub fits_whole : (dims : List ℕ) (s : Slab) → IsSlab s → FitsIn s dims → IsWhole dims s
fits_whole dims s h fits =
    let long : length s.start ≡ length dims = sym (length-axes s.start s.stop s.step h.ranked.stops h.ranked.steps) ∙ sym (length-AllZip _ (axes_of s) dims fits) in
    let stops = h.ranked.stops ∙ long in
    let steps = h.ranked.steps ∙ long in
    record {
      ranked = record { starts = long; stops = stops; steps = steps };
      axes = fits_good dims s.start s.stop s.step long stops steps h.sound fits;
    }
