-- What is done in one lane is done among all objects.
use Rattle.std.proofs.Common.{◌≡◌, ◌≢◌, ◌⊎◌, ⊎_elim, ℕ, zero, suc, ◌+◌, ◌<◌, Bool, true, false, cond, List, [], ◌∷◌, ◌++◌, length, get_or, option_map, IsSomeAnd, OnOk, OnErr, Option, Some, None, Result, Ok, Err, refl, sym, ap, subst, ◌∙◌, arith}
use Rattle.std.specs.Prelude.{slice_set}
use Rattle.std.specs.Ordering.{eq_by_cmp}
use Rattle.std.specs.FinMap.{empty, entries, find, get, get-empty, get-entries, get-insert, get-remove, insert, same_map}
use Rattle.containers.proofs.TextMaps.ValueMaps.{empty-values}
use Rattle.object_ids.specs.IdValues.{Id}
use Rattle.object_ids.specs.IdOrder.{id_order}
use Rattle.object_ids.specs.Ids.{lane_of}
use Rattle.object_ids.proofs.IdOrders.{id_order_once, id_order_total, tied_ids}
use Rattle.object_ops.specs.Replies.{Follows}
use Rattle.object_ops.specs.declared.ops.Op.{Op}
use Rattle.object_ops.specs.declared.ops.Op.TheVariants.{MakeObject}
use Rattle.object_ops.specs.declared.ops.Make.{Make}
use Rattle.object_ops.specs.declared.grants.Grant.{Grant}
use Rattle.object_ops.specs.declared.replies.Reply.{Reply}
use Rattle.object_acts.specs.declared.objects.Object.{Object}
use Rattle.object_acts.specs.Objects.{unmarked, Objects}
use Rattle.chunk_owner.specs.Lanes.{AreShown, Each, IsSameLane, IsWhole, Lane, set_at}
use Rattle.chunk_owner.specs.Acts.{HasFresh, IsFreshFor, IsTouchedIn, on_touched}
use Rattle.chunk_owner.proofs.Eaches.{get-shown}
use Rattle.chunk_owner.specs.Owners.Joined.{AreLanes, IsLane, merged, whole}

-- ---- one map of many

abbrev pub or_else : Option Object → Option Object → Option Object
or_else (Some x) p = Some x
or_else None p = p

pub or_none : (p : Option Object) → or_else p None ≡ p
or_none (Some x) = refl
or_none None = refl

one_more : (b : Bool) (v : Object) (p q r : Option Object) → r ≡ or_else p q → cond b (Some v) r ≡ or_else (cond b (Some v) p) q
one_more true v p q r e = refl
one_more false v p q r e = e

get-merged : (es : List (Id × Object)) (n : Objects) (q : Id) → get (merged es n) q ≡ or_else (find id_order q es) (get n q)
get-merged [] n q = refl
get-merged (e ∷ es) n q =
    get-insert id_order_total (merged es n) e.0 e.1 q ∙ one_more (eq_by_cmp id_order q e.0) e.1 (find id_order q es) (get n q) (get (merged es n) q) (get-merged es n q)

-- the first lane that has an id decides
pub get-whole : (l : Lane) (ls : List Lane) (q : Id) → get (whole (l ∷ ls)) q ≡ or_else (get l.objects q) (get (whole ls) q)
get-whole l ls q = get-merged (entries l.objects) (whole ls) q ∙ ap (λ p. or_else p (get (whole ls) q)) (sym (get-entries l.objects q))

pub get-set_at : (m : Objects) (k : Id) (w : Option Object) (q : Id) → get (set_at m k w) q ≡ cond (eq_by_cmp id_order q k) w (get m q)
get-set_at m k None q = get-remove id_order_total m k q
get-set_at m k (Some v) q = get-insert id_order_total m k v q

-- ---- lanes

module _ (n : ℕ) where
  pub away : (k : ℕ) (ls : List Lane) → AreLanes n k ls → (q : Id) → lane_of n q < k → get (whole ls) q ≡ None
  away k [] h q below = get-empty id_order q
  away k (l ∷ ls) h q below =
      get-whole l ls q ∙ ap (λ p. or_else p (get (whole ls) q)) (h.0.own q (λ e. omega arith)) ∙ away (suc k) ls h.1 q (omega arith)

  -- what stands in the lane of an id stands in the whole
  pub at_home : (k i : ℕ) (ls : List Lane) (l : Lane) → AreLanes n k ls → (q : Id) → lane_of n q ≡ k + i → i < length ls → get_or ls i l ≡ l → get (whole ls) q ≡ get l.objects q
  at_home k i [] l h q e few is = absurd (omega arith)
  at_home k zero (x ∷ ls) l h q e few is =
      get-whole x ls q ∙ ap (or_else (get x.objects q)) (away (suc k) ls h.1 q (omega arith)) ∙ or_none (get x.objects q) ∙ ap (λ y. get y.objects q) is
  at_home k (suc i) (x ∷ ls) l h q e few is =
      get-whole x ls q ∙ ap (λ p. or_else p (get (whole ls) q)) (h.0.own q (λ f. omega arith)) ∙ at_home (suc k) i ls l h.1 q (omega arith) (omega arith) is

  pub lane_at : (k i : ℕ) (ls : List Lane) (l : Lane) → AreLanes n k ls → i < length ls → get_or ls i l ≡ l → IsLane n (k + i) l
  lane_at k i [] l h few is = absurd (omega arith)
  lane_at k zero (x ∷ ls) l h few is = subst (IsLane n (k + zero)) is (let e : k ≡ k + zero = omega arith in subst (λ j. IsLane n j x) e h.0)
  lane_at k (suc i) (x ∷ ls) l h few is = let e : suc k + i ≡ k + suc i = omega arith in subst (λ j. IsLane n j l) e (lane_at (suc k) i ls l h.1 (omega arith) is)

  pub lanes_set : (k i : ℕ) (ls : List Lane) (l : Lane) → AreLanes n k ls → i < length ls → IsLane n (k + i) l → AreLanes n k (slice_set ls i l)
  lanes_set k i [] l h few new = absurd (omega arith)
  lanes_set k zero (x ∷ ls) l h few new = (let e : k + zero ≡ k = omega arith in subst (λ j. IsLane n j l) e new, h.1)
  lanes_set k (suc i) (x ∷ ls) l h few new = (h.0, lanes_set (suc k) i ls l h.1 (omega arith) (let e : k + suc i ≡ suc k + i = omega arith in subst (λ j. IsLane n j l) e new))

  put_first : (b : Bool) (w p j : Option Object) → (b ≡ true → j ≡ None) → or_else (cond b w p) j ≡ cond b w (or_else p j)
  put_first true w p j none = ap (or_else w) (none refl) ∙ or_none w
  put_first false w p j none = refl

  put_later : (b : Bool) (w p j : Option Object) → (b ≡ true → p ≡ None) → or_else p (cond b w j) ≡ cond b w (or_else p j)
  put_later true w p j none = ap (λ x. or_else x w) (none refl)
  put_later false w p j none = refl

  home_of : (q id : Id) → eq_by_cmp id_order q id ≡ true → lane_of n q ≡ lane_of n id
  home_of q id e = ap (lane_of n) (tied_ids q id e)

  get-put : (k i : ℕ) (ls : List Lane) (l new : Lane) (id : Id) (w : Option Object) → AreLanes n k ls → lane_of n id ≡ k + i → i < length ls → get_or ls i l ≡ l
      → new.objects ≡ set_at l.objects id w → (q : Id) → get (whole (slice_set ls i new)) q ≡ cond (eq_by_cmp id_order q id) w (get (whole ls) q)
  get-put k i [] l new id w h e few is put q = absurd (omega arith)
  get-put k zero (x ∷ ls) l new id w h e few is put q =
      get-whole new ls q
      ∙ ap (λ p. or_else p (get (whole ls) q)) (ap (λ m. get m q) put ∙ get-set_at l.objects id w q ∙ ap (λ y. cond (eq_by_cmp id_order q id) w (get y.objects q)) (sym is))
      ∙ put_first (eq_by_cmp id_order q id) w (get x.objects q) (get (whole ls) q) (λ t. let at = home_of q id t in away (suc k) ls h.1 q (omega arith))
      ∙ ap (cond (eq_by_cmp id_order q id) w) (sym (get-whole x ls q))
  get-put k (suc i) (x ∷ ls) l new id w h e few is put q =
      get-whole x (slice_set ls i new) q
      ∙ ap (or_else (get x.objects q)) (get-put (suc k) i ls l new id w h.1 (omega arith) (omega arith) is put q)
      ∙ put_later (eq_by_cmp id_order q id) w (get x.objects q) (get (whole ls) q) (λ t. let at = home_of q id t in h.0.own q (λ f. omega arith))
      ∙ ap (cond (eq_by_cmp id_order q id) w) (sym (get-whole x ls q))

  -- what is put at an id in its lane is put there in the whole
  put_at : (k i : ℕ) (ls : List Lane) (l new : Lane) (id : Id) (w : Option Object) → AreLanes n k ls → lane_of n id ≡ k + i → i < length ls → get_or ls i l ≡ l
      → new.objects ≡ set_at l.objects id w → whole (slice_set ls i new) ≡ set_at (whole ls) id w
  put_at k i ls l new id w h e few is put =
      same_map id_order_total id_order_once _ _ (λ q. get-put k i ls l new id w h e few is put q ∙ sym (get-set_at (whole ls) id w q))

pub whole_same : (i : ℕ) (ls : List Lane) (l new : Lane) → get_or ls i l ≡ l → new.objects ≡ l.objects → whole (slice_set ls i new) ≡ whole ls
whole_same i [] l new is same = refl
whole_same zero (x ∷ ls) l new is same = ap (λ m. merged (entries m) (whole ls)) (same ∙ ap (λ y. y.objects) (sym is))
whole_same (suc i) (x ∷ ls) l new is same = ap (merged (entries x.objects)) (whole_same i ls l new is same)

set_same : (i : ℕ) (ls : List Lane) (l : Lane) → get_or ls i l ≡ l → slice_set ls i l ≡ ls
set_same i [] l is = refl
set_same zero (x ∷ ls) l is = ap (λ y. y ∷ ls) (sym is)
set_same (suc i) (x ∷ ls) l is = ap (λ ys. x ∷ ys) (set_same i ls l is)

-- ---- a step in its lane

module _ (n i : ℕ) (ls : List Lane) (l new : Lane) (h : AreLanes n 0 ls) (few : i < length ls) (is : get_or ls i l ≡ l) where
  pub this_lane : IsLane n i l
  this_lane = let e : 0 + i ≡ i = omega arith in subst (λ j. IsLane n j l) e (lane_at n 0 i ls l h few is)

  -- what a step touches is of the lane by its own numbers
  pub touched_own : (t : Option Id) → IsTouchedIn i n t → IsTouchedIn l.lane l.lanes t
  touched_own t at = subst (λ (j : ℕ). IsTouchedIn j l.lanes t) (sym this_lane.lane) (subst (λ (j : ℕ). IsTouchedIn i j t) (sym this_lane.lanes) at)

  pub follows_whole : {E : Type 0} (t : Option Id) (f : Id → Option Object → Reply × Option Object) (r : Result Reply E)
      → IsTouchedIn i n t → Follows (on_touched t f l.objects) l.objects r new.objects → Follows (on_touched t f (whole ls)) (whole ls) r (whole (slice_set ls i new))
  follows_whole None f r at said = absurd at
  follows_whole (Some id) f (Ok reply) at said =
      let e : lane_of n id ≡ 0 + i = omega (arith, at) in
      let there : get l.objects id ≡ get (whole ls) id = sym (at_home n 0 i ls l h id e few is) in (
        said.0 ∙ ap (λ o. (f id o).0) there,
        put_at n 0 i ls l new id (f id (get (whole ls) id)).1 h e few is (said.1 ∙ ap (λ o. set_at l.objects id (f id o).1) there),
      )
  follows_whole (Some id) f (Err x) at said = whole_same i ls l new is said

  own_after : (id : Id) (w : Option Object) → lane_of n id ≡ i → new.objects ≡ set_at l.objects id w → (q : Id) → (lane_of n q ≡ i → ⊥) → get new.objects q ≡ None
  own_after id w at put q far =
      ap (λ m. get m q) put ∙ get-set_at l.objects id w q ∙ other (eq_by_cmp id_order q id) (λ t. far (ap (lane_of n) (tied_ids q id t) ∙ at)) ∙ this_lane.own q far where
        other : (b : Bool) → (b ≡ true → ⊥) → cond b w (get l.objects q) ≡ get l.objects q
        other true differ = absurd (differ refl)
        other false differ = refl

  -- the lanes stay lanes where this one is the same and has objects of its own alone
  lanes_after : IsSameLane l new → ((q : Id) → (lane_of n q ≡ i → ⊥) → get new.objects q ≡ None) → AreLanes n 0 (slice_set ls i new)
  lanes_after same own = let e : 0 + i ≡ i = omega arith in lanes_set n 0 i ls new h few (subst (λ j. IsLane n j new) (sym e) (record {
    lane = same.lane ∙ this_lane.lane;
    lanes = same.lanes ∙ this_lane.lanes;
    own = own;
  }))

  own_same : new.objects ≡ l.objects → (q : Id) → (lane_of n q ≡ i → ⊥) → get new.objects q ≡ None
  own_same said q far = ap (λ m. get m q) said ∙ this_lane.own q far

  -- so they do where its objects are the same
  pub lanes_same : IsSameLane l new → new.objects ≡ l.objects → AreLanes n 0 (slice_set ls i new)
  lanes_same same said = lanes_after same (own_same said)

  pub lane_after : {E : Type 0} (t : Option Id) (f : Id → Option Object → Reply × Option Object) (r : Result Reply E)
      → IsTouchedIn i n t → IsSameLane l new → Follows (on_touched t f l.objects) l.objects r new.objects → AreLanes n 0 (slice_set ls i new)
  lane_after t f r at same said = lanes_after same (own t r at said) where
    own : {E : Type 0} (t : Option Id) (r : Result Reply E) → IsTouchedIn i n t → Follows (on_touched t f l.objects) l.objects r new.objects → (q : Id) → (lane_of n q ≡ i → ⊥) → get new.objects q ≡ None
    own None r at said = absurd at
    own (Some id) (Ok reply) at said = own_after id (f id (get l.objects id)).1 at said.1
    own (Some id) (Err x) at said = own_same said

  -- ---- an object put at an id of the lane

  module _ (id : Id) (o : Object) (at : lane_of n id ≡ i) where
    pub home_by_lane : lane_of l.lanes id ≡ l.lane
    home_by_lane = ap (λ j. lane_of j id) this_lane.lanes ∙ at ∙ sym this_lane.lane

    pub put_whole : {E : Type 0} (r : Result (Unit {0}) E) → OnOk r (new.objects ≡ insert l.objects id o) → OnOk r (whole (slice_set ls i new) ≡ insert (whole ls) id o)
    put_whole (Ok u) put = let e : lane_of n id ≡ 0 + i = omega (arith, at) in put_at n 0 i ls l new id (Some o) h e few is put
    put_whole (Err x) put = tt

    pub kept_lanes : {E : Type 0} (r : Result (Unit {0}) E) → OnErr r (new ≡ l) → OnErr r (slice_set ls i new ≡ ls)
    kept_lanes (Ok u) kept = tt
    kept_lanes (Err x) kept = ap (slice_set ls i) kept ∙ set_same i ls l is

    pub lane_put : {E : Type 0} (r : Result (Unit {0}) E) → IsSameLane l new → OnOk r (new.objects ≡ insert l.objects id o) → OnErr r (new ≡ l) → AreLanes n 0 (slice_set ls i new)
    lane_put (Ok u) same put kept = lanes_after same (own_after id (Some o) at put)
    lane_put (Err x) same put kept = lanes_after same (own_same (ap (λ (x : Lane). x.objects) kept))

  -- an id without an object has none in the lane
  pub none_here : (q : Id) → get (whole ls) q ≡ None → get l.objects q ≡ None
  none_here q none = ⊎_elim (λ at. let e : lane_of n q ≡ 0 + i = omega (arith, at) in sym (at_home n 0 i ls l h q e few is) ∙ none) (this_lane.own q) (same_or_not (lane_of n q)) where
    same_or_not : (j : ℕ) → (j ≡ i) ⊎ (j ≢ i)
    same_or_not j = grind arith

  fresh_at : (make : Make) (o : Option Id) → IsSomeAnd o (IsFreshFor make (whole ls)) → IsSomeAnd o (IsFreshFor make l.objects)
  fresh_at make None some = some
  fresh_at make (Some id) fresh = record { kind = fresh.kind; new = none_here id fresh.new }

  pub fresh_here : (g : Grant) (op : Op) → HasFresh g op (whole ls) → HasFresh g op l.objects
  fresh_here g (MakeObject make place) fresh = fresh_at make g.fresh fresh
  fresh_here g op fresh = fresh

-- ---- new lanes

pub lanes_push : (n k : ℕ) (ls : List Lane) (x : Lane) → AreLanes n k ls → IsLane n (k + length ls) x → AreLanes n k (ls ++ x ∷ [])
lanes_push n k [] x h new = (let e : k + 0 ≡ k = omega arith in subst (λ (j : ℕ). IsLane n j x) e new, tt)
lanes_push n k (l ∷ ls) x h new = (h.0, lanes_push n (suc k) ls x h.1 (let e : k + suc (length ls) ≡ suc k + length ls = omega arith in subst (λ (j : ℕ). IsLane n j x) e new))

or_assoc : (p q r : Option Object) → or_else p (or_else q r) ≡ or_else (or_else p q) r
or_assoc (Some x) q r = refl
or_assoc None q r = refl

pub get-push : (ls : List Lane) (x : Lane) (q : Id) → get (whole (ls ++ x ∷ [])) q ≡ or_else (get (whole ls) q) (get x.objects q)
get-push [] x q =
    get-whole x [] q ∙ ap (or_else (get x.objects q)) (get-empty id_order q) ∙ or_none (get x.objects q) ∙ sym (ap (λ p. or_else p (get x.objects q)) (get-empty id_order q))
get-push (l ∷ ls) x q =
    get-whole l (ls ++ x ∷ []) q ∙ ap (or_else (get l.objects q)) (get-push ls x q) ∙ or_assoc (get l.objects q) (get (whole ls) q) (get x.objects q)
    ∙ sym (ap (λ p. or_else p (get x.objects q)) (get-whole l ls q))

-- a lane without objects adds none
pub whole_push : (ls : List Lane) (x : Lane) → x.objects ≡ empty → whole ls ≡ empty → whole (ls ++ x ∷ []) ≡ empty
whole_push ls x none before = same_map id_order_total id_order_once _ _ (λ q.
    get-push ls x q ∙ ap (λ (m : Objects). or_else (get m q) (get x.objects q)) before ∙ ap (λ (m : Objects). or_else (get {R = id_order} empty q) (get m q)) none
    ∙ ap (λ p. or_else p (get {R = id_order} empty q)) (get-empty id_order q))

pub none_in : (m : Objects) (q : Id) → m ≡ empty → get m q ≡ None
none_in m q e = ap (λ (w : Objects). get w q) e ∙ get-empty id_order q

pub new_lane : (n k : ℕ) (x : Lane) → x ≡ record { lane = k; lanes = n; objects = empty; slots = empty } → IsLane n k x
new_lane n k x e = subst (IsLane n k) (sym e) (record { lane = refl; lanes = refl; own = λ q far. get-empty id_order q })

-- an object of a whole lane is of the lane
pub own_of_whole : (n k : ℕ) (l : Lane) → l.lane ≡ k → l.lanes ≡ n → IsWhole l → IsLane n k l
own_of_whole n k l lane lanes whole = record { lane = lane; lanes = lanes; own = λ q far. at q far (get l.objects q) refl } where
  at : (q : Id) → (lane_of n q ≡ k → ⊥) → (o : Option Object) → get l.objects q ≡ o → get l.objects q ≡ None
  at q far None e = e
  at q far (Some o) e = absurd (far (ap (λ j. lane_of j q) (sym lanes) ∙ (whole.own q o e).own ∙ lane))

-- ---- what holds of each object

pub each_push : (P : Id → Object → Type 0) (ls : List Lane) (x : Lane) → Each P (whole ls) → Each P x.objects → Each P (whole (ls ++ x ∷ []))
each_push P ls x a b q o e = at (get (whole ls) q) (get x.objects q) refl refl (sym (get-push ls x q) ∙ e) where
  at : (w v : Option Object) → get (whole ls) q ≡ w → get x.objects q ≡ v → or_else w v ≡ Some o → P q o
  at (Some y) v here there f = a q o (here ∙ f)
  at None v here there f = b q o (there ∙ f)

-- ---- as requests see them

shown_at : (m : Objects) → AreShown m → (q : Id) → option_map unmarked (get m q) ≡ get m q
shown_at m e q = sym (get-shown m q) ∙ ap (λ (w : Objects). get w q) e

shown_either : (p j : Option Object) → option_map unmarked p ≡ p → option_map unmarked j ≡ j → option_map unmarked (or_else p j) ≡ or_else p j
shown_either (Some x) j a b = a
shown_either None j a b = b

pub shown_push : (ls : List Lane) (x : Lane) → AreShown (whole ls) → AreShown x.objects → AreShown (whole (ls ++ x ∷ []))
shown_push ls x a b = same_map id_order_total id_order_once _ _ (λ q.
    get-shown (whole (ls ++ x ∷ [])) q
    ∙ ap (option_map unmarked) (get-push ls x q)
    ∙ shown_either (get (whole ls) q) (get x.objects q) (shown_at (whole ls) a q) (shown_at x.objects b q)
    ∙ sym (get-push ls x q))

pub shown_none : AreShown (whole [])
shown_none = empty-values id_order_total id_order_once unmarked
