-- The objects of lanes as one map, and what steps do to both.
use Rattle.std.proofs.Common.{◌≡◌, ◌≢◌, ◌⊎◌, inl, inr, ℕ, zero, suc, ◌+◌, ◌==◌, Bool, true, false, not, cond, List, [], ◌∷◌, length, Option, Some, None, refl, sym, ap, subst, ◌∙◌, arith, eqb-true}
use Rattle.std.specs.List.{filter}
use Rattle.std.specs.Ordering.{eq_by_cmp}
use Rattle.std.specs.FinMap.{entries, find, get, get-empty, get-entries, get-from_entries, same_map}
use Rattle.std.proofs.lemmas.Bool.{and_parts}
use Rattle.std.proofs.lemmas.Option.{none-some}
use Rattle.object_ids.specs.IdOrder.{id_eq, id_order, kind_rank}
use Rattle.object_ids.specs.IdValues.{Id}
use Rattle.object_ids.specs.Ids.{lane_of}
use Rattle.object_ids.proofs.IdOrders.{id_order_once, id_order_total, rank_once, tied_ids}
use Rattle.object_ops.specs.declared.ops.Op.{Op}
use Rattle.object_ops.specs.declared.ops.Op.TheVariants.{DropObject, MakeObject}
use Rattle.object_ops.specs.declared.ops.Make.{Make}
use Rattle.object_ops.specs.declared.ops.LinkPlace.{LinkPlace}
use Rattle.object_ops.specs.declared.grants.Grant.{Grant}
use Rattle.object_ops.specs.declared.grants.Step.{Step}
use Rattle.object_ops.specs.declared.grants.Step.TheVariants.{Only, Link, Make as Making}
use Rattle.object_ops.specs.declared.replies.Reply.{Reply}
use Rattle.object_acts.specs.declared.objects.Object.{Object}
use Rattle.object_acts.specs.Objects.{Objects, empty_group}
use Rattle.object_acts.specs.Acts.{change_of, reads_object, reply_of}
use Rattle.chunk_owner.specs.Lanes.{Lane}
use Rattle.chunk_owner.specs.Acts.{act, changed_by, changing, group_of, link_to, linking, make_act, missing, object_here, on_touched, reading, removed, touched, touched_by_make}
use Rattle.chunk_owner.specs.Owners.Joined.{AreLanes, whole}
use Rattle.chunk_owner.specs.LaneLaws.{ActsAtHome, AddsOnlyGiven, AreJoined, DropsInEach, IsFoundAtHome, JoinedAreOne, WholeIsJoined, WithoutForgets, objects_in, without_domain}
use Rattle.chunk_owner.proofs.OfOwners.WholeLemmas.{at_home, away, get-set_at, get-whole, or_else, or_none}

-- ---- what a step adds

same_id : (x y : Id) → id_eq x y ≡ true → x ≡ y
same_id x y e =
    let a = and_parts (kind_rank x.kind == kind_rank y.kind) _ e in
    let b = and_parts (x.domain == y.domain) _ a.1 in
    let c = and_parts (x.run == y.run) (x.serial == y.serial) b.1 in
    let kinds = rank_once x.kind y.kind (eqb-true _ _ a.0) in
    let domains = eqb-true x.domain y.domain b.0 in
    let runs = eqb-true x.run y.run c.0 in
    let serials = eqb-true x.serial y.serial c.1 in
    λ i. record { kind = kinds i; domain = domains i; run = runs i; serial = serials i }

module _ (g : Grant) where
  abbrev Given : Id → Type 0
  Given id = (id ≡ g.root) ⊎ (g.fresh ≡ Some id)

  module _ (id : Id) (f : Object → Reply × Object) where
    changed_none : (own root : Bool) → (root ≡ true → id ≡ g.root) → (o : Object) → (changed_by f (missing g id) None (cond own (cond root (Some empty_group) None) None)).1 ≡ Some o → Given id
    changed_none true true same o e = inl (same refl)
    changed_none true false same o e = absurd (none-some o e)
    changed_none false root same o e = absurd (none-some o e)

    changing_none : (o : Object) → (changing g id f None).1 ≡ Some o → Given id
    changing_none o e = changed_none (id.domain == g.number) (id_eq id g.root) (same_id id g.root) o e

  on_none : (b : Bool) (op : Op) (id : Id) (o : Object) → (cond b (reading g id (reply_of g.root op) None) (changing g id (change_of op) None)).1 ≡ Some o → Given id
  on_none true op id o e = absurd (none-some o e)
  on_none false op id o e = changing_none id (change_of op) o e

  removing_none : (b : Bool) (id : Id) (s : Option Object) (o : Object) → (removed b (missing g id) None s).1 ≡ Some o → Given id
  removing_none b id None o e = absurd (none-some o e)
  removing_none true id (Some x) o e = absurd (none-some o e)
  removing_none false id (Some x) o e = absurd (none-some o e)

  linking_none : (place : Option LinkPlace) (new : Option Id) (id : Id) → group_of place ≡ Some id → (o : Object) → (linking g place new None).1 ≡ Some o → Given id
  linking_none (Some place) (Some new) id at o e =
      let same : place.group ≡ id = (let both : Some place.group ≡ Some id = at in cc) in
      subst Given same (changing_none place.group (link_to place new) o e)
  linking_none (Some place) None id at o e = absurd (none-some o e)
  linking_none None new id at o e = absurd (none-some o e)

  make_none : (make : Make) (place : Option LinkPlace) (s : Step) (id : Id) → touched_by_make g place s ≡ Some id → (o : Object) → (make_act g make place s None).1 ≡ Some o → Given id
  make_none make place Only id at o e = inr at
  make_none make place Link id at o e = linking_none place g.fresh id at o e
  make_none make place Making id at o e = inr at

  act_none : (op : Op) (s : Step) (id : Id) → touched g op s ≡ Some id → (o : Object) → (act g op s id None).1 ≡ Some o → Given id
  act_none (MakeObject make place) s id at o e = make_none make place s id at o e
  act_none (DropObject own) s id at o e = removing_none (id_eq id g.root) id (object_here g id None) o e
  act_none op s id at o e = on_none (reads_object op) op id o e

  -- the id is the one that is touched, or it has what it had
  left_at : (op : Op) (s : Step) (t : Option Id) → touched g op s ≡ t → (m : Objects) (id : Id) (o : Object) → get m id ≡ None → get (on_touched t (act g op s) m).1 id ≡ Some o → Given id
  left_at op s None at m id o none e = absurd (none-some o (sym none ∙ e))
  left_at op s (Some own) at m id o none e = by_tie (eq_by_cmp id_order id own) refl (sym (get-set_at m own (act g op s own (get m own)).1 id) ∙ e) where
    by_tie : (b : Bool) → eq_by_cmp id_order id own ≡ b → cond b (act g op s own (get m own)).1 (get m id) ≡ Some o → Given id
    by_tie true tie put =
        let same : id ≡ own = tied_ids id own tie in
        act_none op s id (at ∙ ap (λ x. Some x) (sym same)) o (sym (ap (λ (w : Option Object). (act g op s id w).1) none) ∙ ap (λ (x : Id). (act g op s x (get m x)).1) same ∙ put)
    by_tie false tie put = absurd (none-some o (sym none ∙ put))

pub adds_only_given : AddsOnlyGiven
adds_only_given g op s objects id o none e = left_at g op s (touched g op s) refl objects id o none e

-- ---- the objects of all lanes

here_in : (n j k : ℕ) (ls : List Lane) → AreLanes n j ls → (q : Id) → lane_of n q ≡ j + k → get (whole ls) q ≡ get (objects_in ls k) q
here_in n j k [] h q e = refl
here_in n j zero (x ∷ ls) h q e =
    get-whole x ls q ∙ ap (or_else (get x.objects q)) (away n (suc j) ls h.1 q (omega arith)) ∙ or_none (get x.objects q)
here_in n j (suc k) (x ∷ ls) h q e =
    get-whole x ls q ∙ ap (λ p. or_else p (get (whole ls) q)) (h.0.own q (λ f. omega arith)) ∙ here_in n (suc j) k ls h.1 q (omega arith)

own_in : (n j k : ℕ) (ls : List Lane) → AreLanes n j ls → (q : Id) → lane_of n q ≢ j + k → get (objects_in ls k) q ≡ None
own_in n j k [] h q far = get-empty id_order q
own_in n j zero (x ∷ ls) h q far = h.0.own q (λ e. far (omega arith))
own_in n j (suc k) (x ∷ ls) h q far = own_in n (suc j) k ls h.1 q (λ e. far (omega arith))

pub whole_is_joined : WholeIsJoined
whole_is_joined ls h = record {
  here = λ id. here_in (length ls) 0 (lane_of (length ls) id) ls h id (omega arith);
  own = λ k id far. own_in (length ls) 0 k ls h id (λ e. far (omega (arith, e)));
}

pub is_found_at_home : IsFoundAtHome
is_found_at_home ls l id h few is = at_home (length ls) 0 (lane_of (length ls) id) ls l h id (omega arith) few is

pub joined_are_one : JoinedAreOne
joined_are_one lanes lane a b one other = same_map id_order_total id_order_once a b (λ q. one.here q ∙ sym (other.here q))

-- ---- a step

module _ (lanes : ℕ) (lane left_by : ℕ → Objects) (all : Objects) (j : AreJoined lanes lane all) (f : Id → Option Object → Reply × Option Object) (id : Id) where
  abbrev home : ℕ
  home = lane_of lanes id

  abbrev Left : Objects → Objects
  Left m = (on_touched (Some id) f m).1

  same_reply : (on_touched (Some id) f all).0 ≡ (on_touched (Some id) f (lane home)).0
  same_reply = ap (λ (o : Option Object). (f id o).0) (j.here id)

  module _ (own : left_by home ≡ Left (lane home)) (rest : (k : ℕ) → k ≢ home → left_by k ≡ lane k) where
    elsewhere : (k : ℕ) → (k ≡ home) ⊎ (k ≢ home)
    elsewhere k = grind arith

    get-left : (k : ℕ) (q : Id) → get (left_by k) q ≡ get (lane k) q ⊎ (k ≡ home)
    get-left k q = at (elsewhere k) where
      at : (k ≡ home) ⊎ (k ≢ home) → get (left_by k) q ≡ get (lane k) q ⊎ (k ≡ home)
      at (inl same) = inr same
      at (inr other) = inl (ap (λ (m : Objects). get m q) (rest k other))

    at_id : (q : Id) (b : Bool) → eq_by_cmp id_order q id ≡ b → get (Left all) q ≡ get (left_by (lane_of lanes q)) q
    at_id q true tie = let same : q ≡ id = tied_ids q id tie in
        get-set_at all id (f id (get all id)).1 q ∙ ap (λ b. cond b (f id (get all id)).1 (get all q)) tie
        ∙ ap (λ (o : Option Object). (f id o).1) (j.here id)
        ∙ sym (ap (λ b. cond b (f id (get (lane home) id)).1 (get (lane home) q)) tie)
        ∙ sym (get-set_at (lane home) id (f id (get (lane home) id)).1 q)
        ∙ ap (λ (m : Objects). get m q) (sym own)
        ∙ ap (λ (x : Id). get (left_by (lane_of lanes x)) q) (sym same)
    at_id q false tie = get-set_at all id (f id (get all id)).1 q ∙ ap (λ b. cond b (f id (get all id)).1 (get all q)) tie ∙ j.here q ∙ sym (others (elsewhere (lane_of lanes q))) where
      others : (lane_of lanes q ≡ home) ⊎ (lane_of lanes q ≢ home) → get (left_by (lane_of lanes q)) q ≡ get (lane (lane_of lanes q)) q
      others (inr other) = ap (λ (m : Objects). get m q) (rest (lane_of lanes q) other)
      others (inl same) =
          ap (λ (k : ℕ). get (left_by k) q) same ∙ ap (λ (m : Objects). get m q) own ∙ get-set_at (lane home) id (f id (get (lane home) id)).1 q
          ∙ ap (λ b. cond b (f id (get (lane home) id)).1 (get (lane home) q)) tie ∙ ap (λ (k : ℕ). get (lane k) q) (sym same)

    own_left : (k : ℕ) (q : Id) → lane_of lanes q ≢ k → get (left_by k) q ≡ None
    own_left k q far = at (elsewhere k) where
      at : (k ≡ home) ⊎ (k ≢ home) → get (left_by k) q ≡ None
      at (inr other) = ap (λ (m : Objects). get m q) (rest k other) ∙ j.own k q far
      at (inl same) = ap (λ (x : ℕ). get (left_by x) q) same ∙ ap (λ (m : Objects). get m q) own ∙ get-set_at (lane home) id (f id (get (lane home) id)).1 q
          ∙ by_tie (eq_by_cmp id_order q id) refl where
            by_tie : (b : Bool) → eq_by_cmp id_order q id ≡ b → cond b (f id (get (lane home) id)).1 (get (lane home) q) ≡ None
            by_tie true tie = absurd (far (ap (lane_of lanes) (tied_ids q id tie) ∙ sym same))
            by_tie false tie = ap (λ (x : ℕ). get (lane x) q) (sym same) ∙ j.own k q far

    joined_after : AreJoined lanes left_by (Left all)
    joined_after = record { here = λ q. at_id q (eq_by_cmp id_order q id) refl; own = own_left }

pub acts_at_home : ActsAtHome
acts_at_home lanes lane left_by all g op s id j touches own rest = at (touched g op s) touches own where
  at : (t : Option Id) → t ≡ Some id → left_by (lane_of lanes id) ≡ (on_touched t (act g op s) (lane (lane_of lanes id))).1
      → ((on_touched t (act g op s) all).0 ≡ (on_touched t (act g op s) (lane (lane_of lanes id))).0) × AreJoined lanes left_by (on_touched t (act g op s) all).1
  at None e is = absurd (none-some id e)
  at (Some x) e is = let same : x ≡ id = (let both : Some x ≡ Some id = e in cc) in
      subst (λ (y : Id). ((on_touched (Some y) (act g op s) all).0 ≡ (on_touched (Some y) (act g op s) (lane (lane_of lanes id))).0) × AreJoined lanes left_by (on_touched (Some y) (act g op s) all).1) (sym same) (
        same_reply lanes lane left_by all j (act g op s) id,
        joined_after lanes lane left_by all j (act g op s) id (subst (λ (y : Id). left_by (lane_of lanes id) ≡ (on_touched (Some y) (act g op s) (lane (lane_of lanes id))).1) same is) rest,
      )

-- ---- a domain is dropped

module _ (number : ℕ) where
  abbrev is_other : Id × Object → Bool
  is_other e = not (e.0.domain == number)

  abbrev absent : Option Object
  absent = None

  dropped_or : (q : Id) (e : Id × Object) (es : List (Id × Object)) (tied own : Bool) → eq_by_cmp id_order q e.0 ≡ tied → (e.0.domain == number) ≡ own
      → find id_order q (filter is_other es) ≡ cond (q.domain == number) None (find id_order q es)
      → find id_order q (cond (not own) (e ∷ filter is_other es) (filter is_other es)) ≡ cond (q.domain == number) None (cond tied (Some e.1) (find id_order q es))
  dropped_or q e es true true t o h = h ∙ at (ap (λ i. i.domain == number) (tied_ids q e.0 t) ∙ o) where
    at : (q.domain == number) ≡ true → cond (q.domain == number) None (find id_order q es) ≡ cond (q.domain == number) None (Some e.1)
    at b = ap (λ c. cond c None (find id_order q es)) b ∙ sym (ap (λ c. cond c None (Some e.1)) b)
  dropped_or q e es false true t o h = h
  dropped_or q e es true false t o h =
      ap (λ c. cond c (Some e.1) (find id_order q (filter is_other es))) t ∙ sym (ap (λ c. cond c None (Some e.1)) (ap (λ i. i.domain == number) (tied_ids q e.0 t) ∙ o))
  dropped_or q e es false false t o h = ap (λ c. cond c (Some e.1) (find id_order q (filter is_other es))) t ∙ h

  none_either : (b : Bool) → absent ≡ cond b None None
  none_either true = refl
  none_either false = refl

  find-filter : (q : Id) (es : List (Id × Object)) → find id_order q (filter is_other es) ≡ cond (q.domain == number) None (find id_order q es)
  find-filter q [] = none_either (q.domain == number)
  find-filter q (e ∷ es) = dropped_or q e es (eq_by_cmp id_order q e.0) (e.0.domain == number) refl refl (find-filter q es)

  get-without : (m : Objects) (q : Id) → get (without_domain number m) q ≡ cond (q.domain == number) None (get m q)
  get-without m q = get-from_entries id_order_total (filter is_other (entries m)) q ∙ find-filter q (entries m) ∙ ap (cond (q.domain == number) None) (sym (get-entries m q))

  still_none : (b : Bool) (p : Option Object) → p ≡ None → cond b None p ≡ None
  still_none true p e = refl
  still_none false p e = e

pub without_forgets : WithoutForgets
without_forgets number m id = get-without number m id

pub drops_in_each : DropsInEach
drops_in_each lanes lane all number j = record {
  here = λ id. get-without number all id ∙ ap (cond (id.domain == number) None) (j.here id) ∙ sym (get-without number (lane (lane_of lanes id)) id);
  own = λ k id far. get-without number (lane k) id ∙ still_none number (id.domain == number) (get (lane k) id) (j.own k id far);
}
