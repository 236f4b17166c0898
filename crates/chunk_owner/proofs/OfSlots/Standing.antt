-- The objects that stand, as one map.
use Rattle.std.proofs.Common.{◌≡◌, ◌≢◌, ◌<◌, Bool, true, false, cond, T, List, [], ◌∷◌, length, Option, Some, None, is_some, IsSome, Less, Equal, is_eq, refl, sym, ap, subst, ◌∙◌}
use Rattle.std.specs.Cmp.{Equal-is}
use Rattle.std.specs.FinMap.{FinMap, empty, entries, entries_sorted, find, get, insert, remove, get-empty, get-entries, get-from_entries, get-insert, get-remove, is_sorted, same_map}
use Rattle.std.specs.FinMap.Entries.{below_all}
use Rattle.std.specs.Ordering.{eq_by_cmp}
use Rattle.std.proofs.lemmas.Cmp.{tied_itself}
use Rattle.containers.specs.TextMaps.Nexts.{is_behind, left, IsNext}
use Rattle.containers.proofs.TextMaps.Walks.{found_above}
use Rattle.object_ids.specs.IdOrder.{id_order}
use Rattle.object_ids.specs.IdValues.{Id}
use Rattle.object_ids.proofs.IdOrders.{id_order_once, id_order_total}
use Rattle.object_acts.specs.declared.objects.Object.{Object}
use Rattle.chunk_owner.specs.declared.slots.slot.Slot.{Slot}
use Rattle.chunk_owner.specs.Slots.Slots.{IsNextObject, Slots, object_of, objects_of, standing, with_standing}
use Rattle.containers.proofs.Passing.{by_bool, contrary, fewer_there, found_find}
use Rattle.chunk_owner.proofs.OfSlots.LaneCuts.{by_place, itself_not, weaker_behind}
use Rattle.containers.proofs.Plain.{halves}

-- ---- what a look-up finds

none_above : (q k : Id) (es : List (Id × Slot)) → eq_by_cmp id_order q k ≡ true → T (below_all id_order k es) → find id_order q es ≡ None
none_above q k es same low = at (find id_order q es) refl where
  at : (o : Option Slot) → find id_order q es ≡ o → find id_order q es ≡ None
  at None e = e
  at (Some s) e =
      let less : id_order k q ≡ Less = found_above id_order_total k q es s low e in
      let tied : id_order k q ≡ Equal = ap (λ (x : Id). id_order x q) (sym (id_order_once q k ((Equal-is (id_order q k)).0 same))) ∙ tied_itself id_order_total q in
      absurd (let both : Less ≡ Equal = sym less ∙ tied in cc)

standing_at : (e : Id × Slot) (es : List (Id × Slot)) (q : Id) (o : Option Object) → object_of (Some e.1) ≡ o → (b : Bool) → eq_by_cmp id_order q e.0 ≡ b → T (below_all id_order e.0 es)
    → find id_order q (standing es) ≡ object_of (find id_order q es) → find id_order q (with_standing e.0 o (standing es)) ≡ object_of (cond b (Some e.1) (find id_order q es))
standing_at e es q (Some x) is true tie low rest = ap (λ b. cond b (Some x) (find id_order q (standing es))) tie ∙ sym is
standing_at e es q (Some x) is false tie low rest = ap (λ b. cond b (Some x) (find id_order q (standing es))) tie ∙ rest
standing_at e es q None is true tie low rest = rest ∙ ap object_of (none_above q e.0 es tie low) ∙ sym is
standing_at e es q None is false tie low rest = rest

find-standing : (es : List (Id × Slot)) (q : Id) → T (is_sorted id_order es) → find id_order q (standing es) ≡ object_of (find id_order q es)
find-standing [] q sorted = refl
find-standing (e ∷ es) q sorted = standing_at e es q (object_of (Some e.1)) refl (eq_by_cmp id_order q e.0) refl (halves _ _ sorted).0 (find-standing es q (halves _ _ sorted).1)

-- the map has at each id the object of its slot
pub get-objects_of : (m : Slots) (id : Id) → get (objects_of m) id ≡ object_of (get m id)
get-objects_of m id = get-from_entries id_order_total (standing (entries m)) id ∙ find-standing (entries m) id (entries_sorted m) ∙ ap object_of (sym (get-entries m id))

-- ---- the next id that has an object

-- no object stands between
pub record IsPassed (m : Slots) (after at : Option Id) : Type 0 where
  pub none : (q : Id) → is_behind id_order after q ≡ true → is_behind id_order at q ≡ false → object_of (get m q) ≡ None
  pub behind : (q : Id) → is_behind id_order at q ≡ true → is_behind id_order after q ≡ true

pub passed_none : (m : Slots) (after : Option Id) → IsPassed m after after
passed_none m after = record {
  none = λ q is_so isnt. contrary (is_behind id_order after q) (object_of (get m q) ≡ None) is_so isnt;
  behind = λ q b. b;
}

module _ (m : Slots) (after at : Option Id) (p : IsPassed m after at) where
  pub passed_more : (id : Id) → IsNext m at (Some id) → is_some (object_of (get m id)) ≡ false → IsPassed m after (Some id)
  passed_more id next gone = record {
    none = λ q is_so isnt. by_place id q (object_of (get m q) ≡ None) isnt
        (λ same. ap (λ (x : Id). object_of (get m x)) same ∙ no_object (object_of (get m id)) gone)
        (λ other less. by_bool (is_behind id_order at q) (object_of (get m q) ≡ None) (λ b. ap object_of (next.2 q b less)) (λ b. p.none q is_so b));
    behind = λ q b. p.behind q (weaker_behind at id q next.0 b);
  } where
    no_object : (o : Option Object) → is_some o ≡ false → o ≡ None
    no_object None e = refl
    no_object (Some x) e = contrary true (Some x ≡ None) refl e

  pub passed_found : (id : Id) → IsNext m at (Some id) → is_some (object_of (get m id)) ≡ true → IsNextObject m after (Some id)
  passed_found id next there = (
    p.behind id next.0,
    subst (λ (o : Option Object). IsSome o) (sym (get-objects_of m id)) there,
    λ q is_so less. get-objects_of m q ∙ by_bool (is_behind id_order at q) (object_of (get m q) ≡ None) (λ b. ap object_of (next.2 q b less)) (λ b. p.none q is_so b),
  )

  pub passed_all : IsNext m at None → IsNextObject m after None
  passed_all next q is_so = get-objects_of m q ∙ by_bool (is_behind id_order at q) (object_of (get m q) ≡ None) (λ b. ap object_of (next q b)) (λ b. p.none q is_so b)

-- ---- fewer ids are left

pub fewer_left : {X : Type 0} (m : FinMap id_order X) (last : Option Id) (id : Id) → is_behind id_order last id ≡ true → IsSome (get m id) → length (left id_order (Some id) (entries m)) < length (left id_order last (entries m))
fewer_left m last id behind there = fewer_there (is_behind id_order (Some id)) (is_behind id_order last) (λ q e. weaker_behind last id q behind e) (eq_by_cmp id_order id) at_id (entries m)
    (found_find id_order id (entries m) (ap is_some (sym (get-entries m id)) ∙ there)) where
      at_id : (q : Id) → eq_by_cmp id_order id q ≡ true → (is_behind id_order (Some id) q ≡ false) × (is_behind id_order last q ≡ true)
      at_id q e = subst (λ (x : Id). (is_behind id_order (Some id) x ≡ false) × (is_behind id_order last x ≡ true)) (id_order_once id q ((Equal-is (id_order id q)).0 e)) (itself_not id, behind)

-- ---- one of them changes

-- the map, where one id has another object
pub objects-insert : (m n : Slots) (id : Id) (o : Object) → object_of (get n id) ≡ Some o → ((q : Id) → q ≢ id → get n q ≡ get m q) → objects_of n ≡ insert (objects_of m) id o
objects-insert m n id o here others = same_map id_order_total id_order_once (objects_of n) (insert (objects_of m) id o) (λ q. get-objects_of n q ∙ at q (eq_by_cmp id_order q id) refl ∙ sym (get-insert id_order_total (objects_of m) id o q)) where
  at : (q : Id) (b : Bool) → eq_by_cmp id_order q id ≡ b → object_of (get n q) ≡ cond (eq_by_cmp id_order q id) (Some o) (get (objects_of m) q)
  at q true e = ap (λ (x : Id). object_of (get n x)) (id_order_once q id ((Equal-is (id_order q id)).0 e)) ∙ here ∙ sym (ap (λ b. cond b (Some o) (get (objects_of m) q)) e)
  at q false e = ap object_of (others q (λ same. contrary (eq_by_cmp id_order q id) ⊥ (ap (λ (x : Id). eq_by_cmp id_order x id) same ∙ ap is_eq (tied_itself id_order_total id)) e)) ∙ sym (get-objects_of m q)
      ∙ sym (ap (λ b. cond b (Some o) (get (objects_of m) q)) e)

-- the map, where one id has no object
pub objects-remove : (m n : Slots) (id : Id) → object_of (get n id) ≡ None → ((q : Id) → q ≢ id → get n q ≡ get m q) → objects_of n ≡ remove (objects_of m) id
objects-remove m n id here others = same_map id_order_total id_order_once (objects_of n) (remove (objects_of m) id) (λ q. get-objects_of n q ∙ at q (eq_by_cmp id_order q id) refl ∙ sym (get-remove id_order_total (objects_of m) id q)) where
  at : (q : Id) (b : Bool) → eq_by_cmp id_order q id ≡ b → object_of (get n q) ≡ cond (eq_by_cmp id_order q id) None (get (objects_of m) q)
  at q true e = ap (λ (x : Id). object_of (get n x)) (id_order_once q id ((Equal-is (id_order q id)).0 e)) ∙ here ∙ sym (ap (λ b. cond b None (get (objects_of m) q)) e)
  at q false e = ap object_of (others q (λ same. contrary (eq_by_cmp id_order q id) ⊥ (ap (λ (x : Id). eq_by_cmp id_order x id) same ∙ ap is_eq (tied_itself id_order_total id)) e)) ∙ sym (get-objects_of m q)
      ∙ sym (ap (λ b. cond b None (get (objects_of m) q)) e)

pub objects-same : (m n : Slots) → ((q : Id) → object_of (get n q) ≡ object_of (get m q)) → objects_of n ≡ objects_of m
objects-same m n same = same_map id_order_total id_order_once (objects_of n) (objects_of m) (λ q. get-objects_of n q ∙ same q ∙ sym (get-objects_of m q))

pub objects-empty : objects_of empty ≡ empty
objects-empty = same_map id_order_total id_order_once (objects_of empty) empty (λ q. get-objects_of empty q ∙ ap object_of (get-empty id_order q) ∙ sym (get-empty id_order q))
