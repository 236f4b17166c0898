-- What holds of each object, as objects come and go, and as requests see them.
use Rattle.std.proofs.Common.{◌≡◌, Bool, true, false, cond, Option, Some, None, option_map, IfSome, sym, ap, subst, refl, ◌∙◌}
use Rattle.std.specs.Ordering.{eq_by_cmp}
use Rattle.std.specs.FinMap.{empty, get, insert, remove, get-empty, get-insert, get-remove, same_map}
use Rattle.std.proofs.lemmas.Option.{none-some}
use Rattle.chunk_owner.proofs.OfInstalls.Walking.{unmarked_once}
use Rattle.containers.proofs.TextMaps.ValueMaps.{get-values}
use Rattle.object_ids.specs.IdOrder.{id_order}
use Rattle.object_ids.specs.IdValues.{Id}
use Rattle.object_ids.specs.declared.ids.Kind.{Kind}
use Rattle.object_ids.proofs.IdOrders.{id_order_once, id_order_total, tied_ids}
use Rattle.object_acts.specs.declared.objects.Object.{Object}
use Rattle.object_acts.specs.declared.objects.Body.{Body}
use Rattle.object_acts.specs.declared.objects.Body.TheVariants.{Group, Dataset, Datatype}
use Rattle.object_acts.specs.Objects.{unmarked, unmarked_body, kind_of_body, IsSoundBody, IsOfKind, Objects}
use Rattle.chunk_owner.specs.Lanes.{shown, Each, AreOfKind}

here : (b : Bool) (v o : Object) (w : Option Object) (P : Type 0) → (b ≡ true → v ≡ o → P) → (w ≡ Some o → P) → cond b (Some v) w ≡ Some o → P
here true v o w P new old e = new refl (let same : Some v ≡ Some o = e in cc)
here false v o w P new old e = old e

pub stays : (b : Bool) (w : Option Object) (o : Object) → cond b None w ≡ Some o → w ≡ Some o
stays true w o e = let both : None ≡ Some o = e in absurd (cc)
stays false w o e = e

module _ (P : Id → Object → Type 0) where
  pub each_empty : Each P empty
  each_empty q o e = absurd (none-some o (sym (get-empty id_order q) ∙ e))

  pub each_insert : (m : Objects) (k : Id) (v : Object) → P k v → Each P m → Each P (insert m k v)
  each_insert m k v new old = λ q o e.
      here (eq_by_cmp id_order q k) v o (get m q) (P q o)
      (λ b same. subst (λ (x : Object). P q x) same (subst (λ (i : Id). P i v) (sym (tied_ids q k b)) new))
      (old q o)
      (sym (get-insert id_order_total m k v q) ∙ e)

  pub each_remove : (m : Objects) (k : Id) → Each P m → Each P (remove m k)
  each_remove m k old = λ q o e. old q o (stays (eq_by_cmp id_order q k) (get m q) o (sym (get-remove id_order_total m k q) ∙ e))

  pub each_put : (m n : Objects) (k : Id) (v : Object) → n ≡ insert m k v → P k v → Each P m → Each P n
  each_put m n k v put new old = subst (λ (w : Objects). Each P w) (sym put) (each_insert m k v new old)

  pub each_gone : (m n : Objects) (k : Id) → n ≡ remove m k → Each P m → Each P n
  each_gone m n k gone old = subst (λ (w : Objects). Each P w) (sym gone) (each_remove m k old)

  pub each_same : (m n : Objects) → n ≡ m → Each P m → Each P n
  each_same m n same old = subst (λ (w : Objects). Each P w) (sym same) old

abbrev pub KindAt : Id → Object → Type 0
KindAt id o = IsOfKind id.kind o

-- the kind of what stands at an id
pub if_kind : (m : Objects) (id : Id) (o : Option Object) → o ≡ get m id → AreOfKind m → IfSome o (IsOfKind id.kind)
if_kind m id None e kinds = tt
if_kind m id (Some x) e kinds = kinds id x (sym e)

-- ---- as requests see them

pub get-shown : (m : Objects) (id : Id) → get (shown m) id ≡ option_map unmarked (get m id)
get-shown m id = get-values id_order_total unmarked m id

unmarked-unmarked : (o : Object) → unmarked (unmarked o) ≡ unmarked o
unmarked-unmarked o = ap (λ (b : Body). record o { body = b }) (unmarked_once o.body)

pub option-unmarked : (w : Option Object) → option_map unmarked (option_map unmarked w) ≡ option_map unmarked w
option-unmarked None = refl
option-unmarked (Some o) = ap (λ (x : Object). Some x) (unmarked-unmarked o)

-- what is shown is shown as it is
pub shown-shown : (m : Objects) → shown (shown m) ≡ shown m
shown-shown m = same_map id_order_total id_order_once _ _ (λ q.
    get-shown (shown m) q ∙ ap (option_map unmarked) (get-shown m q) ∙ option-unmarked (get m q) ∙ sym (get-shown m q))

there : (w : Option Object) (o : Object) → option_map unmarked w ≡ Some o → (x : Object) × (w ≡ Some x) × (unmarked x ≡ o)
there None o e = absurd (none-some o e)
there (Some x) o e = (x, refl, let same : Some (unmarked x) ≡ Some o = e in cc)

module _ (P Q : Id → Object → Type 0) where
  pub each_shown : ((id : Id) (o : Object) → P id o → Q id (unmarked o)) → (m : Objects) → Each P m → Each Q (shown m)
  each_shown f m each = λ q o e.
      let w = there (get m q) o (sym (get-shown m q) ∙ e) in
      subst (λ (x : Object). Q q x) w.2 (f q w.0 (each q w.0 w.1))

  pub each_marked : ((id : Id) (o : Object) → Q id (unmarked o) → P id o) → (m : Objects) → Each Q (shown m) → Each P m
  each_marked f m each = λ q o e. f q o (each q (unmarked o) (get-shown m q ∙ ap (option_map unmarked) e))

pub kind-unmarked : (b : Body) → kind_of_body (unmarked_body b) ≡ kind_of_body b
kind-unmarked (Group links) = refl
kind-unmarked (Dataset array) = refl
kind-unmarked (Datatype type) = refl

sound_unmarked : (b : Body) → IsSoundBody b → IsSoundBody (unmarked_body b)
sound_unmarked (Group links) h = h
sound_unmarked (Dataset array) h = h
sound_unmarked (Datatype type) h = h

pub unmarked_kind : (k : Kind) (o : Object) → IsOfKind k o → IsOfKind k (unmarked o)
unmarked_kind k o h = record { kind = kind-unmarked o.body ∙ h.kind; sound = sound_unmarked o.body h.sound }
