-- What stands at an id, as objects are put, removed and dropped.
use Rattle.std.proofs.Common.{◌≡◌, ℕ, ◌==◌, Bool, true, false, not, cond, List, [], ◌∷◌, Option, Some, None, refl, sym, ap, subst, ◌∙◌}
use Rattle.std.specs.List.{filter}
use Rattle.std.specs.Ordering.{eq_by_cmp}
use Rattle.std.specs.FinMap.{entries, find, get, insert, remove, get-entries, get-from_entries, get-insert, get-remove}
use Rattle.std.proofs.lemmas.Option.{none-some}
use Rattle.object_ids.specs.IdOrder.{id_order}
use Rattle.object_ids.specs.IdValues.{Id}
use Rattle.object_ids.proofs.IdOrders.{id_order_total, tied_ids}
use Rattle.object_acts.specs.Objects.{Objects}
use Rattle.object_acts.specs.declared.objects.Object.{Object}
use Rattle.chunk_owner.specs.Lanes.{Each, set_at}
use Rattle.service_core.specs.Steps.{without_domain}

pub absent : Option Object
absent = None

-- what stands at an id once another object, or none, is put at one
abbrev pub set_to : Bool → Option Object → Option Object → Option Object
set_to here o p = cond here o p

pub get_set : (m : Objects) (k : Id) (o : Option Object) (q : Id) → get (set_at m k o) q ≡ set_to (eq_by_cmp id_order q k) o (get m q)
get_set m k None q = get-remove id_order_total m k q
get_set m k (Some v) q = get-insert id_order_total m k v q

stays : (b : Bool) (w : Option Object) (o : Object) → cond b None w ≡ Some o → w ≡ Some o
stays true w o e = absurd (none-some o e)
stays false w o e = e

here : (b : Bool) (v o : Object) (w : Option Object) (P : Type 0) → (b ≡ true → v ≡ o → P) → (w ≡ Some o → P) → cond b (Some v) w ≡ Some o → P
here true v o w P new old e = new refl (let same : Some v ≡ Some o = e in cc)
here false v o w P new old e = old e

module _ (P : Id → Object → Type 0) where
  each_insert : (m : Objects) (k : Id) (v : Object) → P k v → Each P m → Each P (insert m k v)
  each_insert m k v new old = λ q o e.
      here (eq_by_cmp id_order q k) v o (get m q) (P q o)
      (λ b same. subst (λ (x : Object). P q x) same (subst (λ (i : Id). P i v) (sym (tied_ids q k b)) new))
      (old q o)
      (sym (get-insert id_order_total m k v q) ∙ e)

  each_remove : (m : Objects) (k : Id) → Each P m → Each P (remove m k)
  each_remove m k old = λ q o e. old q o (stays (eq_by_cmp id_order q k) (get m q) o (sym (get-remove id_order_total m k q) ∙ e))

  pub each_set : (m : Objects) (k : Id) (w : Option Object) → ((o : Object) → w ≡ Some o → P k o) → Each P m → Each P (set_at m k w)
  each_set m k None new old = each_remove m k old
  each_set m k (Some o) new old = each_insert m k o (new o refl) old

-- ---- the objects of a domain are dropped

module _ (number : ℕ) where
  abbrev is_other : Id × Object → Bool
  is_other e = not (e.0.domain == number)

  dropped_or : (q : Id) (e : Id × Object) (es : List (Id × Object)) (tied own : Bool) → eq_by_cmp id_order q e.0 ≡ tied → (e.0.domain == number) ≡ own
      → find id_order q (filter is_other es) ≡ cond (q.domain == number) None (find id_order q es)
      → find id_order q (cond (not own) (e ∷ filter is_other es) (filter is_other es)) ≡ cond (q.domain == number) None (cond tied (Some e.1) (find id_order q es))
  dropped_or q e es true true t o h = h ∙ at (ap (λ i. i.domain == number) (tied_ids q e.0 t) ∙ o) where
    at : (q.domain == number) ≡ true → cond (q.domain == number) None (find id_order q es) ≡ cond (q.domain == number) None (Some e.1)
    at b = ap (λ c. cond c None (find id_order q es)) b ∙ sym (ap (λ c. cond c None (Some e.1)) b)
  dropped_or q e es false true t o h = h
  dropped_or q e es true false t o h =
      ap (λ c. cond c (Some e.1) (find id_order q (filter is_other es))) t ∙ sym (ap (λ c. cond c None (Some e.1)) (ap (λ i. i.domain == number) (tied_ids q e.0 t) ∙ o))
  dropped_or q e es false false t o h = ap (λ c. cond c (Some e.1) (find id_order q (filter is_other es))) t ∙ h

  none_either : (b : Bool) → absent ≡ cond b None None
  unfolding absent
  none_either true = refl
  none_either false = refl

  find-filter : (q : Id) (es : List (Id × Object)) → find id_order q (filter is_other es) ≡ cond (q.domain == number) None (find id_order q es)
  unfolding absent
  find-filter q [] = none_either (q.domain == number)
  find-filter q (e ∷ es) = dropped_or q e es (eq_by_cmp id_order q e.0) (e.0.domain == number) refl refl (find-filter q es)

  pub get_without : (m : Objects) (q : Id) → get (without_domain number m) q ≡ cond (q.domain == number) None (get m q)
  get_without m q = get-from_entries id_order_total (filter is_other (entries m)) q ∙ find-filter q (entries m) ∙ ap (cond (q.domain == number) None) (sym (get-entries m q))

  pub each_without : (P : Id → Object → Type 0) (m : Objects) → Each P m → Each P (without_domain number m)
  each_without P m all q o e = all q o (stays (q.domain == number) (get m q) o (sym (get_without m q) ∙ e))
