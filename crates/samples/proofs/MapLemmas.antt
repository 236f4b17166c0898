-- Maps of one entry.
use Rattle.std.proofs.Common.{◌≡◌, ◌-◌, [], ◌∷◌, cond, length, Some, is_eq, is_some, Ordering, sym, ap, ◌∙◌, arith}
use Rattle.std.specs.Cmp.{IsTotalOrder}
use Rattle.std.specs.FinMap.{FinMap, empty, empty_of_len, entries, entries-insert, get, get-insert, insert, len, len-empty, len-entries, len-remove, put, remove}
use Rattle.std.proofs.lemmas.Cmp.{tied_itself}
use Rattle.std.proofs.lemmas.List.{nil_from_length}

pub none_entries : {K : Type 0} (X : Type 0) (R : K → K → Ordering) → entries (empty {X = X} {R = R}) ≡ []
none_entries X R =
    let m = empty {X = X} {R = R} in
    nil_from_length (entries m) (sym (len-entries m) ∙ len-empty R X)

module _ {K X : Type 0} {R : K → K → Ordering} (o : IsTotalOrder R) where
  pub get_put : (m : FinMap R X) (k : K) (v : X) → get (insert m k v) k ≡ Some v
  get_put m k v = get-insert o m k v k ∙ ap (λ r. cond (is_eq r) (Some v) (get m k)) (tied_itself o k)

  pub one_entry : (k : K) (v : X) → entries (insert (empty {X = X} {R = R}) k v) ≡ (k, v) ∷ []
  one_entry k v =
      let m = empty {X = X} {R = R} in
      entries-insert o m k v ∙ ap (put R k v) (none_entries X R)

  pub none_left : (k : K) (v : X) → remove (insert (empty {X = X} {R = R}) k v) k ≡ empty
  none_left k v =
      let m = insert (empty {X = X} {R = R}) k v in
      let one : len (insert (empty {X = X} {R = R}) k v) ≡ 1 = len-entries m ∙ ap length (one_entry k v) in
      let without : len m - 1 ≡ 0 = omega (arith, one) in
      empty_of_len (remove m k) (len-remove o m k ∙ ap (λ f. cond (is_some f) (len m - 1) (len m)) (get_put (empty {X = X} {R = R}) k v) ∙ without)
