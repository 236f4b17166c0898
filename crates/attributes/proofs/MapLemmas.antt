-- What holds of each entry of a map holds after a change, and of the entries in a row.
use Rattle.std.proofs.Common.{◌≡◌, ℕ, Bool, true, false, cond, T, List, [], ◌∷◌, Option, Some, None, Less, is_eq, refl, sym, ap, subst, ◌∙◌}
use Rattle.std.specs.Cmp.{Equal-is}
use Rattle.std.specs.Cmp.Lexicographic.{nat_list_cmp_total}
use Rattle.std.specs.List.{AllByRecursion}
use Rattle.std.specs.Ordering.{eq_by_cmp, ordering_reverse}
use Rattle.std.specs.FinMap.{FinMap, empty, entries, entries_sorted, find, get, insert, is_sorted, remove, same_map, get-empty, get-entries, get-insert, get-remove}
use Rattle.std.proofs.lemmas.Cmp.{tied_itself}
use Rattle.containers.specs.TextMaps.Keyed.{text_order}
use Rattle.containers.proofs.TextMaps.KeyedMaps.{exact_texts}
use Rattle.containers.proofs.TextMaps.Walks.{found_above}
use Rattle.containers.proofs.Plain.{halves}

module _ {X : Type 0} (P : List ℕ → X → Type 0) where
  abbrev pub Each : FinMap text_order X → Type 0
  Each m = (k : List ℕ) (v : X) → get m k ≡ Some v → P k v

  pub each_of_none : Each empty
  each_of_none k v e = let both : None ≡ Some v = sym (get-empty text_order k) ∙ e in absurd (cc)

  at_new : (b : Bool) (q : List ℕ) (v x : X) (w : Option X) → (b ≡ true → P q v) → (w ≡ Some x → P q x) → cond b (Some v) w ≡ Some x → P q x
  at_new true q v x w here there e = subst (P q) (let same : v ≡ x = cc in same) (here refl)
  at_new false q v x w here there e = there e

  pub each_inserted : (m : FinMap text_order X) (k : List ℕ) (v : X) → P k v → Each m → Each (insert m k v)
  each_inserted m k v new held = λ q x e.
      at_new (eq_by_cmp text_order q k) q v x (get m q)
      (λ b. subst (λ (t : List ℕ). P t v) (sym (exact_texts q k ((Equal-is (text_order q k)).0 b))) new)
      (held q x)
      (sym (get-insert nat_list_cmp_total m k v q) ∙ e)

  still_there : (b : Bool) (w : Option X) (x : X) → cond b None w ≡ Some x → w ≡ Some x
  still_there true w x e = let both : None ≡ Some x = e in absurd (cc)
  still_there false w x e = e

  pub each_left : (m : FinMap text_order X) (k : List ℕ) → Each m → Each (remove m k)
  each_left m k held = λ q x e. held q x (still_there (eq_by_cmp text_order q k) (get m q) x (sym (get-remove nat_list_cmp_total m k q) ∙ e))

  apart : (x k : List ℕ) → text_order x k ≡ Less → is_eq (text_order k x) ≡ false
  apart x k lt = ap is_eq (nat_list_cmp_total.antisymm k x ∙ ap ordering_reverse lt)

  each_found : (es : List (List ℕ × X)) → T (is_sorted text_order es) → ((k : List ℕ) (v : X) → find text_order k es ≡ Some v → P k v) → AllByRecursion (λ e. P e.0 e.1) es
  each_found [] rising held = tt
  each_found (e ∷ es) rising held = (
    held e.0 e.1 (ap (λ r. cond (is_eq r) (Some e.1) (find text_order e.0 es)) (tied_itself nat_list_cmp_total e.0)),
    each_found es (halves _ _ rising).1 (λ k v f. held k v (ap (λ b. cond b (Some e.1) (find text_order k es)) (apart e.0 k (found_above nat_list_cmp_total e.0 k es v (halves _ _ rising).0 f)) ∙ f)),
  )

  pub each_entry : (m : FinMap text_order X) → Each m → AllByRecursion (λ e. P e.0 e.1) (entries m)
  each_entry m held = each_found (entries m) (entries_sorted m) (λ k v f. held k v (get-entries m k ∙ f))

-- to take out what isn't there changes nothing
pub remove_same : {X : Type 0} (m : FinMap text_order X) (k : List ℕ) → get m k ≡ None → remove m k ≡ m
remove_same m k none = same_map nat_list_cmp_total exact_texts _ _ (λ q. get-remove nat_list_cmp_total m k q ∙ at q (eq_by_cmp text_order q k) refl) where
  at : (q : List ℕ) (b : Bool) → eq_by_cmp text_order q k ≡ b → cond b None (get m q) ≡ get m q
  at q true e = sym (ap (get m) (exact_texts q k ((Equal-is (text_order q k)).0 e)) ∙ none)
  at q false e = refl
