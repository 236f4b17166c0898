-- The first entry of a map is taken out.
use Rattle.std.proofs.Common.{◌≡◌, ℕ, List, [], ◌∷◌, Bool, true, false, T, map, cond, Option, Some, None, Equal, Less, refl, sym, ap, subst, ◌∙◌}
use Rattle.std.specs.Cmp.{Equal-is}
use Rattle.std.specs.Cmp.Lexicographic.{nat_list_cmp_total}
use Rattle.std.specs.Ordering.{eq_by_cmp}
use Rattle.std.specs.FinMap.{FinMap, entries, entries-from_sorted, entries_sorted, find, from_sorted, get, get-entries, get-from_sorted, get-remove, is_sorted, remove, same_map, values}
use Rattle.std.proofs.lemmas.Cmp.{tied_itself}
use Rattle.containers.specs.TextMaps.Keyed.{text_order}
use Rattle.containers.specs.TextMaps.Nexts.{IsStep, left}
use Rattle.containers.proofs.TextMaps.KeyedMaps.{exact_texts}
use Rattle.containers.proofs.TextMaps.Walks.{found_above}
use Rattle.json_import.specs.Fresh.Taking.{Takes}
use Rattle.containers.proofs.Plain.{halves}

module _ {X : Type 0} where
  -- what is behind nothing is all
  pub left_all : (es : List (List ℕ × X)) → left text_order None es ≡ es
  left_all [] = refl
  left_all (e ∷ es) = ap (λ r. e ∷ r) (left_all es)

  module _ (e : List ℕ × X) (es : List (List ℕ × X)) (rising : T (is_sorted text_order (e ∷ es))) where
    same_not_above : (q : List ℕ) → text_order q e.0 ≡ Equal → text_order e.0 q ≡ Less → ⊥
    same_not_above q tie above =
        let same : q ≡ e.0 = exact_texts q e.0 tie in
        let both : Equal ≡ Less = sym (tied_itself nat_list_cmp_total e.0) ∙ ap (text_order e.0) (sym same) ∙ above in
        absurd (cc)

    pub none_again : (q : List ℕ) → text_order q e.0 ≡ Equal → (f : Option X) → find text_order q es ≡ f → None ≡ f
    none_again q tie None found = refl
    none_again q tie (Some v) found = absurd (same_not_above q tie (found_above nat_list_cmp_total e.0 q es v (halves _ _ rising).0 found))

    left_at : (q : List ℕ) (b : Bool) → eq_by_cmp text_order q e.0 ≡ b → cond b None (cond b (Some e.1) (find text_order q es)) ≡ find text_order q es
    left_at q true tie = none_again q ((Equal-is (text_order q e.0)).0 tie) (find text_order q es) refl
    left_at q false tie = refl

    pub entries_rest : (m : FinMap text_order X) → entries m ≡ e ∷ es → entries (remove m e.0) ≡ es
    entries_rest m is =
        let same : remove m e.0 ≡ from_sorted es = same_map nat_list_cmp_total exact_texts _ _ (λ q.
        get-remove nat_list_cmp_total m e.0 q
        ∙ ap (cond (eq_by_cmp text_order q e.0) None) (get-entries m q ∙ ap (find text_order q) is)
        ∙ left_at q (eq_by_cmp text_order q e.0) refl
        ∙ sym (get-from_sorted text_order es q (halves _ _ rising).1)) in
        ap entries same ∙ entries-from_sorted text_order es (halves _ _ rising).1

  abbrev value : List ℕ × X → X
  value e = e.1

  -- no entry is left
  pub none_taken : (m : FinMap text_order X) → IsStep m None None → Takes m None m
  none_taken m none =
      let nothing : values m ≡ [] = ap (map value) (sym (left_all (entries m)) ∙ none) in
      (nothing, nothing)

  -- the first is, and its value is what stood at its key
  pub one_taken : (m new : FinMap text_order X) (e : List ℕ × X) (found : Option X) → IsStep m None (Some e) → found ≡ get m e.0 → get m e.0 ≡ Some e.1 → new ≡ remove m e.0
      → Takes m found new
  one_taken m new e found step is held rest =
      let es = left text_order (Some e.0) (entries m) in
      let first : entries m ≡ e ∷ es = sym (left_all (entries m)) ∙ step in
      let later = entries_rest e es (subst (λ l. T (is_sorted text_order l)) first (entries_sorted m)) m first in
      let all : values m ≡ e.1 ∷ values new = ap (map value) (first ∙ ap (λ l. e ∷ l) (sym later ∙ ap entries (sym rest))) in
      subst (λ f. Takes m f new) (sym (is ∙ held)) all
