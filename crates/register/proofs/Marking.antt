-- Marks of paths.
use Rattle.std.proofs.Common.{◌≡◌, ℕ, Bool, true, false, not, cond, is_some, List, Option, Some, None, refl, sym, ap, subst, ◌∙◌}
use Rattle.std.specs.Cmp.Lexicographic.{nat_list_cmp_total}
use Rattle.std.specs.FinMap.{FinMap, contains_key, empty, get, insert, remove, get-empty, get-insert, get-remove, same_map}
use Rattle.std.specs.Ordering.{eq_by_cmp}
use Rattle.std.proofs.lemmas.Option.{none-some, same_Some}
use Rattle.containers.specs.TextMaps.Keyed.{text_order}
use Rattle.containers.proofs.TextMaps.KeyedMaps.{exact_texts}
use Rattle.object_ids.specs.Paths.{path_of}
use Rattle.register.specs.Marks.{ArePaths, Marked, taken_back}
use Rattle.containers.proofs.TextMaps.TextOrders.{same_key}
use Rattle.containers.proofs.Plain.{none_of}

pub none_marked : (paths : FinMap text_order Bool) → paths ≡ empty → ArePaths paths
none_marked paths e path mark at = absurd (none-some mark (sym (get-empty text_order path) ∙ ap (λ (m : FinMap text_order Bool). get m path) (sym e) ∙ at))

module _ (paths : FinMap text_order Bool) (path : List ℕ) (all : ArePaths paths) where
  pub one_more : (new : FinMap text_order Bool) → path_of path ≡ Some path → new ≡ insert paths path true → ArePaths new
  one_more new is e q mark at = by (eq_by_cmp text_order q path) refl where
    found : (b : Bool) → eq_by_cmp text_order q path ≡ b → cond b (Some true) (get paths q) ≡ Some mark
    found b t = ap (λ x. cond x (Some true) (get paths q)) (sym t) ∙ sym (get-insert nat_list_cmp_total paths path true q) ∙ ap (λ (m : FinMap text_order Bool). get m q) (sym e) ∙ at

    by : (b : Bool) → eq_by_cmp text_order q path ≡ b → (mark ≡ true) × (path_of q ≡ Some q)
    by true t = (sym (same_Some true mark (found true t)), subst (λ (x : List ℕ). path_of x ≡ Some x) (sym (same_key q path t)) is)
    by false t = all q mark (found false t)

  pub one_less : (new : FinMap text_order Bool) → new ≡ remove paths path → ArePaths new
  one_less new e q mark at = by (eq_by_cmp text_order q path) refl where
    found : (b : Bool) → eq_by_cmp text_order q path ≡ b → cond b None (get paths q) ≡ Some mark
    found b t = ap (λ x. cond x None (get paths q)) (sym t) ∙ sym (get-remove nat_list_cmp_total paths path q) ∙ ap (λ (m : FinMap text_order Bool). get m q) (sym e) ∙ at

    by : (b : Bool) → eq_by_cmp text_order q path ≡ b → (mark ≡ true) × (path_of q ≡ Some q)
    by true t = absurd (none-some mark (found true t))
    by false t = all q mark (found false t)

  -- a path that is marked once more
  mark_again : (o : Option Bool) → get paths path ≡ o → is_some o ≡ true → insert paths path true ≡ paths
  mark_again None there some = absurd (cc)
  mark_again (Some mark) there some = same_map nat_list_cmp_total exact_texts _ _ (λ q. get-insert nat_list_cmp_total paths path true q ∙ at q (eq_by_cmp text_order q path) refl) where
    at : (q : List ℕ) (b : Bool) → eq_by_cmp text_order q path ≡ b → cond b (Some true) (get paths q) ≡ get paths q
    at q true t = ap (λ x. Some x) (sym (all path mark there).0) ∙ sym there ∙ ap (get paths) (sym (same_key q path t))
    at q false t = refl

  -- a path that is marked and then not
  mark_undone : is_some (get paths path) ≡ false → remove (insert paths path true) path ≡ paths
  mark_undone none = same_map nat_list_cmp_total exact_texts _ _ (λ q. get-remove nat_list_cmp_total (insert paths path true) path q
      ∙ ap (λ o. cond (eq_by_cmp text_order q path) None o) (get-insert nat_list_cmp_total paths path true q) ∙ at q (eq_by_cmp text_order q path) refl) where
        at : (q : List ℕ) (b : Bool) → eq_by_cmp text_order q path ≡ b → cond b None (cond b (Some true) (get paths q)) ≡ get paths q
        at q true t = sym (ap (get paths) (same_key q path t) ∙ none_of (get paths path) none)
        at q false t = refl

-- what is marked can be taken back
pub back : (m : Marked) (path : List ℕ) (new : FinMap text_order Bool) (b : Bool) → ArePaths m.paths → new ≡ insert m.paths path true → b ≡ contains_key m.paths path
    → taken_back (record m { paths = new }) path (not b) ≡ m
back m path new true all e f = ap (λ (ps : FinMap text_order Bool). record m { paths = ps }) (e ∙ mark_again m.paths path all (get m.paths path) refl (sym f))
back m path new false all e f =
    ap (λ (ps : FinMap text_order Bool). record m { paths = ps }) (ap (λ (ps : FinMap text_order Bool). remove ps path) e ∙ mark_undone m.paths path all (sym f))
