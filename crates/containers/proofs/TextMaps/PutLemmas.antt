-- The entries of a map, put one after another, make the map.
use Rattle.std.proofs.Common.{◌≡◌, ℕ, List, [], ◌∷◌, ◌++◌, T, cond, Some, None, refl, sym, ap, ◌∙◌, append_assoc, append-nil}
use Rattle.std.specs.Cmp.Lexicographic.{nat_list_cmp_total}
use Rattle.std.specs.FinMap.{FinMap, empty, entries, entries_sorted, find, from_entries, from_entries_push, get-entries, get-from_entries, is_sorted, same_map}
use Rattle.std.specs.FinMap.Entries.{below_all, find-append}
use Rattle.std.specs.Ordering.{eq_by_cmp}
use Rattle.containers.specs.TextMaps.Keyed.{text_order, with_entries}
use Rattle.containers.proofs.Plain.{halves, less}
use Rattle.containers.proofs.TextMaps.KeyedMaps.{exact_texts}
use Rattle.containers.proofs.TextMaps.TextOrders.{greater}

module _ {X : Type 0} where
  -- no key of the second list is one of the first
  abbrev pub Apart : List (List ℕ × X) → List (List ℕ × X) → Type 0
  Apart done [] = Unit {0}
  Apart done (e ∷ es) = (find text_order e.0 done ≡ None) × Apart done es

  pub apart_empty : (es : List (List ℕ × X)) → Apart [] es
  apart_empty [] = tt
  apart_empty (e ∷ es) = (refl, apart_empty es)

  pub apart_push : (done : List (List ℕ × X)) (e : List ℕ × X) (es : List (List ℕ × X)) → find text_order e.0 done ≡ None → T (below_all text_order e.0 es) → Apart done es → Apart (done ++ e ∷ []) es
  apart_push done e [] none low apart = tt
  apart_push done e (f ∷ fs) none low apart =
      let more : find text_order f.0 (done ++ e ∷ []) ≡ cond (eq_by_cmp text_order f.0 e.0) (Some e.1) (find text_order f.0 done) = find-append text_order nat_list_cmp_total done e.0 e.1 f.0 none in (
        more ∙ ap (λ b. cond b (Some e.1) (find text_order f.0 done)) (greater e.0 f.0 (less _ (halves _ _ low).0)) ∙ apart.0,
        apart_push done e fs none (halves _ _ low).1 apart.1,
      )

  put_on : (done es : List (List ℕ × X)) → T (is_sorted text_order es) → Apart done es → with_entries (from_entries done) es ≡ from_entries (done ++ es)
  put_on done [] rising apart = ap (λ rows. from_entries {R = text_order} rows) (sym (append-nil done))
  put_on done (e ∷ es) rising apart =
      ap (λ (m : FinMap text_order X). with_entries m es) (sym (from_entries_push nat_list_cmp_total exact_texts done e.0 e.1 apart.0))
      ∙ put_on (done ++ e ∷ []) es (halves _ _ rising).1 (apart_push done e es apart.0 (halves _ _ rising).0 apart.1)
      ∙ ap (λ rows. from_entries {R = text_order} rows) (append_assoc done (e ∷ []) es)

  pub entries_same : (m : FinMap text_order X) → from_entries (entries m) ≡ m
  entries_same m = same_map nat_list_cmp_total exact_texts _ _ (λ q. get-from_entries nat_list_cmp_total (entries m) q ∙ sym (get-entries m q))

  pub put_entries : (m : FinMap text_order X) → with_entries empty (entries m) ≡ m
  put_entries m = put_on [] (entries m) (entries_sorted m) (apart_empty (entries m)) ∙ entries_same m
