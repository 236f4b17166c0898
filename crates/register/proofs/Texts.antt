-- The keys of a map from texts are UTF-8.
use Rattle.std.proofs.Common.{◌≡◌, ℕ, true, false, cond, List, [], ◌∷◌, Some, is_some, IsSome, refl, sym, ap, subst, ◌∙◌}
use Rattle.std.proofs.lemmas.Str.{IsUtf8-string_bytes}
use Rattle.std.specs.FinMap.{FinMap, entries, find, get, get-entries}
use Rattle.std.specs.Ordering.{eq_by_cmp}
use Rattle.std.specs.Str.{IsUtf8}
use Rattle.std.specs.Prelude.{String, string_bytes}
use Rattle.containers.specs.TextMaps.Keyed.{keyed, text_order}
use Rattle.flush_journal.proofs.PutLemmas.{tied}
use Rattle.containers.proofs.Passing.{by_bool, contrary}

module _ {Z V : Type 0} (path : List ℕ) where
  found_text : (es : List (String Z × V)) → is_some (find text_order path (keyed string_bytes es)) ≡ true → IsUtf8 path
  found_text [] some = contrary false (IsUtf8 path) some refl
  found_text (e ∷ es) some = by_bool (eq_by_cmp text_order path (string_bytes e.0)) (IsUtf8 path)
      (λ tie. subst IsUtf8 (sym (tied path (string_bytes e.0) tie)) (IsUtf8-string_bytes e.0))
      (λ apart. found_text es (sym (ap (λ b. is_some (cond b (Some e.1) (find text_order path (keyed string_bytes es)))) apart) ∙ some))

  pub key_text : (m : FinMap text_order V) (es : List (String Z × V)) → entries m ≡ keyed string_bytes es → IsSome (get m path) → IsUtf8 path
  key_text m es same some = found_text es (sym (ap (λ (xs : List (List ℕ × V)). is_some (find text_order path xs)) same) ∙ sym (ap is_some (get-entries m path)) ∙ some)
