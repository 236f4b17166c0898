-- Between what `serde_json` promises and the tree of a text.
use Rattle.std.proofs.Common.{◌≡◌, inl, inr, ℕ, List, [], Option, Some, None, Result, Ok, Err, sym, ap, subst, ◌∙◌}
use Rattle.std.specs.Option.{ok_or}
use Rattle.std.specs.Str.{IsUtf8, is_utf8}
use Rattle.std.proofs.lemmas.Bool.{cond-true}
use Rattle.std.proofs.lemmas.Str.{is_utf8-from_IsUtf8}
use Rattle.serde_json.specs.Data.{Data}
use Rattle.serde_json.specs.Errors.{IsMemory}
use Rattle.serde_json.specs.Read.{read}
use Rattle.serde_json.specs.declared.error.Error.{Error}
use Rattle.documents.specs.Parts.Faults.{Fails, Fault, fault}
use Rattle.documents.specs.declared.parts.faults.DocCause.TheVariants.{BadJson}
use Rattle.documents.specs.declared.parts.faults.DocFault.{DocFault}
use Rattle.documents.proofs.OfParts.ToldLemmas.{no_memory}
use Rattle.documents.specs.Reader.Texts.{IsJsonFault, json_at}
use Rattle.json_trees.specs.Trees.{tree_in}
use Rattle.json_trees.proofs.TreeLemmas.{no_tree}

pub in_complete : (text : List ℕ) (o : Option Data) → IsUtf8 text → read text ≡ o → tree_in text ≡ o
in_complete text o utf8 is = cond-true (is_utf8 text) (read text) None (is_utf8-from_IsUtf8 text utf8) ∙ is

-- a tree that was read
pub json_read : (text : List ℕ) (d : Data) → IsUtf8 text → read text ≡ Some d → json_at text ≡ Ok d
json_read text d utf8 is = ap (λ (o : Option Data). ok_or o (fault [] BadJson)) (in_complete text (Some d) utf8 is)

pub json_gone : (text : List ℕ) → (IsUtf8 text → read text ≡ None) → json_at text ≡ Err (fault [] BadJson)
json_gone text none = ap (λ (o : Option Data). ok_or o (fault [] BadJson)) (no_tree text none)

-- an error that was told
pub json_refused : (text : List ℕ) (error : Error) (e : DocFault) → (¬ (IsMemory error) → IsUtf8 text → read text ≡ None) → IsJsonFault error e → Fails e (json_at text)
json_refused text error e none told = elim told [
  | inl same ↦ no_memory e (json_at text) same.0
  | inr is ↦ subst (λ (r : Result Data Fault). Fails e r) (sym (json_gone text (none is.2))) is.1
]
