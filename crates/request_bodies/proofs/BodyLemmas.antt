-- Between what `serde_json` promises and the definition of a body.
use Rattle.std.proofs.Common.{◌≡◌, ◌⊎◌, inl, inr, ◌∙◌, ap, sym, ℕ, true, false, List, Option, Some, None, is_some, Result, Ok, Err, refl}
use Rattle.std.specs.Prelude.{IfOk, IfErr, IsUtf8, MatchResult, option_and_then, cond}
use Rattle.std.proofs.lemmas.Str.{is_utf8-from_IsUtf8}
use Rattle.serde_json.specs.Data.{Data}
use Rattle.serde_json.specs.Errors.{IsMemory}
use Rattle.serde_json.specs.Find.{as_object}
use Rattle.serde_json.specs.Read.{read}
use Rattle.serde_json.specs.View.{view}
use Rattle.serde_json.specs.declared.error.Error.{Error}
use Rattle.serde_json.specs.declared.value.Value.{Value}
use Rattle.std.specs.Result.{IsErrAnd}
use Rattle.object_ops.specs.declared.refusals.Refusal.{Refusal}
use Rattle.object_ops.specs.declared.refusals.Refusal.TheVariants.{BadJson}
use Rattle.request_bodies.specs.Bodies.{if_object, object_in}
use Rattle.request_bodies.specs.Refusing.{Gives, Tells, or_refuse}
use Rattle.request_bodies.specs.declared.faults.BodyFault.{BodyFault}
use Rattle.request_bodies.specs.declared.faults.BodyFault.TheVariants.{Refused, NoMemory}
use Rattle.json_trees.specs.Trees.{tree_in}
use Rattle.json_trees.proofs.TreeLemmas.{no_tree}

pub tree_read : (text : List ℕ) (d : Data) → IsUtf8 text → read text ≡ Some d → tree_in text ≡ Some d
tree_read text d utf8 is = ap (λ b. cond b (read text) None) (is_utf8-from_IsUtf8 text utf8) ∙ is

-- what was read, or why it was refused
pub tree_gives : (text : List ℕ) (read_as : Result Value Error) (given : Result Value BodyFault) → IfOk read_as (λ v. IsUtf8 text × (read text ≡ Some (view v)))
    → IfErr read_as (λ e. ¬ (IsMemory e) → IsUtf8 text → read text ≡ None)
    → MatchResult read_as (λ v. given ≡ Ok v) (λ e. IsErrAnd given (λ f. ((f ≡ NoMemory) × IsMemory e) ⊎ ((f ≡ Refused BadJson) × ¬ (IsMemory e))))
    → Gives view given (or_refuse BadJson (tree_in text))
tree_gives text (Ok v) (Ok w) ok err is = let same : v ≡ w = cc in ap (or_refuse BadJson) (tree_read text (view v) ok.0 ok.1) ∙ ap (λ v. Ok (view v)) same
tree_gives text (Ok v) (Err f) ok err is = let other : Err f ≡ Ok v = is in absurd (cc)
tree_gives text (Err e) (Ok w) ok err is = absurd is
tree_gives text (Err e) (Err NoMemory) ok err is = tt
tree_gives text (Err e) (Err (Refused refusal)) ok err is = elim is [
  | inl x ↦ let other : Refused refusal ≡ NoMemory = x.0 in absurd (cc)
  | inr x ↦ let same : Refused BadJson ≡ Refused refusal = sym x.0 in ap (or_refuse BadJson) (no_tree text (err x.1)) ∙ cc
]

pub object_read : (text : List ℕ) (d : Data) → tree_in text ≡ Some d → is_some (as_object d) ≡ true → object_in text ≡ Some d
unfolding object_in
object_read text d tree object = ap (option_and_then if_object) tree ∙ ap (λ b. cond b (Some d) None) object

pub other_read : (text : List ℕ) (d : Data) → tree_in text ≡ Some d → is_some (as_object d) ≡ false → object_in text ≡ None
unfolding object_in
other_read text d tree object = ap (option_and_then if_object) tree ∙ ap (λ b. cond b (Some d) None) object

pub object_missing : (text : List ℕ) → tree_in text ≡ None → object_in text ≡ None
unfolding object_in
object_missing text tree = ap (option_and_then if_object) tree

-- what isn't refused was there
pub found : {A : Type 0} (refusal : Refusal) (o : Option A) (x : A) → or_refuse refusal o ≡ Ok x → o ≡ Some x
found refusal None x e = let other : Err refusal ≡ Ok x = e in absurd (cc)
found refusal (Some y) x e = let same : Ok y ≡ Ok x = e in cc

refused_at : (bytes : List ℕ) (o : Option Data) (refusal : Refusal) → tree_in bytes ≡ o → or_refuse BadJson o ≡ Err refusal → or_refuse BadJson (object_in bytes) ≡ Err refusal
refused_at bytes None refusal is e = ap (or_refuse BadJson) (object_missing bytes is) ∙ e
refused_at bytes (Some d) refusal is e = let other : Ok d ≡ Err refusal = e in absurd (cc)

-- bytes that are no tree are no object
refused_tree : (bytes : List ℕ) (f : BodyFault) → Tells f (or_refuse BadJson (tree_in bytes)) → Tells f (or_refuse BadJson (object_in bytes))
refused_tree bytes NoMemory h = tt
refused_tree bytes (Refused refusal) h = refused_at bytes (tree_in bytes) refusal refl h

pub tree_gone : (given : Result Value BodyFault) (f : BodyFault) (bytes : List ℕ) → IsErrAnd given (λ e. e ≡ f) → Tells f (or_refuse BadJson (tree_in bytes)) → Gives view given (or_refuse BadJson (object_in bytes))
tree_gone (Ok v) f bytes h told = absurd h
tree_gone (Err e) f bytes h told = rw h (refused_tree bytes f told)
