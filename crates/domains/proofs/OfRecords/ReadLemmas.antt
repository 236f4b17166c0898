-- What the steps of a reading answer.
use Rattle.std.proofs.Common.{◌≡◌, ◌≢◌, ◌↔◌, ◌<◌, ◌≤◌, ◌+◌, ℕ, suc, Bool, true, false, cond, List, [], ◌∷◌, length, Option, Some, None, option_map, option_and_then, Err, if◌then◌else◌, String, Global, refl, sym, ap, arith, ◌∙◌}
use Rattle.std.specs.FinMap.{contains_key, insert, len, len-insert}
use Rattle.std.specs.Str.{IsUtf8, is_utf8}
use Rattle.std.proofs.lemmas.Cmp.{nat_list_cmp_total}
use Rattle.std.proofs.lemmas.Str.{IsUtf8-from_is_utf8, is_utf8-from_IsUtf8}
use Rattle.serde_json.specs.Data.{Data}
use Rattle.serde_json.specs.Errors.{IsMemory}
use Rattle.serde_json.specs.Read.{read}
use Rattle.serde_json.specs.View.{members_view}
use Rattle.serde_json.specs.declared.error.Error.{Error}
use Rattle.serde_json.specs.declared.value.Value.{Value}
use Rattle.json_trees.specs.Trees.{all_in, pairs_of}
use Rattle.json_trees.proofs.TreeLemmas.{nothing_read}
use Rattle.access_lists.specs.InForce.{Entries}
use Rattle.access_lists.specs.declared.rights.Rights.{Rights}
use Rattle.domains.specs.declared.classes.Node.{Node}
use Rattle.domains.specs.declared.records.faults.NodeFault.{NodeFault}
use Rattle.domains.specs.declared.records.faults.NodeFault.TheVariants.{BadNode, NoMemory}
use Rattle.domains.specs.Records.Lists.{entry_of}
use Rattle.domains.specs.Records.Nodes.{node_in, node_of_body}
use Rattle.domains.specs.Records.Readings.{Reads}
use Rattle.containers.specs.TextMaps.Keyed.{with_entries}

-- ---- a walk over the members of an object

abbrev pub Entry : Type 0
Entry = String Global × Value

-- the pairs of what is left
abbrev pub rest_of : List Entry → List (List ℕ × Data)
rest_of es = pairs_of (members_view es)

pub length-rest_of : (es : List Entry) → length (rest_of es) ≡ length es
length-rest_of [] = refl
length-rest_of (e ∷ es) = ap suc (length-rest_of es)

joined : (list : Entries) (e : List ℕ × Rights) (o : Option (List (List ℕ × Rights)))
    → option_map (with_entries list) (option_map (λ es. e ∷ es) o) ≡ option_map (with_entries (insert list e.0 e.1)) o
joined list e None = refl
joined list e (Some es) = refl

-- an entry that is put into the list
pub walk_step : (list : Entries) (es rest : List (List ℕ × Data)) (x : List ℕ × Data) (e : List ℕ × Rights) → es ≡ x ∷ rest → entry_of x ≡ Some e
    → option_map (with_entries (insert list e.0 e.1)) (all_in entry_of rest) ≡ option_map (with_entries list) (all_in entry_of es)
walk_step list es rest x e is found =
    sym (ap (λ (l : List (List ℕ × Data)). option_map (with_entries list) (all_in entry_of l)) is
    ∙ ap (λ (o : Option (List ℕ × Rights)). option_map (with_entries list) (option_and_then (λ y. option_map (λ ys. y ∷ ys) (all_in entry_of rest)) o)) found
    ∙ joined list e (all_in entry_of rest))

-- a member that is no entry
pub walk_none : (list : Entries) (es rest : List (List ℕ × Data)) (x : List ℕ × Data) → es ≡ x ∷ rest → entry_of x ≡ None
    → option_map (with_entries list) (all_in entry_of es) ≡ None
walk_none list es rest x is none =
    ap (λ (l : List (List ℕ × Data)). option_map (with_entries list) (all_in entry_of l)) is
    ∙ ap (λ (o : Option (List ℕ × Rights)). option_map (with_entries list) (option_and_then (λ y. option_map (λ ys. y ∷ ys) (all_in entry_of rest)) o)) none

pub len-insert-le : (m : Entries) (k : List ℕ) (v : Rights) → len (insert m k v) ≤ len m + 1
len-insert-le m k v = at (contains_key m k) (len m) (len (insert m k v)) (len-insert nat_list_cmp_total m k v) where
  at : (b : Bool) (n r : ℕ) → r ≡ cond b n (n + 1) → r ≤ n + 1
  at true n r e = omega arith
  at false n r e = omega arith

-- ---- bodies

pub body_reads : (text : List ℕ) (d : Data) → IsUtf8 text → read text ≡ Some d → node_of_body text ≡ node_in d
body_reads text d utf8 reads =
    ap (λ (b : Bool). if b then option_and_then node_in (read text) else None) (is_utf8-from_IsUtf8 text utf8) ∙ ap (option_and_then node_in) reads

pub not_a_tree : (text : List ℕ) → read text ≡ None → node_of_body text ≡ None
not_a_tree text none = ap (λ (o : Option Data). if is_utf8 text then option_and_then node_in o else None) none ∙ either (is_utf8 text) where
  either : (b : Bool) → (if b then option_and_then node_in None else None) ≡ None
  either true = refl
  either false = refl

pub not_a_text : (text : List ℕ) → ¬ (IsUtf8 text) → node_of_body text ≡ None
not_a_text text never = at (is_utf8 text) refl where
  at : (b : Bool) → is_utf8 text ≡ b → node_of_body text ≡ None
  at true e = absurd (never (IsUtf8-from_is_utf8 text e))
  at false e = ap (λ (b : Bool). if b then option_and_then node_in (read text) else None) e

-- an error of the reading of JSON
pub json_told : (text : List ℕ) (error : Error) (e : NodeFault) → (¬ (IsMemory error) → read text ≡ None) → ((e ≡ NoMemory) ↔ IsMemory error)
    → Reads {A = Node} (Err e) (node_of_body text)
json_told text error BadNode none told = not_a_tree text (none (λ is. let clash : BadNode ≡ NoMemory = told.1 is in cc))
json_told text error NoMemory none told = tt

-- what was read has bytes, and so has that of which want of memory is told
pub read_some : (text : List ℕ) (d : Data) → read text ≡ Some d → text ≢ []
read_some text d reads none = let clash : None ≡ Some d = sym nothing_read ∙ ap read (sym none) ∙ reads in cc

pub some_bytes : (text body : List ℕ) → text ≡ body → 0 < length text → body ≢ []
some_bytes text body same some none = omega (arith, some, ap length (same ∙ none))
