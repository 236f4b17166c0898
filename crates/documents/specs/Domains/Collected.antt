-- What a writer gets of a collection, id by id; for private clauses. Its state is whether the root, as an empty group, is still
-- to come, and the tokens so far.
use Rattle.std.specs.Prelude.{◌≡◌, Bool, true, false, List, [], ◌∷◌, ◌++◌, Option, Some, None, if◌then◌else◌}
use Rattle.std.specs.declared.cmp.Ordering.{Ordering}
use Rattle.std.specs.declared.cmp.Ordering.TheVariants.{Less, Equal, Greater}
use Rattle.json.specs.Token.{Token, end_object}
use Rattle.json.specs.Written.{Written}
use Rattle.json_trees.specs.Copied.{Adds}
use Rattle.object_ids.specs.IdOrder.{id_order}
use Rattle.object_ids.specs.IdValues.{Id}
use Rattle.object_ids.specs.Ids.{text_of_id}
use Rattle.object_ids.specs.declared.ids.Kind.{Kind}
use Rattle.object_acts.specs.Objects.{empty_group, Objects}
use Rattle.object_acts.specs.declared.objects.Object.{Object}
use Rattle.documents.specs.Domains.Documents.{is_of}
use Rattle.documents.specs.Domains.Entries.{entry_tree}
use Rattle.documents.specs.Domains.Writing.{ReadsBack, member_tokens}
use Rattle.documents.specs.declared.domains.home.Home.{Home}

-- behind an id whose order to the root is known
abbrev pub is_due_behind : Bool → Ordering → Bool
is_due_behind due Less = false
is_due_behind due Equal = false
is_due_behind due Greater = due

abbrev pub root_tokens : Objects → Home → Bool → List Token
root_tokens m h true = member_tokens (text_of_id h.root) (entry_tree m h empty_group)
root_tokens m h false = []

-- what comes at the end
abbrev pub end_tokens : Objects → Home → Bool → List Token
end_tokens m h due = root_tokens m h due ++ end_object ∷ []

-- what comes before such an id
abbrev pub tokens_before : Objects → Home → Bool → Ordering → List Token
tokens_before m h due Less = root_tokens m h due
tokens_before m h due Equal = []
tokens_before m h due Greater = []

-- an object is written behind what comes before its id
abbrev pub with_object : Objects → Home → Id → Object → Bool × List Token → Bool × List Token
with_object m h id o a =
    (is_due_behind a.0 (id_order h.root id), (a.1 ++ tokens_before m h a.0 (id_order h.root id)) ++ member_tokens (text_of_id id) (entry_tree m h o))

-- what stands at an id, where that is of a kind in a domain
abbrev pub with_found : Objects → Home → Kind → Id → Option Object → Bool × List Token → Bool × List Token
with_found m h k id None a = a
with_found m h k id (Some o) a = if is_of k h id then with_object m h id o a else a

-- the same for each of some entries, in turn
abbrev pub with_each : Objects → Home → Kind → List (Id × Object) → Bool × List Token → Bool × List Token
with_each m h k [] a = a
with_each m h k (e ∷ es) a = with_each m h k es (with_found m h k e.0 (Some e.1) a)

-- a writer got what comes before an id
pub record WritesRoot (m : Objects) (h : Home) (id : Id) (due now_due : Bool) (old new : Written) : Type 0 where
  pub left : now_due ≡ is_due_behind due (id_order h.root id)
  pub added : Adds (tokens_before m h due (id_order h.root id)) old new

-- a writer got what stands at an id
pub record WritesFound (m : Objects) (h : Home) (k : Kind) (id : Id) (found : Option Object) (due now_due : Bool) (old new : Written) : Type 0 where
  pub state : (now_due, new.tokens) ≡ with_found m h k id found (due, old.tokens)
  pub before : new.before ≡ old.before
  pub exact : (o : Object) → found ≡ Some o → is_of k h id ≡ true → ReadsBack (entry_tree m h o)
