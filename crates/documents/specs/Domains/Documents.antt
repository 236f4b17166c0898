-- The document of a domain.
use Rattle.std.specs.Prelude.{ℕ, Bool, ◌&&◌, ◌==◌, List, [], ◌∷◌, codes, Option, Some, None, if◌then◌else◌}
use Rattle.std.specs.FinMap.{entries}
use Rattle.serde_json.specs.Data.{Data, Members, object, string, member, no_members, put}
use Rattle.object_ids.specs.IdOrder.{kind_rank}
use Rattle.object_ids.specs.IdValues.{Id}
use Rattle.object_ids.specs.Ids.{text_of_id}
use Rattle.object_ids.specs.declared.ids.Kind.{Kind}
use Rattle.object_ids.specs.declared.ids.Kind.TheVariants as kind
use Rattle.object_acts.specs.Objects.{empty_group, Objects}
use Rattle.object_acts.specs.declared.objects.Object.{Object}
use Rattle.documents.specs.Domains.Entries.{entry_tree}
use Rattle.documents.specs.declared.domains.home.Home.{Home}

-- the id is of this kind and domain
abbrev pub is_of : Kind → Home → Id → Bool
is_of k h id = (kind_rank id.kind == kind_rank k) && (id.domain == h.number)

-- the members with the tree of a value at the text of its id, where the id passes a test
abbrev pub put_entry : {X : Type 0} → (Id → Bool) → (X → Data) → Id × X → Members → Members
put_entry test tree e ms = if test e.0 then put (text_of_id e.0) (tree e.1) ms else ms

-- the same for each of some entries, in turn
abbrev pub put_entries : {X : Type 0} → (Id → Bool) → (X → Data) → List (Id × X) → Members → Members
put_entries test tree [] ms = ms
put_entries test tree (e ∷ es) ms = put_entries test tree es (put_entry test tree e ms)

-- the same for objects: those of a kind in a domain
abbrev pub put_one : Objects → Home → Kind → Id × Object → Members → Members
put_one m h k = put_entry (is_of k h) (entry_tree m h)

abbrev pub put_each : Objects → Home → Kind → List (Id × Object) → Members → Members
put_each m h k = put_entries (is_of k h) (entry_tree m h)

-- the same for what stands at an id
abbrev pub put_at : Objects → Home → Kind → Id → Option Object → Members → Members
put_at m h k id None ms = ms
put_at m h k id (Some o) ms = put_one m h k (id, o) ms

-- the objects of a kind in a domain, in byte order of the texts of their ids; a root that isn't held is an empty group
abbrev pub collection_tree : Objects → Home → Kind → Data
collection_tree m h k = object (put_each m h k ((h.root, empty_group) ∷ entries m) no_members)

abbrev pub whole_tree : Data → Data → Data → List ℕ → Data
whole_tree datasets datatypes groups root =
    object (member (codes "apiVersion") (string (codes "1.1.1")) (member (codes "datasets") datasets (member (codes "datatypes") datatypes
    (member (codes "groups") groups (member (codes "root") (string root) no_members)))))

abbrev pub document_tree : Objects → Home → Data
document_tree m h =
    whole_tree (collection_tree m h kind.Dataset) (collection_tree m h kind.Datatype) (collection_tree m h kind.Group) (text_of_id h.root)
