-- Documents, in other words than the walk over their objects.
use Rattle.std.specs.Prelude.{◌≡◌, ◌≤◌, ℕ, List, [], ◌∷◌, length, false, Option, Some, None, option_map, if◌then◌else◌}
use Rattle.std.specs.FinMap.{entries, get}
use Rattle.std.specs.List.Sorted.{IsStrictlySortedBy}
use Rattle.serde_json.specs.Data.{Data, Members, no_members, member}
use Rattle.serde_json.specs.Find.{as_object, get as find}
use Rattle.serde_json.specs.Written.{compact_text, has_float}
use Rattle.containers.specs.TextMaps.Keyed.{text_order}
use Rattle.object_ids.specs.IdValues.{Id}
use Rattle.object_ids.specs.Ids.{InRange, text_of_id}
use Rattle.object_ids.specs.declared.ids.Kind.{Kind}
use Rattle.object_acts.specs.declared.objects.Object.{Object}
use Rattle.documents.specs.Domains.Domains.{object_at}
use Rattle.documents.specs.Domains.Documents.{collection_tree, document_tree, is_of}
use Rattle.documents.specs.Domains.Entries.{entry_tree}
use Rattle.documents.specs.Domains.Lengths.{AreDatasetsInRange, least_values}
use Rattle.documents.specs.declared.domains.home.Home.{Home}
use Rattle.object_acts.specs.Objects.{Objects}

-- each id of the domain is one that an `ObjectId` can be
pub record AreInRange (m : Objects) (h : Home) : Type 0 where
  pub root : InRange h.root
  pub objects : (id : Id) (o : Object) → get m id ≡ Some o → id.domain ≡ h.number → InRange id

-- what the collection of a kind has at an id: the domain's object there, where it is of this kind
abbrev pub member_at : Objects → Home → Kind → Id → Option Object
member_at m h k id = if is_of k h id then object_at m h id else None

-- the tree of each stands at the text of its id
abbrev pub EachAtItsText : Type 0
EachAtItsText = (m : Objects) (h : Home) (k : Kind) (id : Id) → AreInRange m h → InRange id
    → find (text_of_id id) (collection_tree m h k) ≡ option_map (entry_tree m h) (member_at m h k id)

-- nothing else stands there
abbrev pub KeysAreTexts : Type 0
KeysAreTexts = (m : Objects) (h : Home) (k : Kind) (key : List ℕ) (d : Data) → find key (collection_tree m h k) ≡ Some d
    → (id : Id) × (o : Object) × (key ≡ text_of_id id) × (member_at m h k id ≡ Some o)

-- the keys of an object, in turn
abbrev pub keys_of : Members → List (List ℕ)
keys_of no_members = []
keys_of (member key d ms) = key ∷ keys_of ms

-- the keys rise in byte order, so that none stands twice
abbrev pub KeysInOrder : Type 0
KeysInOrder = (m : Objects) (h : Home) (k : Kind) (ms : Members) → as_object (collection_tree m h k) ≡ Some ms → IsStrictlySortedBy text_order (keys_of ms)

abbrev pub HasNoFloats : Type 0
HasNoFloats = (m : Objects) (h : Home) → has_float (document_tree m h) ≡ false

-- the compact text has the bytes that the shapes of the datasets ask for
abbrev pub HasLeastLength : Type 0
HasLeastLength = (m : Objects) (h : Home) → AreDatasetsInRange m h → least_values h (entries m) ≤ length (compact_text (document_tree m h))
