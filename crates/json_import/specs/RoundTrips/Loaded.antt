-- What a domain holds, as the value of a document, under the texts of its ids.
--     whole m h      the objects with the root of the domain, which is an empty group where it isn't held
--     loaded_from m h      what the document of the domain holds
use Rattle.std.specs.Prelude.{◌≡◌, ℕ, ◌^◌, ◌≤◌, ◌==◌, List, [], ◌∷◌, IsUtf8, length, map, Option, Some, None, if◌then◌else◌}
use Rattle.std.specs.FinMap.{FinMap, contains_key, empty, entries, get, insert}
use Rattle.std.specs.List.{filter}
use Rattle.serde_json.specs.Data.{depth}
use Rattle.serde_json.specs.Read.{max_depth, read}
use Rattle.containers.specs.TextMaps.Keyed.{text_order, with_entries}
use Rattle.object_ids.specs.IdValues.{Id}
use Rattle.object_ids.specs.Ids.{InRange, text_of_id}
use Rattle.object_ids.specs.declared.ids.Kind.TheVariants as kind
use Rattle.hdf_types.specs.Views.{elem}
use Rattle.attributes.specs.AttributeMaps.{AreAttributes, AttributeMap}
use Rattle.groups_links.specs.declared.target.LinkTo.{LinkTo}
use Rattle.groups_links.specs.declared.target.LinkTo.TheVariants as link
use Rattle.object_acts.specs.Objects.{empty_group, kind_of_body, Objects}
use Rattle.object_acts.specs.declared.objects.Object.{Object}
use Rattle.object_acts.specs.declared.objects.Body.{Body}
use Rattle.object_acts.specs.declared.objects.Body.TheVariants as body
use Rattle.object_records.specs.Objects.{IsKeptBody}
use Rattle.documents.specs.Parts.TitleMaps.{TargetMap}
use Rattle.documents.specs.declared.parts.targets.Target.{Target}
use Rattle.documents.specs.declared.parts.targets.Target.TheVariants.{Hard, Soft, External}
use Rattle.documents.specs.Domains.Documents.{document_tree}
use Rattle.documents.specs.Domains.Entries.{is_shown}
use Rattle.documents.specs.declared.domains.home.Home.{Home}
use Rattle.documents.specs.Reader.Loads.{Loads, LoadsText}
use Rattle.documents.specs.declared.reader.loaded.Dataset.{Dataset}
use Rattle.documents.specs.declared.reader.loaded.Datatype.{Datatype}
use Rattle.documents.specs.declared.reader.loaded.Group.{Group}
use Rattle.documents.specs.declared.reader.loaded.Loaded.{Loaded}
use Rattle.groups_links.specs.GroupLinks.{Titles}

-- ---- one object

abbrev pub target_of : LinkTo → Target
target_of (link.Hard id) = Hard (text_of_id id)
target_of (link.Soft path) = Soft path
target_of (link.External path file) = External path file

-- a hard link whose target isn't there is left out
abbrev pub targets_in : Objects → Home → Titles → TargetMap
targets_in m h links = with_entries empty (map (λ e. (e.0, target_of e.1)) (filter (λ e. is_shown m h e.1) (entries links)))

abbrev pub group_of : Objects → Home → AttributeMap → Body → Option Group
group_of m h attributes (body.Group links) = Some (record { attributes = attributes; links = targets_in m h links })
group_of m h attributes (body.Dataset array) = None
group_of m h attributes (body.Datatype type) = None

abbrev pub dataset_of : AttributeMap → Body → Option Dataset
dataset_of attributes (body.Group links) = None
dataset_of attributes (body.Dataset array) = Some (record { attributes = attributes; array = array.grid })
dataset_of attributes (body.Datatype type) = None

abbrev pub datatype_of : AttributeMap → Body → Option Datatype
datatype_of attributes (body.Group links) = None
datatype_of attributes (body.Dataset array) = None
datatype_of attributes (body.Datatype type) = Some (record { attributes = attributes; kind = elem type })

-- ---- all of a domain

abbrev pub whole : Objects → Home → Objects
whole m h = if contains_key m h.root then m else insert m h.root empty_group

abbrev pub pair_before : {X : Type 0} → Option X → List ℕ → List (List ℕ × X) → List (List ℕ × X)
pair_before None text ps = ps
pair_before (Some x) text ps = (text, x) ∷ ps

-- the objects of a domain that are seen as something, each at the text of its id
abbrev pub pairs_from : {X : Type 0} → (Object → Option X) → ℕ → List (Id × Object) → List (List ℕ × X)
pairs_from see number [] = []
pairs_from see number (e ∷ es) = pair_before (if e.0.domain == number then see e.1 else None) (text_of_id e.0) (pairs_from see number es)

abbrev pub collection_in : {X : Type 0} → (Object → Option X) → Objects → Home → FinMap text_order X
collection_in see m h = with_entries empty (pairs_from see h.number (entries (whole m h)))

abbrev pub loaded_from : Objects → Home → Loaded
loaded_from m h = record {
  root = text_of_id h.root;
  groups = collection_in (λ o. group_of m h o.attributes o.body) m h;
  datasets = collection_in (λ o. dataset_of o.attributes o.body) m h;
  datatypes = collection_in (λ o. datatype_of o.attributes o.body) m h;
}

-- ---- what is true of the objects of a domain

-- an object of its id's kind, each part of which can be spelled
pub record IsSoundAt (id : Id) (o : Object) : Type 0 where
  pub range : InRange id
  pub kinds : id.kind ≡ kind_of_body o.body
  pub attributes : AreAttributes o.attributes
  pub parts : IsKeptBody o.body

-- the root is a group's id of the domain; what other domains have doesn't matter
pub record AreSound (m : Objects) (h : Home) : Type 0 where
  pub group : h.root.kind ≡ kind.Group
  pub number : h.root.domain ≡ h.number
  pub range : InRange h.root
  pub each : (id : Id) (o : Object) → get m id ≡ Some o → id.domain ≡ h.number → IsSoundAt id o

-- the document of a domain is loaded as what the domain holds
abbrev pub DomainsAreLoaded : Type 0
DomainsAreLoaded = (m : Objects) (h : Home) → AreSound m h → Loads (document_tree m h) (loaded_from m h)

-- it nests no deeper than what is printed of it may, so that its text is read back
abbrev pub DomainsAreShallow : Type 0
DomainsAreShallow = (m : Objects) (h : Home) → AreSound m h → depth (document_tree m h) ≤ max_depth

-- so a text of at most 2^27 bytes that reads as the document is loaded as what the domain holds
abbrev pub TextsAreLoaded : Type 0
TextsAreLoaded = (m : Objects) (h : Home) (text : List ℕ) → AreSound m h → length text ≤ 2 ^ 27 → IsUtf8 text
    → (depth (document_tree m h) ≤ max_depth → read text ≡ Some (document_tree m h)) → LoadsText text (loaded_from m h)
