-- Which trees spell attributes, links and arrays: without an order of tests and without paths.
use Rattle.std.specs.Prelude.{◌≡◌, ℕ, ◌≤◌, List, [], ◌∷◌, true, false, length, Option, Some, None, Ok, codes}
use Rattle.std.specs.List.{AllZip}
use Rattle.std.specs.FinMap.{FinMap, empty, insert, contains_key}
use Rattle.serde_json.specs.Data.{Data}
use Rattle.serde_json.specs.Find.{get}
use Rattle.json_trees.specs.Trees.{list_in, text_at}
use Rattle.containers.specs.TextMaps.Keyed.{text_order, with_entries}
use Rattle.object_ids.specs.Names.{is_name, has_no_slash}
use Rattle.shapes.specs.Shapes.{IsShape}
use Rattle.hdf_values.specs.Attributes.{IsTypeAt, attribute_of, content}
use Rattle.hdf_values.specs.Shaped.{value_from}
use Rattle.hdf_values.specs.declared.attributes.Attribute.{Attribute}
use Rattle.attributes.specs.AttributeMaps.{AttributeMap, longest_name, most_attributes}
use Rattle.groups_links.specs.GroupLinks.{most_links}
use Rattle.groups_links.specs.Targets.{link_in}
use Rattle.groups_links.specs.Titles.{most_of_title}
use Rattle.groups_links.specs.declared.target.LinkTo.TheVariants as links
use Rattle.chunk_store.specs.Grids.{Grid}
use Rattle.object_ops.specs.Creation.Creations.{creation_of}
use Rattle.documents.specs.Parts.Arrays.{blank, with_bytes}
use Rattle.documents.specs.Parts.Ids.{is_id}
use Rattle.documents.specs.Parts.TitleMaps.{TargetMap}
use Rattle.documents.specs.declared.parts.targets.Target.{Target}
use Rattle.documents.specs.declared.parts.targets.Target.TheVariants.{Hard, Soft, External}

-- ---- lists of entries

-- no name stands in the map, or twice
abbrev pub AreNew : {X : Type 0} → FinMap text_order X → List (List ℕ × X) → Type 0
AreNew m [] = Unit {0}
AreNew m (e ∷ es) = (contains_key m e.0 ≡ false) × AreNew (insert m e.0 e.1) es

-- a list of at most so many trees, each of which spells an entry, with a name of its own
pub record AreListed {X : Type 0} (most : ℕ) (R : Data → List ℕ × X → Type 0) (ds : List Data) (m : FinMap text_order X) : Type 0 where
  pub few : length ds ≤ most
  pub pairs : List (List ℕ × X)
  pub each : AllZip R ds pairs
  pub apart : AreNew empty pairs
  pub all : m ≡ with_entries empty pairs

abbrev pub AreListedIn : {X : Type 0} → ℕ → (Data → List ℕ × X → Type 0) → Option (List Data) → FinMap text_order X → Type 0
AreListedIn most R None m = ⊥
AreListedIn most R (Some ds) m = AreListed most R ds m

-- an absent list has no entry
abbrev pub AreListedAt : {X : Type 0} → ℕ → (Data → List ℕ × X → Type 0) → Option Data → FinMap text_order X → Type 0
AreListedAt most R None m = m ≡ empty
AreListedAt most R (Some d) m = AreListedIn most R (list_in d) m

-- ---- attributes

-- the tree spells an attribute at its name
pub record IsNamed (d : Data) (e : List ℕ × Attribute) : Type 0 where
  pub name : text_at (codes "name") d ≡ Some e.0
  pub good : is_name longest_name e.0 ≡ true
  pub spelled : attribute_of d ≡ Ok (content e.1)

abbrev pub AreAttributesAt : Option Data → AttributeMap → Type 0
AreAttributesAt o m = AreListedAt most_attributes IsNamed o m

-- ---- links

-- where the tree of a link leads; what has an `id` leads to an object of the document
abbrev pub IsTarget : Data → Data → Target → Type 0
IsTarget document d (Hard id) = (text_at (codes "id") d ≡ Some id) × (is_id id document ≡ true)
IsTarget document d (Soft path) = (get (codes "id") d ≡ None) × (link_in d ≡ Some (links.Soft path))
IsTarget document d (External path file) = (get (codes "id") d ≡ None) × (link_in d ≡ Some (links.External path file))

-- the tree spells a link at its title
pub record IsTitled (document d : Data) (e : List ℕ × Target) : Type 0 where
  pub title : text_at (codes "title") d ≡ Some e.0
  pub good : is_name most_of_title e.0 ≡ true
  pub one_part : has_no_slash e.0 ≡ true
  pub target : IsTarget document d e.1

abbrev pub AreLinksAt : Data → Option Data → TargetMap → Type 0
AreLinksAt document o m = AreListedAt most_links (IsTitled document) o m

-- ---- arrays

-- an absent value is all fill; one that is given is a value of the type and the shape, and its elements stand in the cells
abbrev pub HasCells : Option Data → Grid → Type 0
HasCells None g = g ≡ blank g.kind g.shape (g.chunk, g.fill)
HasCells (Some d) g = (bs : List ℕ) × (value_from g.kind g.shape d ≡ Ok bs) × (g ≡ with_bytes (blank g.kind g.shape (g.chunk, g.fill)) bs)

-- the tree spells an array by its keys
pub record IsArray (d : Data) (g : Grid) : Type 0 where
  pub kind : IsTypeAt (get (codes "type") d) g.kind
  pub shape : IsShape (get (codes "shape") d) None g.shape
  pub creation : creation_of g.kind g.shape (get (codes "creationProperties") d) ≡ Ok (g.chunk, g.fill)
  pub cells : HasCells (get (codes "value") d) g
