-- What the document of a sample is read as, and where its dataset stands.
use Rattle.std.proofs.Common.{◌≡◌, ℕ, ◌+◌, ◌^◌, ◌<◌, List, [], ◌∷◌, ◌++◌, map, codes, Some, Ok, refl, sym, ap, subst, ◌∙◌}
use Rattle.std.specs.List.{AllZip}
use Rattle.std.specs.FinMap.{FinMap, empty, entries, get, insert, remove}
use Rattle.std.specs.Cmp.Lexicographic.{nat_list_cmp_total}
use Rattle.serde_json.specs.Data.{Data, member, no_members}
use Rattle.containers.specs.TextMaps.Keyed.{text_order, with_entries}
use Rattle.object_ids.specs.IdOrder.{id_order}
use Rattle.object_ids.specs.IdValues.{Id}
use Rattle.object_ids.specs.declared.ids.Kind.TheVariants as kind
use Rattle.object_ids.proofs.IdOrders.{id_order_total}
use Rattle.hdf_types.specs.Reading.{size_of}
use Rattle.hdf_values.specs.Nested.{piece_at}
use Rattle.shapes.specs.RowMajor.{linear_index}
use Rattle.shapes.specs.Shapes.{LiesIn, dims_of}
use Rattle.chunk_store.specs.Grids.{Grid, value_at}
use Rattle.documents.specs.Parts.Arrays.{blank, with_bytes}
use Rattle.documents.specs.Parts.Spelled.{IsArray}
use Rattle.documents.specs.Reader.Loads.{AreMembers, IsMember, Loads}
use Rattle.documents.specs.declared.reader.loaded.Dataset.{Dataset}
use Rattle.documents.specs.declared.reader.loaded.Datatype.{Datatype}
use Rattle.documents.specs.declared.reader.loaded.Group.{Group}
use Rattle.documents.specs.declared.reader.loaded.Loaded.{Loaded}
use Rattle.object_acts.specs.declared.objects.Object.{Object}
use Rattle.json_import.specs.Fresh.Names.{Names, behind, names_of, others, with_each, with_root}
use Rattle.json_import.specs.Fresh.Renamed.{dataset_object, datatype_object, group_object, numbered, objects_put, objects_under, other_objects, root_object}
use Rattle.samples.specs.Trees.{IsSample, dataset_tree, document_tree, sample_tree, value_tree}
use Rattle.domains.specs.Changes.{new_domain}
use Rattle.service_core.specs.Worlds.{State, seen}
use Rattle.json_import.specs.Adoption.Adopted.{objects_adopted, root_at}
use Rattle.samples.specs.Requests.{dataset_id, sample_path, sample_user}
use Rattle.samples.specs.Worlds.{HoldsSample, IsFirst}
use Rattle.samples.proofs.ArrayLemmas.{sample_is}
use Rattle.samples.proofs.MapLemmas.{get_put, none_entries, none_left, one_entry}
use Rattle.json_trees.specs.Trees.{pairs_of}

-- ---- a root and a dataset

pub record IsOne (n : ℕ) (l : Loaded) : Type 0 where
  pub group : Group
  pub dataset : Dataset
  pub root : l.root ≡ codes "g"
  pub groups : l.groups ≡ insert empty (codes "g") group
  pub datasets : l.datasets ≡ insert empty (codes "d") dataset
  pub datatypes : l.datatypes ≡ empty
  pub array : IsArray (dataset_tree (value_tree n 1000 1000)) dataset.array

one_member : {X : Type 0} (R : List ℕ → Data → X → Type 0) (k : List ℕ) (d : Data) (m : FinMap text_order X) → AreMembers R (member k d no_members) m
    → (x : X) × (m ≡ insert empty k x) × R k d x
one_member {X} R k d m h = at h.pairs h.each h.all where
  at : (pairs : List (List ℕ × X)) → AllZip (IsMember R) (pairs_of (member k d no_members)) pairs → m ≡ with_entries empty pairs → (x : X) × (m ≡ insert empty k x) × R k d x
  at [] each all = absurd each
  at (p ∷ []) each all = (p.1, all ∙ ap (λ (key : List ℕ). insert empty key p.1) each.0.0, each.0.1)
  at (p ∷ (q ∷ ps)) each all = absurd each.1

same_text : (x y : List ℕ) → Some x ≡ Some y → y ≡ x
same_text x y e = cc

pub loads_one : (n : ℕ) (l : Loaded) → Loads (sample_tree n) l → IsOne n l
unfolding document_tree
loads_one n l h =
    let groups = one_member _ (codes "g") _ l.groups h.groups in
    let datasets = one_member _ (codes "d") (dataset_tree (value_tree n 1000 1000)) l.datasets h.datasets in
    record {
      group = groups.0;
      dataset = datasets.0;
      root = same_text (codes "g") l.root h.root;
      groups = groups.1;
      datasets = datasets.1;
      datatypes = h.datatypes;
      array = datasets.2.array;
    }

-- ---- the array

-- in each cell of an array with bytes stands the element at the cell's linear index
abbrev pub CellsHaveElements : Type 0
CellsHaveElements = (g : Grid) (bytes at : List ℕ) → LiesIn at g.shape → value_at (with_bytes g bytes) at ≡ piece_at (size_of g.kind) (linear_index at (dims_of g.shape)) bytes

pub array_is : CellsHaveElements → (n : ℕ) (g : Grid) → n < 2 ^ 64 → IsArray (dataset_tree (value_tree n 1000 1000)) g → IsSample n g
array_is law n g small h =
    let bs = h.cells.0 in
    sample_is n g bs small h.kind h.shape h.cells.1
    (λ at lies. ap (λ (x : Grid). value_at x at) h.cells.2 ∙ law (blank g.kind g.shape (g.chunk, g.fill)) bs at lies)

-- ---- the objects

abbrev id_with : ℕ → ℕ → ℕ → Id
id_with domain run serial = record { kind = kind.Dataset; domain = domain; run = run; serial = serial }

one_under : (names : Names) (root : Id) (groups : FinMap text_order Group) (datasets : FinMap text_order Dataset) (datatypes : FinMap text_order Datatype) (k : List ℕ) (x : Dataset)
    → entries groups ≡ [] → entries datasets ≡ (k, x) ∷ [] → entries datatypes ≡ [] → objects_under names root groups datasets datatypes ≡ dataset_object x ∷ []
one_under names root groups datasets datatypes k x none one no_types =
    ap (λ (es : List (List ℕ × Group)). map (group_object names root) (map (λ e. e.1) es) ++ (map dataset_object (map (λ e. e.1) (entries datasets)) ++ map datatype_object (map (λ e. e.1) (entries datatypes)))) none
    ∙ ap (λ (es : List (List ℕ × Dataset)). map dataset_object (map (λ e. e.1) es) ++ map datatype_object (map (λ e. e.1) (entries datatypes))) one
    ∙ ap (λ (es : List (List ℕ × Datatype)). (dataset_object x ∷ []) ++ map datatype_object (map (λ e. e.1) es)) no_types

abbrev group_map : Group → FinMap text_order Group
group_map g = insert empty (codes "g") g

behind_is : (domain run serial : ℕ) → domain ≡ 1 → run ≡ 1 → serial ≡ 0 → id_with domain run (serial + 1) ≡ dataset_id
behind_is domain run serial h k l = ap (λ d. id_with d run (serial + 1)) h ∙ ap (λ r. id_with 1 r (serial + 1)) k ∙ ap (λ s. id_with 1 1 (s + 1)) l

-- the root, and the dataset behind it
pub dataset_put : (n : ℕ) (l : Loaded) (root : Id) (m : FinMap id_order Object) (h : IsOne n l) → root.domain ≡ 1 → root.run ≡ 1 → root.serial ≡ 0
    → get (objects_put l root m) dataset_id ≡ Some (dataset_object h.dataset)
dataset_put n l root m h domain run serial =
    let names = names_of l root in
    let begun = with_root m root (root_object l root) in
    let o = dataset_object h.dataset in
    let no_group = ap (λ (gs : FinMap text_order Group). entries (remove gs l.root)) h.groups ∙ ap (λ (k : List ℕ). entries (remove (group_map h.group) k)) h.root
    ∙ ap (λ (gs : FinMap text_order Group). entries gs) (none_left nat_list_cmp_total (codes "g") h.group) ∙ none_entries Group text_order in
    let one = ap (λ (ds : FinMap text_order Dataset). entries ds) h.datasets ∙ one_entry nat_list_cmp_total (codes "d") h.dataset in
    let no_type = ap (λ (ts : FinMap text_order Datatype). entries ts) h.datatypes ∙ none_entries Datatype text_order in
    let all = one_under names root (others l) l.datasets l.datatypes (codes "d") h.dataset no_group one no_type in
    let id : behind root kind.Dataset ≡ dataset_id = behind_is root.domain root.run root.serial domain run serial in
    ap (λ (os : List Object). get (with_each begun (numbered root os)) dataset_id) all
    ∙ ap (λ (k : Id). get (insert begun k o) dataset_id) id
    ∙ get_put id_order_total begun dataset_id o

-- ---- the world afterwards

domain_is : (next run serial : ℕ) (user : List ℕ) → next ≡ 1 → run ≡ 1 → serial ≡ 0 → user ≡ sample_user → new_domain next run serial user ≡ new_domain 1 1 0 sample_user
domain_is next run serial user h k l m =
    ap (λ (i : ℕ). new_domain i run serial user) h ∙ ap (λ (i : ℕ). new_domain 1 i serial user) k ∙ ap (λ (i : ℕ). new_domain 1 1 i user) l ∙ ap (new_domain 1 1 0) m

pub adopted_holds : CellsHaveElements → (n : ℕ) (l : Loaded) (old new : State) (path user : List ℕ) → n < 2 ^ 64 → Loads (sample_tree n) l → IsFirst old.register → path ≡ sample_path → user ≡ sample_user
    → get new.register.catalogue.nodes path ≡ Some (new_domain old.register.catalogue.next old.register.run old.register.serial user)
    → (seen new).objects ≡ objects_adopted old.register l (seen old).objects → HoldsSample n (seen new)
adopted_holds law n l old new path user small h first at by domain objects =
    let one = loads_one n l h in
    record {
      node = ap (get new.register.catalogue.nodes) (sym at) ∙ domain ∙ ap Some (domain_is old.register.catalogue.next old.register.run old.register.serial user first.next first.run first.serial by);
      attributes = one.dataset.attributes;
      array = one.dataset.array;
      object = ap (λ (m : FinMap id_order Object). get m dataset_id) objects ∙ dataset_put n l (root_at old.register) (seen old).objects one first.next first.run first.serial;
      elements = array_is law n one.dataset.array small one.array;
    }
