-- The document of a new domain holds what was read, under the texts of the fresh ids.
use Rattle.std.proofs.Common.{◌≡◌, ◌≢◌, ◌↔◌, ℕ, ◌*◌, All, true, false, ◌⊎◌, inl, inr, List, ◌∷◌, length, Option, Some, None, IsSome, is_some, option_map, Ok, codes, refl, sym, ap, subst, ◌∙◌, arith}
use Rattle.std.proofs.lemmas.Bool.{eq-eqb, or_left, and_from, or_right}
use Rattle.std.specs.FinMap.{FinMap, contains_key, entries, get}
use Rattle.serde_json.specs.Data.{Data, Members, no_members}
use Rattle.serde_json.specs.Find.{get as find}
use Rattle.serde_json.specs.Find.{get_member}
use Rattle.hdf_types.specs.Elems.{Elem}
use Rattle.hdf_types.specs.Printed.{type_tree}
use Rattle.hdf_types.specs.Reading.{size_of}
use Rattle.hdf_values.specs.Attributes.{IsTypeAt}
use Rattle.hdf_values.specs.Nested.{piece_at}
use Rattle.object_ids.specs.IdOrder.{kind_rank}
use Rattle.object_ids.specs.IdValues.{Id}
use Rattle.object_ids.specs.Ids.{InRange, text_of_id}
use Rattle.object_ids.specs.declared.ids.Kind.{Kind}
use Rattle.object_ids.specs.declared.ids.Kind.TheVariants as kind
use Rattle.shapes.specs.RowMajor.{linear_index}
use Rattle.shapes.specs.Shapes.{LiesIn, dims_of}
use Rattle.shapes.specs.declared.Shape.{Shape}
use Rattle.chunk_store.specs.Grids.{Grid, reads, value_at, writes}
use Rattle.chunk_store.specs.Listed.{IsOnce}
use Rattle.object_ops.specs.Creation.Creations.{creation_of}
use Rattle.object_ops.specs.Creation.Spelled.{IsCreation}
use Rattle.object_acts.specs.Objects.{empty_group, Objects}
use Rattle.object_acts.specs.declared.objects.Object.{Object}
use Rattle.documents.specs.Parts.Arrays.{with_bytes}
use Rattle.containers.specs.TextMaps.Keyed.{text_order}
use Rattle.documents.specs.Parts.Ids.{is_id}
use Rattle.documents.specs.Domains.Documents.{collection_tree, document_tree, put_each}
use Rattle.documents.specs.Domains.Domains.{object_or_root, is_there}
use Rattle.documents.specs.Domains.Entries.{entry_tree}
use Rattle.documents.specs.Domains.Laws.{AreInRange}
use Rattle.documents.specs.declared.domains.home.Home.{Home}
use Rattle.documents.proofs.OfDomains.DocumentLemmas.{each_at_its_text, keys_are_texts, keys_in_order}
use Rattle.documents.specs.Reader.Loads.{AreMembers, IsDataset, IsDatatype, IsGroup, Loads}
use Rattle.documents.specs.declared.reader.loaded.Dataset.{Dataset}
use Rattle.documents.specs.declared.reader.loaded.Datatype.{Datatype}
use Rattle.documents.specs.declared.reader.loaded.Group.{Group}
use Rattle.documents.specs.declared.reader.loaded.Loaded.{Loaded}
use Rattle.json_import.specs.Fresh.Laws.{HasObject, StandForOne}
use Rattle.json_import.specs.Fresh.Names.{Names, id_in, names_of}
use Rattle.json_import.specs.Fresh.Renamed.{dataset_object, datatype_object, group_object, kind_of, objects_put, other_count}
use Rattle.json_import.proofs.OfFresh.LawLemmas.{datasets_stand, datatypes_stand, groups_stand, ids_fresh, ids_there, nothing_else, root_stands}
use Rattle.json_import.proofs.OfFresh.LoadedLemmas.{needed_found, part_found, stand_for_one}
use Rattle.json_import.specs.RoundTrips.Laws.{HasRoom, IsAlone, home_of}
use Rattle.json_import.specs.RoundTrips.Renamed.{at_texts, renamed, renamed_group, text_in}
use Rattle.json_import.proofs.RoundTrips.EntryLemmas.{attributes_again, links_again}
use Rattle.json_import.proofs.RoundTrips.HomeLemmas.{there_told, id_length, member_is, member_told, no_member, other_rank}
use Rattle.json_import.proofs.RoundTrips.ListLemmas.{are_members, moved_found, moved_there}
use Rattle.json_import.proofs.RoundTrips.OrderLemmas.{fresh_range}
use Rattle.json_import.proofs.RoundTrips.PartLemmas.{array_again, kind_again}
use Rattle.containers.proofs.Plain.{some_value}
use Rattle.hdf_types.proofs.ViewLemmas.{elem-elem_type}

-- ---- a new domain

module _
    (creations : (e : Elem) (s : Shape) (tree : Option Data) (p : List ℕ × Option (List ℕ)) → (creation_of e s tree ≡ Ok p) ↔ IsCreation e s tree p)
    (back : (g : Grid) (ats : List (List ℕ)) (bytes : List ℕ) → All (λ at. LiesIn at g.shape) ats → IsOnce ats → length bytes ≡ length ats * size_of g.kind → reads (writes g ats bytes) ats ≡ bytes)
    (elements : (g : Grid) (bytes at : List ℕ) → LiesIn at g.shape → value_at (with_bytes g bytes) at ≡ piece_at (size_of g.kind) (linear_index at (dims_of g.shape)) bytes)
    (tree : Data) (l : Loaded) (root : Id) (m : Objects) (loads : Loads tree l) (room : HasRoom root (other_count l)) (alone : IsAlone root m)
  where
    abbrev one : StandForOne l
    one = stand_for_one tree l loads

    abbrev names : Names
    names = names_of l root

    abbrev objects : Objects
    objects = objects_put l root m

    abbrev home : Home
    home = home_of root

    abbrev printed : Data
    printed = document_tree objects home

    abbrev id_at : List ℕ → Id
    id_at text = id_in names root text

    abbrev text_at_id : List ℕ → List ℕ
    text_at_id = text_in names root

    -- ---- its ids

    has_range : (text : List ℕ) (o : Object) → HasObject l root text o → InRange (id_at text)
    has_range text o has = fresh_range root (other_count l) (kind_of o) (id_at text) room (ids_fresh l root room.group one text o has)

    has_kind : (text : List ℕ) (o : Object) → HasObject l root text o → (id_at text).kind ≡ kind_of o
    has_kind text o has = (ids_fresh l root room.group one text o has).same_kind

    -- what stands in the domain is an object of the document
    object_told : (id : Id) (o : Object) → id.domain ≡ root.domain → get objects id ≡ Some o
        → (text : List ℕ) × (id_at text ≡ id) × HasObject l root text o
    object_told id o number is = at (nothing_else l root m one id o is) where
      at : (get m id ≡ Some o) ⊎ ((text : List ℕ) × (id_at text ≡ id) × HasObject l root text o)
          → (text : List ℕ) × (id_at text ≡ id) × HasObject l root text o
      at (inl before) = absurd (alone id o before number)
      at (inr h) = h

    object_range : (id : Id) (o : Object) → get objects id ≡ Some o → id.domain ≡ root.domain → InRange id
    object_range id o is number = let told = object_told id o number is in subst InRange told.1 (has_range told.0 o told.2)

    ranges : AreInRange objects home
    ranges = record { root = room.range; objects = object_range }

    id_there : (text : List ℕ) → ((id_at text).domain ≡ root.domain) × IsSome (get objects (id_at text))
    id_there text = ids_there l root m one text

    root_is : id_at l.root ≡ root
    root_is = root_stands l root one

    root_has : IsSome (get objects root)
    root_has = subst (λ i. IsSome (get objects i)) root_is (id_there l.root).1

    -- ---- its members

    member_there : (k : Kind) (id : Id) (o : Object) → InRange id → id.kind ≡ k → id.domain ≡ root.domain → get objects id ≡ Some o
        → find (text_of_id id) (collection_tree objects home k) ≡ Some (entry_tree objects home o)
    member_there k id o range kinds number is =
        each_at_its_text objects home k id ranges range ∙ ap (option_map (entry_tree objects home)) (member_is objects home k id o kinds number (ap (object_or_root home id) is))

    none_there : (k : Kind) (id : Id) → InRange id → kind_rank id.kind ≢ kind_rank k
        → find (text_of_id id) (collection_tree objects home k) ≡ None
    none_there k id range other = each_at_its_text objects home k id ranges range ∙ ap (option_map (entry_tree objects home)) (no_member objects home k id other)

    -- each key is that of an object
    key_told : (k : Kind) (key : List ℕ) (d : Data) → find key (collection_tree objects home k) ≡ Some d
        → (text : List ℕ) × (o : Object) × (key ≡ text_at_id text) × (kind_of o ≡ k) × HasObject l root text o
    key_told k key d is =
        let at = keys_are_texts objects home k key d is in
        let told = member_told objects home k at.0 at.1 at.3 in
        let own = object_told at.0 at.1 told.number (there_told objects home at.0 at.1 root_has told.found) in
        (own.0, at.1, at.2 ∙ ap text_of_id (sym own.1), sym (has_kind own.0 at.1 own.2) ∙ ap (λ (i : Id). i.kind) own.1 ∙ told.same_kind, own.2)

    -- ---- the links of its groups

    link_there : (text : List ℕ) → is_there objects home (id_at text) ≡ true
    link_there text = let at = id_there text in and_from _ _ (eq-eqb (id_at text).domain root.domain at.0) (or_left _ _ at.1)

    known_id : (id : Id) (o : Object) → InRange id → id.domain ≡ root.domain → get objects id ≡ Some o
        → is_id (text_of_id id) printed ≡ true
    known_id id o range number is = at id.kind refl where
      at : (k : Kind) → id.kind ≡ k → is_id (text_of_id id) printed ≡ true
      at kind.Group kinds = or_right _ _ (ap is_some (member_there kind.Group id o range kinds number is))
      at kind.Dataset kinds = or_left _ _ (or_left _ _ (ap is_some (member_there kind.Dataset id o range kinds number is)))
      at kind.Datatype kinds = or_left _ _ (or_right _ _ (ap is_some (member_there kind.Datatype id o range kinds number is)))

    link_known : (text : List ℕ) → is_id (text_at_id text) printed ≡ true
    link_known text =
        let at = id_there text in
        let found = some_value (get objects (id_at text)) at.1 in
        known_id (id_at text) found.0 (object_range (id_at text) found.0 found.1 at.0) at.0 found.1

    -- ---- its collections

    abbrev members_of : Kind → Members
    members_of k = put_each objects home k ((root, empty_group) ∷ entries objects) no_members

    -- objects of a kind, each of which is spelled at the text of its id, with nothing else of the kind
    collection_again : {X Y : Type 0} (k : Kind) (m : FinMap text_order X) (object : X → Object) (see : X → Y) (R : List ℕ → Data → Y → Type 0)
        → ((text : List ℕ) (x : X) → get m text ≡ Some x → R (text_at_id text) (entry_tree objects home (object x)) (see x))
        → ((text : List ℕ) (x : X) → get m text ≡ Some x → find (text_at_id text) (collection_tree objects home k) ≡ Some (entry_tree objects home (object x)))
        → ((text : List ℕ) (o : Object) → kind_of o ≡ k → HasObject l root text o → (x : X) × (get m text ≡ Some x))
        → AreMembers R (members_of k) (at_texts text_at_id see m)
    collection_again k m object see R again there kept =
        are_members R (members_of k) (at_texts text_at_id see m) (keys_in_order objects home k (members_of k) refl)
        (λ key y is.
        let from = moved_found text_at_id see m key y is in (
          entry_tree objects home (object from.1),
          ap (λ q. get_member q (members_of k)) from.3 ∙ there from.0 from.1 from.2,
          subst (λ q. R q (entry_tree objects home (object from.1)) y) (sym from.3)
              (subst (R (text_at_id from.0) (entry_tree objects home (object from.1))) (sym from.4) (again from.0 from.1 from.2)),
        ))
        (λ key d is.
        let told = key_told k key d is in
        let found = kept told.0 told.1 told.3 told.4 in
        subst (λ q. IsSome (get (at_texts text_at_id see m) q)) (sym told.2) (moved_there text_at_id see m told.0 found.0 found.1))

    -- the tree of an object stands at the text of its id
    tree_there : (k : Kind) (text : List ℕ) (o : Object) → HasObject l root text o → kind_of o ≡ k → get objects (id_at text) ≡ Some o
        → find (text_at_id text) (collection_tree objects home k) ≡ Some (entry_tree objects home o)
    tree_there k text o has kinds is = member_there k (id_at text) o (has_range text o has) (has_kind text o has ∙ kinds) (id_there text).0 is

    not_there : (k : Kind) (text : List ℕ) (o : Object) → HasObject l root text o → kind_rank (kind_of o) ≢ kind_rank k
        → find (text_at_id text) (collection_tree objects home k) ≡ None
    not_there k text o has other = none_there k (id_at text) (has_range text o has) (λ same. other (ap kind_rank (sym (has_kind text o has)) ∙ same))

    -- ---- its datasets

    dataset_again : (text : List ℕ) (x : Dataset) → get l.datasets text ≡ Some x
        → IsDataset (text_at_id text) (entry_tree objects home (dataset_object x)) x
    dataset_again text x is =
        let was = part_found IsDataset (find (codes "datasets") tree) l.datasets loads.datasets text x is in
        record {
          named = id_length (id_at text);
          object = refl;
          attributes = attributes_again (find (codes "attributes") was.1) x.attributes was.2.attributes;
          array = array_again creations back elements was.1 (entry_tree objects home (dataset_object x)) x.array was.2.array refl refl refl refl;
        }

    dataset_there : (text : List ℕ) (x : Dataset) → get l.datasets text ≡ Some x
        → find (text_at_id text) (collection_tree objects home kind.Dataset) ≡ Some (entry_tree objects home (dataset_object x))
    dataset_there text x is = tree_there kind.Dataset text (dataset_object x) (inr (inl (x, is, refl))) refl (datasets_stand l root m one text x is)

    dataset_kept : (text : List ℕ) (o : Object) → kind_of o ≡ kind.Dataset → HasObject l root text o
        → (x : Dataset) × (get l.datasets text ≡ Some x)
    dataset_kept text o kinds (inl h) = absurd (other_rank kind.Group kind.Dataset (omega arith) (sym (ap kind_of h.2) ∙ kinds))
    dataset_kept text o kinds (inr (inl h)) = (h.0, h.1)
    dataset_kept text o kinds (inr (inr h)) = absurd (other_rank kind.Datatype kind.Dataset (omega arith) (sym (ap kind_of h.2) ∙ kinds))

    -- ---- its committed datatypes

    datatype_again : (text : List ℕ) (x : Datatype) → get l.datatypes text ≡ Some x
        → IsDatatype printed (text_at_id text) (entry_tree objects home (datatype_object x)) x
    datatype_again text x is =
        let was = part_found (IsDatatype tree) (find (codes "datatypes") tree) l.datatypes loads.datatypes text x is in
        let has : HasObject l root text (datatype_object x) = inr (inr (x, is, refl)) in
        record {
          named = id_length (id_at text);
          no_dataset = ap is_some (not_there kind.Dataset text (datatype_object x) has (omega arith));
          object = refl;
          attributes = attributes_again (find (codes "attributes") was.1) x.attributes was.2.attributes;
          kind = subst (λ e. IsTypeAt (Some (type_tree e)) x.kind) (sym (elem-elem_type x.kind)) (kind_again (find (codes "type") was.1) x.kind was.2.kind);
        }

    datatype_there : (text : List ℕ) (x : Datatype) → get l.datatypes text ≡ Some x
        → find (text_at_id text) (collection_tree objects home kind.Datatype) ≡ Some (entry_tree objects home (datatype_object x))
    datatype_there text x is = tree_there kind.Datatype text (datatype_object x) (inr (inr (x, is, refl))) refl (datatypes_stand l root m one text x is)

    datatype_kept : (text : List ℕ) (o : Object) → kind_of o ≡ kind.Datatype → HasObject l root text o
        → (x : Datatype) × (get l.datatypes text ≡ Some x)
    datatype_kept text o kinds (inl h) = absurd (other_rank kind.Group kind.Datatype (omega arith) (sym (ap kind_of h.2) ∙ kinds))
    datatype_kept text o kinds (inr (inl h)) = absurd (other_rank kind.Dataset kind.Datatype (omega arith) (sym (ap kind_of h.2) ∙ kinds))
    datatype_kept text o kinds (inr (inr h)) = (h.0, h.1)

    -- ---- its groups

    group_again : (text : List ℕ) (x : Group) → get l.groups text ≡ Some x
        → IsGroup printed (text_at_id text) (entry_tree objects home (group_object names root x)) (renamed_group names root x)
    group_again text x is =
        let was = needed_found (IsGroup tree) (find (codes "groups") tree) l.groups loads.groups text x is in
        let has : HasObject l root text (group_object names root x) = inl (x, is, refl) in
        record {
          named = id_length (id_at text);
          no_dataset = ap is_some (not_there kind.Dataset text (group_object names root x) has (omega arith));
          no_datatype = ap is_some (not_there kind.Datatype text (group_object names root x) has (omega arith));
          object = refl;
          attributes = attributes_again (find (codes "attributes") was.1) x.attributes was.2.attributes;
          links = links_again tree printed objects home names root link_there link_known (find (codes "links") was.1) x.links was.2.links;
        }

    group_there : (text : List ℕ) (x : Group) → get l.groups text ≡ Some x
        → find (text_at_id text) (collection_tree objects home kind.Group) ≡ Some (entry_tree objects home (group_object names root x))
    group_there text x is = tree_there kind.Group text (group_object names root x) (inl (x, is, refl)) refl (groups_stand l root m one text x is)

    group_kept : (text : List ℕ) (o : Object) → kind_of o ≡ kind.Group → HasObject l root text o
        → (x : Group) × (get l.groups text ≡ Some x)
    group_kept text o kinds (inl h) = (h.0, h.1)
    group_kept text o kinds (inr (inl h)) = absurd (other_rank kind.Dataset kind.Group (omega arith) (sym (ap kind_of h.2) ∙ kinds))
    group_kept text o kinds (inr (inr h)) = absurd (other_rank kind.Datatype kind.Group (omega arith) (sym (ap kind_of h.2) ∙ kinds))

    -- ---- the whole

    some_group : (found : Option Group) → get l.groups l.root ≡ found → IsSome found → (x : Group) × (get l.groups l.root ≡ Some x)
    some_group None is there = let never : false ≡ true = there in absurd (cc)
    some_group (Some x) is there = (x, is)

    root_there : contains_key (renamed l root).groups (text_of_id root) ≡ true
    root_there =
        let g = some_group (get l.groups l.root) refl one.root in
        subst (λ i. contains_key (at_texts text_at_id (renamed_group names root) l.groups) (text_of_id i) ≡ true) root_is (moved_there text_at_id (renamed_group names root) l.groups l.root g.0 g.1)

    pub document_again : Loads printed (renamed l root)
    document_again = record {
      object = refl;
      version = refl;
      datasets = collection_again kind.Dataset l.datasets dataset_object (λ d. d) IsDataset dataset_again dataset_there dataset_kept;
      datatypes = collection_again kind.Datatype l.datatypes datatype_object (λ t. t) (IsDatatype printed) datatype_again datatype_there datatype_kept;
      groups = collection_again kind.Group l.groups (group_object names root) (renamed_group names root) (IsGroup printed) group_again group_there group_kept;
      root = refl;
      there = root_there;
    }
