-- The tests over a bare tree and kept values find what those over the whole tree do.
use Rattle.std.proofs.Common.{◌≡◌, ℕ, Bool, not, ◌&&◌, ◌||◌, List, [], Option, Some, None, option_map, option_and_then, is_some, Result, Ok, Err, Ordering, Less, Equal, Greater, codes, refl, sym, ap, ◌∙◌, if◌then◌else◌}
use Rattle.std.specs.Prelude.{IfOk, IfSome, IsUtf8, decimal, ⊤}
use Rattle.std.specs.Cmp.Lexicographic.{slice_cmp}
use Rattle.std.specs.FinMap.{empty, get-empty, insert}
use Rattle.std.specs.Option.{ok_or}
use Rattle.std.specs.Ordering.{match_ordering, nat_cmp}
use Rattle.serde_json.specs.Data.{Data, Members, no_members, member, null, boolean, number, string, array, object}
use Rattle.serde_json.specs.Find.{as_str, get, get_member}
use Rattle.serde_json.specs.View.{view}
use Rattle.serde_json.specs.Read.{read}
use Rattle.json_trees.specs.Faults.{◌>>=◌}
use Rattle.json_trees.specs.Trees.{text_at, tree_in}
use Rattle.json_trees.specs.declared.kept.fault.ReadFault.{ReadFault}
use Rattle.json_trees.proofs.OfKept.KeptLemmas.{tree_read}
use Rattle.containers.specs.TextMaps.Keyed.{text_order}
use Rattle.containers.proofs.TextMaps.KeyedMaps.{exact_texts}
use Rattle.hdf_types.specs.Elems.{Elem}
use Rattle.shapes.specs.declared.Shape.{Shape}
use Rattle.chunk_store.specs.Grids.{Grid}
use Rattle.attributes.specs.AttributeMaps.{AttributeMap}
use Rattle.groups_links.specs.GroupLinks.{most_links}
use Rattle.documents.specs.Parts.Arrays.{array_at, array_with, creation_at, filled_at, or_else, shape_at}
use Rattle.documents.specs.Parts.AttributeLists.{attributes_at}
use Rattle.documents.specs.Parts.Faults.{Fault, fault}
use Rattle.documents.specs.Parts.Ids.{has_id, is_id}
use Rattle.documents.specs.Parts.Items.{listed_at, members_at}
use Rattle.documents.specs.Parts.LinkLists.{hard_of, link_at, links_at, target_by}
use Rattle.documents.specs.Parts.Names.{new_title}
use Rattle.documents.specs.Parts.Paths.{under}
use Rattle.documents.specs.Parts.TitleMaps.{TargetMap}
use Rattle.documents.specs.Parts.Types.{kind_at}
use Rattle.documents.specs.declared.parts.faults.DocCause.TheVariants.{BadJson, BadLink, NotADocument}
use Rattle.documents.specs.declared.parts.targets.Target.{Target}
use Rattle.documents.specs.declared.parts.targets.Target.TheVariants.{Hard}
use Rattle.documents.specs.Reader.Bare.{AreKept, AreValuesAt, IsBare, Values, bare_dataset, bare_document, bare_member, bare_part, changed_in, each_changed}
use Rattle.documents.specs.Reader.Collections.{dataset_step, datasets_at, datatype_step, datatypes_at, each_member, group_step, groups_at, needed_at, part_at}
use Rattle.documents.specs.Reader.Documents.{root_at, tree_doc, version_at}
use Rattle.documents.specs.Reader.Kept.{dataset_with, datasets_with, json_doc, kept_step, tree_with}
use Rattle.documents.specs.Reader.Objects.{Datasets, Datatypes, Groups, attributes_of, dataset_at, datatype_at, group_at, is_length, is_new_group, is_new_type}
use Rattle.documents.specs.Reader.Texts.{json_at}
use Rattle.documents.specs.declared.reader.bare_documents.BareDocument.{BareDocument}
use Rattle.documents.specs.declared.reader.loaded.Loaded.{Loaded}

-- ---- members

got : (f : List ℕ → Data → Data) (k : List ℕ) (ms : Members) → get_member k (each_changed f ms) ≡ option_map (f k) (get_member k ms)
got f k no_members = refl
got f k (member l e ms) = at (slice_cmp nat_cmp k l) refl (got f k ms) where
  at : (o : Ordering) → slice_cmp nat_cmp k l ≡ o → get_member k (each_changed f ms) ≡ option_map (f k) (get_member k ms)
      → match_ordering o (get_member k (each_changed f ms)) (Some (f l e)) (get_member k (each_changed f ms)) ≡ option_map (f k) (match_ordering o (get_member k ms) (Some e) (get_member k ms))
  at Less is rest = rest
  at Equal is rest = ap (λ x. Some (f x e)) (sym (exact_texts k l is))
  at Greater is rest = rest

same_at : (f : Data → Data) → ((d : Data) → f d ≡ d) → (o : Option Data) → option_map f o ≡ o
same_at f same None = refl
same_at f same (Some d) = ap (λ x. Some x) (same d)

-- what stands at a key whose member stays
found : (f : List ℕ → Data → Data) (k : List ℕ) (ms : Members) → ((d : Data) → f k d ≡ d) → get_member k (each_changed f ms) ≡ get_member k ms
found f k ms same = got f k ms ∙ same_at (f k) same (get_member k ms)

bind_same : {A B : Type 0} (r q : Result A Fault) (f g : A → Result B Fault) → r ≡ q → ((x : A) → f x ≡ g x) → (r >>= f) ≡ (q >>= g)
bind_same r q f g e h = λ i. e i >>= λ x. h x i

-- ---- a dataset

value_there : (f : Data → Data) (o : Option Data) → or_else o (option_map f o) ≡ o
value_there f None = refl
value_there f (Some d) = refl

value_found : (ms : Members) → or_else (get_member (codes "value") ms) (get_member (codes "value") (each_changed bare_member ms)) ≡ get_member (codes "value") ms
value_found ms = ap (or_else (get_member (codes "value") ms)) (got bare_member (codes "value") ms) ∙ value_there (bare_member (codes "value")) (get_member (codes "value") ms)

-- a dataset by what stands at its keys
abbrev dataset_by : List ℕ → List ℕ → Datasets → Option Data → Option Data → Option Data → Option Data → Option Data → Result Datasets Fault
dataset_by path id m listed typed shaped created valued =
    if is_length id
    then (attributes_at (under path (codes "attributes")) listed >>= λ (attributes : AttributeMap).
    (kind_at path typed >>= λ (e : Elem).
    shape_at path shaped >>= λ (s : Shape).
    creation_at path e s created >>= λ (p : List ℕ × Option (List ℕ)).
    filled_at path e s p valued) >>= λ (array : Grid).
    Ok (insert m id (record { attributes = attributes; array = array })))
    else Err (fault path NotADocument)

dataset_same : (path id : List ℕ) (m : Datasets) (x : Data) → dataset_with (get (codes "value") x) path id m (changed_in bare_member x) ≡ dataset_at path id m x
unfolding dataset_with dataset_at array_with array_at
dataset_same path id m null = refl
dataset_same path id m (boolean b) = refl
dataset_same path id m (number n) = refl
dataset_same path id m (string s) = refl
dataset_same path id m (array ds) = refl
dataset_same path id m (object ms) =
    let listed = found bare_member (codes "attributes") ms (λ d. refl) in
    let typed = found bare_member (codes "type") ms (λ d. refl) in
    let shaped = found bare_member (codes "shape") ms (λ d. refl) in
    let created = found bare_member (codes "creationProperties") ms (λ d. refl) in
    let valued = value_found ms in
    λ i. dataset_by path id m (listed i) (typed i) (shaped i) (created i) (valued i)

-- a dataset whose value isn't kept apart
dataset_alone : (path id : List ℕ) (m : Datasets) (x : Data) → dataset_with None path id m x ≡ dataset_at path id m x
unfolding dataset_with dataset_at array_with array_at
dataset_alone path id m x = refl

-- ---- the datasets

each_same : (values : Values) (m : Datasets) (ms : Members) → AreKept values ms → each_member (kept_step values) m (each_changed bare_dataset ms) ≡ each_member dataset_step m ms
each_same values m no_members h = refl
each_same values m (member id x ms) h =
    bind_same (kept_step values id m (bare_dataset id x)) (dataset_step id m x) (λ (more : Datasets). each_member (kept_step values) more (each_changed bare_dataset ms)) (λ (more : Datasets). each_member dataset_step more ms)
    (ap (λ (o : Option (Option Data)). dataset_with (option_and_then (λ v. v) o) (under (codes "datasets") id) id m (bare_dataset id x)) h.0 ∙ dataset_same (under (codes "datasets") id) id m x)
    (λ more. each_same values more ms h.1)

datasets_same : (values : Values) (o : Option Data) → AreValuesAt values o → datasets_with values (option_map (changed_in bare_dataset) o) ≡ datasets_at o
unfolding datasets_with datasets_at
datasets_same values None h = refl
datasets_same values (Some null) h = refl
datasets_same values (Some (boolean b)) h = refl
datasets_same values (Some (number n)) h = refl
datasets_same values (Some (string s)) h = refl
datasets_same values (Some (array ds)) h = refl
datasets_same values (Some (object ms)) h = each_same values empty ms h

step_alone : (id : List ℕ) (m : Datasets) (x : Data) → kept_step empty id m x ≡ dataset_step id m x
step_alone id m x =
    ap (λ (o : Option (Option Data)). dataset_with (option_and_then (λ v. v) o) (under (codes "datasets") id) id m x) (get-empty text_order id) ∙ dataset_alone (under (codes "datasets") id) id m x

datasets_alone : (o : Option Data) → datasets_with empty o ≡ datasets_at o
unfolding datasets_with datasets_at
datasets_alone o = λ i. part_at (codes "datasets") (λ id m x. step_alone id m x i) empty o

-- ---- the ids of a document

some_map : (f : Data → Data) (o : Option Data) → is_some (option_map f o) ≡ is_some o
some_map f None = refl
some_map f (Some d) = refl

id_there : (id : List ℕ) (y : Data) → is_some (get id (changed_in bare_dataset y)) ≡ is_some (get id y)
id_there id null = refl
id_there id (boolean b) = refl
id_there id (number n) = refl
id_there id (string s) = refl
id_there id (array ds) = refl
id_there id (object ns) = ap (λ (o : Option Data). is_some o) (got bare_dataset id ns) ∙ some_map (bare_dataset id) (get_member id ns)

ids_there : (id : List ℕ) (o : Option Data) → is_some (option_and_then (get id) (option_map (changed_in bare_dataset) o)) ≡ is_some (option_and_then (get id) o)
ids_there id None = refl
ids_there id (Some y) = id_there id y

has_sets : (ms : Members) (id : List ℕ) → has_id (codes "datasets") id (object (each_changed bare_part ms)) ≡ has_id (codes "datasets") id (object ms)
has_sets ms id = ap (λ (o : Option Data). is_some (option_and_then (get id) o)) (got bare_part (codes "datasets") ms) ∙ ids_there id (get_member (codes "datasets") ms)

has_types : (ms : Members) (id : List ℕ) → has_id (codes "datatypes") id (object (each_changed bare_part ms)) ≡ has_id (codes "datatypes") id (object ms)
has_types ms id = ap (λ (o : Option Data). is_some (option_and_then (get id) o)) (found bare_part (codes "datatypes") ms (λ d. refl))

has_groups : (ms : Members) (id : List ℕ) → has_id (codes "groups") id (object (each_changed bare_part ms)) ≡ has_id (codes "groups") id (object ms)
has_groups ms id = ap (λ (o : Option Data). is_some (option_and_then (get id) o)) (found bare_part (codes "groups") ms (λ d. refl))

-- ---- two documents with the same ids

module _ (d e : Data) (sets : (id : List ℕ) → has_id (codes "datasets") id d ≡ has_id (codes "datasets") id e) (types : (id : List ℕ) → has_id (codes "datatypes") id d ≡ has_id (codes "datatypes") id e) (groups : (id : List ℕ) → has_id (codes "groups") id d ≡ has_id (codes "groups") id e) where
  new_type_same : (id : List ℕ) → is_new_type id d ≡ is_new_type id e
  new_type_same id = ap (λ b. is_length id && not b) (sets id)

  new_group_same : (id : List ℕ) → is_new_group id d ≡ is_new_group id e
  new_group_same id = λ i. new_type_same id i && not (types id i)

  id_same : (id : List ℕ) → is_id id d ≡ is_id id e
  id_same id = λ i. sets id i || types id i || groups id i

  hard_same : (o : Option (List ℕ)) → hard_of d o ≡ hard_of e o
  hard_same None = refl
  hard_same (Some id) = ap (λ (b : Bool). if b then Some (Hard id) else None) (id_same id)

  target_same : (o : Option Data) (x : Data) → target_by d o x ≡ target_by e o x
  target_same None x = refl
  target_same (Some id) x = hard_same (as_str id)

  link_same : (path : List ℕ) (m : TargetMap) (x : Data) → link_at d path m x ≡ link_at e path m x
  unfolding link_at
  link_same path m x =
      let to = target_same (get (codes "id") x) x in
      λ i. members_at path x >>= λ (ms : Members). new_title (under path (codes "title")) m (text_at (codes "title") x) >>= λ (title : List ℕ). ok_or (to i) (fault path BadLink) >>= λ (target : Target). Ok (insert m title target)

  links_same : (path : List ℕ) (o : Option Data) → links_at d path o ≡ links_at e path o
  unfolding links_at
  links_same path o = λ i. listed_at most_links path (λ j m x. link_same (under path (decimal j)) m x i) empty o

  datatype_same : (id : List ℕ) (m : Datatypes) (x : Data) → datatype_step d id m x ≡ datatype_step e id m x
  unfolding datatype_at
  datatype_same id m x =
      let path : List ℕ = under (codes "datatypes") id in
      ap (λ (b : Bool). if b then (members_at path x >>= λ (ms : Members). attributes_of path x >>= λ (attributes : AttributeMap). kind_at path (get (codes "type") x) >>= λ (kind : Elem). Ok (insert m id (record { attributes = attributes; kind = kind }))) else Err (fault path NotADocument)) (new_type_same id)

  group_same : (id : List ℕ) (m : Groups) (x : Data) → group_step d id m x ≡ group_step e id m x
  unfolding group_at
  group_same id m x =
      let path : List ℕ = under (codes "groups") id in
      let new = new_group_same id in
      let listed = links_same (under path (codes "links")) (get (codes "links") x) in
      λ i. if new i then (members_at path x >>= λ (ms : Members). attributes_of path x >>= λ (attributes : AttributeMap). listed i >>= λ (links : TargetMap). Ok (insert m id (record { attributes = attributes; links = links }))) else Err (fault path NotADocument)

  datatypes_same : (o : Option Data) → datatypes_at d o ≡ datatypes_at e o
  unfolding datatypes_at
  datatypes_same o = λ i. part_at (codes "datatypes") (λ id m x. datatype_same id m x i) empty o

  groups_same : (o : Option Data) → groups_at d o ≡ groups_at e o
  unfolding groups_at
  groups_same o = λ i. needed_at (codes "groups") (λ id m x. group_same id m x i) empty o

-- ---- whole documents

abbrev document_by : Option Data → Result Datasets Fault → Result Datatypes Fault → Result Groups Fault → Option (List ℕ) → Result Loaded Fault
document_by version sets types groups root =
    version_at version >>= λ (v : ⊤).
    sets >>= λ (datasets : Datasets).
    types >>= λ (datatypes : Datatypes).
    groups >>= λ (groups : Groups).
    root_at groups root >>= λ (root : List ℕ).
    Ok (record { root = root; groups = groups; datasets = datasets; datatypes = datatypes })

tree_same : (values : Values) (d : Data) → AreValuesAt values (get (codes "datasets") d) → tree_with values (bare_document d) ≡ tree_doc d
unfolding tree_with tree_doc
tree_same values null h = refl
tree_same values (boolean b) h = refl
tree_same values (number n) h = refl
tree_same values (string s) h = refl
tree_same values (array ds) h = refl
tree_same values (object ms) h =
    let bare : Data = object (each_changed bare_part ms) in
    let version = found bare_part (codes "apiVersion") ms (λ d. refl) in
    let sets = ap (datasets_with values) (got bare_part (codes "datasets") ms) ∙ datasets_same values (get_member (codes "datasets") ms) h in
    let types = ap (datatypes_at bare) (found bare_part (codes "datatypes") ms (λ d. refl)) ∙ datatypes_same bare (object ms) (has_sets ms) (has_types ms) (has_groups ms) (get_member (codes "datatypes") ms) in
    let groups = ap (groups_at bare) (found bare_part (codes "groups") ms (λ d. refl)) ∙ groups_same bare (object ms) (has_sets ms) (has_types ms) (has_groups ms) (get_member (codes "groups") ms) in
    let root = ap (option_and_then as_str) (found bare_part (codes "root") ms (λ d. refl)) in
    λ i. document_by (version i) (sets i) (types i) (groups i) (root i)

tree_alone : (d : Data) → tree_with empty d ≡ tree_doc d
unfolding tree_with tree_doc
tree_alone d =
    let sets = datasets_alone (get (codes "datasets") d) in
    λ i. members_at [] d >>= λ (ms : Members). document_by (get (codes "apiVersion") d) (sets i) (datatypes_at d (get (codes "datatypes") d)) (groups_at d (get (codes "groups") d)) (text_at (codes "root") d)

-- no value is kept apart
pub whole_same : (values : Values) (d : Data) → values ≡ empty → tree_with values d ≡ tree_doc d
whole_same values d none = ap (λ (m : Values). tree_with m d) none ∙ tree_alone d

-- ---- texts

pub bare_found : (text : List ℕ) (d : Data) (document : BareDocument) → tree_in text ≡ Some d → IsBare d document → tree_with document.values (view document.tree) ≡ json_doc text
bare_found text d document is h =
    ap (tree_with document.values) h.tree ∙ tree_same document.values d h.values ∙ sym (ap (λ (o : Option Data). ok_or o (fault [] BadJson) >>= tree_doc) is)

pub whole_found : (text : List ℕ) (d : Data) (values : Values) → values ≡ empty → json_at text ≡ Ok d → tree_with values d ≡ json_doc text
whole_found text d values none is = whole_same values d none ∙ sym (ap (λ (r : Result Data Fault). r >>= tree_doc) is)

-- what is read of a text is read of its bytes
pub bytes_found : (bytes text : List ℕ) (r : Result (Option BareDocument) ReadFault) → IsUtf8 bytes → text ≡ bytes → IfOk r (λ o. IfSome o (λ document. (d : Data) × (read text ≡ Some d) × IsBare d document))
    → IfOk r (λ o. IfSome o (λ document. (d : Data) × (tree_in bytes ≡ Some d) × IsBare d document))
bytes_found bytes text (Err e) utf8 is h = tt
bytes_found bytes text (Ok None) utf8 is h = tt
bytes_found bytes text (Ok (Some document)) utf8 is h = (h.0, tree_read bytes h.0 utf8 (ap read (sym is) ∙ h.1), h.2)
