-- Objects: what is read is what a tree spells, and the other way.
use Rattle.std.proofs.Common.{◌≡◌, ℕ, List, true, false, not, Ok, Err, codes, refl, sym, ◌∙◌}
use Rattle.std.specs.FinMap.{insert}
use Rattle.std.proofs.lemmas.Bool.{and_from, cond-true, not-true, not_from_false, and_parts}
use Rattle.serde_json.specs.Data.{Data}
use Rattle.serde_json.specs.Find.{as_object, get}
use Rattle.json_trees.proofs.FaultLemmas.{bind_ok, test_ok}
use Rattle.documents.specs.Parts.Arrays.{array_at}
use Rattle.documents.specs.Parts.Faults.{fault}
use Rattle.documents.specs.Parts.Ids.{has_id}
use Rattle.documents.specs.Parts.Items.{members_at}
use Rattle.documents.specs.Parts.Paths.{under}
use Rattle.documents.specs.Parts.Types.{kind_at}
use Rattle.documents.specs.declared.parts.faults.DocCause.TheVariants.{NotADocument}
use Rattle.documents.proofs.OfParts.ListedLemmas.{bind_at}
use Rattle.documents.proofs.OfParts.SpelledLemmas.{array_complete, array_sound, attributes_complete, attributes_sound, kind_complete, kind_sound, links_complete, links_sound}
use Rattle.documents.specs.Reader.Collections.{dataset_step, datatype_step, group_step}
use Rattle.documents.specs.Reader.Loads.{IsDataset, IsDatatype, IsGroup}
use Rattle.documents.specs.Reader.Objects.{Datasets, Datatypes, Groups, attributes_of, dataset_at, datatype_at, group_at, is_length, is_new_group, is_new_type, links_of}
use Rattle.documents.specs.declared.reader.loaded.Dataset.{Dataset}
use Rattle.documents.specs.declared.reader.loaded.Datatype.{Datatype}
use Rattle.documents.specs.declared.reader.loaded.Group.{Group}
use Rattle.documents.proofs.OfReader.CollectionLemmas.{is_some_of, members_sound, members_there}
use Rattle.containers.proofs.Plain.{ok_same}

new_type : (id : List ℕ) (document : Data) → is_new_type id document ≡ true → (is_length id ≡ true) × (has_id (codes "datasets") id document ≡ false)
new_type id document h =
    let both = and_parts (is_length id) (not (has_id (codes "datasets") id document)) h in
    (both.0, not-true _ both.1)

type_new : (id : List ℕ) (document : Data) → is_length id ≡ true → has_id (codes "datasets") id document ≡ false → is_new_type id document ≡ true
type_new id document h apart = and_from (is_length id) (not (has_id (codes "datasets") id document)) h (not_from_false _ apart)

pub dataset_sound : (id : List ℕ) (m n : Datasets) (d : Data) → dataset_step id m d ≡ Ok n → (x : Dataset) × IsDataset id d x × (n ≡ insert m id x)
unfolding dataset_at
dataset_sound id m n d e =
    let path : List ℕ = under (codes "datasets") id in
    let t = test_ok (is_length id) _ (fault path NotADocument) n e in
    let a = bind_ok (members_at path d) _ n t.1 in
    let b = bind_ok (attributes_of path d) _ n a.2 in
    let c = bind_ok (array_at path d) _ n b.2 in (
      record { attributes = b.0; array = c.0 },
      record {
        named = t.0;
        object = is_some_of (as_object d) a.0 (members_sound path d a.0 a.1);
        attributes = attributes_sound (under path (codes "attributes")) (get (codes "attributes") d) b.0 b.1;
        array = array_sound path d c.0 c.1;
      },
      sym (ok_same (insert m id (record { attributes = b.0; array = c.0 })) n c.2),
    )

pub dataset_complete : (id : List ℕ) (m : Datasets) (d : Data) (x : Dataset) → IsDataset id d x → dataset_step id m d ≡ Ok (insert m id x)
unfolding dataset_at
dataset_complete id m d x h =
    let path : List ℕ = under (codes "datasets") id in
    let o = members_there path d h.object in
    cond-true (is_length id) _ (Err (fault path NotADocument)) h.named
    ∙ bind_at (members_at path d) _ o.0 _ o.1
    (bind_at (attributes_of path d) _ x.attributes _ (attributes_complete (under path (codes "attributes")) (get (codes "attributes") d) x.attributes h.attributes)
    (bind_at (array_at path d) _ x.array _ (array_complete path d x.array h.array) refl))

pub datatype_sound : (document : Data) (id : List ℕ) (m n : Datatypes) (d : Data) → datatype_step document id m d ≡ Ok n → (x : Datatype) × IsDatatype document id d x × (n ≡ insert m id x)
unfolding datatype_at
datatype_sound document id m n d e =
    let path : List ℕ = under (codes "datatypes") id in
    let t = test_ok (is_new_type id document) _ (fault path NotADocument) n e in
    let new = new_type id document t.0 in
    let a = bind_ok (members_at path d) _ n t.1 in
    let b = bind_ok (attributes_of path d) _ n a.2 in
    let c = bind_ok (kind_at path (get (codes "type") d)) _ n b.2 in (
      record { attributes = b.0; kind = c.0 },
      record {
        named = new.0;
        no_dataset = new.1;
        object = is_some_of (as_object d) a.0 (members_sound path d a.0 a.1);
        attributes = attributes_sound (under path (codes "attributes")) (get (codes "attributes") d) b.0 b.1;
        kind = kind_sound path (get (codes "type") d) c.0 c.1;
      },
      sym (ok_same (insert m id (record { attributes = b.0; kind = c.0 })) n c.2),
    )

pub datatype_complete : (document : Data) (id : List ℕ) (m : Datatypes) (d : Data) (x : Datatype) → IsDatatype document id d x → datatype_step document id m d ≡ Ok (insert m id x)
unfolding datatype_at
datatype_complete document id m d x h =
    let path : List ℕ = under (codes "datatypes") id in
    let o = members_there path d h.object in
    cond-true (is_new_type id document) _ (Err (fault path NotADocument)) (type_new id document h.named h.no_dataset)
    ∙ bind_at (members_at path d) _ o.0 _ o.1
    (bind_at (attributes_of path d) _ x.attributes _ (attributes_complete (under path (codes "attributes")) (get (codes "attributes") d) x.attributes h.attributes)
    (bind_at (kind_at path (get (codes "type") d)) _ x.kind _ (kind_complete path (get (codes "type") d) x.kind h.kind) refl))

pub group_sound : (document : Data) (id : List ℕ) (m n : Groups) (d : Data) → group_step document id m d ≡ Ok n → (x : Group) × IsGroup document id d x × (n ≡ insert m id x)
unfolding group_at
group_sound document id m n d e =
    let path : List ℕ = under (codes "groups") id in
    let t = test_ok (is_new_group id document) _ (fault path NotADocument) n e in
    let both = and_parts (is_new_type id document) (not (has_id (codes "datatypes") id document)) t.0 in
    let new = new_type id document both.0 in
    let a = bind_ok (members_at path d) _ n t.1 in
    let b = bind_ok (attributes_of path d) _ n a.2 in
    let c = bind_ok (links_of document path d) _ n b.2 in (
      record { attributes = b.0; links = c.0 },
      record {
        named = new.0;
        no_dataset = new.1;
        no_datatype = not-true _ both.1;
        object = is_some_of (as_object d) a.0 (members_sound path d a.0 a.1);
        attributes = attributes_sound (under path (codes "attributes")) (get (codes "attributes") d) b.0 b.1;
        links = links_sound document (under path (codes "links")) (get (codes "links") d) c.0 c.1;
      },
      sym (ok_same (insert m id (record { attributes = b.0; links = c.0 })) n c.2),
    )

pub group_complete : (document : Data) (id : List ℕ) (m : Groups) (d : Data) (x : Group) → IsGroup document id d x → group_step document id m d ≡ Ok (insert m id x)
unfolding group_at
group_complete document id m d x h =
    let path : List ℕ = under (codes "groups") id in
    let o = members_there path d h.object in
    cond-true (is_new_group id document) _ (Err (fault path NotADocument))
    (and_from (is_new_type id document) (not (has_id (codes "datatypes") id document)) (type_new id document h.named h.no_dataset) (not_from_false _ h.no_datatype))
    ∙ bind_at (members_at path d) _ o.0 _ o.1
    (bind_at (attributes_of path d) _ x.attributes _ (attributes_complete (under path (codes "attributes")) (get (codes "attributes") d) x.attributes h.attributes)
    (bind_at (links_of document path d) _ x.links _ (links_complete document (under path (codes "links")) (get (codes "links") d) x.links h.links) refl))
