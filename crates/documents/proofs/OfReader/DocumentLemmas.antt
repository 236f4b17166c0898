-- Whole documents: what is read is what a text holds, and the other way.
use Rattle.std.proofs.Common.{◌≡◌, ◌<◌, ◌≤◌, ℕ, List, [], Bool, true, false, length, nat_le, Option, Some, None, is_some, Result, Ok, Err, IfOk, codes, refl, sym, ap, subst, ◌∙◌}
use Rattle.std.specs.Bool.{⊤}
use Rattle.std.specs.FinMap.{contains_key}
use Rattle.std.specs.Str.{IsUtf8, is_utf8}
use Rattle.std.proofs.lemmas.Bool.{cond-false, cond-true, le-leb, leb-true, lt-leb}
use Rattle.std.proofs.lemmas.Str.{IsUtf8-from_is_utf8}
use Rattle.std.proofs.lemmas.Option.{none-some}
use Rattle.serde_json.specs.Data.{Data}
use Rattle.serde_json.specs.Find.{as_object, as_str, get}
use Rattle.serde_json.specs.Read.{read}
use Rattle.json_trees.specs.Faults.{◌>>=◌}
use Rattle.json_trees.specs.Trees.{text_at, tree_in}
use Rattle.json_trees.proofs.FaultLemmas.{bind_ok, ok_or_ok, test_ok}
use Rattle.documents.specs.Parts.Faults.{Answers, Fault, fault}
use Rattle.documents.specs.Parts.Items.{members_at}
use Rattle.documents.specs.declared.parts.faults.DocCause.TheVariants.{BadJson, NotADocument, TooLong}
use Rattle.documents.specs.declared.parts.faults.DocFault.{DocFault}
use Rattle.documents.proofs.OfParts.ListedLemmas.{bind_at, not_ok}
use Rattle.documents.specs.Reader.Collections.{dataset_step, datasets_at, datatype_step, datatypes_at, group_step, groups_at}
use Rattle.documents.specs.Reader.Documents.{doc_of, root_at, tree_doc, version_at}
use Rattle.documents.specs.Reader.Loads.{IsDataset, IsDatatype, IsGroup, IsNeeded, IsPart, IsVersion, Loads, LoadsText}
use Rattle.documents.specs.Reader.Objects.{Datasets, Datatypes, Groups}
use Rattle.documents.specs.Reader.Texts.{json_at, most_bytes, text_tree}
use Rattle.documents.specs.declared.reader.loaded.Loaded.{Loaded}
use Rattle.documents.proofs.OfReader.CollectionLemmas.{is_some_of, members_sound, members_there, needed_complete, needed_sound, part_complete, part_sound}
use Rattle.documents.proofs.OfReader.ParseLemmas.{json_gone, json_read}
use Rattle.documents.proofs.OfReader.ObjectLemmas.{dataset_complete, dataset_sound, datatype_complete, datatype_sound, group_complete, group_sound}
use Rattle.containers.proofs.Plain.{ok_same}

-- ---- parts

datasets_sound : (o : Option Data) (m : Datasets) → datasets_at o ≡ Ok m → IsPart IsDataset o m
unfolding datasets_at
datasets_sound o m e = part_sound IsDataset dataset_step dataset_sound (codes "datasets") o m e

datasets_complete : (o : Option Data) (m : Datasets) → IsPart IsDataset o m → datasets_at o ≡ Ok m
unfolding datasets_at
datasets_complete o m h = part_complete IsDataset dataset_step dataset_complete (codes "datasets") o m h

datatypes_sound : (document : Data) (o : Option Data) (m : Datatypes) → datatypes_at document o ≡ Ok m → IsPart (IsDatatype document) o m
unfolding datatypes_at
datatypes_sound document o m e = part_sound (IsDatatype document) (datatype_step document) (datatype_sound document) (codes "datatypes") o m e

datatypes_complete : (document : Data) (o : Option Data) (m : Datatypes) → IsPart (IsDatatype document) o m → datatypes_at document o ≡ Ok m
unfolding datatypes_at
datatypes_complete document o m h = part_complete (IsDatatype document) (datatype_step document) (datatype_complete document) (codes "datatypes") o m h

groups_sound : (document : Data) (o : Option Data) (m : Groups) → groups_at document o ≡ Ok m → IsNeeded (IsGroup document) o m
unfolding groups_at
groups_sound document o m e = needed_sound (IsGroup document) (group_step document) (group_sound document) (codes "groups") o m e

groups_complete : (document : Data) (o : Option Data) (m : Groups) → IsNeeded (IsGroup document) o m → groups_at document o ≡ Ok m
unfolding groups_at
groups_complete document o m h = needed_complete (IsGroup document) (group_step document) (group_complete document) (codes "groups") o m h

version_sound : (o : Option Data) (u : ⊤) → version_at o ≡ Ok u → IsVersion o
unfolding version_at
version_sound None u e = tt
version_sound (Some d) u e = (test_ok (is_some (as_str d)) (Ok tt) (fault (codes "apiVersion") NotADocument) u e).0

version_complete : (o : Option Data) → IsVersion o → version_at o ≡ Ok tt
unfolding version_at
version_complete None h = refl
version_complete (Some d) h = cond-true (is_some (as_str d)) (Ok tt) (Err (fault (codes "apiVersion") NotADocument)) h

root_sound : (groups : Groups) (o : Option (List ℕ)) (id : List ℕ) → root_at groups o ≡ Ok id → (o ≡ Some id) × (contains_key groups id ≡ true)
root_sound groups None id e = absurd (not_ok (fault (codes "root") NotADocument) id e)
root_sound groups (Some x) id e =
    let h = test_ok (contains_key groups x) (Ok x) (fault (codes "root") NotADocument) id e in
    let same = ok_same x id h.1 in
    (ap Some same, subst (λ (y : List ℕ). contains_key groups y ≡ true) same h.0)

-- ---- trees

pub tree_sound : (tree : Data) (l : Loaded) → tree_doc tree ≡ Ok l → Loads tree l
unfolding tree_doc
tree_sound tree l e =
    let a = bind_ok (members_at [] tree) _ l e in
    let b = bind_ok (version_at (get (codes "apiVersion") tree)) _ l a.2 in
    let c = bind_ok (datasets_at (get (codes "datasets") tree)) _ l b.2 in
    let d = bind_ok (datatypes_at tree (get (codes "datatypes") tree)) _ l c.2 in
    let g = bind_ok (groups_at tree (get (codes "groups") tree)) _ l d.2 in
    let r = bind_ok (root_at g.0 (text_at (codes "root") tree)) _ l g.2 in
    let root = root_sound g.0 (text_at (codes "root") tree) r.0 r.1 in
    subst (Loads tree) (ok_same _ l r.2) (record {
      object = is_some_of (as_object tree) a.0 (members_sound [] tree a.0 a.1);
      version = version_sound (get (codes "apiVersion") tree) b.0 b.1;
      datasets = datasets_sound (get (codes "datasets") tree) c.0 c.1;
      datatypes = datatypes_sound tree (get (codes "datatypes") tree) d.0 d.1;
      groups = groups_sound tree (get (codes "groups") tree) g.0 g.1;
      root = root.0;
      there = root.1;
    })

pub tree_complete : (tree : Data) (l : Loaded) → Loads tree l → tree_doc tree ≡ Ok l
unfolding tree_doc
tree_complete tree l h =
    let o = members_there [] tree h.object in
    bind_at (members_at [] tree) _ o.0 _ o.1
    (bind_at (version_at (get (codes "apiVersion") tree)) _ tt _ (version_complete (get (codes "apiVersion") tree) h.version)
    (bind_at (datasets_at (get (codes "datasets") tree)) _ l.datasets _ (datasets_complete (get (codes "datasets") tree) l.datasets h.datasets)
    (bind_at (datatypes_at tree (get (codes "datatypes") tree)) _ l.datatypes _ (datatypes_complete tree (get (codes "datatypes") tree) l.datatypes h.datatypes)
    (bind_at (groups_at tree (get (codes "groups") tree)) _ l.groups _ (groups_complete tree (get (codes "groups") tree) l.groups h.groups)
    (bind_at (root_at l.groups (text_at (codes "root") tree)) _ l.root _
    (ap (root_at l.groups) h.root ∙ cond-true (contains_key l.groups l.root) (Ok l.root) (Err (fault (codes "root") NotADocument)) h.there) refl)))))

-- ---- texts

in_sound : (text : List ℕ) (d : Data) → tree_in text ≡ Some d → IsUtf8 text × (read text ≡ Some d)
in_sound text d e = at (is_utf8 text) refl where
  at : (b : Bool) → is_utf8 text ≡ b → IsUtf8 text × (read text ≡ Some d)
  at true is = (IsUtf8-from_is_utf8 text is, sym (cond-true (is_utf8 text) (read text) None is) ∙ e)
  at false is = absurd (none-some d (sym (cond-false (is_utf8 text) (read text) None is) ∙ e))

pub text_sound : (text : List ℕ) (l : Loaded) → doc_of text ≡ Ok l → LoadsText text l
text_sound text l e =
    let a = bind_ok (text_tree text) _ l e in
    let t = test_ok (nat_le (length text) most_bytes) (json_at text) (fault [] TooLong) a.0 a.1 in
    let j = in_sound text a.0 (ok_or_ok (tree_in text) (fault [] BadJson) a.0 t.1) in
    record { short = leb-true (length text) most_bytes t.0; utf8 = j.0; tree = a.0; reads = j.1; loads = tree_sound a.0 l a.2 }

short_enough : (text : List ℕ) → length text ≤ most_bytes → text_tree text ≡ json_at text
short_enough text h = cond-true (nat_le (length text) most_bytes) (json_at text) (Err (fault [] TooLong)) (le-leb (length text) most_bytes h)

pub text_complete : (text : List ℕ) (l : Loaded) → LoadsText text l → doc_of text ≡ Ok l
text_complete text l h =
    bind_at (text_tree text) _ h.tree _
    (short_enough text h.short ∙ json_read text h.tree h.utf8 h.reads)
    (tree_complete h.tree l h.loads)

-- ---- what a call gives

pub gives_loads : (r : Result Loaded DocFault) (found : Result Loaded Fault) (P : Loaded → Type 0) → ((l : Loaded) → found ≡ Ok l → P l) → Answers r found → IfOk r P
gives_loads (Ok l) found P holds h = holds l h
gives_loads (Err e) found P holds h = tt

pub gives_only : (r : Result Loaded DocFault) (found : Result Loaded Fault) (l : Loaded) → Answers r found → found ≡ Ok l → Answers r (Ok l)
gives_only r found l h is = subst (λ (q : Result Loaded Fault). Answers r q) is h

-- ---- laws

pub one_document : (text : List ℕ) (l m : Loaded) → LoadsText text l → LoadsText text m → l ≡ m
one_document text l m h k = ok_same l m (sym (text_complete text l h) ∙ text_complete text m k)

pub fault_alone : (text : List ℕ) (l : Loaded) (f : Fault) → LoadsText text l → doc_of text ≡ Err f → ⊥
fault_alone text l f h e = not_ok f l (sym e ∙ text_complete text l h)

pub too_long : (text : List ℕ) → most_bytes < length text → doc_of text ≡ Err (fault [] TooLong)
too_long text h =
    ap (λ (r : Result Data Fault). r >>= tree_doc) (cond-false (nat_le (length text) most_bytes) (json_at text) (Err (fault [] TooLong)) (lt-leb (length text) most_bytes h))

pub no_json : (text : List ℕ) → length text ≤ most_bytes → (IsUtf8 text → read text ≡ None) → doc_of text ≡ Err (fault [] BadJson)
no_json text short none =
    ap (λ (r : Result Data Fault). r >>= tree_doc) (short_enough text short ∙ json_gone text none)
