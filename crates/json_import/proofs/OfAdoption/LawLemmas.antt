-- What an export printed is loaded as what the domain held, and exported again as the same under fresh ids.
use Rattle.std.proofs.Common.{◌≡◌, ℕ, List, [], ◌∷◌, ◌++◌, Option, Some, None, option_map, sym, ap, subst, ◌∙◌, arith}
use Rattle.std.proofs.lemmas.Str.{IsUtf8-append}
use Rattle.std.specs.FinMap.{get}
use Rattle.std.proofs.lemmas.Option.{none-some, same_Some}
use Rattle.serde_json.specs.Data.{Data}
use Rattle.serde_json.specs.Written.{compact_text}
use Rattle.json_trees.proofs.TreeLemmas.{and_then_some, map_some}
use Rattle.flush_journal.specs.Records.{Held}
use Rattle.object_ids.specs.IdValues.{Id}
use Rattle.object_acts.specs.declared.objects.Object.{Object}
use Rattle.domains.specs.Contents.{HasRoot}
use Rattle.domains.specs.declared.classes.Node.{Node}
use Rattle.domains.specs.declared.classes.NodeClass.{NodeClass}
use Rattle.domains.specs.declared.classes.NodeClass.TheVariants.{Folder, Domain}
use Rattle.object_records.specs.Keys.Keys.{node_key, object_key}
use Rattle.domains.specs.Records.Nodes.{HasId, node_of_body}
use Rattle.domains.proofs.OfRecords.ExactLemmas.{body_exact}
use Rattle.chunk_owner.specs.Slots.Slots.{Describes}
use Rattle.chunk_owner.specs.Installs.Records.{IsWholeObject}
use Rattle.service_core.specs.Records.{DescribesWorld}
use Rattle.service_core.specs.Steps.{World}
use Rattle.service_core.specs.Described.Told.{AreWhole}
use Rattle.documents.specs.Domains.Documents.{document_tree}
use Rattle.documents.specs.Domains.Printed.{ReadsAs}
use Rattle.documents.specs.declared.domains.home.Home.{Home}
use Rattle.json_export.specs.Documents.{doc, home_at, home_of}
use Rattle.documents.specs.Reader.Loads.{Loads, LoadsText}
use Rattle.documents.specs.declared.reader.loaded.Loaded.{Loaded}
use Rattle.json_import.specs.RoundTrips.Loaded.{AreSound, DomainsAreLoaded, IsSoundAt, TextsAreLoaded, loaded_from}
use Rattle.json_import.specs.RoundTrips.Renamed.{renamed}
use Rattle.json_import.specs.Adoption.Adopted.{root_at}
use Rattle.json_import.specs.Adoption.Laws.{DomainsAreSound, ExportsAreLoaded, ExportsComeBack, LinesAreLoaded}
use Rattle.json_import.proofs.OfAdoption.LineLemmas.{read_line}
use Rattle.json_import.proofs.OfAdoption.RecordLemmas.{attributes_told}
use Rattle.json_import.proofs.OfAdoption.TextLemmas.{one_byte}

-- ---- the root

home_class : (o : Option NodeClass) (h : Home) → home_of o ≡ Some h → o ≡ Some (Domain h.number h.root)
home_class None h is = absurd (none-some h is)
home_class (Some Folder) h is = absurd (none-some h is)
home_class (Some (Domain number root)) h is = ap (λ (x : Home). Some (Domain x.number x.root)) (same_Some (record { number = number; root = root }) h is)

-- the record of a domain has a group of the domain for its root
record IsRootOf (h : Home) : Type 0 where
  root : HasRoot (Domain h.number h.root)
  id : HasId (Domain h.number h.root)

module _ (held : Held) (run : ℕ) (w : World) (path : List ℕ) (h : Home) (told : DescribesWorld held run w) (there : home_at w path ≡ Some h) where
  root_told : IsRootOf h
  root_told =
      let at = map_some (λ (n : Node). n.class) (get w.register.catalogue.nodes path) (Domain h.number h.root) (home_class _ h there) in
      let body = and_then_some node_of_body (get held (node_key path)) at.0 (sym (told.register.nodes path) ∙ at.1) in
      let kept = (body_exact body.0 at.0 body.2).2 in
      record { root = subst HasRoot at.2 kept.root; id = subst HasId at.2 kept.id }

  module _ (whole : AreWhole w.objects) where
    object_sound : (id : Id) (o : Object) → get w.objects id ≡ Some o → IsSoundAt id o
    object_sound id o is =
        let range = whole.ids id o is in
        let described = subst (Describes held id) is (told.objects id range) in
        record {
          range = range;
          kinds = sym described.0;
          attributes = attributes_told o (get held (object_key id)) described.1;
          parts = (subst IsWholeObject is (whole.parts id)).0;
        }

    sound : AreSound w.objects h
    sound = record {
      group = root_told.root.0;
      number = root_told.root.1;
      range = root_told.id;
      each = λ id o is number. object_sound id o is;
    }

pub domains_sound : DomainsAreSound
domains_sound held run w path h told whole there = sound held run w path h told there whole

-- ---- the text

document_is : (w : World) (path : List ℕ) (h : Home) (tree : Data) → home_at w path ≡ Some h → doc w path ≡ Some tree → document_tree w.objects h ≡ tree
document_is w path h tree there is = same_Some _ tree (sym (ap (option_map (document_tree w.objects)) there) ∙ is)

module _ (texts : TextsAreLoaded) where
  pub exports_loaded : ExportsAreLoaded
  exports_loaded held run w path h tree text told whole there is reads short =
      let document = subst (ReadsAs text) (sym (document_is w path h tree there is)) reads in
      texts w.objects h text (domains_sound held run w path h told whole there) short document.utf8 document.reads

  pub lines_loaded : LinesAreLoaded
  lines_loaded held run w path h tree text told whole there is reads short =
      let document = subst (ReadsAs text) (sym (document_is w path h tree there is)) reads in
      texts w.objects h (text ++ 10 ∷ []) (domains_sound held run w path h told whole there) short
      (IsUtf8-append text (10 ∷ []) document.utf8 (one_byte 10 (omega arith)))
      (λ shallow. read_line text (document_tree w.objects h) (document.reads shallow))

  -- ---- and back

  module _ (loaded : DomainsAreLoaded) (one : (text : List ℕ) (l m : Loaded) → LoadsText text l → LoadsText text m → l ≡ m) where
    pub come_back : ExportsComeBack
    come_back held run w path h tree told whole there is reads short l d v other loads back =
        let first = loaded_from w.objects h in
        let same = one (compact_text tree ++ 10 ∷ []) l first loads
        (lines_loaded held run w path h tree (compact_text tree) told whole there is reads short) in
        let document = loaded w.objects h (domains_sound held run w path h told whole there) in
        let again = back (document_tree w.objects h) (subst (Loads (document_tree w.objects h)) (sym same) document) in
        (same, (again.0, again.1, subst (λ (x : Loaded). Loads again.0 (renamed x (root_at d))) same again.2))
