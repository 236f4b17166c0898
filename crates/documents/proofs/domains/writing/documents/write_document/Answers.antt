use Rattle.std.proofs.Common.{codes, subst, ◌∙◌}
use Rattle.serde_json.specs.Data.{string}
use Rattle.object_ids.specs.Ids.{text_of_id}
use Rattle.object_ids.specs.declared.ids.Kind.TheVariants.{Dataset, Datatype, Group}
use Rattle.documents.specs.Domains.Documents.{collection_tree}
use Rattle.documents.specs.Domains.Writing.{PrintsMember}
use Rattle.documents.proofs.OfDomains.WritingLemmas.{five_written, whole_read}
use Rattle.documents.proofs.domains.writing.documents.write_document.Goals as goal

pub returns : goal.returns
returns g c =
    let m = g.S.ObjectStore.objects c.args.store.now in
    let h = c.args.home.now in
    let datasets = c.in_ok-write_collection.ensures in
    let datatypes = c.in_ok-write_collection-2.ensures in
    let groups = c.in_ok-write_collection-3.ensures in
    let root = subst (λ s. PrintsMember (codes "root") (string s) c.write_collection-3.new.writer c.write_text-2.new.writer) (c.as_str.ensures.value ∙ c.in_ok-root.ensures) c.in_ok-write_text-2.ensures in
    five_written c.end_object.result (codes "apiVersion") (codes "datasets") (codes "datatypes") (codes "groups") (codes "root")
    (string (codes "1.1.1")) (collection_tree m h Dataset) (collection_tree m h Datatype) (collection_tree m h Group) (string (text_of_id h.root))
    c.args.writer.now c.begin_object.new.self c.write_text.new.writer c.write_collection.new.writer c.write_collection-2.new.writer c.write_collection-3.new.writer c.write_text-2.new.writer c.end_object.new.self
    c.in_ok-begin_object.ensures.ok c.begin_object.ensures.room.0 c.in_ok-write_text.ensures datasets datatypes groups root c.end_object.ensures
    (whole_read (collection_tree m h Dataset) (collection_tree m h Datatype) (collection_tree m h Group) (text_of_id h.root) datasets.exact datatypes.exact groups.exact)
