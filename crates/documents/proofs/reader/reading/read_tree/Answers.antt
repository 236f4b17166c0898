use Rattle.serde_json.specs.View.{view}
use Rattle.documents.specs.Reader.Documents.{tree_doc}
use Rattle.documents.specs.Reader.Loads.{Loads}
use Rattle.documents.proofs.OfReader.DocumentLemmas.{gives_loads, gives_only, tree_complete, tree_sound}
use Rattle.documents.proofs.reader.reading.read_tree.Goals as goal

pub returns-clause-loads : goal.returns-clause-loads
returns-clause-loads c =
    let tree = view c.args.tree.now in
    gives_loads c.whole_tree.result (tree_doc tree) (Loads tree) (tree_sound tree) c.whole_tree.ensures

pub returns-clause-only : goal.returns-clause-only
returns-clause-only c = λ l h. gives_only c.whole_tree.result (tree_doc (view c.args.tree.now)) l c.whole_tree.ensures (tree_complete (view c.args.tree.now) l h)
