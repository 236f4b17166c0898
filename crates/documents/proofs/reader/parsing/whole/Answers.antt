use Rattle.serde_json.specs.View.{view}
use Rattle.documents.proofs.OfReader.KeptLemmas.{whole_found}
use Rattle.documents.proofs.reader.parsing.whole.Goals as goal

pub returns : goal.returns
returns c = whole_found c.args.text.now (view c.in_ok-tree.tree) c.new.result c.new.ensures c.in_ok-tree.ensures
