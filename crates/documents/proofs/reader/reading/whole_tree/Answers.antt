use Rattle.std.proofs.Common.{Result, subst}
use Rattle.serde_json.specs.View.{view}
use Rattle.documents.specs.Parts.Faults.{Answers, Fault}
use Rattle.documents.specs.declared.reader.loaded.Loaded.{Loaded}
use Rattle.documents.proofs.OfReader.KeptLemmas.{whole_same}
use Rattle.documents.proofs.reader.reading.whole_tree.Goals as goal

pub returns : goal.returns
returns c = subst (λ (r : Result Loaded Fault). Answers c.read_parts-2.result r) (whole_same c.new.result (view c.args.tree.now) c.new.ensures) c.read_parts-2.ensures
