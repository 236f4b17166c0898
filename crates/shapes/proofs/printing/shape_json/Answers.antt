-- What is printed spells the shape again.
use Rattle.std.proofs.lemmas.Result.{IfOk-weaker}
use Rattle.serde_json.specs.View.{view}
use Rattle.shapes.proofs.ShapeLemmas.{reads_back}
use Rattle.shapes.proofs.printing.shape_json.Goals as goal

pub returns-clause-reads_back : goal.returns-clause-reads_back
returns-clause-reads_back c = λ sound. IfOk-weaker c.printed.result _ _ (λ v e. reads_back c.args.shape.now c.args.form (view v) sound e) c.printed.ensures
