-- What is printed spells the type again.
use Rattle.std.proofs.lemmas.Result.{IfOk-weaker}
use Rattle.serde_json.specs.View.{view}
use Rattle.hdf_types.specs.Views.{elem}
use Rattle.hdf_types.proofs.PrintLemmas.{reads_back}
use Rattle.hdf_types.proofs.printing.type_json.Goals as goal

pub returns-clause-reads_back : goal.returns-clause-reads_back
returns-clause-reads_back c = λ h. IfOk-weaker c.kind_json.result _ _ (λ v e. reads_back (elem c.args.kind.now) (view v) h e) c.kind_json.ensures
