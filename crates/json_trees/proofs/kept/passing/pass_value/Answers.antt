use Rattle.json_trees.proofs.OfKept.PassLemmas.{value_passed}
use Rattle.json_trees.proofs.kept.passing.pass_value.Goals as goal

pub returns-in-Ok-clause-passed : goal.returns-in-Ok-clause-passed
returns-in-Ok-clause-passed c rest h = value_passed _ rest _ h c.in-Ok.ensures.value
