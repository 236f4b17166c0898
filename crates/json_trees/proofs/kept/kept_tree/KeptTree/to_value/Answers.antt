use Rattle.std.proofs.Common.{sym, ap, ◌∙◌}
use Rattle.json_trees.specs.Kept.{kept_tree, or_null}
use Rattle.json_trees.proofs.kept.kept_tree.KeptTree.to_value.Goals as goal

pub returns-in-Ok : goal.returns-in-Ok
returns-in-Ok c = ap or_null (sym c.in-Ok.ensures.ok) ∙ ap kept_tree c.as_str.ensures.value ∙ c.self.view_is
