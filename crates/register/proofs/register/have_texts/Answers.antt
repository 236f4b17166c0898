use Rattle.std.proofs.Common.{sym, ap, ◌∙◌}
use Rattle.std.specs.FinMap.{entries}
use Rattle.register.proofs.Texts.{key_text}
use Rattle.register.proofs.register.have_texts.Goals as goal

pub returns-clause-texts : goal.returns-clause-texts
returns-clause-texts c = λ path some. key_text path c.args.catalogue.now.nodes c.as_tree-tree.result.now.entries (ap entries (sym c.as_map.ensures.value) ∙ c.as_tree-tree.ensures) some
