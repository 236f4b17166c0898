use Rattle.std.proofs.Common.{subst, string_bytes}
use Rattle.json_trees.specs.Trees.{AreTexts}
use Rattle.json_trees.proofs.OfKept.KeptLemmas.{kept_texts}
use Rattle.json_trees.proofs.kept.kept_tree.KeptTree.has_texts.Goals as goal

pub returns : goal.returns
returns c = subst AreTexts c.self.view_is (kept_texts (string_bytes c.self.inside.text) c.self.invariant)
