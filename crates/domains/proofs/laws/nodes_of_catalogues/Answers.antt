use Rattle.std.proofs.Common.{◌∙◌, sym}
use Rattle.std.specs.FinMap.{entries, len-entries}
use Rattle.domains.specs.Changes.{is_folder_node}
use Rattle.domains.proofs.ChildWalks.{has_children_is, is_has_children, root_childless}
use Rattle.domains.proofs.Counts.{count_both}
use Rattle.domains.proofs.Roots.{node_rooted}
use Rattle.domains.proofs.laws.nodes_of_catalogues.Goals as goal

pub returns-clause-all : goal.returns-clause-all
returns-clause-all c = λ k. count_both (λ e. is_folder_node e.1) (entries k.nodes) ∙ sym (len-entries k.nodes)

pub returns-clause-tested : goal.returns-clause-tested
returns-clause-tested c = λ k path. (has_children_is k path, is_has_children k path)

pub returns-clause-first : goal.returns-clause-first
returns-clause-first c = root_childless

pub returns-clause-rooted : goal.returns-clause-rooted
returns-clause-rooted c = node_rooted
