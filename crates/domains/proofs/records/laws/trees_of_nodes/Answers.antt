use Rattle.domains.proofs.OfRecords.ExactLemmas.{body_exact, exact_body}
use Rattle.domains.proofs.OfRecords.TreeLemmas.{node_back, node_flat}
use Rattle.domains.proofs.records.laws.trees_of_nodes.Goals as goal

pub returns-clause-back : goal.returns-clause-back
returns-clause-back c = node_back

pub returns-clause-flat : goal.returns-clause-flat
returns-clause-flat c = node_flat

pub returns-clause-exact : goal.returns-clause-exact
returns-clause-exact c = λ body node. (body_exact body node, λ h. exact_body body node h.0 h.1 h.2)
