use Rattle.std.proofs.Common.{◌∙◌, ap, sym}
use Rattle.std.proofs.lemmas.Result.{IfOk-weaker}
use Rattle.domains.specs.NodeTrees.{class_tree}
use Rattle.domains.proofs.node_trees.class_json.Goals as goal

pub returns-in-Domain : goal.returns-in-Domain
returns-in-Domain c = IfOk-weaker c.domain_json.result _ _
    (λ tree h. h ∙ ap (λ class. class_tree class c.args.owner.now) (sym c.in-Domain.is)) c.domain_json.ensures
