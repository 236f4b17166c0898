use Rattle.std.proofs.Common.{◌∙◌, ap, sym}
use Rattle.std.proofs.lemmas.Result.{IfOk-weaker}
use Rattle.serde_json.specs.View.{view}
use Rattle.domains.specs.Records.Nodes.{class_tree}
use Rattle.domains.proofs.records.nodes.class_json.Goals as goal

pub returns-in-Domain : goal.returns-in-Domain
returns-in-Domain c = IfOk-weaker c.domain_json.result _ _
    (λ tree h. h ∙ ap (λ class. class_tree class (view c.args.acls) c.args.owner.now) (sym c.in-Domain.is)) c.domain_json.ensures
