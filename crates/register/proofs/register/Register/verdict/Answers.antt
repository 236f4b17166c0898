use Rattle.std.proofs.Common.{◌≡◌, sym, subst}
use Rattle.std.specs.FinMap.{get}
use Rattle.object_ops.specs.Needs.{decided_at}
use Rattle.register.specs.declared.looking.Looked.TheVariants.{Allowed}
use Rattle.register.specs.Decided.{RegisterState}
use Rattle.register.specs.Looks.{looked}
use Rattle.register.proofs.Meetings.{met}
use Rattle.register.proofs.Settling.{settled}
use Rattle.register.proofs.register.Register.verdict.Goals as goal

pub returns-in-Allowed-clause-leaves : goal.returns-in-Allowed-clause-leaves
returns-in-Allowed-clause-leaves c =
    let Met : RegisterState → Type 0 = λ x. looked c.args.caller.now c.args.request.now.op (get x.catalogue.nodes (decided_at c.args.request.now)) ≡ Allowed c.in-Allowed.class in
    settled c.args.self.now c.args.caller.now c.args.request.now c.in-Allowed.class c.grant.result c.grant.new.self
    (subst Met c.self.view_is (sym c.in-Allowed.ensures.looked)) c.grant.ensures.settles

pub grant-requires-clause-there : goal.grant-requires-clause-there
grant-requires-clause-there c =
    let Met : RegisterState → Type 0 = λ x. looked c.args.caller.now c.args.request.now.op (get x.catalogue.nodes (decided_at c.args.request.now)) ≡ Allowed c.in-Allowed.class in
    met c.args.self.now c.args.caller.now c.args.request.now c.in-Allowed.class (subst Met c.self.view_is (sym c.in-Allowed.ensures.looked))
