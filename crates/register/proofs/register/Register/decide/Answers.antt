use Rattle.std.proofs.Common.{sym, subst}
use Rattle.register.specs.Decided.{RegisterState, passed}
use Rattle.register.specs.Grants.{IfGranted, IsGrantOf, turns_of}
use Rattle.register.specs.Laws.{Continues}
use Rattle.register.specs.Tickets.{Issues}
use Rattle.register.proofs.GrantLemmas.{issue_of}
use Rattle.register.proofs.Leaving.{call_leaves}
use Rattle.register.specs.Since.{StillSays}
use Rattle.register.proofs.Saying.{decides_says}
use Rattle.register.proofs.Settling.{counts_place}
use Rattle.register.proofs.register.Register.decide.Goals as goal

pub returns-clause-issue : goal.returns-clause-issue
returns-clause-issue c =
    issue_of c.args.self.now c.args.caller.now c.args.request.now c.verdict-verdict.result _ c.verdict-verdict.ensures.some_lane
    (counts_place c.args.self.now c.args.caller.now c.args.request.now c.verdict-verdict.result c.verdict-verdict.new.self c.verdict-verdict.ensures.leaves)

pub returns-clause-says : goal.returns-clause-says
returns-clause-says c =
    subst (λ (x : RegisterState). StillSays c.args.self.now (passed x)) (sym c.self.view_is)
    (decides_says c.args.self.now c.args.caller.now c.args.request.now c.verdict-verdict.result (passed c.verdict-verdict.new.self)
    (counts_place c.args.self.now c.args.caller.now c.args.request.now c.verdict-verdict.result c.verdict-verdict.new.self c.verdict-verdict.ensures.leaves))

pub returns-clause-issues : goal.returns-clause-issues
returns-clause-issues c =
    let leaves = call_leaves c.args.self.now c.args.caller.now c.args.request.now c.verdict-verdict.result (passed c.verdict-verdict.new.self)
    (counts_place c.args.self.now c.args.caller.now c.args.request.now c.verdict-verdict.result c.verdict-verdict.new.self c.verdict-verdict.ensures.leaves) in
    subst (λ (x : RegisterState). Issues c.args.self.now.issued (turns_of c.verdict-verdict.result) (passed x).issued) (sym c.self.view_is) leaves.issues

pub returns-clause-grant : goal.returns-clause-grant
returns-clause-grant c =
    let leaves = call_leaves c.args.self.now c.args.caller.now c.args.request.now c.verdict-verdict.result (passed c.verdict-verdict.new.self)
    (counts_place c.args.self.now c.args.caller.now c.args.request.now c.verdict-verdict.result c.verdict-verdict.new.self c.verdict-verdict.ensures.leaves) in
    subst (λ (x : RegisterState). IfGranted c.verdict-verdict.result (IsGrantOf c.args.self.now (passed x) c.args.request.now.path)) (sym c.self.view_is) leaves.grant

pub returns-clause-run : goal.returns-clause-run
returns-clause-run c =
    let leaves = call_leaves c.args.self.now c.args.caller.now c.args.request.now c.verdict-verdict.result (passed c.verdict-verdict.new.self)
    (counts_place c.args.self.now c.args.caller.now c.args.request.now c.verdict-verdict.result c.verdict-verdict.new.self c.verdict-verdict.ensures.leaves) in
    (subst (λ (x : RegisterState). Continues c.args.self.now (passed x)) (sym c.self.view_is) leaves.continues).run

pub returns-clause-lanes : goal.returns-clause-lanes
returns-clause-lanes c =
    let leaves = call_leaves c.args.self.now c.args.caller.now c.args.request.now c.verdict-verdict.result (passed c.verdict-verdict.new.self)
    (counts_place c.args.self.now c.args.caller.now c.args.request.now c.verdict-verdict.result c.verdict-verdict.new.self c.verdict-verdict.ensures.leaves) in
    (subst (λ (x : RegisterState). Continues c.args.self.now (passed x)) (sym c.self.view_is) leaves.continues).lanes

pub returns-clause-serial : goal.returns-clause-serial
returns-clause-serial c =
    let leaves = call_leaves c.args.self.now c.args.caller.now c.args.request.now c.verdict-verdict.result (passed c.verdict-verdict.new.self)
    (counts_place c.args.self.now c.args.caller.now c.args.request.now c.verdict-verdict.result c.verdict-verdict.new.self c.verdict-verdict.ensures.leaves) in
    (subst (λ (x : RegisterState). Continues c.args.self.now (passed x)) (sym c.self.view_is) leaves.continues).serial

pub returns-clause-next : goal.returns-clause-next
returns-clause-next c =
    let leaves = call_leaves c.args.self.now c.args.caller.now c.args.request.now c.verdict-verdict.result (passed c.verdict-verdict.new.self)
    (counts_place c.args.self.now c.args.caller.now c.args.request.now c.verdict-verdict.result c.verdict-verdict.new.self c.verdict-verdict.ensures.leaves) in
    (subst (λ (x : RegisterState). Continues c.args.self.now (passed x)) (sym c.self.view_is) leaves.continues).next
