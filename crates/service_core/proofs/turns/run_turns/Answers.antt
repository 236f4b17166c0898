use Rattle.std.proofs.Common.{ℕ, Ok, Err, sym, subst, ◌∙◌}
use Rattle.std.specs.declared.alloc.AllocError.{AllocError}
use Rattle.object_acts.specs.Arrays.Marked.{IsDone}
use Rattle.object_ops.specs.declared.grants.Grant.{Grant}
use Rattle.chunk_owner.specs.Owners.Joined.{AreLanes, whole}
use Rattle.service_core.specs.Marking.{AddsLaneMarks, IsTakenMark}
use Rattle.service_core.specs.Steps.{Takes}
use Rattle.service_core.proofs.TurnMarks.{marks_ended, marks_handed, marks_more, marks_stopped}
use Rattle.service_core.proofs.TurnLemmas.{ended, ready_next, stopped}
use Rattle.chunk_owner.proofs.OfOwners.SaidLemmas.{said_on}
use Rattle.service_core.proofs.turns.run_turns.Goals as goal

pub turns-preserved : goal.turns-preserved
turns-preserved c =
    let i = c.turns.invariant in
    let is_done = sym c.is_done.ensures ∙ c.turns-test.true in
    let did = subst (λ (g : Grant). Takes {E = AllocError} g c.args.op.now c.in-Some.turn.step (whole c.turns.owners) (Ok c.in_ok-reply.reply) (whole c.take_turn.new.owners)) i.1 c.in_ok-reply.ensures.acts in (
      c.next.ensures.grant ∙ i.0,
      i.1,
      c.take_turn.auto.owners ∙ i.2,
      subst (λ (n : ℕ). AreLanes n 0 c.take_turn.new.owners) i.2 c.in_ok-reply.ensures.lanes,
      ready_next c.args.tickets.now.grant c.args.op.now _ AllocError (whole c.turns.owners) (whole c.take_turn.new.owners) c.in_ok-reply.reply c.turns.tickets.left c.next.new.self.left c.in-Some.turn
          c.in-Some.ensures.turn (i.4 is_done) did,
      marks_more c.args.tickets.now.grant c.args.op.now c.args.owners.now c.args.tickets.now.left c.turns.reply c.turns.owners c.take_turn.new.owners c.turns.tickets.left i.5
          AllocError c.in_ok-reply.reply c.next.new.self.left c.in-Some.turn c.in-Some.ensures.turn is_done did
          (subst (λ (g : Grant). AddsLaneMarks (λ key. IsDone {E = AllocError} (Ok c.in_ok-reply.reply) × IsTakenMark g c.args.op.now c.in-Some.turn.step (whole c.turns.owners) key) c.turns.owners c.take_turn.new.owners)
          i.1 c.in_ok-reply.ensures.alone),
      said_on c.args.owners.now c.turns.owners c.take_turn.new.owners i.6 c.in_ok-reply.ensures.says,
    )

pub returns-clause-runs : goal.returns-clause-runs
returns-clause-runs c =
    ended c.args.tickets.now.grant c.args.op.now c.args.tickets.now.left (whole c.args.owners.now) c.turns.reply (whole c.turns.owners) c.turns.tickets.left
    (stopped c.args.tickets.now.grant c.args.op.now (c.turns.reply, whole c.turns.owners) c.turns.tickets.left (sym c.is_done.ensures ∙ c.turns-test.false)) c.turns.invariant.5.so

pub returns-clause-alone : goal.returns-clause-alone
returns-clause-alone c = marks_ended c.args.tickets.now.grant c.args.op.now c.args.owners.now c.args.tickets.now.left c.turns.reply c.turns.owners c.turns.owners c.turns.tickets.left c.turns.invariant.5

pub returns-in_err-reply-clause-says : goal.returns-in_err-reply-clause-says
returns-in_err-reply-clause-says c = said_on c.args.owners.now c.turns.owners c.take_turn.new.owners c.turns.invariant.6 c.in_err-reply.ensures.says

pub returns-in_err-reply-clause-alone : goal.returns-in_err-reply-clause-alone
returns-in_err-reply-clause-alone c =
    let i = c.turns.invariant in
    let is_done = sym c.is_done.ensures ∙ c.turns-test.true in
    marks_handed c.args.tickets.now.grant c.args.op.now c.args.tickets.now.left c.args.owners.now c.take_turn.new.owners c.from_residual.result c.in_err-reply.field-0.0 c.from_residual.ensures.1
    (marks_stopped c.args.tickets.now.grant c.args.op.now c.args.owners.now c.args.tickets.now.left c.turns.reply c.turns.owners c.take_turn.new.owners c.turns.tickets.left i.5 {E = AllocError}
    c.in_err-reply.field-0.0 c.next.new.self.left c.in-Some.turn c.in-Some.ensures.turn is_done
    (subst (λ (g : Grant). Takes {E = AllocError} g c.args.op.now c.in-Some.turn.step (whole c.turns.owners) (Err c.in_err-reply.field-0.0) (whole c.take_turn.new.owners)) i.1 c.in_err-reply.ensures.acts)
    (subst (λ (g : Grant). AddsLaneMarks (λ key. IsDone {E = AllocError} (Err c.in_err-reply.field-0.0) × IsTakenMark g c.args.op.now c.in-Some.turn.step (whole c.turns.owners) key) c.turns.owners c.take_turn.new.owners)
    i.1 c.in_err-reply.ensures.alone))
