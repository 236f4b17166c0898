use Rattle.std.proofs.Common.{inl, ◌<◌, get_or, refl, sym, ap, subst, ◌∙◌, ℕ}
use Rattle.std.proofs.Math.ListN.{length-set}
use Rattle.service_core.proofs.ForgetLemmas.{forgot, lanes_left, started, turn_below, went}
use Rattle.chunk_owner.proofs.OfOwners.SaidLemmas.{said_on, said_set}
use Rattle.service_core.proofs.TurnMarks.{forget_marks}
use Rattle.service_core.proofs.turns.forget_turns.Goals as goal

pub lanes-init : goal.lanes-init
lanes-init c = (refl, started c.args.number _ c.args.owners.now c.args.tickets.now.left c.requires.each, λ held said. said, λ key marked. inl marked)

pub bounds-owners-turn : goal.bounds-owners-turn
bounds-owners-turn c =
    subst (λ (n : ℕ). c.in-Some.turn.lane < n) (sym c.lanes.invariant.0)
    (turn_below c.args.number _ c.args.owners.now c.lanes.owners c.lanes.tickets.left c.next.new.self.left c.in-Some.turn c.in-Some.ensures.turn c.lanes.invariant.1)

pub lanes-preserved : goal.lanes-preserved
lanes-preserved c =
    let ls = c.lanes.owners in
    let l = get_or ls c.in-Some.turn.lane c.index-owners-turn.result in (
      length-set ls c.in-Some.turn.lane c.forget.new.self ∙ c.lanes.invariant.0,
      went c.args.number _ c.args.owners.now ls c.lanes.tickets.left c.next.new.self.left c.in-Some.turn l c.forget.new.self c.in-Some.ensures.turn c.lanes.invariant.0
          (sym (ap (get_or ls c.in-Some.turn.lane) c.index-owners-turn.is)) (record { same = c.forget.ensures.same; rest = c.forget.ensures.rest }) c.lanes.invariant.1,
      said_on c.args.owners.now ls _ c.lanes.invariant.2
          (said_set l c.forget.new.self c.forget.ensures.same c.forget.ensures.says c.in-Some.turn.lane ls (sym (ap (get_or ls c.in-Some.turn.lane) c.index-owners-turn.is))),
      forget_marks c.args.number c.args.owners.now ls c.lanes.tickets.left c.next.new.self.left c.in-Some.turn l c.forget.new.self c.in-Some.ensures.turn c.requires.lanes c.lanes.invariant.0
          (sym (ap (get_or ls c.in-Some.turn.lane) c.index-owners-turn.is)) c.is_whole.ensures.own c.lanes.invariant.1 c.lanes.invariant.3 c.forget.ensures.alone,
    )

pub returns-clause-rest : goal.returns-clause-rest
returns-clause-rest c = forgot c.args.number c.args.owners.now c.lanes.owners c.lanes.tickets.left c.in_default.ensures.turn.0 c.lanes.invariant.1

pub returns-clause-lanes : goal.returns-clause-lanes
returns-clause-lanes c = lanes_left c.args.number _ 0 c.lanes.invariant.1.count c.args.owners.now c.lanes.owners c.lanes.invariant.1.lanes c.requires.lanes
