use Rattle.std.proofs.Common.{◌≡◌, inl, inr, ⊎_elim, get_or, sym, ap}
use Rattle.chunk_owner.specs.Owners.Joined.{whole}
use Rattle.chunk_owner.specs.Acts.{act, touched}
use Rattle.chunk_owner.proofs.OfOwners.WholeLemmas.{follows_whole, fresh_here, lane_after, touched_own}
use Rattle.chunk_owner.proofs.OfOwners.SaidLemmas.{said_set}
use Rattle.object_acts.specs.Arrays.Marked.{IsDone}
use Rattle.service_core.specs.Marking.{IsStepMark}
use Rattle.service_core.proofs.TurnMarks.{marked_set, step_mark}
use Rattle.service_core.proofs.turns.act_in.Goals as goal

pub act-requires-clause-touched : goal.act-requires-clause-touched
act-requires-clause-touched c =
    let ls = c.args.owners.now in
    let l = get_or ls c.args.lane c.index-owners-lane.result in
    touched_own _ c.args.lane ls l l c.requires.lanes c.requires.lane (sym (ap (get_or ls c.args.lane) c.index-owners-lane.is)) (touched c.args.grant.now c.args.op.now c.args.step) c.requires.ready.touches

pub act-requires-clause-fresh : goal.act-requires-clause-fresh
act-requires-clause-fresh c =
    let ls = c.args.owners.now in
    let l = get_or ls c.args.lane c.index-owners-lane.result in
    fresh_here _ c.args.lane ls l l c.requires.lanes c.requires.lane (sym (ap (get_or ls c.args.lane) c.index-owners-lane.is)) c.args.grant.now c.args.op.now c.requires.ready.fresh

pub returns-clause-acts : goal.returns-clause-acts
returns-clause-acts c =
    let ls = c.args.owners.now in
    let l = get_or ls c.args.lane c.index-owners-lane.result in
    follows_whole _ c.args.lane ls l c.act.new.self c.requires.lanes c.requires.lane (sym (ap (get_or ls c.args.lane) c.index-owners-lane.is))
    (touched c.args.grant.now c.args.op.now c.args.step) (act c.args.grant.now c.args.op.now c.args.step) c.act.result c.requires.ready.touches c.act.ensures.acts

pub returns-clause-lanes : goal.returns-clause-lanes
returns-clause-lanes c =
    let ls = c.args.owners.now in
    let l = get_or ls c.args.lane c.index-owners-lane.result in
    lane_after _ c.args.lane ls l c.act.new.self c.requires.lanes c.requires.lane (sym (ap (get_or ls c.args.lane) c.index-owners-lane.is))
    (touched c.args.grant.now c.args.op.now c.args.step) (act c.args.grant.now c.args.op.now c.args.step) c.act.result c.requires.ready.touches c.act.ensures.same c.act.ensures.acts

pub returns-clause-says : goal.returns-clause-says
returns-clause-says c =
    let ls = c.args.owners.now in
    let l = get_or ls c.args.lane c.index-owners-lane.result in
    said_set l c.act.new.self c.act.ensures.same c.act.ensures.says c.args.lane ls (sym (ap (get_or ls c.args.lane) c.index-owners-lane.is))

pub returns-clause-alone : goal.returns-clause-alone
returns-clause-alone c =
    let ls = c.args.owners.now in
    let l = get_or ls c.args.lane c.index-owners-lane.result in
    let here : get_or ls c.args.lane l ≡ l = sym (ap (get_or ls c.args.lane) c.index-owners-lane.is) in
    marked_set (λ key. IsDone c.act.result × IsStepMark c.args.grant.now c.args.op.now c.args.step (whole ls) key) l c.act.new.self
    (λ key marked. ⊎_elim inl (λ p. inr (
      p.0,
      step_mark _ c.args.lane ls l c.requires.lanes c.requires.lane here c.is_whole.ensures.own c.args.grant.now c.args.op.now c.args.step c.act.result _
          c.requires.ready.touches (returns-clause-acts c) key p,
    )) (c.act.ensures.alone key marked)) c.args.lane ls here
