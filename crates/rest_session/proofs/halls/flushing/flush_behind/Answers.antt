use Rattle.hall.specs.ArrayMachines.{lanes_in}
use Rattle.hall.specs.Passes.{opening}
use Rattle.rest_session.specs.Halls.Accounts.{account}
use Rattle.rest_session.proofs.OfHalls.Flushes.{flushed_nothing, flushed_ready, nothing_more, still_nothing, still_ready}
use Rattle.rest_session.proofs.halls.flushing.flush_behind.Goals as goal

pub returns-clause-ready : goal.returns-clause-ready
returns-clause-ready g c =
    let h = c.args.hall.now in
    let looked = c.turns-turns.ensures in
    let ready = still_ready h c.args.pass.now c.turns-turns.new.pass looked.same.1 looked.of_this_hall c.requires.ready in
    flushed_ready h c.turns-turns.new.pass c.flush.new.pass (c.replies_are_replays.ensures.stay (lanes_in (opening h))) _ _ ready c.flush.ensures.flushed.turn c.flush.ensures.of_this_hall

pub returns-clause-nothing : goal.returns-clause-nothing
returns-clause-nothing g c = λ tokens.
    let h = c.args.hall.now in
    let looked = c.turns-turns.ensures in
    let ready = still_ready h c.args.pass.now c.turns-turns.new.pass looked.same.1 looked.of_this_hall c.requires.ready in
    nothing_more (account tokens h c.args.pass.now) (account tokens h c.turns-turns.new.pass) (account tokens h c.flush.new.pass)
    (still_nothing h c.args.pass.now c.turns-turns.new.pass tokens looked.same.1 looked.same.2)
    (flushed_nothing h c.turns-turns.new.pass c.flush.new.pass (c.replies_are_replays.ensures.stay (lanes_in (opening h))) _ _ ready c.flush.ensures.flushed.turn tokens c.flush.ensures.same.1)
