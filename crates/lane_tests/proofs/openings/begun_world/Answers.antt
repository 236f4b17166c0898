use Rattle.std.proofs.Common.{sym, subst}
use Rattle.hall.specs.Passes.{IsNewWorld}
use Rattle.lane_tests.proofs.openings.begun_world.Goals as goal

pub returns-in-Ok-clause-new : goal.returns-in-Ok-clause-new
returns-in-Ok-clause-new g c =
    let w = c.in-Ok.ensures.world in
    let i = w.1 in
    subst IsNewWorld (sym w.2) (c.installed_worlds_are_new.ensures i.held i.lanes w.0 i.world i.still)

pub returns-in-Ok-clause-holds : goal.returns-in-Ok-clause-holds
returns-in-Ok-clause-holds g c = λ honest.
    let b = (c.in-Ok.ensures.begun honest).2.begun in
    record { content = _; settled = b.settled; says = b.says }
