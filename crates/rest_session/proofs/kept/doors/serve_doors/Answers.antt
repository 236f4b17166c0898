use Rattle.std.proofs.Common.{Some, sym, subst}
use Rattle.edge_traits.proofs.CauseLemmas.{rose_since}
use Rattle.edge_traits.specs.Causes.{Rose}
use Rattle.flush_journal.specs.Standing.{disk_of}
use Rattle.flush_journal.specs.Unchanged.{SameDisk}
use Rattle.flush_journal.proofs.Unchanged.{same_both}
use Rattle.hall.specs.Passes.{IsNewWorld}
use Rattle.rest_session.specs.Halls.Visits.{telling}
use Rattle.rest_session.specs.Kept.Doors.{HaveEnded, IsDoorsDiskFault}
use Rattle.rest_session.proofs.OfKept.Doors.{begun_holds, doors_fault_unserved, doors_unserved, ended_since, if_some_on}
use Rattle.rest_session.proofs.kept.doors.serve_doors.Goals as goal

pub serve_run-requires-clause-new : goal.serve_run-requires-clause-new
serve_run-requires-clause-new g c κs within =
    let w = c.in-Ok.ensures.world in
    let i = w.1 in
    subst IsNewWorld (sym w.2) (c.installed_worlds_are_new.ensures i.held i.lanes w.0 i.world i.still)

pub serve_run-requires-clause-holds : goal.serve_run-requires-clause-holds
serve_run-requires-clause-holds g c κs within = λ honest.
    let o = c.in-Ok.ensures.begun honest in
    begun_holds c.in-Ok.field-0.journal c.in-Ok.field-0.world o.0 o.2.begun

pub returns-in-Ok-clause-ended : goal.returns-in-Ok-clause-ended
returns-in-Ok-clause-ended g c =
    ended_since g.D.Disk _ (telling g.F.Door g.F.Link.Source g.F.Link.Sink) c.args.tokens.now c.args.links c.args.disk c.args.doors.items c.in-Ok.field-0.journal c.in-Ok.field-0.world
    (record { idle = c.in-Ok.ensures.idle; world = c.in-Ok.ensures.world; since = c.in-Ok.ensures.begun }) c.serve_run.result.disk c.serve_run.result.doors.items
    c.serve_run.result.outcome c.serve_run.ensures.ended

pub returns-in-Ok-clause-same : goal.returns-in-Ok-clause-same
returns-in-Ok-clause-same g c =
    let met = g.D.Disk in
    let begun = disk_of c.in-Ok.field-0.journal in
    if_some_on (SameDisk met begun) (SameDisk met c.args.disk) c.serve_run.result.disk (λ d same. same_both met c.args.disk begun d c.in-Ok.ensures.same same) c.serve_run.ensures.same

pub returns-in-Ok-clause-disk_fault : goal.returns-in-Ok-clause-disk_fault
returns-in-Ok-clause-disk_fault g c = λ is.
    let met = g.D.Disk in
    let begun = disk_of c.in-Ok.field-0.journal in
    if_some_on (λ d. Rose (met.faults begun) (met.faults d)) (λ d. Rose (met.faults c.args.disk) (met.faults d)) c.serve_run.result.disk
    (λ d rose. rose_since (met.faults c.args.disk) (met.faults begun) (met.faults d) c.in-Ok.ensures.same.faults rose) (c.serve_run.ensures.disk_fault is)

pub returns-in-Err-clause-ended : goal.returns-in-Err-clause-ended
returns-in-Err-clause-ended g c =
    let tells = telling g.F.Door g.F.Link.Source g.F.Link.Sink in
    let doors = c.args.doors.items in
    subst (HaveEnded g.D.Disk _ tells c.args.tokens.now c.args.links c.args.disk (Some c.in-Err.field-0.disk) doors doors) (sym c.from.ensures)
    (doors_unserved g.D.Disk _ tells c.args.tokens.now c.args.links c.args.disk doors c.in-Err.field-0.disk c.in-Err.field-0.why c.in-Err.ensures.err)

pub returns-in-Err-clause-disk_fault : goal.returns-in-Err-clause-disk_fault
returns-in-Err-clause-disk_fault g c = λ is. c.in-Err.ensures.disk_fault (doors_fault_unserved c.in-Err.field-0.why (subst IsDoorsDiskFault c.from.ensures is))
