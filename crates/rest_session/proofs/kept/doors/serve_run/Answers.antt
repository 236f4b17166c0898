use Rattle.std.proofs.Common.{ℕ, Result, [], sym, ap, ◌∙◌, subst}
use Rattle.std.specs.Prelude.{IfErr}
use Rattle.edge_traits.specs.Causes.{Rose}
use Rattle.flush_journal.specs.Standing.{disk_of}
use Rattle.flush_journal.specs.Unchanged.{SameDisk}
use Rattle.flush_journal.specs.declared.journal.Journal.{Journal}
use Rattle.flush_journal.specs.declared.why.Why.{Why}
use Rattle.flush_journal.proofs.Unchanged.{same_here}
use Rattle.journal_desk.specs.Keepings.{MayRefuseTurn}
use Rattle.hall.specs.JournalDesks.{LiesBetween}
use Rattle.rest_session.specs.Kept.Doors.{LeavesKept}
use Rattle.rest_session.proofs.OfHalls.Ends.{all_in, flushed_in, rose_within}
use Rattle.rest_session.proofs.OfKept.Doors.{legal_first}
use Rattle.rest_session.proofs.kept.doors.serve_run.Goals as goal

pub returns-in-Closed-clause-ended : goal.returns-in-Closed-clause-ended
returns-in-Closed-clause-ended g c =
    let met = g.D.Disk in
    let hall = c.in-Closed.closed in
    let closed = rw c.in-Closed.is at c.serve_hall-doors.ensures.served in
    let s = closed.served in
    let e = c.end_hall-disk.ensures in record {
      hall = hall;
      is_closed = closed;
      closed_is = e.told;
      last_is = e.last;
      disk_is = e.disk;
      leaves = λ honest.
          subst (λ (j : Journal g.row.D.Denot met). LeavesKept met c.args.world s.ended.seen (disk_of j) c.end_hall-disk.result.disk hall.desk.desk.pending hall.desk.desk.kept) closed.over
          (e.leaves honest c.args.world s.start s.ended.seen s.register s.owners (legal_first s.start s.last hall.world s.ended c.args.world s.register s.owners) s.desk_is);
    }

pub returns-in-Closed-clause-same : goal.returns-in-Closed-clause-same
returns-in-Closed-clause-same g c =
    let met = g.D.Disk in
    let closed = rw c.in-Closed.is at c.serve_hall-doors.ensures.served in
    let same = closed.served.desk_is.since.1.disk in
    subst (λ (d : g.row.D.Denot). SameDisk met (disk_of c.args.journal) d) (sym c.end_hall-disk.ensures.disk)
    (subst (λ (j : Journal g.row.D.Denot met). SameDisk met (disk_of j) c.in-Closed.closed.desk.desk.disk) closed.over same)

-- the keeping of the last flush is one of the history's, whose counts of faults lie between those of the first disk and of the last
pub returns-in-Closed-clause-disk_fault : goal.returns-in-Closed-clause-disk_fault
returns-in-Closed-clause-disk_fault g c = λ is.
    let met = g.D.Disk in
    let closed = rw c.in-Closed.is at c.serve_hall-doors.ensures.served in
    let s = closed.served in
    let f = closed.flushed in
    let e = c.end_hall-disk.ensures in
    let rose = subst (λ (r : Result ℕ Why). IfErr r (MayRefuseTurn met f.before f.after)) (sym e.last ∙ is) f.cause in
    let within = all_in (LiesBetween met (disk_of s.start.desk.value) c.in-Closed.closed.desk.desk.disk) s.ended.seen.keepings _ s.desk_is.told.between
    (flushed_in s.start _ [] closed.before s.last f.turn s.ended.seen s.ended.grown.begins) in
    subst (λ (j : Journal g.row.D.Denot met). Rose (met.faults (disk_of j)) (met.faults c.end_hall-disk.result.disk)) closed.over
    (subst (λ (d : g.row.D.Denot). Rose (met.faults (disk_of s.start.desk.value)) (met.faults d)) (sym e.disk)
    (rose_within (met.faults (disk_of s.start.desk.value)) (met.faults f.before.disk) (met.faults f.after.disk) (met.faults c.in-Closed.closed.desk.desk.disk)
    within.faults_before rose within.faults_after))

pub returns-in-NoWorkers-clause-ended : goal.returns-in-NoWorkers-clause-ended
returns-in-NoWorkers-clause-ended g c =
    let left = rw c.in-NoWorkers.is at c.serve_hall-doors.ensures.served in
    (c.into_disk.ensures ∙ ap disk_of left.0, left.1)

pub returns-in-NoWorkers-clause-same : goal.returns-in-NoWorkers-clause-same
returns-in-NoWorkers-clause-same g c =
    let met = g.D.Disk in
    let left = rw c.in-NoWorkers.is at c.serve_hall-doors.ensures.served in
    subst (λ (d : g.row.D.Denot). SameDisk met (disk_of c.args.journal) d) (sym (c.into_disk.ensures ∙ ap disk_of left.0)) (same_here met (disk_of c.args.journal))

pub returns-in-NoHall-clause-ended : goal.returns-in-NoHall-clause-ended
returns-in-NoHall-clause-ended g c = (tt, rw c.in-NoHall.is at c.serve_hall-doors.ensures.served)
