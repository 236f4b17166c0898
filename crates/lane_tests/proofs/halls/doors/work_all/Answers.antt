use Rattle.std.proofs.Common.{length, drop, ◌∙◌}
use Rattle.std.proofs.lemmas.List.{take_at}
use Rattle.lane_tests.proofs.OfClerks.{members_written}
use Rattle.lane_tests.proofs.halls.doors.work_all.Goals as goal

pub returns-clause-members : goal.returns-clause-members
returns-clause-members g c =
    let new = c.work.new.workers in
    let written = take_at new (drop (length new) c.args.clerks.now.items) c.args.clerks.now.len (c.work.auto.workers ∙ c.as_mut_slice.ensures.len) in
    members_written c.args.hall.now c.args.clerks.now.items _ new _ c.as_mut_slice.ensures.value written c.work.ensures.same c.work.ensures.ready c.requires.members
