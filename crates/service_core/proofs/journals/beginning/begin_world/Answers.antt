use Rattle.std.proofs.lemmas.Result.{IfErr-weaker, IfOk-weaker, MatchResult-weaker}
use Rattle.edge_traits.proofs.CauseLemmas.{rose_since}
use Rattle.flush_journal.specs.Records.{put_record}
use Rattle.flush_journal.specs.Standing.{HoldsEither, disk_of}
use Rattle.flush_journal.proofs.Unchanged.{same_both}
use Rattle.service_core.specs.Records.{run_record}
use Rattle.service_core.proofs.OfJournals.Beginning.{since_before, unstarted_from}
use Rattle.service_core.proofs.journals.beginning.begin_world.Goals as goal

pub returns-in-Ok-clause-begun : goal.returns-in-Ok-clause-begun
returns-in-Ok-clause-begun g c = λ honest.
    let o = c.in-Ok.ensures.opened honest in
    IfOk-weaker c.begin_opened.result _ _ (λ b h.
    let started = h o.0 (record { settled = o.2; world = o.3; says = o.4; still = c.in-Ok.ensures.still; whole = c.objects_are_whole.ensures }) in (
      o.0,
      o.1,
      record {
        begun = started.0;
        crash = since_before g.D.Disk c.args.disk (disk_of c.in-Ok.field-0.journal) (disk_of b.journal) (HoldsEither o.0.held (put_record (run_record b.world.register) o.0.held)) g.met.D.Disk.only_now honest
            (c.in-Ok.ensures.bytes honest) started.1;
      },
    )) (c.begin_opened.ensures.begun honest)

pub returns-in-Ok-clause-world : goal.returns-in-Ok-clause-world
returns-in-Ok-clause-world g c = IfOk-weaker c.begin_opened.result _ _ (λ b is. (c.in-Ok.field-0.world, c.in-Ok.ensures.installed, is)) c.begin_opened.ensures.world

pub returns-in-Ok-clause-err : goal.returns-in-Ok-clause-err
returns-in-Ok-clause-err g c = IfErr-weaker c.begin_opened.result _ _
    (λ r h. unstarted_from g.D.Disk c.args.disk c.in-Ok.field-0.journal c.in-Ok.field-0.world r.disk
    (λ honest. let o = c.in-Ok.ensures.opened honest in (o.0, o.1, record { settled = o.2; world = o.3; says = o.4; still = c.in-Ok.ensures.still; whole = c.objects_are_whole.ensures }))
    c.in-Ok.ensures.same g.met.D.Disk.only_now c.in-Ok.ensures.bytes r.why h) c.begin_opened.ensures.err

pub returns-in-Ok-clause-same : goal.returns-in-Ok-clause-same
returns-in-Ok-clause-same g c = MatchResult-weaker c.begin_opened.result c.begin_opened.ensures.same
    (λ b later. same_both g.D.Disk c.args.disk (disk_of c.in-Ok.field-0.journal) (disk_of b.journal) c.in-Ok.ensures.same later)
    (λ r later. same_both g.D.Disk c.args.disk (disk_of c.in-Ok.field-0.journal) r.disk c.in-Ok.ensures.same later)

pub returns-in-Ok-clause-disk_fault : goal.returns-in-Ok-clause-disk_fault
returns-in-Ok-clause-disk_fault g c = IfErr-weaker c.begin_opened.result _ _
    (λ r h is. rose_since (g.D.Disk.faults c.args.disk) (g.D.Disk.faults (disk_of c.in-Ok.field-0.journal)) (g.D.Disk.faults r.disk) c.in-Ok.ensures.same.faults (h is)) c.begin_opened.ensures.disk_fault
