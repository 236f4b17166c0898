use Rattle.std.proofs.Common.{[], ◌∷◌, sym, subst}
use Rattle.flush_journal.specs.Moments.{CrashLeaves}
use Rattle.flush_journal.specs.Records.{put_record}
use Rattle.flush_journal.specs.Standing.{HoldsEither, disk_of, end_of}
use Rattle.service_core.specs.Journals.Begun.{MayRefuseRun}
use Rattle.service_core.specs.Records.{run_record}
use Rattle.service_core.specs.Worlds.{seen}
use Rattle.service_core.proofs.OfJournals.Beginning.{begun_crash, is_begun, run_crash, run_idle, run_images, run_refused, run_unwritten}
use Rattle.service_core.proofs.journals.beginning.begin_opened.Goals as goal

pub returns-in-Ok-clause-begun : goal.returns-in-Ok-clause-begun
returns-in-Ok-clause-begun g c = λ honest content' opened'. (
  is_begun c.args.journal c.begin_run.new.journal c.args.world c.begin_run.new.self content' opened' c.in-Ok.ensures.ok (c.in-Ok.ensures.writes honest content' opened'.settled)
      c.in-Ok.ensures.says c.is_described.ensures.described,
  begun_crash c.args.journal c.begin_run.new.journal c.args.world c.begin_run.new.self content' opened' c.in-Ok.ensures.ok (c.in-Ok.ensures.writes honest content' opened'.settled),
)

pub returns-in-Ok-clause-idle : goal.returns-in-Ok-clause-idle
returns-in-Ok-clause-idle g c = run_idle c.args.journal c.begin_run.new.journal (run_record c.args.world.register ∷ []) c.in-Ok.ensures.tries

pub returns-in-Err-clause-err : goal.returns-in-Err-clause-err
returns-in-Err-clause-err g c = record {
  cause = subst (λ (d : g.row.D.Denot). MayRefuseRun (seen c.args.world) (end_of c.args.journal) (g.D.Disk.most (disk_of c.args.journal)) (g.D.Disk.faults (disk_of c.args.journal)) (g.D.Disk.faults d) c.in-Err.why)
      (sym c.into_disk.ensures) (run_refused c.args.journal c.begin_run.new.journal c.args.world c.in-Err.why c.in-Err.ensures.tries);
  images = λ honest image left content' settled'. run_images c.args.journal c.begin_run.new.journal c.args.world c.in-Err.why content' settled' (c.in-Err.ensures.writes honest content' settled') image
      (subst (λ (d : g.row.D.Denot). g.D.Disk.images d image) c.into_disk.ensures left);
  unwritten = λ honest nothing image left content' settled'. run_unwritten c.args.journal c.begin_run.new.journal c.args.world c.in-Err.why c.in-Err.ensures.tries nothing content' settled' image
      (subst (λ (d : g.row.D.Denot). g.D.Disk.images d image) c.into_disk.ensures left);
  crash = λ honest content' settled'. subst (λ (d : g.row.D.Denot). CrashLeaves g.D.Disk (disk_of c.args.journal) d (HoldsEither content'.held (put_record (run_record c.args.world.register) content'.held)))
      (sym c.into_disk.ensures) (run_crash c.args.journal c.begin_run.new.journal c.args.world c.in-Err.why g.met.D.Disk.only_now honest content' settled' (c.in-Err.ensures.writes honest content' settled'));
}
