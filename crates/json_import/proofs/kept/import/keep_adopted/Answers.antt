use Rattle.std.proofs.Common.{sym, subst}
use Rattle.flush_journal.specs.Standing.{disk_of}
use Rattle.flush_journal.specs.Unchanged.{SameDisk}
use Rattle.flush_journal.specs.declared.journal.Journal.{Journal}
use Rattle.json_import.specs.Kept.Imports.{IsImportDiskFault}
use Rattle.json_import.specs.Kept.Parts.{IsKeptFrom}
use Rattle.json_import.proofs.OfKept.Kept.{fault_of_keeping}
use Rattle.json_import.proofs.kept.import.keep_adopted.Goals as goal

pub returns-clause-kept : goal.returns-clause-kept
returns-clause-kept g c = (
  c.keep-last.result,
  c.kept_outcome.ensures,
  record {
    begun = c.new-keeping.result;
    journal = c.new-keeping.ensures.journal;
    building = c.new-keeping.ensures.building;
    none_kept = c.new-keeping.ensures.kept;
    objects = c.objects_are_whole.ensures;
    ended = c.keep-last.new.self;
    kept = c.keep-last.new.world;
    keeps = record {
      keeps = c.keep-last.ensures.keeps;
      same = c.keep-last.ensures.world;
      number = c.keep-last.ensures.number;
      kept = c.keep-last.ensures.kept;
      refused = c.keep-last.ensures.refused;
      batch = c.keep-last.ensures.batch;
      done = c.keep-last.ensures.done;
      none = c.keep-last.ensures.none;
    };
    disk = c.into_disk.ensures;
  },
)

pub returns-clause-same : goal.returns-clause-same
returns-clause-same g c = subst (λ (d : g.row.D.Denot). SameDisk g.D.Disk (disk_of c.args.journal) d) (sym c.into_disk.ensures)
    (subst (λ (j : Journal g.row.D.Denot g.D.Disk). SameDisk g.D.Disk (disk_of j) (disk_of c.keep-last.new.self.journal)) c.new-keeping.ensures.journal c.keep-last.ensures.keeps.disk)

pub returns-clause-disk_fault : goal.returns-clause-disk_fault
returns-clause-disk_fault g c = λ is.
    let k : IsKeptFrom {D = g.row.D.Denot} {met = g.D.Disk} c.args.journal c.args.world c.into_disk.result c.keep-last.result = record {
      begun = c.new-keeping.result;
      journal = c.new-keeping.ensures.journal;
      building = c.new-keeping.ensures.building;
      none_kept = c.new-keeping.ensures.kept;
      objects = c.objects_are_whole.ensures;
      ended = c.keep-last.new.self;
      kept = c.keep-last.new.world;
      keeps = record {
        keeps = c.keep-last.ensures.keeps;
        same = c.keep-last.ensures.world;
        number = c.keep-last.ensures.number;
        kept = c.keep-last.ensures.kept;
        refused = c.keep-last.ensures.refused;
        batch = c.keep-last.ensures.batch;
        done = c.keep-last.ensures.done;
        none = c.keep-last.ensures.none;
      };
      disk = c.into_disk.ensures;
    } in
    fault_of_keeping c.args.journal c.args.world c.into_disk.result c.keep-last.result c.args.counts k (subst IsImportDiskFault c.kept_outcome.ensures is)
