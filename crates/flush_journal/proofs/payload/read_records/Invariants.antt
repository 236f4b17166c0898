use Rattle.std.proofs.Common.{◌+◌, ◌≤◌}
use Rattle.flush_journal.specs.Readers.{file_of, end_of_file, GoesOn}
use Rattle.flush_journal.specs.Reading.{window}
use Rattle.flush_journal.proofs.PayloadLemmas.{SoFar}
use Rattle.flush_journal.proofs.payload.read_records.Given as goal

abbrev pub invariant-records : goal.invariant-records
invariant-records g l = record {
  so_far : g.D.Disk.honest → SoFar (window (file_of l.fn.reader) l.from l.size) (window (file_of l.fn.reader) l.at l.left) l.fn.recovered l.recovered;
  on : GoesOn l.fn.reader l.reader;
  inside : l.at + l.left ≤ end_of_file l.reader;
}

abbrev pub decreases-records : goal.decreases-records
decreases-records g l = l.left
