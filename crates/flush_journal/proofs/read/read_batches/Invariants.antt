use Rattle.std.proofs.Common.{◌≡◌, ◌≤◌, ◌-◌, List, drop}
use Rattle.flush_journal.specs.Records.{Record}
use Rattle.flush_journal.specs.Files.{content}
use Rattle.flush_journal.specs.Readers.{file_of, end_of_file, GoesOn}
use Rattle.flush_journal.specs.Reading.{read_from}
use Rattle.flush_journal.proofs.read.read_batches.Given as goal

abbrev pub invariant-markers : goal.invariant-markers
invariant-markers g l = record {
  so_far : g.D.Disk.honest → (written : List (List Record))
      × (content (file_of l.fn.reader) ≡ read_from (record { version = 1; lanes = l.lanes; batches = l.batches; end = l.at; written = written; held = l.recovered }) (drop l.at (file_of l.fn.reader)));
  on : GoesOn l.fn.reader l.reader;
  inside : l.at ≤ end_of_file l.reader;
  counted : l.batches ≤ l.at;
}

abbrev pub decreases-markers : goal.decreases-markers
decreases-markers g l = end_of_file l.reader - l.at
