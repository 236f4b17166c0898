use Rattle.std.proofs.Common.{◌≡◌, ◌≤◌, length, drop}
use Rattle.flush_journal.specs.Files.{first_outside, header_ranges}
use Rattle.flush_journal.proofs.header.outside.Given as goal

abbrev pub invariant-loop-i : goal.invariant-loop-i
invariant-loop-i l = record {
  so_far : first_outside 0 header_ranges l.bytes ≡ first_outside l.i (drop l.i header_ranges) (drop l.i l.bytes);
  long : l.i ≤ length l.bytes;
}
