use Rattle.std.proofs.Common.{◌≡◌, ◌≤◌, length}
use Rattle.edge_traits.proofs.file_disk.SystemFile.fill.Given as goal

abbrev pub invariant-loop : goal.invariant-loop
invariant-loop l = record { bound : l.count ≤ length l.buf; same : l.self.count ≡ l.fn.self.count }
