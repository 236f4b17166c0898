use Rattle.std.proofs.Common.{◌≡◌, ◌-◌, ◌≤◌, length, slice_range}
use Rattle.std.specs.Io.KnownBytes.{Keeps, prepend_known}
use Rattle.http_wire.proofs.Inputs.{Unread}
use Rattle.http_wire.proofs.reading.find_head.Given as goal

-- no byte was lost
abbrev pub invariant-reads : goal.invariant-reads
invariant-reads g l = (l.start ≤ l.end) × (l.end ≤ length l.bytes) × (length l.bytes ≡ length l.fn.bytes)
    × Keeps (prepend_known (slice_range l.fn.bytes l.fn.start l.fn.end) (g.S.Source.left l.fn.source)) (prepend_known (slice_range l.bytes l.start l.end) (g.S.Source.left l.source))
    × (g.S.Source.beside l.source ≡ g.S.Source.beside l.fn.source)
    × (g.S.Source.names l.source ≡ g.S.Source.names l.fn.source)
    × (g.S.Source.faults l.fn.source ≤ g.S.Source.faults l.source)
    × Unread l.fn.source l.source (slice_range l.fn.bytes l.fn.start l.fn.end) (slice_range l.bytes l.start l.end)

abbrev pub decreases-reads : goal.decreases-reads
decreases-reads g l = length l.bytes - (l.end - l.start)
