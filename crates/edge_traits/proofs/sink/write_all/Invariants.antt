use Rattle.std.proofs.Common.{◌≡◌, ◌-◌, ◌≤◌, length, take}
use Rattle.std.specs.Io.KnownBytes.{Appends}
use Rattle.edge_traits.proofs.sink.write_all.Given as goal

-- the first bytes, as many as are done, were appended
abbrev pub invariant-pieces : goal.invariant-pieces
invariant-pieces g l = (l.done ≤ length l.bytes)
    × Appends (g.K.Sink.held l.fn.sink) (g.K.Sink.held l.sink) (take l.done l.bytes)
    × (g.K.Sink.beside l.sink ≡ g.K.Sink.beside l.fn.sink)
    × (g.K.Sink.names l.sink ≡ g.K.Sink.names l.fn.sink)
    × (g.K.Sink.faults l.fn.sink ≤ g.K.Sink.faults l.sink)

abbrev pub decreases-pieces : goal.decreases-pieces
decreases-pieces g l = length l.bytes - l.done
