use Rattle.std.proofs.Common.{◌≡◌, ◌-◌, ◌≤◌, length}
use Rattle.http_wire.specs.Skipping.{Passes}
use Rattle.http_wire.proofs.skipping.drop_bytes.Given as goal

-- so many bytes came from the source
abbrev pub invariant-pieces : goal.invariant-pieces
invariant-pieces g l = (l.done ≤ l.count)
    × Passes (g.S.Source.left l.fn.source) (g.S.Source.left l.source) l.done
    × (g.S.Source.beside l.source ≡ g.S.Source.beside l.fn.source)
    × (g.S.Source.names l.source ≡ g.S.Source.names l.fn.source)
    × (g.S.Source.faults l.fn.source ≤ g.S.Source.faults l.source)
    × (length l.room ≡ length l.fn.room)

abbrev pub decreases-pieces : goal.decreases-pieces
decreases-pieces g l = l.count - l.done
