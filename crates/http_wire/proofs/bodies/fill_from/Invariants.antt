use Rattle.std.proofs.Common.{◌≡◌, ◌-◌, ◌≤◌, length}
use Rattle.http_wire.proofs.Windows.{Came}
use Rattle.http_wire.proofs.bodies.fill_from.Given as goal

-- the bytes so far came from the source
abbrev pub invariant-pieces : goal.invariant-pieces
invariant-pieces g l = Came (g.S.Source.left l.fn.source) (g.S.Source.left l.source) l.at l.end l.fn.bytes l.bytes
    × (g.S.Source.beside l.source ≡ g.S.Source.beside l.fn.source)
    × (g.S.Source.names l.source ≡ g.S.Source.names l.fn.source)
    × (g.S.Source.faults l.fn.source ≤ g.S.Source.faults l.source)

abbrev pub decreases-pieces : goal.decreases-pieces
decreases-pieces g l = length l.bytes - l.end
