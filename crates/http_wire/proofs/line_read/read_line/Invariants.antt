use Rattle.std.proofs.Common.{◌≡◌, ◌-◌, ◌≤◌, false, length, take, drop}
use Rattle.std.specs.List.{list_any}
use Rattle.http_wire.specs.Heads.{is_feed}
use Rattle.http_wire.proofs.Windows.{Came}
use Rattle.http_wire.proofs.line_read.read_line.Given as goal

-- no line's end came so far
abbrev pub invariant-pieces : goal.invariant-pieces
invariant-pieces g l = Came (g.S.Source.left l.fn.source) (g.S.Source.left l.source) l.at l.end l.fn.bytes l.bytes
    × (list_any is_feed (take (l.end - l.at) (drop l.at l.bytes)) ≡ false)
    × (g.S.Source.beside l.source ≡ g.S.Source.beside l.fn.source)
    × (g.S.Source.names l.source ≡ g.S.Source.names l.fn.source)
    × (g.S.Source.faults l.fn.source ≤ g.S.Source.faults l.source)

abbrev pub decreases-pieces : goal.decreases-pieces
decreases-pieces g l = length l.bytes - l.end
