use Rattle.std.proofs.Common.{◌-◌, ◌+◌, ◌≤◌, vec_len}
use Rattle.std.specs.Io.KnownBytes.{Consumes}
use Rattle.edge_traits.proofs.source_texts.reading.read_pieces.Given as goal

-- the text so far is what the source lost
abbrev pub invariant-pieces : goal.invariant-pieces
invariant-pieces g l =
    Consumes (g.C.Source.left l.fn.source) (g.C.Source.left l.source) l.text.items
    × (vec_len l.text ≤ l.fn.most)
    × (g.C.Source.faults l.fn.source ≤ g.C.Source.faults l.source)

abbrev pub decreases-pieces : goal.decreases-pieces
decreases-pieces g l = l.fn.most + 1 - vec_len l.text
