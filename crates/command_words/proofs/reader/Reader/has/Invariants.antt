use Rattle.std.proofs.Common.{◌≡◌, map, drop}
use Rattle.command_words.specs.Lines.{has_piece}
use Rattle.command_words.specs.Views.{texts_of}
use Rattle.command_words.proofs.reader.Reader.has.Given as goal

abbrev pub invariant-loop-piece : goal.invariant-loop-piece
invariant-loop-piece l =
    has_piece l.name (map texts_of (drop l.piece-index l.piece-items))
    ≡ has_piece l.name (map texts_of l.piece-items)
