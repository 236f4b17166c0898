use Rattle.std.proofs.Common.{◌≡◌, map, drop, string_bytes}
use Rattle.command_words.specs.Reading.{pieces_from, pieces_of}
use Rattle.command_words.specs.Views.{row_of, state_of}
use Rattle.command_words.proofs.reader.is_line.Given as goal

abbrev pub invariant-loop-word : goal.invariant-loop-word
invariant-loop-word l =
    pieces_from (row_of l.row) (state_of l.reader).0 (state_of l.reader).1 (map string_bytes (drop l.word-index l.words))
    ≡ pieces_of (row_of l.row) (map string_bytes l.words)
