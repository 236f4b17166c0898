-- The words behind a command's name, read one by one.
--     pieces_of row words      the pieces of the line that the words are, or None
use Rattle.std.specs.Prelude.{not, ◌&&◌, if◌then◌else◌, List, [], ◌∷◌, ◌++◌, Option, Some, None}
use Rattle.std.specs.Prelude.{option_map, option_and_then}
use Rattle.std.specs.Str.{bytes_eq}
use Rattle.clap.specs.Lexer.{long_of}
use Rattle.command_words.specs.Lines.{Text, Row, Piece, is_value, has, has_piece, is_filled}

-- the pieces with one more: each name at most once, and a value that may be one
abbrev pub with_piece : Text → Text → List Piece → Option (List Piece)
with_piece name value pieces =
    if not (has_piece name pieces) && is_value value then Some (pieces ++ (name, value) ∷ [])
    else None

-- between two words: the option that waits for its value, and the pieces so far
abbrev pub State : Type 0
State = Option Text × List Piece

abbrev pub idle_with : Option (List Piece) → Option State
idle_with = option_map (λ pieces. (None, pieces))

-- a word that is no option
abbrev pub placed : Option Text → Text → List Piece → Option State
placed None word pieces = None
placed (Some name) word pieces = idle_with (with_piece name word pieces)

-- an option, alone or with its value
abbrev pub named : Option Text → Text → List Piece → Option State
named None name pieces = Some (Some name, pieces)
named (Some value) name pieces = idle_with (with_piece name value pieces)

abbrev pub opened : Row → Option (Text × Option Text) → Text → List Piece → Option State
opened row None word pieces = placed row.place word pieces
opened row (Some option) word pieces =
    if has option.0 row.options then named option.1 option.0 pieces else None

abbrev pub after_word : Row → Option Text → Text → List Piece → Option State
after_word row None word pieces = opened row (long_of word) word pieces
after_word row (Some name) word pieces = idle_with (with_piece name word pieces)

-- the pieces at the end, where no option waits and the place is filled
abbrev pub ended : Row → Option Text → List Piece → Option (List Piece)
ended row None pieces = if is_filled row.place pieces then Some pieces else None
ended row (Some name) pieces = None

abbrev pub pieces_from : Row → Option Text → List Piece → List Text → Option (List Piece)
pieces_from row waiting pieces [] = ended row waiting pieces
pieces_from row waiting pieces (word ∷ rest) =
    option_and_then (λ s. pieces_from row s.0 s.1 rest) (after_word row waiting word pieces)

abbrev pub pieces_of : Row → List Text → Option (List Piece)
pieces_of row words = pieces_from row None [] words

-- the value of a name
abbrev pub value_of : Text → List Piece → Option Text
value_of name [] = None
value_of name (piece ∷ rest) = if bytes_eq piece.0 name then Some piece.1 else value_of name rest
