-- Which words stand behind a command's name.
--     Row      a command: its name, its options, and the name of its place, where it has one
--     Part     an option with its value, as two words or as one, or the word at the place
--     IsLine row parts words      the words are these parts, in this order, as the row allows
use Rattle.std.specs.Prelude.{◌≡◌, ℕ, Bool, true, false, not, ◌==◌, ◌&&◌, List, [], ◌∷◌, ◌++◌}
use Rattle.std.specs.Prelude.{Option, Some, None, map}
use Rattle.std.specs.List.{list_any, list_all}
use Rattle.std.specs.Str.{bytes_eq}

abbrev pub Text : Type 0
Text = List ℕ

-- A command. A place is a word that is no option, as the path of `export PATH`. Its name stands
-- in no word.
pub record Row : Type 0 where
  pub name : Text
  pub options : List Text
  pub place : Option Text

-- the name of an option or of the place, with its value
abbrev pub Piece : Type 0
Piece = Text × Text

-- how a piece is written
pub data Form : Type 0 where
  apart : Form
  joined : Form
  alone : Form

pub record Part : Type 0 where
  pub form : Form
  pub name : Text
  pub value : Text

abbrev pub piece_of : Part → Piece
piece_of part = (part.name, part.value)

-- two hyphens (45) and a name
abbrev pub option_word : Text → Text
option_word name = 45 ∷ 45 ∷ name

-- the words of a part: `--name value`, `--name=value` (61), or the value by itself
abbrev pub spelling : Form → Text → Text → List Text
spelling apart name value = option_word name ∷ value ∷ []
spelling joined name value = (option_word name ++ 61 ∷ value) ∷ []
spelling alone name value = value ∷ []

abbrev pub spellings : List Part → List Text
spellings [] = []
spellings (part ∷ parts) = spelling part.form part.name part.value ++ spellings parts

-- a word that may be a value: not empty, and not begun by a hyphen
abbrev pub is_value : Text → Bool
is_value [] = false
is_value (byte ∷ _) = not (byte == 45)

abbrev pub has : Text → List Text → Bool
has name names = list_any (λ n. bytes_eq n name) names

abbrev pub has_piece : Text → List Piece → Bool
has_piece name pieces = list_any (λ p. bytes_eq p.0 name) pieces

abbrev pub is_place : Text → Option Text → Bool
is_place name None = false
is_place name (Some place) = bytes_eq place name

-- the name is one of the row's, for this form
abbrev pub is_named : Row → Form → Text → Bool
is_named row apart name = has name row.options
is_named row joined name = has name row.options
is_named row alone name = is_place name row.place

abbrev pub is_part : Row → Part → Bool
is_part row part = is_named row part.form part.name && is_value part.value

-- no piece has the name of one before it, or of one of the earlier pieces
abbrev pub are_new : List Piece → List Piece → Bool
are_new earlier [] = true
are_new earlier (piece ∷ pieces) =
    not (has_piece piece.0 earlier) && are_new (earlier ++ piece ∷ []) pieces

-- the place, where there is one, is filled
abbrev pub is_filled : Option Text → List Piece → Bool
is_filled None pieces = true
is_filled (Some place) pieces = has_piece place pieces

-- The words behind the name are these parts, in any order: options of the row, and the word at its
-- place. Each name stands at most once, and the place's exactly once.
pub record IsLine (row : Row) (parts : List Part) (words : List Text) : Type 0 where
  pub spelled : words ≡ spellings parts
  pub own : list_all (is_part row) parts ≡ true
  pub once : are_new [] (map piece_of parts) ≡ true
  pub filled : is_filled row.place (map piece_of parts) ≡ true
