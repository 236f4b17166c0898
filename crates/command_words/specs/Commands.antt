-- The commands that are served.
--     Command      a command with its values
--     verbs      the table: each command's row, and what its values make
--     pieces_in words      the options behind a command's name, with their values, or None
--     command_of words      the command that the words are, or None
--     IsCommand words command      that this is the command, by the parts of its line
use Rattle.std.specs.Prelude.{◌≡◌, ℕ, Bool, not, ◌&&◌, nat_eq, List, [], ◌∷◌, Option, Some, None, codes}
use Rattle.std.specs.Prelude.{find, map, unwrap_or, option_map, option_and_then, if◌then◌else◌}
use Rattle.std.specs.List.{starts_with}
use Rattle.std.specs.Str.{bytes_eq}
use Rattle.object_ids.specs.Names.{is_name}
use Rattle.object_ids.specs.Paths.{path_of}
use Rattle.command_words.specs.Lines.{Text, Row, Piece, Part, IsLine, piece_of}
use Rattle.command_words.specs.Reading.{pieces_of, value_of}
use Rattle.command_words.specs.Numbers.{number_between}

-- the files of the configuration and of the journal, the number of lanes, the address with the numbers of workers and of links, the path of a domain, its owner, and the number of a sample
pub data Command : Type 0 where
  init : Text → Text → ℕ → Command
  session : Text → Text → Command
  serve : Text → Text → Text → ℕ → ℕ → Command
  export : Text → Text → Command
  import : Text → Text → Text → Command
  sample : ℕ → Command
  verify : Text → Command

-- the value of each name, where a line has one
abbrev pub Values : Type 0
Values = Text → Option Text

abbrev pub values_of : List Piece → Values
values_of pieces = λ name. value_of name pieces

pub record Verb : Type 0 where
  pub row : Row
  pub meaning : Values → Option Command

abbrev pub text_in : Text → Text → Values → Text
text_in name default values = unwrap_or (values name) default

-- `--config F`, and `hsds.toml` without it
abbrev pub config_in : Values → Text
config_in = text_in (codes "config") (codes "hsds.toml")

-- `--journal F`, and `hsds.journal` without it
abbrev pub journal_in : Values → Text
journal_in = text_in (codes "journal") (codes "hsds.journal")

-- an option that counts from 1 to a limit, and a number without it
abbrev pub count_of : ℕ → ℕ → Option Text → Option ℕ
count_of default most None = Some default
count_of default most (Some text) = number_between 1 most text

abbrev pub count_in : Text → ℕ → ℕ → Values → Option ℕ
count_in name default most values = count_of default most (values name)

-- `--lanes N` of 1 to 16, and 4 without it
abbrev pub lanes_in : Values → Option ℕ
lanes_in = count_in (codes "lanes") 4 16

-- `--listen A`, and `127.0.0.1:5101` without it
abbrev pub listen_in : Values → Text
listen_in = text_in (codes "listen") (codes "127.0.0.1:5101")

-- `--workers N` of 1 to 16, and 4 without it
abbrev pub workers_in : Values → Option ℕ
workers_in = count_in (codes "workers") 4 16

-- `--links N` of 1 to 65,536, and 1,000 without it
abbrev pub links_in : Values → Option ℕ
links_in = count_in (codes "links") 1000 65536

-- PATH, which spells a path, as its canonical text
abbrev pub path_in : Values → Option Text
path_in values = option_and_then path_of (values (codes "path"))

-- an owner as a configuration has one: `default`, or a user's name of at most 255 bytes, which doesn't begin with `g:`
abbrev pub is_owner : Text → Bool
is_owner name = is_name 255 name && not (starts_with nat_eq name (codes "g:"))

abbrev pub owner_of : Text → Option Text
owner_of name = if is_owner name then Some name else None

-- `--owner U`, and `default` without it
abbrev pub owner_in : Values → Option Text
owner_in values = owner_of (text_in (codes "owner") (codes "default") values)

-- N of `sample`, from 0 to 2^32 - 1
abbrev pub n_in : Values → Option ℕ
n_in values = option_and_then (number_between 0 4294967295) (values (codes "n"))

-- `init --config F --journal F --lanes N`
abbrev pub init_row : Row
init_row = record {
  name = codes "init";
  options = codes "config" ∷ codes "journal" ∷ codes "lanes" ∷ [];
  place = None;
}

abbrev pub init_of : Values → Option Command
init_of values = option_map (init (config_in values) (journal_in values)) (lanes_in values)

-- `session --config F --journal F`
abbrev pub session_row : Row
session_row = record {
  name = codes "session";
  options = codes "config" ∷ codes "journal" ∷ [];
  place = None;
}

abbrev pub session_of : Values → Option Command
session_of values = Some (session (config_in values) (journal_in values))

-- `serve --config F --journal F --listen A --workers N --links N`
abbrev pub serve_row : Row
serve_row = record {
  name = codes "serve";
  options = codes "config" ∷ codes "journal" ∷ codes "listen" ∷ codes "workers" ∷ codes "links" ∷ [];
  place = None;
}

abbrev pub serve_of : Values → Option Command
serve_of values =
    option_and_then (λ workers. option_map (serve (config_in values) (journal_in values) (listen_in values) workers) (links_in values))
    (workers_in values)

-- `export PATH --journal F`
abbrev pub export_row : Row
export_row = record {
  name = codes "export";
  options = codes "journal" ∷ [];
  place = Some (codes "path");
}

abbrev pub export_of : Values → Option Command
export_of values = option_map (λ path. export path (journal_in values)) (path_in values)

-- `import PATH --journal F --owner U`
abbrev pub import_row : Row
import_row = record {
  name = codes "import";
  options = codes "journal" ∷ codes "owner" ∷ [];
  place = Some (codes "path");
}

abbrev pub import_of : Values → Option Command
import_of values =
    option_and_then (λ path. option_map (import path (journal_in values)) (owner_in values)) (path_in values)

-- `sample N`
abbrev pub sample_row : Row
sample_row = record { name = codes "sample"; options = []; place = Some (codes "n") }

abbrev pub sample_of : Values → Option Command
sample_of values = option_map sample (n_in values)

-- `verify --journal F`
abbrev pub verify_row : Row
verify_row = record { name = codes "verify"; options = codes "journal" ∷ []; place = None }

abbrev pub verify_of : Values → Option Command
verify_of values = Some (verify (journal_in values))

abbrev pub verbs : List Verb
verbs =
    record { row = init_row; meaning = init_of }
    ∷ record { row = session_row; meaning = session_of }
    ∷ record { row = serve_row; meaning = serve_of }
    ∷ record { row = export_row; meaning = export_of }
    ∷ record { row = import_row; meaning = import_of }
    ∷ record { row = sample_row; meaning = sample_of }
    ∷ record { row = verify_row; meaning = verify_of }
    ∷ []

abbrev pub verb_named : Text → Option Verb
verb_named name = find (λ verb. bytes_eq name verb.row.name) verbs

-- the options of a line of the row of the command's name, whatever they say
abbrev pub pieces_in : List Text → Option (List Piece)
pieces_in [] = None
pieces_in (name ∷ rest) = option_and_then (λ verb. pieces_of verb.row rest) (verb_named name)

abbrev pub meaning_of : Verb → List Text → Option Command
meaning_of verb rest =
    option_and_then (λ pieces. verb.meaning (values_of pieces)) (pieces_of verb.row rest)

abbrev pub command_of : List Text → Option Command
command_of [] = None
command_of (name ∷ rest) = option_and_then (λ verb. meaning_of verb rest) (verb_named name)

-- the words are a command's name, and then a line of its row, whose values make the command
pub record IsCommand (words : List Text) (command : Command) : Type 0 where
  pub name : Text
  pub rest : List Text
  pub verb : Verb
  pub parts : List Part
  pub spelled : words ≡ name ∷ rest
  pub listed : verb_named name ≡ Some verb
  pub line : IsLine verb.row parts rest
  pub means : verb.meaning (values_of (map piece_of parts)) ≡ Some command
