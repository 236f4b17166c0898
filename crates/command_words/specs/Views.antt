-- How contracts see commands, rows and what was read so far.
use Rattle.std.specs.Prelude.{◌≡◌, ◌≤◌, ⊤, Option, Some, None, Result, Ok, Err, map, option_map}
use Rattle.command_words.specs.Lines as line
use Rattle.command_words.specs.Reading.{State}
use Rattle.object_ids.specs.declared.names.NameFault.{NameFault}
use Rattle.object_ids.specs.declared.names.NameFault.TheVariants as name
use Rattle.object_ids.specs.declared.paths.PathFault.{PathFault}
use Rattle.object_ids.specs.declared.paths.PathFault.TheVariants as path
use Rattle.command_words.specs.Commands.{Command, init, session, serve, export, import, sample, verify}
use Rattle.command_words.specs.declared.command.Wanted.{Wanted}
use Rattle.command_words.specs.declared.command.Wanted.TheVariants.{Init, Session, Serve, Export, Import}
use Rattle.command_words.specs.declared.command.Wanted.TheVariants.{Sample, Verify}
use Rattle.command_words.specs.declared.command.WordsFault.{WordsFault}
use Rattle.command_words.specs.declared.command.WordsFault.TheVariants.{Refused, NoMemory}
use Rattle.command_words.specs.declared.row.Row.{Row}
use Rattle.command_words.specs.declared.reader.Piece.{Piece}
use Rattle.command_words.specs.declared.reader.Reader.{Reader}

abbrev pub as_command : Wanted → Command
as_command (Init config journal lanes) = init config.now journal.now lanes
as_command (Session config journal) = session config.now journal.now
as_command (Serve config journal listen workers links) =
    serve config.now journal.now listen.now workers links
as_command (Export path journal) = export path journal.now
as_command (Import path journal owner) = import path journal.now owner
as_command (Sample n) = sample n
as_command (Verify journal) = verify journal.now

-- the words are this command, or none; or memory ran out
abbrev pub Answers : Result Wanted WordsFault → Option Command → Type 0
Answers (Ok wanted) found = found ≡ Some (as_command wanted)
Answers (Err Refused) found = found ≡ None
Answers (Err NoMemory) found = ⊤

-- why a word at the place isn't read
abbrev pub of_path : PathFault → WordsFault
of_path path.BadPath = Refused
of_path path.NoMemory = NoMemory

-- why a name isn't read
abbrev pub of_name : NameFault → WordsFault
of_name name.BadName = Refused
of_name name.NoMemory = NoMemory

-- a new journal's world has 1 to 16 lanes, and 1 to 16 workers serve 1 to 65,536 links each
abbrev pub IsInRange : Wanted → Type 0
IsInRange (Init config journal lanes) = (1 ≤ lanes) × (lanes ≤ 16)
IsInRange (Session config journal) = Unit {0}
IsInRange (Serve config journal listen workers links) =
    (1 ≤ workers) × (workers ≤ 16) × (1 ≤ links) × (links ≤ 65536)
IsInRange (Export path journal) = Unit {0}
IsInRange (Import path journal owner) = Unit {0}
IsInRange (Sample n) = Unit {0}
IsInRange (Verify journal) = Unit {0}

abbrev pub row_of : Row → line.Row
row_of row = record {
  name = row.name.now;
  options = map (λ n. n.now) row.options.now;
  place = option_map (λ n. n.now) row.place;
}

abbrev pub texts_of : Piece → line.Piece
texts_of piece = (piece.name.now, piece.value.now)

abbrev pub state_of : Reader → State
state_of reader = (option_map (λ n. n.now) reader.waiting, map texts_of reader.pieces.items)
