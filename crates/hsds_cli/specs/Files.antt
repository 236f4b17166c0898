-- The files that a command opens, and where it listens.
use Rattle.std.specs.Prelude.{ℕ, Option, Some, None, option_map, true}
use Rattle.std.specs.Fs.{new_options, with_create, with_read, with_write}
use Rattle.std.specs.declared.fs.options.OpenOptions.{OpenOptions}
use Rattle.command_words.specs.Commands.{Command, export, import, init, sample, serve, session, verify}
use Rattle.command_words.specs.Lines.{Text}
use Rattle.hsds_cli.specs.declared.files.Access.{Access}
use Rattle.hsds_cli.specs.declared.files.Access.TheVariants.{Read, Change, Make}
use Rattle.hsds_cli.specs.declared.files.CommandFiles.{CommandFiles}
use Rattle.hsds_cli.specs.declared.files.JournalFile.{JournalFile}
use Rattle.hsds_cli.specs.declared.listening.Listening.{Listening}

-- the name of the configuration, which is read, and that of the journal, with the way in which it is opened
pub record Files : Type 0 where
  pub config : Option Text
  pub journal : Option (Text × Access)

abbrev pub no_files : Files
no_files = record { config = None; journal = None }

-- what each command opens; words that are none open nothing
abbrev pub files_for : Option Command → Files
files_for None = no_files
files_for (Some (init config journal lanes)) = record { config = Some config; journal = Some (journal, Make) }
files_for (Some (session config journal)) = record { config = Some config; journal = Some (journal, Change) }
files_for (Some (serve config journal listen workers links)) = record { config = Some config; journal = Some (journal, Change) }
files_for (Some (export path journal)) = record { config = None; journal = Some (journal, Read) }
files_for (Some (import path journal owner)) = record { config = None; journal = Some (journal, Change) }
files_for (Some (sample n)) = no_files
files_for (Some (verify journal)) = record { config = None; journal = Some (journal, Read) }

abbrev pub named : JournalFile → Text × Access
named file = (file.name.now, file.access)

abbrev pub files_named : CommandFiles → Files
files_named files = record { config = option_map (λ n. n.now) files.config; journal = option_map named files.journal }

-- the address that a command listens at, and the number of its workers
abbrev pub listening_for : Option Command → Option (Text × ℕ)
listening_for (Some (serve config journal listen workers links)) = Some (listen, workers)
listening_for command = None

abbrev pub listening_named : Listening → Text × ℕ
listening_named l = (l.address.now, l.workers)

-- how many workers a command has, each with a door of its own
abbrev pub workers_for : Option Command → ℕ
workers_for (Some (serve config journal listen workers links)) = workers
workers_for command = 0

abbrev pub workers_at : Option (Text × ℕ) → ℕ
workers_at None = 0
workers_at (Some listening) = listening.1

-- how the system is asked for a file
abbrev pub options_for : Access → OpenOptions
options_for Read = with_read new_options true
options_for Change = with_write (with_read new_options true) true
options_for Make = with_create (with_write (with_read new_options true) true) true
