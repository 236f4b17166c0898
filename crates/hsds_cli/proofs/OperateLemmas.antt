-- What `operate` does, by the command.
use Rattle.std.proofs.Common.{◌≡◌, sym, subst}
use Rattle.edge_traits.specs.declared.disk.Disk.{Ghosts}
use Rattle.command_words.specs.Commands.{Command, export, import, init, sample, serve, session, verify}
use Rattle.command_words.specs.Views.{as_command}
use Rattle.command_words.specs.declared.command.Wanted.{Wanted}
use Rattle.hsds_cli.specs.declared.status.Status.{Status}
use Rattle.hsds_cli.specs.declared.status.Status.TheVariants.{Done, Words, Configuration, ReadFault, WriteFault, DiskFault, NotAJournal, Refused, JournalExists, DoorFault, InputCut, UsedUp, Budget, NoMemory}
use Rattle.hsds_cli.specs.Operated.{IsOperated, IsOperatedStatus}
use Rattle.hsds_cli.specs.Sides.{Sides}

module _ {D : Type 0} (met : Ghosts D) (sides : Sides) (before after : D) where
  -- what was wanted is this command
  pub operated_as : (wanted is : Wanted) (status : Status) → wanted ≡ is → IsOperated met (as_command is) sides before after status → IsOperated met (as_command wanted) sides before after status
  operated_as wanted is status same did = subst (λ (w : Wanted). IsOperated met (as_command w) sides before after status) (sym same) did

  -- no command that is operated has another status
  pub operated_status : (command : Command) (status : Status) → IsOperated met command sides before after status → IsOperatedStatus status
  operated_status (init config journal lanes) Words h = absurd h
  operated_status (init config journal lanes) DoorFault h = absurd h
  operated_status (init config journal lanes) InputCut h = absurd h
  operated_status (init config journal lanes) Budget h = absurd h
  operated_status (export path journal) Words h = absurd h.0
  operated_status (export path journal) DoorFault h = absurd h.0
  operated_status (export path journal) InputCut h = absurd h.0
  operated_status (export path journal) Budget h = absurd h.0
  operated_status (import path journal owner) Words h = absurd h
  operated_status (import path journal owner) DoorFault h = absurd h
  operated_status (import path journal owner) InputCut h = absurd h
  operated_status (import path journal owner) Budget h = absurd h
  operated_status (sample n) Words h = absurd h.0.0
  operated_status (sample n) DoorFault h = absurd h.0.0
  operated_status (sample n) InputCut h = absurd h.0.0
  operated_status (sample n) Budget h = absurd h.0.0
  operated_status (verify journal) Words h = absurd h.0
  operated_status (verify journal) DoorFault h = absurd h.0
  operated_status (verify journal) InputCut h = absurd h.0
  operated_status (verify journal) Budget h = absurd h.0
  operated_status (session config journal) status h = absurd h
  operated_status (serve config journal listen workers links) status h = absurd h
  operated_status command Done h = tt
  operated_status command Configuration h = tt
  operated_status command ReadFault h = tt
  operated_status command WriteFault h = tt
  operated_status command DiskFault h = tt
  operated_status command NotAJournal h = tt
  operated_status command Refused h = tt
  operated_status command JournalExists h = tt
  operated_status command UsedUp h = tt
  operated_status command NoMemory h = tt
