-- What a run does, by its words and its status.
use Rattle.std.specs.Prelude.{◌≡◌, ◌⊎◌, ℕ, List, Option, Some, None, ⊤}
use Rattle.edge_traits.specs.Causes.{Rose}
use Rattle.edge_traits.specs.declared.disk.Disk.{Ghosts}
use Rattle.command_words.specs.Commands.{Command, command_of, import, init, serve, session}
use Rattle.hsds_cli.specs.declared.closed.Closed.{Closed}
use Rattle.hsds_cli.specs.declared.status.Status.{Status}
use Rattle.hsds_cli.specs.declared.status.Status.TheVariants.{Words, Configuration, ReadFault, NoMemory}
use Rattle.hsds_cli.specs.Doors.{Doors}
use Rattle.hsds_cli.specs.Makings.{IsAsBefore}
use Rattle.hsds_cli.specs.Openings.{IsSession}
use Rattle.hsds_cli.specs.Operated.{IsOperated}
use Rattle.hsds_cli.specs.Serves.{AreUnasked, Desks, IsDropped, IsServe}
use Rattle.hsds_cli.specs.Sides.{IsUntouched, Sides, SpellsNone}

-- the words are none, or there was no memory to find one in them
abbrev pub IsNoCommand : Status → Type 0
IsNoCommand status = (status ≡ Words) ⊎ (status ≡ NoMemory)

-- what a command does
abbrev pub IsCommanded : {F L D : Type 0} (met : Ghosts D) → Desks met → Option Command → Sides → Doors F L → D → D → Option Closed → Status → Type 0
IsCommanded met desks None sides doors before after closed status = IsNoCommand status × IsAsBefore sides before after × (closed ≡ None)
IsCommanded met desks (Some (session config journal)) sides doors before after closed status = IsSession met sides before after closed status
IsCommanded met desks (Some (serve config journal listen workers links)) sides doors before after closed status =
    IsServe met desks links sides doors before (Some after) closed status
IsCommanded met desks (Some command) sides doors before after closed status = IsOperated met command sides before after status × (closed ≡ None)

-- the numbers of the statuses at which the last keeping may have been refused
abbrev pub MayBeUnkept : ℕ → Type 0
MayBeUnkept status = (status ≡ 5) ⊎ ((status ≡ 11) ⊎ (status ≡ 13))

-- why a source gives no configuration, as a status
abbrev pub IsRefusal : Option (List ℕ) → ℕ → ℕ → Status → Type 0
IsRefusal text before after Configuration = SpellsNone text
IsRefusal text before after ReadFault = Rose before after
IsRefusal text before after NoMemory = ⊤
IsRefusal text before after status = ⊥

-- a command that asks nothing of the configuration
abbrev pub IsUnconfigured : Option Command → Type 0
IsUnconfigured (Some (init config journal lanes)) = ⊥
IsUnconfigured (Some (session config journal)) = ⊥
IsUnconfigured (Some (serve config journal listen workers links)) = ⊥
IsUnconfigured command = ⊤

-- a command that takes no input
abbrev pub TakesNone : Option Command → Type 0
TakesNone (Some (session config journal)) = ⊥
TakesNone (Some (import path journal owner)) = ⊥
TakesNone command = ⊤

-- a command that asks nothing of a door
abbrev pub OpensNone : Option Command → Type 0
OpensNone (Some (serve config journal listen workers links)) = ⊥
OpensNone command = ⊤

-- ---- a run

-- the disk is missing only where `serve` dropped it
abbrev pub IsRun : {F L D : Type 0} (met : Ghosts D) → Desks met → List (List ℕ) → Sides → Doors F L → D → Option D → Option Closed → Status → Type 0
IsRun met desks words sides doors before (Some after) closed status = IsCommanded met desks (command_of words) sides doors before after closed status
IsRun met desks words sides doors before None closed status =
    (OpensNone (command_of words) → ⊥) × IsUntouched sides × AreUnasked doors closed × IsDropped met before × (status ≡ NoMemory)
