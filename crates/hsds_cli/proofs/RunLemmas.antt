-- What a command does, as what its words do.
use Rattle.std.proofs.Common.{◌≡◌, ℕ, List, Option, Some, None, sym, subst}
use Rattle.command_words.specs.Commands.{Command, command_of, export, import, init, sample, serve, session, verify}
use Rattle.edge_traits.specs.declared.disk.Disk.{Ghosts}
use Rattle.edge_traits.specs.declared.door.Door as door
use Rattle.edge_traits.specs.declared.sink.Sink as sink
use Rattle.edge_traits.specs.declared.source.Source as source
use Rattle.hsds_cli.specs.declared.closed.Closed.{Closed}
use Rattle.hsds_cli.specs.declared.command_end.CommandEnd.{CommandEnd}
use Rattle.hsds_cli.specs.declared.command_end.WithDoors.{WithDoors}
use Rattle.hsds_cli.specs.declared.status.Status.{Status}
use Rattle.hsds_cli.specs.Doors.{Doors, doors_of}
use Rattle.hsds_cli.specs.Operated.{IsOperated}
use Rattle.hsds_cli.specs.Runs.{IsCommanded, IsRun}
use Rattle.hsds_cli.specs.Serves.{Desks}
use Rattle.hsds_cli.specs.Sides.{Sides}

-- what `operate` does is what its command does
pub commanded : {F L D : Type 0} (met : Ghosts D) (desks : Desks met) (sides : Sides) (doors : Doors F L) (before after : D) (closed : Option Closed) (command : Command) (status : Status)
    → IsOperated met command sides before after status → closed ≡ None → IsCommanded met desks (Some command) sides doors before after closed status
commanded met desks sides doors before after closed (init config journal lanes) status did none = (did, none)
commanded met desks sides doors before after closed (export path journal) status did none = (did, none)
commanded met desks sides doors before after closed (import path journal owner) status did none = (did, none)
commanded met desks sides doors before after closed (sample n) status did none = (did, none)
commanded met desks sides doors before after closed (verify journal) status did none = (did, none)
commanded met desks sides doors before after closed (session config journal) status did none = absurd did
commanded met desks sides doors before after closed (serve config journal listen workers links) status did none = absurd did

-- the doors come back as they were
pub run_beside : {F L D : Type 0} (met : Ghosts D) (desks : Desks met) (words : List (List ℕ)) (sides : Sides) (tells : door.Ghosts F L) (reads : source.Ghosts L)
    (writes : sink.Ghosts L) (doors : List F) (before : D) (r : WithDoors D F) (e : CommandEnd D) (command : Option Command)
    → r.end ≡ record { status = e.status; disk = Some e.disk; closed = e.closed } → r.doors.items ≡ doors → command_of words ≡ command
    → IsCommanded met desks command sides (doors_of tells reads writes doors doors) before e.disk e.closed e.status
    → IsRun met desks words sides (doors_of tells reads writes doors r.doors.items) before r.end.disk r.end.closed r.end.status
run_beside {F} {L} {D} met desks words sides tells reads writes doors before r e command ends same is did =
    subst (λ (now : List F). IsRun met desks words sides (doors_of tells reads writes doors now) before r.end.disk r.end.closed r.end.status) (sym same)
    (subst (λ (x : CommandEnd (Option D)). IsRun met desks words sides (doors_of tells reads writes doors doors) before x.disk x.closed x.status) (sym ends)
    (subst (λ (o : Option Command). IsCommanded met desks o sides (doors_of tells reads writes doors doors) before e.disk e.closed e.status) (sym is) did))

-- where the disk comes back
pub ran_as : {F L D : Type 0} (met : Ghosts D) (desks : Desks met) (words : List (List ℕ)) (sides : Sides) (doors : Doors F L) (before after : D) (back : Option D)
    (closed : Option Closed) (status : Status) (command : Command) → back ≡ Some after → command_of words ≡ Some command
    → IsRun met desks words sides doors before back closed status → IsCommanded met desks (Some command) sides doors before after closed status
ran_as {F} {L} {D} met desks words sides doors before after back closed status command is words_are ran =
    subst (λ (o : Option Command). IsCommanded met desks o sides doors before after closed status) words_are
    (subst (λ (disk : Option D). IsRun met desks words sides doors before disk closed status) is ran)
