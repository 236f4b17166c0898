-- What a command does that serves no link.
--     WaitsForNobody command      it is any but `session` and `serve`
--     IsOperated met command ..      what such a command does, by its status
--     IsOperatedStatus status      one of theirs: none that tells of words, a door or a link
use Rattle.std.specs.Prelude.{◌≡◌, ⊤}
use Rattle.edge_traits.specs.declared.disk.Disk.{Ghosts}
use Rattle.command_words.specs.Commands.{Command, export, import, init, sample, serve, session, verify}
use Rattle.flush_journal.specs.Unchanged.{SameBytes}
use Rattle.hsds_cli.specs.declared.status.Status.{Status}
use Rattle.hsds_cli.specs.declared.status.Status.TheVariants.{Words, DoorFault, InputCut, Budget}
use Rattle.hsds_cli.specs.Exports.{IsExported}
use Rattle.hsds_cli.specs.Imports.{IsImported}
use Rattle.hsds_cli.specs.Makings.{IsInit}
use Rattle.hsds_cli.specs.Openings.{IsVerified}
use Rattle.hsds_cli.specs.Sampled.{IsSampled}
use Rattle.hsds_cli.specs.Sides.{Sides}

abbrev pub WaitsForNobody : Command → Type 0
WaitsForNobody (session config journal) = ⊥
WaitsForNobody (serve config journal listen workers links) = ⊥
WaitsForNobody command = ⊤

-- `export` and `verify` write nothing to the disk, and `sample` doesn't touch it
abbrev pub IsOperated : {D : Type 0} (met : Ghosts D) → Command → Sides → D → D → Status → Type 0
IsOperated met (init config journal lanes) sides before after status = IsInit met lanes sides before after status
IsOperated met (export path journal) sides before after status =
    IsExported met path sides before after status × (met.honest → SameBytes met before after)
IsOperated met (import path journal owner) sides before after status = IsImported met path owner sides before after status
IsOperated met (sample n) sides before after status = IsSampled n sides status × (after ≡ before)
IsOperated met (verify journal) sides before after status =
    IsVerified met sides before after status × (met.honest → SameBytes met before after)
IsOperated met (session config journal) sides before after status = ⊥
IsOperated met (serve config journal listen workers links) sides before after status = ⊥

abbrev pub IsOperatedStatus : Status → Type 0
IsOperatedStatus Words = ⊥
IsOperatedStatus DoorFault = ⊥
IsOperatedStatus InputCut = ⊥
IsOperatedStatus Budget = ⊥
IsOperatedStatus status = ⊤
