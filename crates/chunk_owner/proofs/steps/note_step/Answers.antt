use Rattle.std.proofs.Common.{Option, subst}
use Rattle.object_ids.specs.IdValues.{Id}
use Rattle.chunk_owner.specs.Slots.Listed.{NotesTouched}
use Rattle.chunk_owner.proofs.steps.note_step.Goals as goal

pub returns-in-Some : goal.returns-in-Some
returns-in-Some c =
    subst (λ (t : Option Id). NotesTouched t c.args.slots.now c.args.changes.now c.note.new.self) c.in-Some.ensures
    (record { range = c.note.ensures.range; here = record { still = c.note.ensures.still; spelled = c.note.ensures.spelled }; more = c.note.ensures.more })
