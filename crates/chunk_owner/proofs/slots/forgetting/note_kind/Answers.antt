use Rattle.chunk_owner.proofs.OfSlots.Noting.{noted_fewer, noted_first, noted_kind, noted_next}
use Rattle.chunk_owner.proofs.slots.forgetting.note_kind.Goals as goal

pub loop-id-init : goal.loop-id-init
loop-id-init c =
    noted_first c.args.kind c.args.number c.args.slots.now c.args.changes.now c.note.new.self c.first_id-last.result c.first_id-last.ensures.kind c.first_id-last.ensures.domain c.first_id-last.ensures.run c.first_id-last.ensures.serial
    (record { still = c.note.ensures.still; spelled = c.note.ensures.spelled }) c.note.ensures.more

pub loop-id-smaller : goal.loop-id-smaller
loop-id-smaller c = noted_fewer c.args.kind c.args.number c.args.slots.now c.args.changes.now c.loop-id.changes c.loop-id.last c.loop-id.invariant c.in-Some.id c.in-Some.ensures

pub loop-id-preserved : goal.loop-id-preserved
loop-id-preserved c =
    noted_next c.args.kind c.args.number c.args.slots.now c.args.changes.now c.loop-id.changes c.loop-id.last c.loop-id.invariant c.note-in-Some.new.self c.in-Some.id c.in-Some.ensures
    (record { still = c.note-in-Some.ensures.still; spelled = c.note-in-Some.ensures.spelled }) c.note-in-Some.ensures.more

pub returns-clause-noted : goal.returns-clause-noted
returns-clause-noted c = noted_kind c.args.kind c.args.number c.args.slots.now c.args.changes.now c.loop-id.changes c.loop-id.last c.loop-id.invariant c.in_default.ensures
