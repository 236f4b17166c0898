use Rattle.chunk_owner.proofs.OfSlots.Noting.{noted_domain}
use Rattle.chunk_owner.proofs.slots.forgetting.note_domain.Goals as goal

pub returns-clause-noted : goal.returns-clause-noted
returns-clause-noted c =
    noted_domain c.args.number c.args.slots.now c.note_kind.new.changes c.note_kind-2.new.changes c.note_kind-3.new.changes c.note_kind.ensures.noted c.note_kind-2.ensures.noted c.note_kind-3.ensures.noted
    c.note_kind-2.ensures.more c.note_kind-3.ensures.more
