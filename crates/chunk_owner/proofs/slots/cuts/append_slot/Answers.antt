use Rattle.chunk_owner.proofs.OfSlots.KeyFacts.{short_object_key}
use Rattle.chunk_owner.proofs.slots.cuts.append_slot.Goals as goal

pub cut_object-requires-clause-short_key : goal.cut_object-requires-clause-short_key
cut_object-requires-clause-short_key c = short_object_key c.args.id.now c.args.key.now c.requires.key
