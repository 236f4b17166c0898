use Rattle.std.proofs.Common.{sym}
use Rattle.chunk_owner.proofs.slots.cuts.append_at.Goals as goal

pub append_slot-requires-clause-kind : goal.append_slot-requires-clause-kind
append_slot-requires-clause-kind c = c.requires.kinds c.args.id.now c.in-Some.slot.now (sym c.in-Some.ensures)
