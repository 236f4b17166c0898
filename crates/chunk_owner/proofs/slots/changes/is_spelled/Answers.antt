use Rattle.std.proofs.Common.{sym}
use Rattle.chunk_owner.proofs.slots.changes.is_spelled.Goals as goal

pub is_whole-requires : goal.is_whole-requires
is_whole-requires c = (c.requires c.args.id.now c.in-Some.slot.now (sym c.in-Some.ensures)).sound
