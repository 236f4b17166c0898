use Rattle.chunk_owner.proofs.OfSlots.Describing.{described}
use Rattle.chunk_owner.proofs.slots.laws.records_describe.Goals as goal

pub returns : goal.returns
returns c = described c.records_stand.ensures.reads c.chunks_installed.ensures.standing
