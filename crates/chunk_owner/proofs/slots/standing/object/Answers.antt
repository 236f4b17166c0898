use Rattle.std.proofs.Common.{sym}
use Rattle.chunk_owner.proofs.slots.standing.object.Goals as goal

pub returns-clause-kind : goal.returns-clause-kind
returns-clause-kind c = λ kinds. kinds c.args.id.now c.in_ok-slot.slot.now (sym c.in_ok-slot.ensures)
