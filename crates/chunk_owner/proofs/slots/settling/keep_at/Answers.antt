use Rattle.std.proofs.Common.{sym}
use Rattle.chunk_owner.proofs.OfSlots.KeptSlots.{kept_here, put_others}
use Rattle.chunk_owner.proofs.slots.settling.keep_at.Goals as goal

pub returns-in-Some-clause-here : goal.returns-in-Some-clause-here
returns-in-Some-clause-here c = kept_here c.args.slots.now c.args.id.now c.in-Some.slot.now c.settle.new.slot (sym c.in-Some.ensures.value) c.requires c.settle.ensures

pub returns-in-Some-clause-others : goal.returns-in-Some-clause-others
returns-in-Some-clause-others c = put_others c.args.slots.now c.args.id.now c.settle.new.slot
