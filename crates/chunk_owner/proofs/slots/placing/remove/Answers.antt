use Rattle.std.proofs.Common.{refl, sym}
use Rattle.chunk_owner.proofs.OfSlots.KeptSlots.{put_others}
use Rattle.chunk_owner.proofs.OfSlots.Marks.{removed_alone}
use Rattle.chunk_owner.proofs.OfSlots.Placed.{removed_gone, removed_kind, removed_said, replaced_ids}
use Rattle.chunk_owner.proofs.slots.placing.remove.Goals as goal

pub returns-in-Some-clause-gone : goal.returns-in-Some-clause-gone
returns-in-Some-clause-gone c = removed_gone c.args.slots.now c.args.id.now c.in-Some.slot.now _ (sym c.in-Some.ensures.value) refl refl

pub returns-in-Some-clause-others : goal.returns-in-Some-clause-others
returns-in-Some-clause-others c = put_others c.args.slots.now c.args.id.now _

pub returns-in-Some-clause-says : goal.returns-in-Some-clause-says
returns-in-Some-clause-says c = removed_said c.args.slots.now c.args.id.now c.in-Some.slot.now _ (sym c.in-Some.ensures.value) refl refl

pub returns-in-Some-clause-kinds : goal.returns-in-Some-clause-kinds
returns-in-Some-clause-kinds c = removed_kind c.args.slots.now c.args.id.now c.in-Some.slot.now _ (sym c.in-Some.ensures.value) refl refl c.requires.kinds

pub returns-in-Some-clause-alone : goal.returns-in-Some-clause-alone
returns-in-Some-clause-alone c = removed_alone c.args.slots.now c.args.id.now c.in-Some.slot.now _ (sym c.in-Some.ensures.value) refl refl

pub returns-in-Some-clause-same_ids : goal.returns-in-Some-clause-same_ids
returns-in-Some-clause-same_ids c = replaced_ids c.args.slots.now c.args.id.now c.in-Some.slot.now _ (sym c.in-Some.ensures.value)
