use Rattle.std.proofs.Common.{sym}
use Rattle.object_acts.specs.Acts.{change_of}
use Rattle.chunk_owner.proofs.OfSlots.ChangedSlots.{changed_kinds, changed_said, changes_at, there_live}
use Rattle.chunk_owner.proofs.OfSlots.KeptSlots.{put_others}
use Rattle.chunk_owner.proofs.OfSlots.Marks.{change_alone}
use Rattle.chunk_owner.proofs.slots.changing.change_at.Goals as goal

pub returns-clause-acts : goal.returns-clause-acts
returns-clause-acts c =
    changes_at c.args.slots.now c.args.id.now c.in-Some.slot.now c.change.new.slot (sym c.in-Some.ensures.value) (there_live c.args.slots.now c.args.id.now c.in-Some.slot.now (sym c.in-Some.ensures.value) c.requires.there)
    c.change.ensures.live (change_of c.args.op.now) c.change.result c.change.ensures.acts

pub returns-clause-says : goal.returns-clause-says
returns-clause-says c =
    changed_said c.args.slots.now c.args.id.now c.in-Some.slot.now c.change.new.slot (sym c.in-Some.ensures.value) (there_live c.args.slots.now c.args.id.now c.in-Some.slot.now (sym c.in-Some.ensures.value) c.requires.there)
    c.change.ensures.live c.change.ensures.says

pub returns-clause-kinds : goal.returns-clause-kinds
returns-clause-kinds c =
    changed_kinds c.args.slots.now c.args.id.now c.in-Some.slot.now c.change.new.slot (sym c.in-Some.ensures.value) (there_live c.args.slots.now c.args.id.now c.in-Some.slot.now (sym c.in-Some.ensures.value) c.requires.there)
    c.change.ensures.live c.change.ensures.kind c.requires.kinds

pub returns-clause-others : goal.returns-clause-others
returns-clause-others c = put_others c.args.slots.now c.args.id.now c.change.new.slot

pub returns-clause-alone : goal.returns-clause-alone
returns-clause-alone c =
    change_alone c.args.slots.now c.args.id.now c.in-Some.slot.now c.change.new.slot (sym c.in-Some.ensures.value) (there_live c.args.slots.now c.args.id.now c.in-Some.slot.now (sym c.in-Some.ensures.value) c.requires.there)
    c.change.ensures.live c.args.op.now c.change.result c.change.ensures.mark c.change.ensures.unmarked c.change.ensures.alone
