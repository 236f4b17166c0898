use Rattle.std.proofs.Common.{sym}
use Rattle.groups_links.specs.declared.target.LinkTo.TheVariants.{Hard}
use Rattle.object_acts.specs.Acts.{link_put, on_links}
use Rattle.chunk_owner.proofs.OfSlots.ChangedSlots.{changed_kinds, changed_said, changes_at, there_live}
use Rattle.chunk_owner.proofs.OfSlots.KeptSlots.{put_others}
use Rattle.chunk_owner.proofs.OfSlots.Marks.{link_alone}
use Rattle.chunk_owner.proofs.slots.changing.link_at.Goals as goal

pub returns-clause-acts : goal.returns-clause-acts
returns-clause-acts c =
    changes_at c.args.slots.now c.args.id.now c.in-Some.slot.now c.link_made.new.slot (sym c.in-Some.ensures.value) (there_live c.args.slots.now c.args.id.now c.in-Some.slot.now (sym c.in-Some.ensures.value) c.requires.there)
    c.link_made.ensures.live (λ o. on_links c.args.id.now (link_put c.args.title.now (Hard c.args.fresh)) o.attributes o.body) c.link_made.result c.link_made.ensures.acts

pub returns-clause-says : goal.returns-clause-says
returns-clause-says c =
    changed_said c.args.slots.now c.args.id.now c.in-Some.slot.now c.link_made.new.slot (sym c.in-Some.ensures.value) (there_live c.args.slots.now c.args.id.now c.in-Some.slot.now (sym c.in-Some.ensures.value) c.requires.there)
    c.link_made.ensures.live c.link_made.ensures.says

pub returns-clause-kinds : goal.returns-clause-kinds
returns-clause-kinds c =
    changed_kinds c.args.slots.now c.args.id.now c.in-Some.slot.now c.link_made.new.slot (sym c.in-Some.ensures.value) (there_live c.args.slots.now c.args.id.now c.in-Some.slot.now (sym c.in-Some.ensures.value) c.requires.there)
    c.link_made.ensures.live c.link_made.ensures.kind c.requires.kinds

pub returns-clause-others : goal.returns-clause-others
returns-clause-others c = put_others c.args.slots.now c.args.id.now c.link_made.new.slot

pub returns-clause-alone : goal.returns-clause-alone
returns-clause-alone c =
    link_alone c.args.slots.now c.args.id.now c.in-Some.slot.now c.link_made.new.slot (sym c.in-Some.ensures.value) (there_live c.args.slots.now c.args.id.now c.in-Some.slot.now (sym c.in-Some.ensures.value) c.requires.there)
    c.link_made.ensures.live c.link_made.result c.link_made.ensures.mark c.link_made.ensures.unmarked c.link_made.ensures.alone
