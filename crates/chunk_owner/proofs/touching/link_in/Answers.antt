use Rattle.std.proofs.Common.{is_some, sym, ap, ◌∙◌}
use Rattle.chunk_owner.specs.Slots.Slots.{objects_of}
use Rattle.chunk_owner.proofs.OfSlots.Standing.{get-objects_of}
use Rattle.chunk_owner.specs.Acts.{link_to}
use Rattle.chunk_owner.proofs.AtIds.{changes_there, changes_foreign}
use Rattle.chunk_owner.proofs.LaneLemmas.{none_standing}
use Rattle.chunk_owner.proofs.touching.link_in.Goals as goal

pub returns-then-not-is_own-clause-acts : goal.returns-then-not-is_own-clause-acts
returns-then-not-is_own-clause-acts c =
    changes_foreign c.args.grant.now c.args.place.now.group (link_to c.args.place.now c.args.fresh) (objects_of c.args.slots.now) _ (sym c.is_own.ensures ∙ c.if-not-is_own.true) c.missing.ensures

pub link_absent-requires-clause-absent : goal.link_absent-requires-clause-absent
link_absent-requires-clause-absent c = none_standing c.args.slots.now c.args.place.now.group (sym c.has_object.ensures ∙ c.if-not-has_object.true)

pub link_at-requires-clause-there : goal.link_at-requires-clause-there
link_at-requires-clause-there c = sym c.has_object.ensures ∙ c.if-not-has_object.false

pub returns-clause-acts : goal.returns-clause-acts
returns-clause-acts c =
    changes_there c.args.grant.now c.args.place.now.group (link_to c.args.place.now c.args.fresh) (objects_of c.args.slots.now) (objects_of c.link_at.new.slots) c.link_at.result
    (sym c.is_own.ensures ∙ c.if-not-is_own.false) (ap is_some (get-objects_of c.args.slots.now c.args.place.now.group) ∙ sym c.has_object.ensures ∙ c.if-not-has_object.false) c.link_at.ensures.acts

pub returns-clause-others : goal.returns-clause-others
returns-clause-others c = c.link_at.ensures.others
