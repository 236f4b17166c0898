use Rattle.std.proofs.Common.{is_some, sym, ap, ◌∙◌}
use Rattle.chunk_owner.specs.Slots.Slots.{objects_of}
use Rattle.chunk_owner.proofs.OfSlots.Standing.{get-objects_of, objects-remove}
use Rattle.chunk_owner.proofs.AtIds.{drops_absent, drops_foreign, drops_there, drops_root}
use Rattle.chunk_owner.proofs.LaneLemmas.{none_standing}
use Rattle.chunk_owner.proofs.touching.drop_in.Goals as goal

pub returns-then-not-is_own-clause-reply : goal.returns-then-not-is_own-clause-reply
returns-then-not-is_own-clause-reply c =
    (drops_foreign c.args.grant.now c.args.id.now (objects_of c.args.slots.now) _ (sym c.is_own.ensures ∙ c.if-not-is_own.true) c.missing.ensures).0

pub returns-then-not-is_own-clause-rest : goal.returns-then-not-is_own-clause-rest
returns-then-not-is_own-clause-rest c =
    (drops_foreign c.args.grant.now c.args.id.now (objects_of c.args.slots.now) _ (sym c.is_own.ensures ∙ c.if-not-is_own.true) c.missing.ensures).1

pub returns-then-is_root-clause-reply : goal.returns-then-is_root-clause-reply
returns-then-is_root-clause-reply c =
    (drops_root c.args.grant.now c.args.id.now (objects_of c.args.slots.now) (sym c.is_own.ensures ∙ c.if-not-is_own.false) (sym c.is_root.ensures ∙ c.if-is_root.true)).0

pub returns-then-is_root-clause-rest : goal.returns-then-is_root-clause-rest
returns-then-is_root-clause-rest c =
    (drops_root c.args.grant.now c.args.id.now (objects_of c.args.slots.now) (sym c.is_own.ensures ∙ c.if-not-is_own.false) (sym c.is_root.ensures ∙ c.if-is_root.true)).1

pub returns-then-not-has_object-clause-reply : goal.returns-then-not-has_object-clause-reply
returns-then-not-has_object-clause-reply c =
    (drops_absent c.args.grant.now c.args.id.now (objects_of c.args.slots.now) _ (sym c.is_own.ensures ∙ c.if-not-is_own.false) (sym c.is_root.ensures ∙ c.if-is_root.false)
    (none_standing c.args.slots.now c.args.id.now (sym c.has_object.ensures ∙ c.if-not-has_object.true)) c.missing-then-not-has_object.ensures).0

pub returns-then-not-has_object-clause-rest : goal.returns-then-not-has_object-clause-rest
returns-then-not-has_object-clause-rest c =
    (drops_absent c.args.grant.now c.args.id.now (objects_of c.args.slots.now) _ (sym c.is_own.ensures ∙ c.if-not-is_own.false) (sym c.is_root.ensures ∙ c.if-is_root.false)
    (none_standing c.args.slots.now c.args.id.now (sym c.has_object.ensures ∙ c.if-not-has_object.true)) c.missing-then-not-has_object.ensures).1

pub returns-clause-reply : goal.returns-clause-reply
returns-clause-reply c =
    (drops_there c.args.grant.now c.args.id.now (objects_of c.args.slots.now) (objects_of c.remove.new.slots) _ (sym c.is_own.ensures ∙ c.if-not-is_own.false) (sym c.is_root.ensures ∙ c.if-is_root.false)
    (ap is_some (get-objects_of c.args.slots.now c.args.id.now) ∙ sym c.has_object.ensures ∙ c.if-not-has_object.false)
    (objects-remove c.args.slots.now c.remove.new.slots c.args.id.now c.remove.ensures.gone c.remove.ensures.others) c.done.ensures).0

pub returns-clause-rest : goal.returns-clause-rest
returns-clause-rest c =
    (drops_there c.args.grant.now c.args.id.now (objects_of c.args.slots.now) (objects_of c.remove.new.slots) c.done.result (sym c.is_own.ensures ∙ c.if-not-is_own.false) (sym c.is_root.ensures ∙ c.if-is_root.false)
    (ap is_some (get-objects_of c.args.slots.now c.args.id.now) ∙ sym c.has_object.ensures ∙ c.if-not-has_object.false)
    (objects-remove c.args.slots.now c.remove.new.slots c.args.id.now c.remove.ensures.gone c.remove.ensures.others) c.done.ensures).1

pub returns-clause-others : goal.returns-clause-others
returns-clause-others c = c.remove.ensures.others
