use Rattle.std.proofs.Common.{Option, Some, None, sym, subst, ◌∙◌}
use Rattle.std.specs.Option.{option_copied}
use Rattle.containers.specs.TextMaps.Nexts.{IsNext}
use Rattle.object_ids.specs.IdValues.{Id}
use Rattle.chunk_owner.proofs.OfSlots.Standing.{passed_all, passed_found, passed_more}
use Rattle.chunk_owner.proofs.slots.standing.next_id.Goals as goal

pub returns-then-has_object : goal.returns-then-has_object
returns-then-has_object c =
    passed_found c.args.slots.now (option_copied c.args.after) c.loop-id.at c.loop-id.invariant c.in-Some.id
    (subst (λ (after : Option Id). IsNext c.args.slots.now after (Some c.in-Some.id)) c.as_ref.ensures.value c.in-Some.ensures.least) (sym c.has_object.ensures ∙ c.if-has_object.true)

pub loop-id-preserved : goal.loop-id-preserved
loop-id-preserved c =
    passed_more c.args.slots.now (option_copied c.args.after) c.loop-id.at c.loop-id.invariant c.in-Some.id
    (subst (λ (after : Option Id). IsNext c.args.slots.now after (Some c.in-Some.id)) c.as_ref.ensures.value c.in-Some.ensures.least) (sym c.has_object.ensures ∙ c.if-has_object.false)

pub returns : goal.returns
returns c =
    passed_all c.args.slots.now (option_copied c.args.after) c.loop-id.at c.loop-id.invariant
    (subst (λ (after : Option Id). IsNext c.args.slots.now after None) c.as_ref.ensures.value c.in_default.ensures.least)
