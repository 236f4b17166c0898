use Rattle.std.proofs.Common.{refl, sym, ◌∙◌}
use Rattle.object_acts.specs.Objects.{unmarked}
use Rattle.chunk_owner.specs.Slots.Slots.{objects_of}
use Rattle.chunk_owner.proofs.OfSlots.Standing.{get-objects_of, objects-insert}
use Rattle.chunk_owner.proofs.AtIds.{puts_done, puts_refused}
use Rattle.chunk_owner.proofs.placing.put_done.Goals as goal

pub returns-then-not-is_done-clause-acts : goal.returns-then-not-is_done-clause-acts
returns-then-not-is_done-clause-acts c = (
  refl,
  puts_refused (objects_of c.args.slots.now) c.args.id (unmarked c.args.object) c.args.reply c.requires.absent (sym c.is_done.ensures ∙ c.if-not-is_done.true),
)

pub put-requires-clause-new : goal.put-requires-clause-new
put-requires-clause-new c = sym (get-objects_of c.args.slots.now c.args.id) ∙ c.requires.absent

pub returns-in_err-put-clause-others : goal.returns-in_err-put-clause-others
returns-in_err-put-clause-others c = c.in_err-put.ensures.others

pub returns-clause-acts : goal.returns-clause-acts
returns-clause-acts c = (
  refl,
  puts_done (objects_of c.args.slots.now) (objects_of c.put.new.slots) c.args.id (unmarked c.args.object) c.args.reply
      (objects-insert c.args.slots.now c.put.new.slots c.args.id (unmarked c.args.object) c.in_ok-put.ensures.there c.in_ok-put.ensures.others) (sym c.is_done.ensures ∙ c.if-not-is_done.false),
)

pub returns-clause-others : goal.returns-clause-others
returns-clause-others c = c.in_ok-put.ensures.others
