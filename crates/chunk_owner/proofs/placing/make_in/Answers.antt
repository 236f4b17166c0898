use Rattle.std.proofs.Common.{◌≡◌, true, sym, ap, subst, ◌∙◌}
use Rattle.std.specs.FinMap.{insert}
use Rattle.object_ids.specs.declared.ids.Kind.{Kind}
use Rattle.object_ops.specs.declared.replies.Reply.TheVariants.{Done}
use Rattle.object_acts.specs.Objects.{made, unmarked, IsOfKind}
use Rattle.object_records.specs.Keys.Keys.{object_key}
use Rattle.chunk_owner.specs.declared.slots.slot.Mark.TheVariants.{Changed}
use Rattle.chunk_owner.specs.Slots.Slots.{IsMarkedIn, objects_of}
use Rattle.chunk_owner.proofs.OfSlots.Marks.{adds_more}
use Rattle.chunk_owner.proofs.OfSlots.Standing.{get-objects_of, objects-insert}
use Rattle.chunk_owner.proofs.AtIds.{object_tree-unmarked}
use Rattle.chunk_owner.proofs.MarkLemmas.{new_mark}
use Rattle.chunk_owner.proofs.placing.make_in.Goals as goal
use Rattle.object_ops.specs.Replies.{was_done}

pub put-requires-clause-new : goal.put-requires-clause-new
put-requires-clause-new c = sym (get-objects_of c.args.slots.now c.args.id) ∙ c.requires.new

pub put-requires-clause-kind : goal.put-requires-clause-kind
put-requires-clause-kind c = subst (λ (k : Kind). IsOfKind k c.in_ok-object.object) (sym c.requires.kind) c.in_ok-object.ensures.kind

pub returns-in_err-put-clause-others : goal.returns-in_err-put-clause-others
returns-in_err-put-clause-others c = c.in_err-put.ensures.others

pub returns-clause-acts : goal.returns-clause-acts
returns-clause-acts c = (
  c.with.ensures ∙ ap (Done 201) (c.in_ok-tree.ensures ∙ object_tree-unmarked c.args.id c.args.root.now c.in_ok-object.object (made c.args.make.now) c.in_ok-object.ensures.made),
  objects-insert c.args.slots.now c.put.new.slots c.args.id (unmarked c.in_ok-object.object) c.in_ok-put.ensures.there c.in_ok-put.ensures.others
      ∙ ap (insert (objects_of c.args.slots.now) c.args.id) c.in_ok-object.ensures.made,
)

pub returns-clause-others : goal.returns-clause-others
returns-clause-others c = c.in_ok-put.ensures.others

pub returns-clause-alone : goal.returns-clause-alone
returns-clause-alone c =
    let new = c.in_ok-object.object in
    adds_more (IsMarkedIn c.args.id Changed new.body) c.args.slots.now c.put.new.slots (λ key. (was_done c.with.result ≡ true) × (key ≡ object_key c.args.id))
    (λ key marked. (ap was_done c.with.ensures, new_mark c.args.id new.body key c.in_ok-object.ensures.still marked)) c.in_ok-put.ensures.alone
