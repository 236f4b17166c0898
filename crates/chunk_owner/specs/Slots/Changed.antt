-- What a change does to an object, and when its record no longer tells it.
use Rattle.std.specs.Prelude.{◌≡◌, Bool, true, false, not, ◌&&◌, if◌then◌else◌, Some, Result}
use Rattle.std.specs.FinMap.{FinMap, get, insert}
use Rattle.object_ids.specs.IdOrder.{id_order}
use Rattle.object_ids.specs.IdValues.{Id}
use Rattle.object_acts.specs.declared.objects.Object.{Object}
use Rattle.object_ops.specs.Replies.{Follows, was_done}
use Rattle.object_ops.specs.declared.ops.Op.{Op}
use Rattle.object_ops.specs.declared.ops.Op.TheVariants.{PutValue}
use Rattle.object_ops.specs.declared.replies.Reply.{Reply}
use Rattle.chunk_owner.specs.declared.slots.slot.Mark.{Mark}
use Rattle.chunk_owner.specs.declared.slots.slot.Mark.TheVariants.{Changed}

-- cells have records of their own
abbrev pub writes_cells : Op → Bool
writes_cells (PutValue id part value) = true
writes_cells op = false

-- what is refused leaves the object, and a write leaves all but the cells
abbrev pub is_outdated : Op → Reply → Bool
is_outdated op reply = was_done reply && not (writes_cells op)

abbrev pub mark_after : Mark → Bool → Mark
mark_after mark outdated = if outdated then Changed else mark

-- the object of an id is changed, and all others stay
abbrev pub ChangesAt : {E : Type 0} → Id → (Object → Reply × Object) → FinMap id_order Object → Result Reply E → FinMap id_order Object → Type 0
ChangesAt id f old result new = (o : Object) → get old id ≡ Some o → (left : Object) × (new ≡ insert old id left) × Follows (f o) o result left
