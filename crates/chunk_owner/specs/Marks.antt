-- What a step marks for the next cut.
use Rattle.std.specs.Prelude.{◌≡◌, ℕ, false, List, Option, Some, None}
use Rattle.std.specs.FinMap.{get}
use Rattle.object_ids.specs.IdValues.{Id}
use Rattle.object_ops.specs.declared.ops.Op.{Op}
use Rattle.object_ops.specs.declared.ops.Op.TheVariants.{DropObject}
use Rattle.object_ops.specs.declared.grants.Grant.{Grant}
use Rattle.object_ops.specs.declared.grants.Step.{Step}
use Rattle.object_acts.specs.declared.objects.Object.{Object}
use Rattle.object_acts.specs.Acts.{reads_object}
use Rattle.object_records.specs.Keys.Keys.{object_key}
use Rattle.chunk_owner.specs.declared.slots.slot.Slot.{Slot}
use Rattle.chunk_owner.specs.Slots.Marking.{IsOutdated, IsToDrop}
use Rattle.chunk_owner.specs.Slots.Slots.{Slots, object_of}
use Rattle.chunk_owner.specs.Acts.{touched}

-- the key is the one of the object at an id, where there is an id
abbrev pub IsKeyOf : Option Id → List ℕ → Type 0
IsKeyOf None key = ⊥
IsKeyOf (Some id) key = key ≡ object_key id

-- the key is that of what changes of the object that stands; a root that wasn't held, or what is made, has no chunks that changed
abbrev pub IsChangeMark : Id → Op → Option Object → List ℕ → Type 0
IsChangeMark id op None key = key ≡ object_key id
IsChangeMark id op (Some o) key = IsOutdated id op o.body key

-- what is removed is marked whole, with its chunks
abbrev pub IsMarkAt : Id → Op → Option Slot → List ℕ → Type 0
IsMarkAt id (DropObject at) slot key = IsToDrop id slot key
IsMarkAt id op slot key = IsChangeMark id op (object_of slot) key

-- the step doesn't just read, and the key is that of what changes of the object that it touches
pub record IsStepMark (g : Grant) (op : Op) (s : Step) (slots : Slots) (key : List ℕ) : Type 0 where
  pub id : Id
  pub at : touched g op s ≡ Some id
  pub changes : reads_object op ≡ false
  pub part : IsMarkAt id op (get slots id) key
