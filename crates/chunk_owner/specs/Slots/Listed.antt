-- Which objects the next cut looks at.
use Rattle.std.specs.Prelude.{◌≡◌, Bool, true, false, ◌||◌, cond, is_some, Option, Some, None}
use Rattle.std.specs.FinMap.{get}
use Rattle.std.specs.declared.cmp.Ordering.TheVariants.{Less}
use Rattle.containers.specs.TextMaps.Nexts.{is_behind}
use Rattle.object_ids.specs.IdOrder.{id_order}
use Rattle.object_ids.specs.IdValues.{Id}
use Rattle.object_ids.specs.Ids.{InRange}
use Rattle.chunk_owner.specs.declared.slots.changes.Changes.{Changes}
use Rattle.chunk_owner.specs.declared.slots.slot.Slot.{Slot}
use Rattle.chunk_owner.specs.Slots.Slots.{IsSpelledSlot, IsStillSlot, Slots}

-- it is one of those that are listed, or all are looked at
abbrev pub is_listed : Changes → Id → Bool
is_listed c id = c.all || is_some (get c.listed id)

-- nothing changed of what isn't
abbrev pub AreListed : Changes → Slots → Type 0
AreListed c slots = (id : Id) → is_listed c id ≡ false → IsStillSlot (get slots id)

-- none is taken off the list
abbrev pub KeepsListed : Changes → Changes → Type 0
KeepsListed old new = (id : Id) → is_listed old id ≡ true → is_listed new id ≡ true

-- ---- an object is noted

-- what changed at an id is listed, and can be spelled
pub record IsNoted (c : Changes) (id : Id) (o : Option Slot) : Type 0 where
  pub still : is_listed c id ≡ false → IsStillSlot o
  pub spelled : IsSpelledSlot o

pub record Notes (id : Id) (slots : Slots) (old new : Changes) : Type 0 where
  pub range : InRange id
  pub here : IsNoted new id (get slots id)
  pub more : KeepsListed old new

-- so it is at the id that a step touched, where it touched one
abbrev pub NotesTouched : Option Id → Slots → Changes → Changes → Type 0
NotesTouched None slots old new = KeepsListed old new
NotesTouched (Some id) slots old new = Notes id slots old new

-- ---- a walk over those that are looked at

-- nothing that changed stands between an id and the next one that is looked at, if any is
abbrev pub IsNextLook : Slots → Option Id → Option Id → Type 0
IsNextLook slots last None = (q : Id) → is_behind id_order last q ≡ true → IsStillSlot (get slots q)
IsNextLook slots last (Some id) = (is_behind id_order last id ≡ true) × ((q : Id) → is_behind id_order last q ≡ true → id_order q id ≡ Less → IsStillSlot (get slots q))

-- a listed one, or one that has a slot where all are looked at
abbrev pub is_looked_at : Changes → Slots → Id → Bool
is_looked_at c slots id = cond c.all (is_some (get slots id)) (is_some (get c.listed id))
