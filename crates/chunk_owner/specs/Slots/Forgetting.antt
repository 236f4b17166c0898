-- The objects of one kind in a domain, whose ids stand one behind another; for private clauses.
use Rattle.std.specs.Prelude.{◌≡◌, ◌≢◌, ℕ, true, List, Option, Some, None, IsSome}
use Rattle.std.specs.FinMap.{get}
use Rattle.std.specs.declared.cmp.Ordering.TheVariants.{Less}
use Rattle.containers.specs.TextMaps.Nexts.{is_behind}
use Rattle.object_ids.specs.IdOrder.{id_order}
use Rattle.object_ids.specs.IdValues.{Id}
use Rattle.object_ids.specs.declared.ids.Kind.{Kind}
use Rattle.chunk_owner.specs.declared.slots.slot.Slot.{Slot}
use Rattle.chunk_owner.specs.Slots.Marking.{IsToDrop}
use Rattle.chunk_owner.specs.Slots.Slots.{Slots, object_of}

-- the objects of a kind in a domain are gone, and all other slots stay
pub record ForgetsKind (kind : Kind) (number : ℕ) (old new : Slots) : Type 0 where
  pub gone : (id : Id) → id.kind ≡ kind → id.domain ≡ number → object_of (get new id) ≡ None
  pub others : (id : Id) → (id.kind ≡ kind → id.domain ≢ number) → get new id ≡ get old id

abbrev pub IsToForgetIn : Kind → ℕ → (Id → Option Slot) → List ℕ → Type 0
IsToForgetIn kind number at key = (id : Id) × (id.kind ≡ kind) × (id.domain ≡ number) × IsToDrop id (at id) key

-- the least id behind one, where it is of the kind of that one; where there is none, no id behind it is of that kind and of the domain
abbrev pub IsNextIn : ℕ → Slots → Id → Option Id → Type 0
IsNextIn number slots after None = (q : Id) → is_behind id_order (Some after) q ≡ true → q.kind ≡ after.kind
    → q.domain ≡ number → get slots q ≡ None
IsNextIn number slots after (Some id) = (is_behind id_order (Some after) id ≡ true) × IsSome (get slots id) × (id.kind ≡ after.kind)
    × ((q : Id) → is_behind id_order (Some after) q ≡ true → id_order q id ≡ Less → get slots q ≡ None)
