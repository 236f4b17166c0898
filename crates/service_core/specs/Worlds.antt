-- How a world is built from its parts.
use Rattle.std.specs.Prelude.{◌≡◌, ℕ, List, length, Option, Some, None, if◌then◌else◌}
use Rattle.std.specs.FinMap.{empty, get, insert}
use Rattle.std.specs.Ordering.{is_lt}
use Rattle.object_ids.specs.IdOrder.{id_order}
use Rattle.object_ids.specs.IdValues.{Id}
use Rattle.object_ids.specs.declared.ids.Kind.{Kind}
use Rattle.object_acts.specs.declared.objects.Object.{Object}
use Rattle.chunk_owner.specs.Lanes.{Lane}
use Rattle.register.specs.Decided.{RegisterState}
use Rattle.chunk_owner.specs.Owners.Joined.{AreLanes, whole}
use Rattle.chunk_owner.specs.Owners.Records.{AreUndropped, LanesSay}
use Rattle.service_core.specs.Steps.{AreGiven, IsGiven, World}

-- the register, and the owners of all lanes with what the next cut writes of their objects
pub record State : Type 0 where
  pub register : RegisterState
  pub lanes : List Lane

-- the world as requests see it
abbrev pub seen : State → World
seen s = record { register = s.register; objects = whole s.lanes }

-- the owners of some lanes, one after another, and how many there is room for
pub record OwnerList : Type 0 where
  pub owners : List Lane
  pub room : ℕ

-- each of them, and no room for more
abbrev pub full_of : List Lane → OwnerList
full_of owners = record { owners = owners; room = length owners }

-- one owner for each lane, in order, and all that they hold was given
pub record IsBuilt (register : RegisterState) (owners : List Lane) : Type 0 where
  pub count : length owners ≡ length register.issued
  pub lanes : AreLanes (length owners) 0 owners
  pub given : AreGiven register (whole owners)

-- an owner for each of so many lanes, without objects, of which nothing is held and none was removed
pub record IsNew (many : ℕ) (owners : List Lane) : Type 0 where
  pub count : length owners ≡ many
  pub lanes : AreLanes many 0 owners
  pub says : LanesSay owners empty
  pub undropped : AreUndropped owners
  pub empty : whole owners ≡ empty

-- an id of a kind, of the domain of a number, that was given and has no object
pub record IsFreshId (k : Kind) (number : ℕ) (w : World) (id : Id) : Type 0 where
  pub kind : id.kind ≡ k
  pub domain : id.domain ≡ number
  pub given : IsGiven w.register id
  pub free : get w.objects id ≡ None

-- a world with another register
abbrev pub with_register : State → RegisterState → State
with_register s register = record s { register = register }

-- a world with an object at an id
abbrev pub with_object : World → Id → Object → World
with_object w id object = record w { objects = insert w.objects id object }

-- the lesser of two ids, where there are two
abbrev pub lesser : Option Id → Option Id → Option Id
lesser None other = other
lesser (Some first) None = Some first
lesser (Some first) (Some second) = if is_lt (id_order second first) then Some second else Some first
