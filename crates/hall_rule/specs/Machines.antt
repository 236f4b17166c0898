-- The machines of a hall, as the rule sees them.
--     Machines          what of the service the register, an owner and the desk are
--     HallMachines      with their types
--     world_of m start  the world with which the hall begins
use Rattle.std.specs.Prelude.{ℕ, zero, suc, List, [], ◌∷◌, Option}
use Rattle.lane_histories.specs.Histories.{LaneList}
use Rattle.lane_histories.specs.Services.{Service, World}
use Rattle.lane_histories.specs.declared.items.Keeping.{Keeping}
use Rattle.lane_histories.specs.declared.items.Reach.{Reach}
use Rattle.hall_rule.specs.declared.view.Start.{Start}
use Rattle.hall_rule.specs.Seen.{SeenLists}

-- of a register M, owners N of the lanes' objects, and a desk P, which is known by its E
pub record Machines (service : Service) (M N P E : Type 0) : Type 1 where
  pub register : M → service.Register
  pub owner : N → service.Objects
  -- what a lane has that isn't there
  pub no_objects : service.Objects
  -- all that changed since its catalogue was this is marked; and by these items of its lane since its owner was so
  pub RegisterIsSince : M → service.Catalogue → Type 0
  pub OwnerIsSince : N → ℕ → LaneList service → N → Type 0
  -- the desk is what a hall that began with one that is known by this may have made of it
  pub DeskIsSince : P → E → Type 0
  -- the lists in the desk's note, and the register and the owners from which they go
  pub note : P → SeenLists service N
  pub noted_register : P → M
  pub noted_owners : P → List N
  -- the keeping of a turn that isn't in its list yet
  pub news : P → Option Keeping
  -- how far what its disk holds reaches, and the disk's moment when that was reached
  pub reach : P → Reach
  pub moment : P → ℕ
  -- a desk that is known by this may have come to be this one by turns that added these keepings
  pub HasTold : P → E → List Keeping → Type 0

-- with their types
pub record HallMachines (service : Service) : Type 1 where
  pub Register : Type 0
  pub Owner : Type 0
  pub Desk : Type 0
  pub KnownBy : Type 0
  pub machines : Machines service Register Owner Desk KnownBy

module _ {service : Service} {M N P E : Type 0} (m : Machines service M N P E) where
  abbrev pub objects_in : List N → ℕ → service.Objects
  objects_in [] lane = m.no_objects
  objects_in (o ∷ os) zero = m.owner o
  objects_in (o ∷ os) (suc lane) = objects_in os lane

  abbrev pub world_of : Start M N E → World service
  world_of start = record {
    register = m.register start.register;
    objects = objects_in
        start.owners;
  }
