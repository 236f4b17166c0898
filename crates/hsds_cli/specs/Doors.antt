-- The doors of a run, before it and after.
--     SomeDoorFailed doors      the count of faults of one rose
--     IsAskedOut links tells door after      it gave all that it told, or so many links
--     AreAskedOut links doors      each did
use Rattle.std.specs.Prelude.{◌≡◌, ◌⊎◌, ℕ, List, length, Some, slice_get}
use Rattle.edge_traits.specs.Causes.{Rose}
use Rattle.edge_traits.specs.declared.door.Door as door
use Rattle.edge_traits.specs.declared.sink.Sink as sink
use Rattle.edge_traits.specs.declared.source.Source as source
use Rattle.rest_session.specs.Halls.Visits.{IsAllOf, LosesFront, Telling, telling}

-- what doors tell, and the doors, in order
pub record Doors (F L : Type 0) : Type 0 where
  pub tells : Telling F L
  pub before : List F
  pub after : List F

-- of doors and of the two ends of their links
abbrev pub doors_of : {F L : Type 0} → door.Ghosts F L → source.Ghosts L → sink.Ghosts L → List F → List F → Doors F L
doors_of d r w before after = record { tells = telling d r w; before = before; after = after }

module _ {F L : Type 0} (doors : Doors F L) where
  -- this is a door, and how it came back
  abbrev pub IsDoorAt : ℕ → F → F → Type 0
  IsDoorAt i door after = (slice_get doors.before i ≡ Some door) × (slice_get doors.after i ≡ Some after)

  abbrev pub HasFailed : F → F → Type 0
  HasFailed door after = Rose (doors.tells.faults door) (doors.tells.faults after)

  abbrev pub SomeDoorFailed : Type 0
  SomeDoorFailed = (i : ℕ) × (door : F) × (after : F) × IsDoorAt i door after × HasFailed door after

-- the links that a door gave are so many, or all that it told
pub record IsAskedOut {F L : Type 0} (links : ℕ) (tells : Telling F L) (door after : F) : Type 0 where
  pub given : List L
  pub taken : LosesFront (tells.left door) (tells.left after) given
  pub all : (length given ≡ links) ⊎ IsAllOf (tells.left door) given

abbrev pub AreAskedOut : {F L : Type 0} → ℕ → Doors F L → Type 0
AreAskedOut {F} links doors = (i : ℕ) (door after : F) → IsDoorAt doors i door after → IsAskedOut links doors.tells door after

-- each whose count of faults stayed
abbrev pub AreAskedUnlessFailed : {F L : Type 0} → ℕ → Doors F L → Type 0
AreAskedUnlessFailed {F} links doors =
    (i : ℕ) (door after : F) → IsDoorAt doors i door after → (HasFailed doors door after → ⊥) → IsAskedOut links doors.tells door after
