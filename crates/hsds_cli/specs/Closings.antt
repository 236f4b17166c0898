-- How links left the world.
--     ends_of ends     the ends of each link of each door, or that of a session's one link
--     of_link closed, of_doors closed     what is told of a session's link, and of doors
--     UsesUpBudget closed     some link had made as many requests as it may
--     HasFailedDoor closed     the door of some worker failed
use Rattle.std.specs.Prelude.{◌≡◌, ℕ, List, [], ◌∷◌, map, true, Option, Some, slice_get}
use Rattle.rest_session.specs.declared.halls.hiring.Report.{Report}
use Rattle.rest_session.specs.declared.kept.outcome.Closed.{Closed as LinkClosed}
use Rattle.rest_session.specs.declared.kept.outcome.ClosedDoors.{ClosedDoors}
use Rattle.rest_session.specs.declared.links.end.LinkEnd.{LinkEnd}
use Rattle.rest_session.specs.declared.links.end.LinkEnd.TheVariants.{Budget}
use Rattle.hsds_cli.specs.declared.closed.Closed.{Closed}
use Rattle.hsds_cli.specs.declared.closed.Ends.{Ends}
use Rattle.hsds_cli.specs.declared.closed.Ends.TheVariants.{Link, Doors}

abbrev pub ends_of : Ends → List (List LinkEnd)
ends_of (Link end) = (end ∷ []) ∷ []
ends_of (Doors reports) = map (λ r. r.ends.items) reports.items

abbrev pub of_link : LinkClosed → Closed
of_link closed = record { front = closed.front; kept = closed.kept; ends = Link closed.end }

abbrev pub of_doors : ClosedDoors → Closed
of_doors closed = record { front = closed.front; kept = closed.kept; ends = Doors closed.reports }

-- ---- what is told of links

abbrev pub SomeBudget : List (List LinkEnd) → Type 0
SomeBudget ends =
    (i : ℕ) × (of_one : List LinkEnd) × (slice_get ends i ≡ Some of_one) × (k : ℕ) × (slice_get of_one k ≡ Some Budget)

abbrev pub UsesUpBudget : Option Closed → Type 0
UsesUpBudget closed = (c : Closed) × (closed ≡ Some c) × SomeBudget (ends_of c.ends)

abbrev pub SomeFailed : Ends → Type 0
SomeFailed (Link end) = ⊥
SomeFailed (Doors reports) = (i : ℕ) × (r : Report) × (slice_get reports.items i ≡ Some r) × (r.door_failed ≡ true)

abbrev pub HasFailedDoor : Option Closed → Type 0
HasFailedDoor closed = (c : Closed) × (closed ≡ Some c) × SomeFailed c.ends
