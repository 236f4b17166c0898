-- The history of a register and its lanes: three kinds of list.
--     RegisterItem     a request with its verdict at its place, a drawn cut or a register cut
--     LaneItem         a ticket that was passed, and what came of it
--     Keeping          a turn of the journal
--     Ticket           what a ticket of a lane stands for; its number is its index in `issued`
--     issued s l items             the tickets of lane l, in order of issue
--     register_at s n d items      the register after the first n entries
--     objects_after s o items      the objects of a lane after some items
use Rattle.std.specs.Prelude.{◌≡◌, ℕ, zero, suc, List, [], ◌∷◌, ◌++◌, if◌then◌else◌, ◌==◌, nat_lt, ◌⊎◌}
use Rattle.std.specs.List.{filter}
use Rattle.lane_histories.specs.Services.{Service, Turns, no_turn, one_turn, two_turns, each_lane}
pub use Rattle.lane_histories.specs.declared.items.Entry.{Entry}
pub use Rattle.lane_histories.specs.declared.items.RegisterItem.{RegisterItem}
pub use Rattle.lane_histories.specs.declared.items.RegisterItem.TheVariants.{Entered, DrawnCut, RegisterCut}
pub use Rattle.lane_histories.specs.declared.items.Part.{Part}
pub use Rattle.lane_histories.specs.declared.items.Part.TheVariants.{Only, First, Second}
pub use Rattle.lane_histories.specs.declared.items.Outcome.{Outcome}
pub use Rattle.lane_histories.specs.declared.items.Outcome.TheVariants.{Done, Short, Skipped}
pub use Rattle.lane_histories.specs.declared.items.LaneItem.{LaneItem}
pub use Rattle.lane_histories.specs.declared.items.LaneItem.TheVariants.{Passed, WasCut}
pub use Rattle.lane_histories.specs.declared.items.Reach.{Reach}
pub use Rattle.lane_histories.specs.declared.items.Keeping.{Keeping}

-- ---- the lists

-- a part of a place's entry; or a drawn cut, by its number and the number of places at it
pub data Ticket (T : Type 0) : Type 0 where
  part_of : ℕ → Part → T → Ticket T
  cut_of : ℕ → ℕ → Ticket T

abbrev pub ticket_of : {T R : Type 0} → LaneItem T R → Ticket T
ticket_of (Passed place part task outcome) = part_of place part task
ticket_of (WasCut number c found) = cut_of number c

abbrev pub RegisterList : Service → Type 0
RegisterList s = List (RegisterItem s.Asked s.Verdict)

abbrev pub LaneList : Service → Type 0
LaneList s = List (LaneItem s.Task s.Reply)

abbrev pub TicketList : Service → Type 0
TicketList s = List (Ticket s.Task)

pub record History (s : Service) : Type 0 where
  pub register : RegisterList s
  pub lane : ℕ → LaneList s
  pub keepings : List Keeping

-- ---- any lists

-- the element is in the list
abbrev pub IsIn : {X : Type 0} → List X → X → Type 0
IsIn [] x = ⊥
IsIn (y ∷ ys) x = (y ≡ x) ⊎ IsIn ys x

abbrev pub StartsWith : {X : Type 0} → List X → List X → Type 0
StartsWith {X} xs front = (more : List X) × (xs ≡ front ++ more)

-- the function with another value at one argument
abbrev pub changed_at : {X : Type 0} → ℕ → X → (ℕ → X) → ℕ → X
changed_at l x f m = if l == m then x else f m

-- ---- the register's list

abbrev pub entries : {Q V : Type 0} → List (RegisterItem Q V) → List (Entry Q V)
entries [] = []
entries (Entered e ∷ items) = e ∷ entries items
entries (DrawnCut number c ∷ items) = entries items
entries (RegisterCut p found ∷ items) = entries items

-- the entries of one pass
abbrev pub own : {Q V : Type 0} → ℕ → List (RegisterItem Q V) → List (Entry Q V)
own by items = filter (λ e. e.by == by) (entries items)

-- how many places were given, and how many cuts were drawn
abbrev pub places : {Q V : Type 0} → List (RegisterItem Q V) → ℕ
places [] = 0
places (Entered e ∷ items) = suc (places items)
places (DrawnCut number c ∷ items) = places items
places (RegisterCut p found ∷ items) = places items

abbrev pub drawn : {Q V : Type 0} → List (RegisterItem Q V) → ℕ
drawn [] = 0
drawn (Entered e ∷ items) = drawn items
drawn (DrawnCut number c ∷ items) = suc (drawn items)
drawn (RegisterCut p found ∷ items) = drawn items

-- one item on
abbrev pub register_step : (s : Service) → s.Register → RegisterItem s.Asked s.Verdict → s.Register
register_step s d (Entered e) = s.decided d e.asked e.verdict
register_step s d (DrawnCut number c) = s.drawn d
register_step s d (RegisterCut p found) = s.recorded found d

abbrev pub register_after : (s : Service) → s.Register → RegisterList s → s.Register
register_after s d [] = d
register_after s d (i ∷ items) = register_after s (register_step s d i) items

-- behind its first n entries, and the cuts that follow on them
abbrev pub register_at : (s : Service) → ℕ → s.Register → RegisterList s → s.Register
register_at s n d [] = d
register_at s n d (DrawnCut number c ∷ items) = register_at s n (s.drawn d) items
register_at s n d (RegisterCut p found ∷ items) = register_at s n (s.recorded found d) items
register_at s zero d (Entered e ∷ items) = d
register_at s (suc n) d (Entered e ∷ items) = register_at s n (s.decided d e.asked e.verdict) items

-- ---- tickets

abbrev pub tickets : {T R : Type 0} → List (LaneItem T R) → List (Ticket T)
tickets [] = []
tickets (i ∷ is) = ticket_of i ∷ tickets is

abbrev pub in_lane : {X : Type 0} → ℕ → ℕ → X → List X
in_lane lane other x = if other == lane then x ∷ [] else []

-- one in each of so many lanes
abbrev pub in_each : {X : Type 0} → ℕ → ℕ → X → List X
in_each lanes lane x = if nat_lt lane lanes then x ∷ [] else []

-- the tickets of a lane that the turns of a place get
abbrev pub tickets_for : (s : Service) → ℕ → ℕ → Turns s.Task → TicketList s
tickets_for s lane place no_turn = []
tickets_for s lane place (one_turn a task) = in_lane lane a (part_of place Only task)
tickets_for s lane place (two_turns a task b next) = in_lane lane a (part_of place First task) ++ in_lane lane b (part_of place (Second a) next)
tickets_for s lane place (each_lane task) = in_each s.lanes lane (part_of place Only task)

abbrev pub tickets_of : (s : Service) → ℕ → RegisterItem s.Asked s.Verdict → TicketList s
tickets_of s lane (Entered e) = tickets_for s lane e.place (s.turns e.asked e.verdict)
tickets_of s lane (DrawnCut number c) = in_each s.lanes lane (cut_of number c)
tickets_of s lane (RegisterCut p found) = []

abbrev pub issued : (s : Service) → ℕ → RegisterList s → TicketList s
issued s lane [] = []
issued s lane (i ∷ items) = tickets_of s lane i ++ issued s lane items

-- ---- the objects of a lane

-- what an outcome leaves of the objects
abbrev pub objects_left : (s : Service) → s.Task → Outcome s.Reply → s.Objects → s.Objects
objects_left s task (Done reply) o = (s.acted task o).1
objects_left s task Short o = o
objects_left s task Skipped o = o

abbrev pub objects_step : (s : Service) → s.Objects → LaneItem s.Task s.Reply → s.Objects
objects_step s o (Passed place part task outcome) = objects_left s task outcome o
objects_step s o (WasCut number c found) = o

abbrev pub objects_after : (s : Service) → s.Objects → LaneList s → s.Objects
objects_after s o [] = o
objects_after s o (i ∷ items) = objects_after s (objects_step s o i) items
