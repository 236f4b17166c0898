-- Halls, and the passes with which callers ask them.
--     opening h, passes_of h    with what a hall began
--     view_of p          what a pass knows, with all that it has in hand
--     who p              of a pass, what only a split and a join change
--     names_of p         its number, those that it may give away, and those of passes joined to it
--     seen_by p          the lists that it has seen
--     entries_of x p     the entries of a number that it has seen
--     IsNewWorld s       no request came to a world yet, and all of it is kept
--     IsPassOf h p       a pass of a hall, which stands as it began
--     IsIdle p           it holds no number, no ticket and no turn
--     IsFrontOf n p      its entries lie below this place, and so many places it has seen
--     TookIn v w         a pass knows all that another did, and has its names
--     HasBegun ..        a hall over a world, and its first pass
--     HasEnded ..        the world in which a hall ends
--     IsDeskAtEnd ..     and its desk
--     EndedWorldsAreSaid    where nobody cut, what is held of the world with which the hall began says it still
use Rattle.std.specs.Prelude.{◌≡◌, ℕ, ◌<◌, ◌≤◌, ◌⊎◌, Bool, List, [], length, Option, Some, slice_get}
use Rattle.std.specs.List.{AllByRecursion}
use Rattle.atomic_table.specs.Seated.{TableId}
use Rattle.chunk_owner.specs.Lanes.{Lane}
use Rattle.register.specs.declared.verdicts.Verdict.{Verdict}
use Rattle.service_core.specs.Records.{IsKept, WorldStillSays}
use Rattle.service_core.specs.Worlds.{State}
use Rattle.lane_histories.specs.Histories.{IsIn, entries, issued, objects_after, own, places}
use Rattle.lane_histories.specs.Histories.{register_after, register_at, tickets}
use Rattle.lane_histories.specs.Cuts.{register_cut}
use Rattle.lane_histories.specs.KeptContents.{IsAsFar}
use Rattle.lane_histories.specs.declared.items.Answer.TheVariants.{Kept}
use Rattle.lane_histories.specs.declared.items.Keeping.{Keeping}
use Rattle.lane_histories.specs.declared.items.Entry.{Entry}
use Rattle.lane_histories.specs.declared.items.RegisterItem.TheVariants.{Entered}
use Rattle.hall_rule.specs.Rule.{first_view, names}
use Rattle.hall_rule.specs.Seen.{GrowsFrom, GrowsUncut, SeenLists, lane_of, nothing}
use Rattle.hall_rule.specs.Steps.{HasGrown}
use Rattle.hall_rule.specs.Sums.{times}
use Rattle.service_histories.specs.ArrayServices.{Asked, array_service, kept_part}
use Rattle.service_histories.specs.Counts.{IsFreshRegister}
use Rattle.service_histories.specs.Cuttings.{IsOwnerSince, IsRegisterSince}
use Rattle.service_histories.specs.Tellings.{objects_in}
use Rattle.hall.specs.declared.hall.Hall.{Hall}
use Rattle.hall.specs.declared.pass.Pass.{Pass}
use Rattle.hall.specs.Answers.{ArrayLists, ArrayStart, ArrayView}
use Rattle.hall.specs.ArrayMachines.{IsOpened, lanes_in, machines, start_of}
use Rattle.hall.specs.declared.desk.AtDesk.{Ghosts}

-- ---- words for a hall and a pass

abbrev pub opening : {D K : Type 0} → Hall D K → ArrayStart K
opening h = start_of h.table.shared.key

abbrev pub passes_of : {D K : Type 0} → Hall D K → ℕ
passes_of h = h.table.shared.key.passes

abbrev pub view_of : {D K : Type 0} {g : Ghosts D K} → Pass D K g → ArrayView K
view_of p = p.seat.me.0

-- its hall, whether it is in use, its names, and with what the hall began
abbrev pub who : {D K : Type 0} {g : Ghosts D K} → Pass D K g
    → TableId × Bool × ℕ × List ℕ × List ℕ × Option (ArrayStart K)
who p = (
  p.seat.table_id,
  (view_of p).live,
  (view_of p).number,
  (view_of p).spare,
  (view_of p).joined,
  (view_of p).start,
)

abbrev pub names_of : {D K : Type 0} {g : Ghosts D K} → Pass D K g → List ℕ
names_of p = names (view_of p)

abbrev pub seen_by : {D K : Type 0} {g : Ghosts D K} → Pass D K g → ArrayLists
seen_by p = (view_of p).seen

abbrev pub entries_of : {D K : Type 0} {g : Ghosts D K} → ℕ → Pass D K g → List (Entry Asked Verdict)
entries_of x p = own x (seen_by p).register

-- those of its own number
abbrev pub own_entries : {D K : Type 0} {g : Ghosts D K} → Pass D K g → List (Entry Asked Verdict)
own_entries p = entries_of (view_of p).number p

-- ---- what holds of them

-- no place and no ticket was given, and nothing is to be written
pub record IsNewWorld (s : State) : Type 0 where
  pub counts : IsFreshRegister s.register
  pub kept : IsKept s

pub record IsPassOf {D K : Type 0} {g : Ghosts D K} (h : Hall D K) (p : Pass D K g) : Type 0 where
  pub table : p.seat.table_id ≡ h.table.shared.table_id
  pub begun : (view_of p).start ≡ Some (opening h)
  pub opened : IsOpened (opening h)

pub record IsIdle {D K : Type 0} {g : Ghosts D K} (p : Pass D K g) : Type 0 where
  pub claims : (view_of p).claims ≡ []
  pub slots : p.seat.me.1 ≡ []

pub record IsFrontOf {D K : Type 0} {g : Ghosts D K} (front : ℕ) (p : Pass D K g) : Type 0 where
  pub below : (x : ℕ) (e : Entry Asked Verdict) → 0 < times x (names_of p)
      → IsIn (entries_of x p) e → e.place < front
  pub seen : front ≤ places (seen_by p).register

-- what it has seen begins with what the other had seen, and has no more entries of its names
pub record TookIn {K : Type 0} (v w : ArrayView K) : Type 0 where
  pub longer : GrowsFrom v.seen w.seen
  pub has_names : (x : ℕ) → 0 < times x (names w) → 0 < times x (names v)
  pub no_more : (x : ℕ) → 0 < times x (names w) → own x v.seen.register ≡ own x w.seen.register

-- ---- the beginning and the end

-- the hall began with the register and the owners of the world; its first pass has seen nothing,
-- and has all names
pub record HasBegun {D K : Type 0} {g : Ghosts D K} (h : Hall D K) (p : Pass D K g) (s : State) (passes : ℕ)
    : Type 0 where
  pub register : (opening h).register ≡ s.register
  pub owners : (opening h).owners ≡ s.lanes
  pub passes_are : passes_of h ≡ passes
  pub pass : IsPassOf h p
  pub first : view_of p ≡ first_view passes s.lanes (opening h)
  pub front : p.front ≡ 0

-- each change of the register since its last cut that found memory is marked, and so of each owner since its lane's; where there was
-- none, since the hall began
pub record IsSinceCuts {K : Type 0} (start : ArrayStart K) (seen : ArrayLists) (s : State)
    : Type 0 where
  pub register : IsRegisterSince (kept_part (register_at (array_service (lanes_in start))
      (register_cut seen.register) start.register seen.register)) s.register
  pub owners : (l : ℕ) (was now : Lane) → slice_get seen.was l ≡ Some was
      → slice_get s.lanes l ≡ Some now → IsOwnerSince (lanes_in start) l was now

-- There is one legal history, which begins with all that the last pass had seen. The pass has seen
-- each of its entries, each of them is of one of its names, which are the numbers below their count,
-- and each ticket was passed. The world is where that history has brought it, and each change of it
-- since the last cuts is marked.
pub record HasEnded {K : Type 0} (start : ArrayStart K) (v : ArrayView K) (s : State)
    : Type 0 where
  pub seen : SeenLists (array_service (lanes_in start)) Lane
  pub grown : HasGrown (machines {K = K} (lanes_in start)) start v seen
  pub all_seen : entries seen.register ≡ entries v.seen.register
  pub named : (e : Entry Asked Verdict) → IsIn seen.register (Entered e)
      → 0 < times e.by (names v)
  pub strangers : (x : ℕ) → length (names v) ≤ x → own x seen.register ≡ []
  pub all_passed : (l : ℕ) → tickets (lane_of seen.lanes l)
      ≡ issued (array_service (lanes_in start)) l seen.register
  pub register : s.register
      ≡ register_after (array_service (lanes_in start)) start.register seen.register
  pub count : length s.lanes ≡ lanes_in start
  pub owners : (l : ℕ) → l < lanes_in start → (o : Lane) × (slice_get s.lanes l ≡ Some o)
      × (o.objects ≡ objects_after (array_service (lanes_in start)) (objects_in start.owners l)
      (lane_of seen.lanes l))
  pub since : IsSinceCuts start seen s

-- The desk is one that a hall which began so may have made of its own: the lists of its note begin
-- the history, and behind them nobody cut. No keeping reaches farther than the desk, and each that
-- was answered Ok is in the note or is the desk's last. They are what a desk that went on from the
-- first one to this one may have told.
pub record IsDeskAtEnd {D K : Type 0} (met : Ghosts D K) (start : ArrayStart K) (seen : ArrayLists)
    (desk : D) : Type 0 where
  pub since : met.IsSince desk start
  pub uncut : GrowsUncut seen (met.note desk start.owners)
  pub far : AllByRecursion (λ k. IsAsFar k.own (met.reach desk)) seen.keepings
  pub told : met.HasTold desk start.desk seen.keepings
  pub kept : (k : Keeping) → IsIn seen.keepings k → k.answer ≡ Kept
      → IsIn (met.note desk start.owners).keepings k
      ⊎ ((k.own ≡ met.reach desk) × (k.moment ≡ met.moment desk))

-- the hall began with a world to which no request had come
abbrev pub EndedWorldsAreSaid : Type 0 → Type 0
EndedWorldsAreSaid K =
    (start : ArrayStart K) (v : ArrayView K) (first last : State) → start.register ≡ first.register
    → start.owners ≡ first.lanes → IsNewWorld first → (e : HasEnded start v last)
    → GrowsUncut e.seen (nothing start.owners) → WorldStillSays first last
