-- What the workers of a hall have done, from the world with which it began to that in which it ended.
--     IsServed ..         one legal history, with each door's entries in order
--     IsClosed met ..     so over a journal's desk, with the flush behind the last worker's end
--     HasServed met ..    what was left of a hall that was to be served
use Rattle.std.specs.Prelude.{◌≡◌, ℕ, ◌+◌, ◌<◌, List, [], length, Some, IfOk, OnOk, slice_get}
use Rattle.std.specs.declared.snapshot.Snapshot.{Snapshot}
use Rattle.access_lists.specs.Tokens.Bearer.{TokenTable}
use Rattle.edge_traits.specs.declared.disk.Disk.{Ghosts as Disks}
use Rattle.flush_journal.specs.declared.journal.Journal.{Journal}
use Rattle.service_core.specs.Worlds.{State}
use Rattle.lane_histories.specs.Histories.{StartsWith, own, places}
use Rattle.lane_histories.specs.declared.items.Keeping.{Keeping}
use Rattle.hall.specs.Answers.{ArrayStart, ArrayView}
use Rattle.hall.specs.ArrayMachines.{lanes_in}
use Rattle.hall.specs.DeskTurns.{HasFlushed}
use Rattle.hall.specs.Passes.{HasEnded, IsDeskAtEnd}
use Rattle.hall.specs.declared.desk.AtDesk.{Ghosts}
use Rattle.hall.specs.declared.journal.JournalDesk.{JournalDesk}
use Rattle.rest_session.specs.declared.halls.closed.ClosedHall.{ClosedHall}
use Rattle.rest_session.specs.declared.halls.closed.HallOutcome.{HallOutcome}
use Rattle.rest_session.specs.declared.halls.closed.HallOutcome.TheVariants.{NoWorkers, NoHall, Closed}
use Rattle.rest_session.specs.declared.halls.hiring.Report.{Report}
use Rattle.rest_session.specs.Halls.Accounts.{told_by, unasked}
use Rattle.rest_session.specs.Halls.Visits.{Telling, Works}

-- There is one legal history from the opening world, which it leaves as the closing one, and `front` is its number of entries. Those
-- of the worker at the door i, which has the number i + 1, are in order those of its links, each answered as the history tells; and
-- there is no other: the first pass has the number 0, and the worker that flushes the one behind the doors'. Each worker has seen the
-- first of the history's keepings, and the desk is what the history has made of it.
pub record IsServed {F L D K : Type 0} (desks : Ghosts D K) (tells : Telling F L) (tokens : TokenTable) (links : ℕ) (opening closing : State)
    (front : ℕ) (desk : D) (doors now : List F) (reports : List Report) : Type 0 where
  pub start : ArrayStart K
  pub register : start.register ≡ opening.register
  pub owners : start.owners ≡ opening.lanes
  pub last : ArrayView K
  pub ended : HasEnded start last closing
  pub desk_is : IsDeskAtEnd desks start ended.seen desk
  pub told : front ≡ places ended.seen.register
  pub none_of_the_first : own 0 ended.seen.register ≡ []
  pub none_of_others : (x : ℕ) → length doors < x → own x ended.seen.register ≡ []
  pub as_many : length now ≡ length doors
  pub one_each : length reports ≡ length doors
  pub each : (i : ℕ) (door after : F) (report : Report)
      → slice_get doors i ≡ Some door → slice_get now i ≡ Some after → slice_get reports i ≡ Some report
      → (below : ℕ) × (keepings : List Keeping) × StartsWith ended.seen.keepings keepings
      × Works tells links door after report.ends.items (unasked tokens)
      (record { tokens = tokens; told = told_by (lanes_in start) (i + 1) ended.seen; front = below; keepings = keepings }) report.door_failed

-- The hall began with this journal. Behind the last worker's end the first pass flushed; where that was answered Ok, all is kept.
pub record IsClosed {F L D : Type 0} (met : Disks D) (desks : Ghosts (JournalDesk D met) (Snapshot (Journal D met))) (tells : Telling F L) (tokens : TokenTable) (links : ℕ)
    (journal : Journal D met) (first : State) (closed : ClosedHall D met) (doors now : List F) : Type 0 where
  pub served : IsServed desks tells tokens links first closed.world closed.front closed.desk doors now closed.reports.items
  pub over : served.start.desk.value ≡ journal
  pub front : closed.front ≡ closed.world.register.places
  pub before : ArrayView (Snapshot (Journal D met))
  pub flushed : HasFlushed met served.start closed.last before served.last
  pub number : IfOk closed.last (λ n. n ≡ closed.front)
  pub kept : closed.kept ≡ closed.desk.desk.kept.c
  pub all : OnOk closed.last (closed.kept ≡ closed.front)

-- without memory nothing was asked of a door
abbrev pub HasServed : {F L D : Type 0} (met : Disks D) → Ghosts (JournalDesk D met) (Snapshot (Journal D met)) → Telling F L → TokenTable → ℕ → Journal D met → State
    → List F → List F → HallOutcome D met → Type 0
HasServed met desks tells tokens links journal first doors now (NoWorkers left) = (left ≡ journal) × (now ≡ doors)
HasServed met desks tells tokens links journal first doors now NoHall = now ≡ doors
HasServed met desks tells tokens links journal first doors now (Closed closed) = IsClosed met desks tells tokens links journal first closed doors now
