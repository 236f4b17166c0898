-- What doors come to that are served over a disk.
--     BeginsRun before journal first      a run of the world that a disk kept began
--     IsKeptWith first seen reach image   an image holds a world that is kept from a history, with these numbers
--     IsKeptFrom first seen own image     with numbers that are at least these
--     LeavesKept first seen ..            so does whatever a crash leaves of a run
--     AreDoorsKept ..                     doors were served over a hall, and what was acknowledged was kept
--     HaveEnded before after .. outcome   what they came to
use Rattle.std.specs.Prelude.{◌≡◌, ◌≤◌, ℕ, length, List, Option, None, IsSomeAnd, IfSome, Result, Err}
use Rattle.std.specs.declared.snapshot.Snapshot.{Snapshot}
use Rattle.access_lists.specs.Tokens.Bearer.{TokenTable}
use Rattle.edge_traits.specs.declared.disk.Disk.{Ghosts as Disks}
use Rattle.flush_journal.specs.Records.{Record}
use Rattle.flush_journal.specs.Standing.{disk_of, pending_of}
use Rattle.flush_journal.specs.Unchanged.{SameBytes}
use Rattle.flush_journal.specs.declared.journal.Journal.{Journal}
use Rattle.flush_journal.specs.declared.why.Why.{Why}
use Rattle.flush_journal.specs.declared.why.Why.TheVariants as why
use Rattle.journal_desk.specs.Desks.{HoldsAsFar, HoldsKept}
use Rattle.lane_histories.specs.Desks.{nowhere}
use Rattle.lane_histories.specs.Histories.{IsIn}
use Rattle.lane_histories.specs.declared.items.Answer.TheVariants.{Kept}
use Rattle.lane_histories.specs.declared.items.Keeping.{Keeping}
use Rattle.lane_histories.specs.declared.items.Reach.{Reach}
use Rattle.hall_rule.specs.Seen.{history_of}
use Rattle.service_core.specs.Journals.Begun.{IsBegunSince, IsBegunWorld, IsUnbegun}
use Rattle.service_core.specs.Journals.Opening.{IsOf, MayRefuseOpening}
use Rattle.service_core.specs.Worlds.{State}
use Rattle.service_core.specs.declared.journals.beginning.BeginFault.{BeginFault}
use Rattle.service_core.specs.declared.journals.beginning.BeginFault.TheVariants as begin
use Rattle.service_core.specs.declared.journals.faults.OpenFault.TheVariants as fault
use Rattle.service_histories.specs.ArrayServices.{array_service}
use Rattle.service_histories.specs.KeptArrays.{array_kept}
use Rattle.service_histories.specs.Tellings.{opening}
use Rattle.hall.specs.Answers.{ArrayLists}
use Rattle.hall.specs.declared.desk.AtDesk.{Ghosts}
use Rattle.hall.specs.declared.journal.JournalDesk.{JournalDesk}
use Rattle.rest_session.specs.declared.halls.closed.ClosedHall.{ClosedHall}
use Rattle.rest_session.specs.Halls.Histories.{IsClosed}
use Rattle.rest_session.specs.Halls.Visits.{Telling}
use Rattle.rest_session.specs.declared.kept.outcome.ClosedDoors.{ClosedDoors}
use Rattle.rest_session.specs.declared.kept.outcome.DoorsOutcome.{DoorsOutcome}
use Rattle.rest_session.specs.declared.kept.outcome.DoorsOutcome.TheVariants.{Unopened, Unbegun, Unserved, Served}

-- ---- the begin of a run

-- The journal owes nothing, and the world is one that records tell, in its run. On a disk that keeps its rule it is the world that the disk kept, and a
-- crash until then leaves what was held, with the record of the run or without it, or an image of before.
pub record BeginsRun {D : Type 0} (met : Disks D) (before : D) (journal : Journal D met) (first : State) : Type 0 where
  pub idle : pending_of journal ≡ None
  pub world : IsBegunWorld first
  pub since : met.honest → IsOf (met.reads before) (IsBegunSince met before journal first)

-- ---- what a crash leaves of a run

-- with these numbers
abbrev pub IsKeptWith : State → ArrayLists → Reach → List ℕ → Type 0
IsKeptWith first seen reach image =
    HoldsKept (array_kept (length first.lanes)) (opening (length first.lanes) first) (history_of (array_service (length first.lanes)) seen) reach image

-- with numbers that are at least these
abbrev pub IsKeptFrom : State → ArrayLists → Reach → List ℕ → Type 0
IsKeptFrom first seen own image =
    HoldsAsFar (array_kept (length first.lanes)) (opening (length first.lanes) first) (history_of (array_service (length first.lanes)) seen) own image

-- Whatever a crash leaves once it has ended is kept as far as its disk reaches, and just so far where no batch is pending. For each keeping that was
-- answered Ok, so is whatever a crash left since its moment, as far as it reached; and so is whatever a crash left since the run began. No keeping's
-- moment is before the run's begin or behind its end.
pub record LeavesKept {D : Type 0} (met : Disks D) (first : State) (seen : ArrayLists) (begin after : D) (pending : Option (List Record)) (kept : Reach)
    : Type 0 where
  pub images : (image : List ℕ) → met.images after image → IsKeptFrom first seen kept image
  pub settled : pending ≡ None → (image : List ℕ) → met.images after image → IsKeptWith first seen kept image
  pub each : (k : Keeping) → IsIn seen.keepings k → k.answer ≡ Kept → (image : List ℕ) → met.left_since after k.moment image
      → IsKeptFrom first seen k.own image
  pub since : (image : List ℕ) → met.left_since after (met.moment begin) image → IsKeptFrom first seen nowhere image
  pub moments : (k : Keeping) → IsIn seen.keepings k → (met.moment begin ≤ k.moment) × (k.moment ≤ met.moment after)

-- ---- doors that were served

-- One legal history from the first world on, by which each door's links were served; and what was kept of it.
pub record AreDoorsKept {F L D : Type 0} (met : Disks D) (desks : Ghosts (JournalDesk D met) (Snapshot (Journal D met))) (tells : Telling F L) (tokens : TokenTable)
    (links : ℕ) (journal : Journal D met) (first : State) (after : D) (doors now : List F) (closed : ClosedDoors) (last : Result ℕ Why) : Type 0 where
  pub hall : ClosedHall D met
  pub is_closed : IsClosed met desks tells tokens links journal first hall doors now
  pub closed_is : closed ≡ record { front = hall.front; kept = hall.kept; reports = hall.reports }
  pub last_is : last ≡ hall.last
  pub disk_is : after ≡ hall.desk.desk.disk
  pub leaves : met.honest → LeavesKept met first is_closed.served.ended.seen (disk_of journal) after hall.desk.desk.pending hall.desk.desk.kept

-- ---- what they came to

-- from the begin of a run on
abbrev pub HaveEndedInRun : {F L D : Type 0} (met : Disks D) → Ghosts (JournalDesk D met) (Snapshot (Journal D met)) → Telling F L → TokenTable → ℕ → Journal D met → State
    → Option D → List F → List F → DoorsOutcome → Type 0
HaveEndedInRun met desks tells tokens links journal first after doors now (Unopened why) = ⊥
HaveEndedInRun met desks tells tokens links journal first after doors now (Unbegun why) = ⊥
HaveEndedInRun met desks tells tokens links journal first after doors now Unserved = IfSome after (λ d. d ≡ disk_of journal) × (now ≡ doors)
HaveEndedInRun met desks tells tokens links journal first after doors now (Served closed last) =
    IsSomeAnd after (λ d. AreDoorsKept met desks tells tokens links journal first d doors now closed last)

-- The doors are as they were, or they were served from the world on that the disk kept. Without memory for the hall nothing was written behind the begin of
-- the run, and there the disk may be missing.
abbrev pub HaveEnded : {F L D : Type 0} (met : Disks D) → Ghosts (JournalDesk D met) (Snapshot (Journal D met)) → Telling F L → TokenTable → ℕ → D → Option D
    → List F → List F → DoorsOutcome → Type 0
HaveEnded met desks tells tokens links before after doors now (Unopened why) =
    IsSomeAnd after (λ d. MayRefuseOpening met.honest (met.reads before) (met.faults before) (met.faults d) why × (met.honest → SameBytes met before d))
    × (now ≡ doors)
HaveEnded met desks tells tokens links before after doors now (Unbegun why) = IsSomeAnd after (λ d. IsUnbegun met before d why) × (now ≡ doors)
HaveEnded {D} met desks tells tokens links before after doors now Unserved =
    (journal : Journal D met) × (first : State) × BeginsRun met before journal first
    × HaveEndedInRun met desks tells tokens links journal first after doors now Unserved
HaveEnded {D} met desks tells tokens links before after doors now (Served closed last) =
    (journal : Journal D met) × (first : State) × BeginsRun met before journal first
    × HaveEndedInRun met desks tells tokens links journal first after doors now (Served closed last)

-- the disk had a fault
abbrev pub IsDoorsDiskFault : DoorsOutcome → Type 0
IsDoorsDiskFault (Unopened refusal) = refusal ≡ fault.DiskFault
IsDoorsDiskFault (Unbegun refusal) = refusal ≡ why.DiskFault
IsDoorsDiskFault Unserved = ⊥
IsDoorsDiskFault (Served closed last) = last ≡ Err why.DiskFault

-- ---- what the calls below say

-- no run was begun
abbrev pub outcome_of : BeginFault → DoorsOutcome
outcome_of (begin.Unopened why) = Unopened why
outcome_of (begin.Unbegun why) = Unbegun why
