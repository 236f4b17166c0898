-- The desk of a journal, in a hall.
--     IsJournalSince met d start     a hall that began with this world and this journal may have made this desk of its own
--     HoldsWorld met j s             a journal holds a world, and nothing is pending
--     LiesBetween met first last k   what a keeping tells of a disk lies between these two
--     Left                           what a turn of it leaves to the next one
--     Follows most left k            what a turn did of what it found
--     AreTold met first d ks         a desk over this journal may have come to be d by turns that tell this
--     keeping_by met old new did     what a turn of it adds to the history
--     item_of met old new work ..    by what was asked in it, and the answer
use Rattle.std.specs.Prelude.{◌≡◌, ◌⊎◌, ℕ, ◌+◌, ◌<◌, ◌≤◌, List, [], ◌∷◌, length, Result, Ok, Err}
use Rattle.std.specs.List.{AllByRecursion}
use Rattle.edge_traits.specs.declared.disk.Disk.{Ghosts as Disks}
use Rattle.chunk_owner.specs.Lanes.{Lane}
use Rattle.flush_journal.specs.Files.{Content}
use Rattle.flush_journal.specs.Standing.{IsSettled, disk_of, end_of}
use Rattle.flush_journal.specs.Unchanged.{SameDisk}
use Rattle.flush_journal.specs.declared.journal.Journal.{Journal}
use Rattle.flush_journal.specs.declared.why.Why.{Why}
use Rattle.journal_desk.specs.Keepings.{HasKept, answer_of, keeping_of, owed_by}
use Rattle.journal_desk.specs.Standing.{Standing}
use Rattle.lane_histories.specs.Desks.{nowhere}
use Rattle.lane_histories.specs.declared.items.Answer.{Answer}
use Rattle.lane_histories.specs.declared.items.Answer.TheVariants.{Kept, Looked}
use Rattle.lane_histories.specs.declared.items.Keeping.{Keeping}
use Rattle.lane_histories.specs.declared.items.Reach.{Reach}
use Rattle.lane_histories.specs.KeptContents.{IsAsFar}
use Rattle.register.specs.Decided.{RegisterState}
use Rattle.service_core.specs.Records.{WorldSays}
use Rattle.service_core.specs.Worlds.{State}
use Rattle.service_histories.specs.Tellings.{opening}
use Rattle.std.specs.declared.snapshot.Snapshot.{Snapshot}
use Rattle.hall_rule.specs.declared.view.Start.{Start}
use Rattle.hall.specs.Notes.{AreOfLanes, hall_notes, seen_in}
use Rattle.hall.specs.declared.journal.DeskNews.{DeskNews}
use Rattle.hall.specs.declared.journal.DeskWork.{DeskWork}
use Rattle.hall.specs.declared.journal.DeskWork.TheVariants.{Flush, FlushPast, KeepRegister, Look}
use Rattle.hall.specs.declared.note.HallNote.{HallNote}

-- Its note is of this hall. The disk went on from the one that it was at the begin, and whatever a crash since then leaves is a world
-- that is kept from the note's lists.
pub record IsJournalSince {D : Type 0} (met : Disks D) (d : Standing D (HallNote (Snapshot (Journal D met))))
    (start : Start RegisterState Lane (Snapshot (Journal D met))) : Type 0 where
  pub lanes : d.lanes ≡ length start.owners
  pub world : (hall_notes d.lanes).start d.note ≡ opening d.lanes (record { register = start.register; lanes = start.owners })
  pub lists : AreOfLanes d.lanes (seen_in d.note)
  pub disk : SameDisk met (disk_of start.desk.value) d.disk
  pub kept : met.honest → HasKept met (hall_notes d.lanes) d (met.moment (disk_of start.desk.value)) nowhere
  -- what is kept was reached no earlier
  pub reached : met.honest → met.moment (disk_of start.desk.value) ≤ met.moment d.at

-- whatever is read of it
pub record HoldsWorld {D : Type 0} (met : Disks D) (j : Journal D met) (s : State) : Type 0 where
  pub content : Content
  pub settled : IsSettled j content
  pub says : WorldSays s content.held

-- the counts of faults, and the moment
pub record LiesBetween {D : Type 0} (met : Disks D) (first last : D) (k : Keeping) : Type 0 where
  pub faults_before : met.faults first ≤ k.faults_before
  pub faults_after : k.faults_after ≤ met.faults last
  pub begun : met.honest → met.moment first ≤ k.moment
  pub ended : met.honest → k.moment ≤ met.moment last

-- where the journal ends, how many bytes a batch needs that is pending, 0 where none is, and how far the cuts reach and what is kept
pub record Left : Type 0 where
  pub end : ℕ
  pub owed : ℕ
  pub cut : Reach
  pub own : Reach

abbrev pub left_of : {D N : Type 0} → Standing D N → Left
left_of d = record { end = d.end; owed = owed_by d.pending; cut = d.cut; own = d.kept }

abbrev pub left_first : {D : Type 0} {met : Disks D} → Journal D met → Left
left_first j = record { end = end_of j; owed = 0; cut = nowhere; own = nowhere }

abbrev pub left_by : Keeping → Left
left_by k = record { end = k.end; owed = k.owed; cut = k.cut; own = k.own }

abbrev pub left_after : Left → List Keeping → Left
left_after left [] = left
left_after left (k ∷ keepings) = left_after (left_by k) keepings

-- A batch that was pending is so still, with nothing cut behind it, or all that was cut by then is kept; the latter only where the batch
-- fitted behind the end. Where the turn was answered Ok nothing is pending and all cuts are kept, or all stayed.
pub record Follows (most : ℕ) (left : Left) (k : Keeping) : Type 0 where
  pub settled : 0 < left.owed → (left_by k ≡ left) ⊎ (IsAsFar left.cut k.own × (left.end + left.owed ≤ most))
  pub done : k.answer ≡ Kept → (left_by k ≡ left) ⊎ ((k.owed ≡ 0) × (k.own ≡ k.cut))

abbrev pub AllFollow : ℕ → Left → List Keeping → Type 0
AllFollow most left [] = Unit {0}
AllFollow most left (k ∷ keepings) = Follows most left k × AllFollow most (left_by k) keepings

pub record AreTold {D N : Type 0} (met : Disks D) (first : Journal D met) (d : Standing D N) (keepings : List Keeping) : Type 0 where
  pub between : AllByRecursion (λ k. LiesBetween met (disk_of first) d.disk k) keepings
  pub follow : AllFollow (met.most (disk_of first)) (left_first first) keepings
  pub left : left_of d ≡ left_after (left_first first) keepings

-- of a look the item has the answer Looked
abbrev pub answer_by : DeskWork → Result ℕ Why → Answer
answer_by Flush result = answer_of result
answer_by (FlushPast place) result = answer_of result
answer_by KeepRegister result = answer_of result
answer_by Look result = Looked

-- A flush that is shared is as old as what the desk keeps, since that was reached. Every other item is of the turn's end, at which a flush that
-- was done reached it.
abbrev pub moment_by : {D N : Type 0} (met : Disks D) → Standing D N → DeskWork → Result ℕ Why → ℕ
moment_by met new Flush result = met.moment new.disk
moment_by met new (FlushPast place) (Ok n) = met.moment new.at
moment_by met new (FlushPast place) (Err why) = met.moment new.disk
moment_by met new KeepRegister result = met.moment new.disk
moment_by met new Look result = met.moment new.disk

abbrev pub item_of : {D N : Type 0} (met : Disks D) → Standing D N → Standing D N → DeskWork → Result ℕ Why → Keeping
item_of met old new work result =
    record (keeping_of met old new result) { answer = answer_by work result; moment = moment_by met new work result }

abbrev pub keeping_by : {D N : Type 0} (met : Disks D) → Standing D N → Standing D N → DeskNews → Keeping
keeping_by met old new did = item_of met old new did.work did.result.value
