-- What a turn of a journal's desk does.
--     IsBehind ..          the desk's note may be brought up to what was seen
--     HasKeptAll ..        what a desk says of a flush, or of a keeping of the catalogue
--     HasDonePast ..       of a flush that is asked for a place
--     HasDone met work ..  of whichever was asked of it
--     AreOfCuts notes d    a desk's numbers are those of cuts in its note's lists
--     OwesItsCuts notes d  what a desk's next batch holds is what cuts added since what is kept was cut
--     HasGoneOn ..         from what the desk was before a turn to what it is after it
--     HasNoted ..          the lists that a desk noted in a turn
--     IsTurnOf met work .. so of a whole turn
--     HasFlushed ..        what a turn leaves in which the desk kept what was done
--     HasKeptRegister ..   so of one in which it kept the catalogue
--     HasShared ..         of one in which the place was kept already
--     HasFlushedPast ..    and of one in which a flush was asked for a place
--     HasLooked ..         and of one in which nothing was asked of the disk
--     IsInTurn ..          how a pass stands between two steps of it
use Rattle.std.specs.Prelude.{◌≡◌, ◌≢◌, ◌⊎◌, ℕ, ◌<◌, ◌≤◌, List, [], ◌∷◌, Option, Some, None, Result, Ok, length}
use Rattle.std.specs.Prelude.{IfErr, IfOk, IsErr, OnOk, true}
use Rattle.std.specs.List.{AllByRecursion}
use Rattle.std.specs.declared.snapshot.Snapshot.{Snapshot}
use Rattle.edge_traits.specs.declared.disk.Disk.{Ghosts as Disks}
use Rattle.flush_journal.specs.Standing.{disk_of}
use Rattle.flush_journal.specs.Unchanged.{SameDisk}
use Rattle.flush_journal.specs.declared.journal.Journal.{Journal}
use Rattle.flush_journal.specs.declared.why.Why.{Why}
use Rattle.journal_desk.specs.Cuts.{Resumes}
use Rattle.journal_desk.specs.Desks.{HoldSince, HoldsKept}
use Rattle.journal_desk.specs.Keepings.{AreItsKeepings, Continues, HasKept as KeepsSince, IsAllKept, IsFullWhere, MayRefuseTurn, SettlesFirst, keeping_of, lists}
use Rattle.journal_desk.specs.Notes.{NoteOf}
use Rattle.journal_desk.specs.Owed.{AppendsCuts, OwesCuts}
use Rattle.journal_desk.specs.Standing.{Standing}
use Rattle.register.specs.declared.tickets.Turn.{Turn}
use Rattle.lane_histories.specs.Cuts.{IsCutTo, IsOfCuts, register_cut}
use Rattle.lane_histories.specs.Histories.{IsIn, cut_of, own, places}
use Rattle.lane_histories.specs.KeptContents.{IsAsFar}
use Rattle.lane_histories.specs.Legal.{IsLegal}
use Rattle.lane_histories.specs.declared.items.Answer.TheVariants.{Kept, Looked}
use Rattle.lane_histories.specs.declared.items.Keeping.{Keeping}
use Rattle.lane_histories.specs.declared.items.Reach.{Reach}
use Rattle.lane_histories.specs.declared.items.RegisterItem.{RegisterItem}
use Rattle.lane_histories.specs.declared.items.RegisterItem.TheVariants.{Entered, DrawnCut, RegisterCut}
use Rattle.hall_rule.specs.Claims.{claim}
use Rattle.hall_rule.specs.LaneTickets.{IsServingLanes}
use Rattle.hall_rule.specs.Rule.{names, seeing}
use Rattle.hall_rule.specs.Seen.{GrowsFrom, history_of}
use Rattle.hall_rule.specs.Sums.{times}
use Rattle.hall_rule.specs.WholeTurns.{HasKept, IsPass}
use Rattle.hall_rule.specs.declared.queue.Claim.{Claim}
use Rattle.hall_rule.specs.declared.queue.Queue.TheVariants.{OfDesk}
use Rattle.service_histories.specs.ArrayServices.{array_service}
use Rattle.service_histories.specs.KeptArrays.{array_kept}
use Rattle.hall.specs.Answers.{ArrayLists, ArrayStart, ArrayView}
use Rattle.hall.specs.ArrayMachines.{IsOpened, lanes_in, machines}
use Rattle.hall.specs.Cutting.{AreCutTickets}
use Rattle.hall.specs.JournalDesks.{IsJournalSince, left_after, left_first, left_of}
use Rattle.hall.specs.Notes.{hall_notes, of_lanes, seen_in}
use Rattle.hall.specs.declared.journal.DeskWork.{DeskWork}
use Rattle.hall.specs.declared.journal.DeskWork.TheVariants.{Flush, FlushPast, KeepRegister, Look}
use Rattle.hall.specs.declared.note.HallNote.{HallNote}

-- ---- the desk

-- what was seen is over as many lanes, and goes on from its note's lists with no cut; the keepings seen are its own
pub record IsBehind {D N : Type 0} (met : Disks D) (notes : NoteOf N) (d : Standing D N) (lanes : ℕ) (seen : N) : Type 0 where
  pub lanes_are : lanes ≡ d.lanes
  pub start : notes.start seen ≡ notes.start d.note
  pub was : notes.was seen ≡ notes.was d.note
  pub legal : IsLegal notes.kept.service (notes.start seen) (notes.history seen)
  pub resumes : Resumes (notes.history d.note) (notes.history seen) d.kept
  pub keepings : AreItsKeepings met notes d (notes.history seen)

-- The answer is the number reached, and at least the places of the note before. What was cut is kept, unless it is refused; where a
-- batch was pending on a disk that had stopped, it is. Nothing is written but what was pending, and what cuts added since that.
pub record HasKeptAll {D N : Type 0} (met : Disks D) (notes : NoteOf N) (reached : Reach → ℕ) (before after : Standing D N)
    (result : Result ℕ Why) : Type 0 where
  pub ok : IfOk result (λ n. (reached after.kept ≡ n) × (places (notes.history before.note).register ≤ n))
  pub all : OnOk result (IsAllKept after)
  pub cause : IfErr result (MayRefuseTurn met before after)
  pub full : IsFullWhere met after result
  pub first : SettlesFirst met before after result
  pub stopped : before.pending ≢ None → met.stopped before.disk → IsErr result
  pub wrote : AppendsCuts notes before after result

-- where the place is kept already all stays, and the answer is the number kept; else all is flushed
pub record HasDonePast {D N : Type 0} (met : Disks D) (notes : NoteOf N) (place : ℕ) (before after : Standing D N) (result : Result ℕ Why)
    : Type 0 where
  pub shared : place < before.kept.c → (after ≡ before) × (result ≡ Ok before.kept.c)
  pub flushed : before.kept.c ≤ place → HasKeptAll met notes (λ r. r.c) before after result

abbrev pub HasDone : {D N : Type 0} → Disks D → NoteOf N → DeskWork → Standing D N → Standing D N → Result ℕ Why → Type 0
HasDone met notes Flush before after result = HasKeptAll met notes (λ r. r.c) before after result
HasDone met notes (FlushPast place) before after result = HasDonePast met notes place before after result
HasDone met notes KeepRegister before after result = HasKeptAll met notes (λ r. r.p) before after result × (after.cut.c ≡ before.cut.c)
HasDone met notes Look before after result = (after ≡ before) × (result ≡ Ok before.kept.c)

-- ---- whole turns

-- The cuts reach to the last drawn cut that was done in every lane, and to the last cut of the register that found memory; what is kept
-- are numbers of such cuts too, and no greater ones.
pub record AreOfCuts {D N : Type 0} (notes : NoteOf N) (d : Standing D N) : Type 0 where
  pub lanes : IsCutTo notes.kept.service (notes.history d.note) d.cut.c
  pub register : d.cut.p ≡ register_cut (notes.history d.note).register
  pub kept : IsOfCuts notes.kept.service (notes.history d.note) d.kept
  pub far : IsAsFar d.kept d.cut

-- what is pending, or else what was cut and not appended yet, is just what cuts of lanes and of the register added since what is kept was
-- cut, in their order, and all of it
abbrev pub OwesItsCuts : {D N : Type 0} → NoteOf N → Standing D N → Type 0
OwesItsCuts notes d = OwesCuts notes.kept (notes.start d.note) (notes.history d.since) (notes.was d.since) (notes.history d.note) (notes.was d.note)
    d.pending d.building d.kept

-- A hall's desk went on so: its disk from the one with which the hall began, and what was kept stays kept. Whatever a crash since then
-- leaves is kept from the lists that it has noted, at least as far as it reaches; so is what one left since that was reached, and as far as
-- each keeping in these lists that was answered Ok what one left since its moment. Where nothing is pending it is kept just as far as the desk
-- reaches. The numbers are those of cuts in these lists, and the batch that is pending, or is to be appended next, is what these cuts added
-- since what is kept was cut.
pub record HasGoneOn {D : Type 0} (met : Disks D) (start : ArrayStart (Snapshot (Journal D met)))
    (before after : Standing D (HallNote (Snapshot (Journal D met)))) : Type 0 where
  pub first : SameDisk met (disk_of start.desk.value) before.disk
  pub went : Continues met (hall_notes (lanes_in start)) before after
  pub since : IsJournalSince met after start
  pub images : met.honest → KeepsSince met (hall_notes (lanes_in start)) after (met.moment after.disk) after.kept
  pub reached : met.honest → KeepsSince met (hall_notes (lanes_in start)) after (met.moment after.at) after.kept
  pub each : met.honest → (i : Keeping) → IsIn (lists met (hall_notes (lanes_in start)) after).keepings i → i.answer ≡ Kept
      → KeepsSince met (hall_notes (lanes_in start)) after i.moment i.own
  pub by_now : met.honest → met.moment after.at ≤ met.moment after.disk
  pub settled : met.honest → after.pending ≡ None → (image : List ℕ) → met.images after.disk image
      → HoldsKept (array_kept (lanes_in start)) ((hall_notes (lanes_in start)).start after.note)
      (lists met (hall_notes (lanes_in start)) after) after.kept image
  pub cuts : AreOfCuts (hall_notes (lanes_in start)) after
  pub owed : OwesItsCuts (hall_notes (lanes_in start)) after

-- The lists of the desk's note have all that there was when the turn was taken, and those that the pass has seen since begin with them.
-- So whatever a crash since the turn leaves is kept from these, at least as far as the desk reaches.
pub record HasNoted {D : Type 0} (met : Disks D) (start : ArrayStart (Snapshot (Journal D met)))
    (d : Standing D (HallNote (Snapshot (Journal D met)))) (before seen : ArrayLists) : Type 0 where
  pub all : GrowsFrom (of_lanes (lanes_in start) (seen_in d.note)) before
  pub begins : GrowsFrom seen (of_lanes (lanes_in start) (seen_in d.note))
  pub images : met.honest → HoldSince met (array_kept (lanes_in start)) ((hall_notes (lanes_in start)).start d.note)
      (history_of (array_service (lanes_in start)) seen) d.disk (met.moment d.disk) d.kept
  -- and so is what one leaves since an earlier keeping that was answered Ok, as far as that reached
  pub each : met.honest → (i : Keeping) → IsIn before.keepings i → i.answer ≡ Kept
      → HoldSince met (array_kept (lanes_in start)) ((hall_notes (lanes_in start)).start d.note)
      (history_of (array_service (lanes_in start)) seen) d.disk i.moment i.own

-- The desk went on from `before`, which is what the last keeping before it left, to `after`, and this is its keeping; no earlier one
-- reaches farther than `before`, or counted more faults than the disk had by then. The answer is the number reached, and at least the places
-- that the pass had seen.
pub record HasKeptTo {D : Type 0} (met : Disks D) (reached : Reach → ℕ) (start : ArrayStart (Snapshot (Journal D met)))
    (result : Result ℕ Why) (v w : ArrayView (Snapshot (Journal D met))) : Type 0 where
  pub before : Standing D (HallNote (Snapshot (Journal D met)))
  pub after : Standing D (HallNote (Snapshot (Journal D met)))
  pub turn : HasKept (machines (lanes_in start)) start (keeping_of met before after result) [] v w
  pub far : AllByRecursion (λ k. IsAsFar k.own before.kept) turn.before.keepings
  pub counted : AllByRecursion (λ k. k.faults_after ≤ met.faults before.disk) turn.before.keepings
  pub found : left_of before ≡ left_after (left_first start.desk.value) turn.before.keepings
  pub gone : HasGoneOn met start before after
  pub noted : HasNoted met start after turn.before turn.seen
  pub ok : IfOk result (λ n. (n ≡ reached after.kept) × (places v.seen.register ≤ n))
  pub all : OnOk result (IsAllKept after)
  pub cause : IfErr result (MayRefuseTurn met before after)
  pub full : IsFullWhere met after result
  pub first : SettlesFirst met before after result
  -- where a batch was pending on a disk that had stopped, it is refused
  pub stopped : before.pending ≢ None → met.stopped before.disk → IsErr result
  -- nothing was written but what was pending, and what cuts added since that
  pub owing : OwesItsCuts (hall_notes (lanes_in start)) before
  pub wrote : AppendsCuts (hall_notes (lanes_in start)) before after result

-- the places that are kept
abbrev pub HasFlushed : {D : Type 0} (met : Disks D) → ArrayStart (Snapshot (Journal D met)) → Result ℕ Why
    → ArrayView (Snapshot (Journal D met)) → ArrayView (Snapshot (Journal D met)) → Type 0
HasFlushed met start result v w = HasKeptTo met (λ r. r.c) start result v w

-- and those of the catalogue, with no cut of the lanes
abbrev pub HasKeptRegister : {D : Type 0} (met : Disks D) → ArrayStart (Snapshot (Journal D met)) → Result ℕ Why
    → ArrayView (Snapshot (Journal D met)) → ArrayView (Snapshot (Journal D met)) → Type 0
HasKeptRegister met start result v w = (kept : HasKeptTo met (λ r. r.p) start result v w) × (kept.after.cut.c ≡ kept.before.cut.c)

-- The desk stayed as it was, and no earlier keeping reaches farther. It keeps the place already, so this is one keeping more of what it keeps,
-- since that was reached.
pub record HasShared {D : Type 0} (met : Disks D) (start : ArrayStart (Snapshot (Journal D met))) (place : ℕ) (result : Result ℕ Why)
    (v w : ArrayView (Snapshot (Journal D met))) : Type 0 where
  pub desk : Standing D (HallNote (Snapshot (Journal D met)))
  pub turn : HasKept (machines (lanes_in start)) start
      (record (keeping_of met desk desk (Ok desk.kept.c)) { moment = met.moment desk.at }) [] v w
  pub far : AllByRecursion (λ k. IsAsFar k.own desk.kept) turn.before.keepings
  pub found : left_of desk ≡ left_after (left_first start.desk.value) turn.before.keepings
  pub gone : HasGoneOn met start desk desk
  pub noted : HasNoted met start desk turn.before turn.seen
  pub past : place < desk.kept.c
  pub is : result ≡ Ok desk.kept.c

-- shared exactly where the desk kept the place already
abbrev pub HasFlushedPast : {D : Type 0} (met : Disks D) → ArrayStart (Snapshot (Journal D met)) → ℕ → Result ℕ Why
    → ArrayView (Snapshot (Journal D met)) → ArrayView (Snapshot (Journal D met)) → Type 0
HasFlushedPast met start place result v w =
    HasShared met start place result v w ⊎ ((flushed : HasFlushed met start result v w) × (flushed.before.kept.c ≤ place))

-- the desk stayed as it was, and no earlier keeping reaches farther; the answer is its own number
pub record HasLooked {D : Type 0} (met : Disks D) (start : ArrayStart (Snapshot (Journal D met))) (result : ℕ)
    (v w : ArrayView (Snapshot (Journal D met))) : Type 0 where
  pub desk : Standing D (HallNote (Snapshot (Journal D met)))
  pub turn : HasKept (machines (lanes_in start)) start
      (record (keeping_of met desk desk (Ok result)) { answer = Looked }) [] v w
  pub far : AllByRecursion (λ k. IsAsFar k.own desk.kept) turn.before.keepings
  pub found : left_of desk ≡ left_after (left_first start.desk.value) turn.before.keepings
  pub gone : HasGoneOn met start desk desk
  pub noted : HasNoted met start desk turn.before turn.seen
  pub is : result ≡ desk.kept.c

-- whichever was asked
abbrev pub IsTurnOf : {D : Type 0} (met : Disks D) → DeskWork → ArrayStart (Snapshot (Journal D met)) → Result ℕ Why
    → ArrayView (Snapshot (Journal D met)) → ArrayView (Snapshot (Journal D met)) → Type 0
IsTurnOf met Flush start result v w = HasFlushed met start result v w
IsTurnOf met (FlushPast place) start result v w = HasFlushedPast met start place result v w
IsTurnOf met KeepRegister start result v w = HasKeptRegister met start result v w
IsTurnOf met Look start result v w = (n : ℕ) × (result ≡ Ok n) × HasLooked met start n v w

-- ---- between two steps

-- the cut that was drawn last: its number, and how many places had been given
abbrev pub drawn_from : {Q V : Type 0} → ℕ × ℕ → List (RegisterItem Q V) → ℕ × ℕ
drawn_from last [] = last
drawn_from last (Entered e ∷ items) = drawn_from last items
drawn_from last (DrawnCut number c ∷ items) = drawn_from (number, c) items
drawn_from last (RegisterCut p found ∷ items) = drawn_from last items

abbrev pub last_drawn : {Q V : Type 0} → List (RegisterItem Q V) → ℕ × ℕ
last_drawn items = drawn_from (0, 0) items

-- a note of what a pass knows; no byte of it exists
abbrev pub note_seen : {K : Type 0} → ArrayView K → HallNote K
note_seen v = record {
  badge = record {
    marker = record {};
    table_id = record { words = 0; slots = 0; views_name = 0; atom = 0; block = 0; offset = 0; slot_names = [] };
    id = 0;
    views = v ∷ [];
  };
  world = None;
}

-- no ticket is left; or one of each lane from this one on, before other claims
abbrev pub AreLeft : {K : Type 0} → ArrayStart K → ℕ → List Claim → Option (List Turn) → ArrayView K → Type 0
AreLeft start lane others None w = (lane ≡ lanes_in start) × (w.claims ≡ others)
AreLeft {K} start lane others (Some turns) w = (count : ℕ → ℕ) × (v : ArrayView K) × IsPass start v
    × IsServingLanes (machines {K = K} (lanes_in start)) start count
    (cut_of (last_drawn w.seen.register).0 (last_drawn w.seen.register).1) lane others v w
    × (lane < lanes_in start) × AreCutTickets count (lanes_in start) lane turns

-- since the desk's turn was taken, when the pass knew `first`
pub record IsInTurn {K : Type 0} (start : ArrayStart K) (first now : ArrayView K) (lanes lane : ℕ)
    (turns : Option (List Turn)) : Type 0 where
  pub opened : IsOpened start
  pub lanes_are : lanes ≡ lanes_in start
  pub pass : IsPass start now
  pub number : ℕ
  pub mine : first.claims ≡ claim OfDesk number true ∷ []
  pub left : AreLeft start lane first.claims turns now
  pub view_is : now ≡ seeing first now.claims now.seen
  pub longer : GrowsFrom now.seen first.seen
  pub keepings : now.seen.keepings ≡ first.seen.keepings
  pub own_same : (x : ℕ) → 0 < times x (names first) → own x now.seen.register ≡ own x first.seen.register
  pub sized : length now.seen.lanes ≡ lanes_in start
  pub owners : length now.seen.was ≡ lanes_in start
