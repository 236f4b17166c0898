-- Doors that are served over a disk, from the begin of a run to its end.
use Rattle.std.proofs.Common.{◌≡◌, ℕ, zero, suc, List, [], ◌∷◌, length, Option, Some, None, refl, sym, ap, ◌∙◌, subst}
use Rattle.std.specs.Prelude.{IfSome}
use Rattle.std.specs.declared.snapshot.Snapshot.{Snapshot}
use Rattle.access_lists.specs.Tokens.Bearer.{TokenTable}
use Rattle.chunk_owner.specs.Lanes.{Lane}
use Rattle.edge_traits.specs.declared.disk.Disk.{Ghosts as Disks}
use Rattle.flush_journal.specs.declared.journal.Journal.{Journal}
use Rattle.journal_desk.specs.Desks.{HoldsAsFar, HoldsKept}
use Rattle.journal_desk.specs.Keepings.{lists}
use Rattle.journal_desk.specs.Standing.{Standing}
use Rattle.lane_histories.specs.Histories.{History}
use Rattle.lane_histories.specs.Laws.{StaysKept}
use Rattle.lane_histories.specs.Legal.{IsLegal, IsLegalLane, IsPrefix}
use Rattle.lane_histories.specs.Services.{World}
use Rattle.lane_histories.specs.declared.items.Reach.{Reach}
use Rattle.hall_rule.specs.Machines.{objects_in as rule_objects}
use Rattle.hall_rule.specs.Seen.{GrowsFrom, GrowsUncut, history_of}
use Rattle.object_acts.specs.Objects.{Objects}
use Rattle.service_core.specs.Journals.Begun.{IsBegun, IsOfDisk, IsUnstarted}
use Rattle.service_core.specs.Worlds.{State}
use Rattle.service_core.specs.declared.journals.beginning.BeginFault.{BeginFault}
use Rattle.service_core.specs.declared.journals.beginning.BeginFault.TheVariants as begin
use Rattle.service_histories.specs.ArrayServices.{array_service}
use Rattle.service_histories.specs.KeptArrays.{array_kept}
use Rattle.service_histories.specs.Tellings.{objects_in, opening}
use Rattle.flush_journal.specs.Files.{Content}
use Rattle.hall.specs.Answers.{ArrayLists, ArrayStart, ArrayView}
use Rattle.hall.specs.ArrayMachines.{lanes_in, machines}
use Rattle.hall.specs.JournalDesks.{HoldsWorld, IsJournalSince}
use Rattle.hall.specs.Notes.{hall_notes, of_lanes, seen_in}
use Rattle.hall.specs.Passes.{HasEnded}
use Rattle.hall.specs.declared.desk.AtDesk.{Ghosts}
use Rattle.hall.specs.declared.journal.JournalDesk.{JournalDesk}
use Rattle.hall.specs.declared.note.HallNote.{HallNote}
use Rattle.rest_session.specs.Halls.Visits.{Telling}
use Rattle.rest_session.specs.Kept.Doors.{BeginsRun, HaveEnded, HaveEndedInRun, IsDoorsDiskFault, IsKeptFrom, IsKeptWith, outcome_of}
use Rattle.rest_session.specs.declared.kept.outcome.DoorsOutcome.{DoorsOutcome}
use Rattle.rest_session.specs.declared.kept.outcome.DoorsOutcome.TheVariants.{Unopened, Unbegun, Unserved, Served}
use Rattle.rest_session.proofs.OfHalls.Accounts.{prefix_of}

pub if_some_on : {D : Type 0} (P Q : D → Type 0) (o : Option D) → ((d : D) → P d → Q d) → IfSome o P → IfSome o Q
if_some_on P Q None on h = tt
if_some_on P Q (Some d) on h = on d h

-- ---- no run was begun

module _ {F L D : Type 0} (met : Disks D) (desks : Ghosts (JournalDesk D met) (Snapshot (Journal D met))) (tells : Telling F L) (tokens : TokenTable) (links : ℕ) (before : D)
    (doors : List F) where
  pub doors_unserved : (after : D) (why : BeginFault) → IsUnstarted met before after why
      → HaveEnded met desks tells tokens links before (Some after) doors doors (outcome_of why)
  doors_unserved after (begin.Unopened refusal) h = (h, refl)
  doors_unserved after (begin.Unbegun refusal) h = (h, refl)

  -- ---- a run was begun

  pub ended_since : (j : Journal D met) (first : State) → BeginsRun met before j first → (after : Option D) (now : List F) (o : DoorsOutcome)
      → HaveEndedInRun met desks tells tokens links j first after doors now o → HaveEnded met desks tells tokens links before after doors now o
  ended_since j first run after now (Unopened why) h = absurd h
  ended_since j first run after now (Unbegun why) h = absurd h
  ended_since j first run after now Unserved h = (j, first, run, h)
  ended_since j first run after now (Served closed last) h = (j, first, run, h)

pub doors_fault_unserved : (why : BeginFault) → IsDoorsDiskFault (outcome_of why) → IsOfDisk why
doors_fault_unserved (begin.Unopened refusal) h = h
doors_fault_unserved (begin.Unbegun refusal) h = h

-- the journal of a run holds the world with which it began
pub begun_holds : {D : Type 0} {met : Disks D} (j : Journal D met) (first : State) (c : Content) → IsBegun j first c → HoldsWorld met j first
begun_holds j first c b = record { content = _; settled = b.settled; says = b.says }

-- ---- what a hall leaves

-- the history is legal from the world with which the hall began
module _ {K : Type 0} (start : ArrayStart K) (v : ArrayView K) (closing : State) (ended : HasEnded start v closing) where
  begun_objects : (os : List Lane) (l : ℕ) → rule_objects (machines {K = K} (lanes_in start)) os l ≡ objects_in os l
  unfolding machines
  begun_objects [] l = refl
  begun_objects (o ∷ os) zero = refl
  begun_objects (o ∷ os) (suc l) = begun_objects os l

  legal_begun : IsLegal (array_service (lanes_in start)) (opening (lanes_in start) (record { register = start.register; lanes = start.owners }))
      (history_of (array_service (lanes_in start)) ended.seen)
  unfolding machines
  legal_begun =
      let n = lanes_in start in
      let legal = ended.grown.legal in record {
        register = legal.register;
        lanes = λ l. subst (λ (o : Objects). IsLegalLane (array_service n) o ((history_of (array_service n) ended.seen).lane l)) (begun_objects start.owners l) (legal.lanes l);
        in_order = legal.in_order;
        pairs = legal.pairs;
      }

  pub legal_first : (first : State) → start.register ≡ first.register → start.owners ≡ first.lanes
      → IsLegal (array_service (length first.lanes)) (opening (length first.lanes) first) (history_of (array_service (length first.lanes)) ended.seen)
  legal_first first register owners =
      subst (λ (s : State). IsLegal (array_service (length s.lanes)) (opening (length s.lanes) s) (history_of (array_service (length s.lanes)) ended.seen))
      (λ i. record { register = register i; lanes = owners i }) legal_begun

module _ (n : ℕ) (stays : StaysKept (array_service n)) (start : World (array_service n)) (h g : History (array_service n)) (legal : IsLegal (array_service n) start g)
    (longer : IsPrefix h g) where
  -- what is kept from a history is kept from a longer one, with the same numbers
  holds_later : (reach : Reach) (image : List ℕ) → HoldsKept (array_kept n) start h reach image → HoldsKept (array_kept n) start g reach image
  holds_later reach image x =
      let k = x.kept in record {
        bodies = x.bodies;
        holds = x.holds;
        kept = record { world = k.world; told = k.told; kept = stays start h g k.world reach k.kept legal longer };
      }

module _ {D : Type 0} (met : Disks D) (first : State) (start : ArrayStart (Snapshot (Journal D met))) (seen : ArrayLists)
    (d : Standing D (HallNote (Snapshot (Journal D met)))) (since : IsJournalSince met d start)
    (uncut : GrowsUncut seen (of_lanes (length start.owners) (seen_in d.note))) (register : start.register ≡ first.register) (owners : start.owners ≡ first.lanes)
    (legal : IsLegal (array_service (length first.lanes)) (opening (length first.lanes) first) (history_of (array_service (length first.lanes)) seen))
    (stays : (lanes : ℕ) → StaysKept (array_service lanes)) where
  lanes_are : d.lanes ≡ length first.lanes
  lanes_are = since.lanes ∙ ap length owners

  longer_now : IsPrefix (lists met (hall_notes d.lanes) d) (history_of (array_service d.lanes) seen)
  longer_now =
      subst (λ (h : History (array_service d.lanes)). IsPrefix h (history_of (array_service d.lanes) seen)) since.lists.lists
      (prefix_of d.lanes seen (of_lanes d.lanes (seen_in d.note)) (subst (λ (m : ℕ). GrowsFrom seen (of_lanes m (seen_in d.note))) (sym since.lanes) uncut.longer))

  -- what is kept from the lists of the desk's note is kept from the history
  pub settled_later : (reach : Reach) (image : List ℕ) → HoldsKept (array_kept d.lanes) ((hall_notes d.lanes).start d.note) (lists met (hall_notes d.lanes) d) reach image
      → IsKeptWith first seen reach image
  settled_later reach image holds =
      let world_is : (hall_notes d.lanes).start d.note ≡ opening d.lanes first = since.world ∙ (λ i. opening d.lanes (record { register = register i; lanes = owners i })) in
      let here = subst (λ (w : World (array_service d.lanes)). HoldsKept (array_kept d.lanes) w (lists met (hall_notes d.lanes) d) reach image) world_is holds in
      let legal_here = subst (λ (m : ℕ). IsLegal (array_service m) (opening m first) (history_of (array_service m) seen)) (sym lanes_are) legal in
      subst (λ (m : ℕ). HoldsKept (array_kept m) (opening m first) (history_of (array_service m) seen) reach image) lanes_are
      (holds_later d.lanes (stays d.lanes) (opening d.lanes first) (lists met (hall_notes d.lanes) d) (history_of (array_service d.lanes) seen) legal_here longer_now reach image here)

  pub kept_later : (own : Reach) (image : List ℕ) → HoldsAsFar (array_kept d.lanes) ((hall_notes d.lanes).start d.note) (lists met (hall_notes d.lanes) d) own image
      → IsKeptFrom first seen own image
  kept_later own image holds = record { reach = holds.reach; at = settled_later holds.reach image holds.at; far = holds.far }
