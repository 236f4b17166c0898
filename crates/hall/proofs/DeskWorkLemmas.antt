-- A whole turn of a journal's desk.
use Rattle.std.proofs.Common.{◌≡◌, ◌⊎◌, inl, inr, ⊎_elim, ℕ, zero, suc, ◌+◌, ◌<◌, ◌≤◌, List, [], ◌∷◌, ◌++◌, Option, Some, None, Result, Ok, Err, length, false, true}
use Rattle.std.proofs.Common.{refl, sym, ap, subst, ◌∙◌, arith}
use Rattle.std.proofs.lemmas.List.{append-nil}
use mathlib.Core.Logic.{dite}
use native.Mathlib.Decide.{dec_le}
use Rattle.std.specs.Prelude.{IfOk, OnOk}
use Rattle.std.specs.List.{AllByRecursion}
use Rattle.std.specs.declared.snapshot.Snapshot.{Snapshot}
use Rattle.edge_traits.specs.declared.disk.Disk.{Ghosts as Disks}
use Rattle.chunk_owner.specs.Lanes.{Lane}
use Rattle.flush_journal.specs.Frames.{need_of}
use Rattle.flush_journal.specs.Records.{Record}
use Rattle.flush_journal.specs.Standing.{disk_of}
use Rattle.flush_journal.specs.Unchanged.{SameDisk}
use Rattle.flush_journal.specs.declared.journal.Journal.{Journal}
use Rattle.flush_journal.specs.declared.why.Why.{Why}
use Rattle.flush_journal.proofs.Unchanged.{same_both, same_here}
use Rattle.journal_desk.specs.Cuts.{Resumes}
use Rattle.journal_desk.specs.Desks.{HoldSince, HoldsKept}
use Rattle.journal_desk.specs.Keepings.{AreItsKeepings, Continues, HasKept as KeepsSince, IsAllKept, StaysOwed, answer_of, keeping_of, lists, owed_by}
use Rattle.journal_desk.specs.Notes.{AreAlike, NoteOf, at_lanes}
use Rattle.journal_desk.specs.Owed.{AppendsCuts}
use Rattle.journal_desk.specs.Standing.{Standing}
use Rattle.journal_desk.specs.declared.note.Note.{Ghosts as Notes}
use Rattle.lane_histories.specs.Cuts.{GoesOn}
use Rattle.lane_histories.specs.Desks.{nowhere}
use Rattle.lane_histories.specs.Histories.{History, IsIn, own, places}
use Rattle.lane_histories.specs.KeptContents.{IsAsFar}
use Rattle.lane_histories.specs.Laws.{StaysKept}
use Rattle.lane_histories.specs.Legal.{IsLegal, IsPrefix}
use Rattle.lane_histories.specs.Services.{World}
use Rattle.lane_histories.specs.declared.items.Answer.TheVariants.{Kept, Looked, Refused}
use Rattle.lane_histories.specs.declared.items.Keeping.{Keeping}
use Rattle.lane_histories.specs.declared.items.Reach.{Reach}
use Rattle.lane_histories.specs.declared.items.RegisterItem.{RegisterItem}
use Rattle.lane_histories.specs.declared.items.RegisterItem.TheVariants.{DrawnCut, Entered, RegisterCut}
use Rattle.lane_histories.proofs.Lists.{all_both, all_weaker, in_longer}
use Rattle.register.specs.Decided.{RegisterState}
use Rattle.register.specs.declared.verdicts.Verdict.{Verdict}
use Rattle.hall_rule.specs.Claims.{busy, claim, numbers}
use Rattle.hall_rule.specs.Machines.{world_of}
use Rattle.hall_rule.specs.Rule.{HallHand, names, seeing}
use Rattle.hall_rule.specs.Seen.{GrowsFrom, GrowsUncut, at_desk, history_of, lane_of, pushed}
use Rattle.hall_rule.specs.Standing.{HallSlot, IsDeskOf, StandsFor}
use Rattle.hall_rule.specs.Steps.{HasPassed, HasTaken}
use Rattle.hall_rule.specs.Sums.{times, total}
use Rattle.hall_rule.specs.TurnLaws.{DeskTurns, ListsAreHistories}
use Rattle.hall_rule.specs.WholeTurns.{HasKept, IsPass, IsReadyToPass, MayDrawDesk}
use Rattle.hall_rule.specs.declared.queue.Claim.{Claim}
use Rattle.hall_rule.specs.declared.queue.Queue.TheVariants.{OfDesk}
use Rattle.hall_rule.specs.declared.slot.Slot.TheVariants.{AtDesk}
use Rattle.hall_rule.specs.declared.view.Lists.{Lists}
use Rattle.hall_rule.specs.declared.view.Start.{Start}
use Rattle.service_histories.specs.ArrayServices.{Asked, array_service}
use Rattle.service_histories.specs.KeptArrays.{array_kept}
use Rattle.service_histories.specs.Tellings.{opening}
use Rattle.hall.specs.Answers.{ArrayLists, ArrayStart, ArrayView}
use Rattle.hall.specs.ArrayMachines.{IsOpened, desk_machines, lanes_in, machines}
use Rattle.hall.specs.DeskTurns.{AreOfCuts, HasDone, HasFlushed, HasFlushedPast, HasGoneOn, HasKeptAll, HasKeptTo, HasNoted, HasShared, IsBehind, IsInTurn, IsTurnOf, OwesItsCuts, note_seen}
use Rattle.hall.specs.JournalDesks.{AllFollow, AreTold, Follows, IsJournalSince, Left, LiesBetween, answer_by, item_of, keeping_by, left_after, left_by, left_first}
use Rattle.hall.specs.JournalDesks.{left_of, moment_by}
use Rattle.hall.specs.Notes.{AreOfLanes, hall_notes, listed, of_lanes, owner_at, seen_in, world_known}
use Rattle.hall.specs.declared.desk.AtDesk.{Ghosts}
use Rattle.hall.specs.declared.desk.NotedDesk.{NotedDesk}
use Rattle.hall.specs.declared.journal.DeskNews.{DeskNews}
use Rattle.hall.specs.declared.journal.DeskWork.{DeskWork}
use Rattle.hall.specs.declared.journal.DeskWork.TheVariants.{Flush, FlushPast, KeepRegister, Look}
use Rattle.hall.specs.declared.note.HallNote.{HallNote}
use Rattle.hall.proofs.DeskTurnLemmas.{grows_here, grows_on, legal_as, pass_on, rests}
use Rattle.hall.proofs.FrontLemmas.{AreBelow}
use Rattle.hall.proofs.NoteLemmas.{of_all}
use Rattle.hall.proofs.PlainLemmas.{same_world}

-- ---- any lists

uncut_here : {Q V T R N : Type 0} (h : Lists Q V T R N) → GrowsUncut h h
uncut_here h = record {
  longer = grows_here h;
  register = ([], sym (append-nil h.register), tt);
  lanes = λ lane. ([], sym (append-nil (lane_of h.lanes lane)), tt);
  was = refl;
}

grows_keeping : {Q V T R N : Type 0} (h : Lists Q V T R N) (k : Keeping) → GrowsFrom (pushed h (at_desk k)) h
grows_keeping h k = record {
  sized = refl;
  register = ([], sym (append-nil h.register));
  lanes = λ lane. ([], sym (append-nil (lane_of h.lanes lane)));
  keepings = (k ∷ [], refl);
}

-- ---- any desk

module _ {D N : Type 0} where
  -- nothing was done
  pub stays : (met : Disks D) (notes : NoteOf N) (d : Standing D N) → Continues met notes d d
  stays met notes d = record {
    lanes = refl;
    start = refl;
    longer = record {
      register = ([], sym (append-nil (notes.history d.note).register));
      lane = λ l. ([], sym (append-nil ((notes.history d.note).lane l)));
      keepings = ([], sym (append-nil (notes.history d.note).keepings));
    };
    disk = same_here met d.disk;
    own = record { c = omega arith; p = omega arith };
    reached = λ honest. omega arith;
    lasts = λ honest moment own le far has. has;
  }

module _ {N : Type 0} where
  pub alike_at : (notes : Notes N) (lanes k : ℕ) (one other : N) → lanes ≡ k → notes.start lanes one ≡ notes.start lanes other
      → notes.history lanes one ≡ notes.history lanes other → notes.was lanes one ≡ notes.was lanes other → AreAlike (at_lanes notes k) one other
  alike_at notes lanes k one other same start history was =
      subst (λ (n : ℕ). AreAlike (at_lanes notes n) one other) same (record { start = start; history = history; was = was })

module _ {D N : Type 0} (met : Disks D) (notes : NoteOf N) (d : Standing D N) (lanes : ℕ) (seen note : N) (b : IsBehind met notes d lanes seen)
    (a : AreAlike notes note seen) where
  pub legal_note : IsLegal notes.kept.service (notes.start note) (notes.history note)
  legal_note = subst (λ (x : World notes.kept.service × History notes.kept.service). IsLegal notes.kept.service x.0 x.1)
      (λ i. (sym a.start i, sym a.history i)) b.legal

  pub resumes_note : Resumes (notes.history d.note) (notes.history note) d.kept
  resumes_note = subst (λ (h : History notes.kept.service). Resumes (notes.history d.note) h d.kept) (sym a.history) b.resumes

  pub keepings_note : AreItsKeepings met notes d (notes.history note)
  keepings_note = subst (λ (h : History notes.kept.service). AreItsKeepings met notes d h) (sym a.history) b.keepings

-- ---- the desk of a journal

-- how the rule of a hall reads it
pub record Reads {D J : Type 0} (met : Disks D) (ghosts : Ghosts J (Snapshot (Journal D met))) (d : J) (lanes : ℕ)
    (st : Standing D (HallNote (Snapshot (Journal D met)))) : Type 0 where
  pub note : (owners : List Lane) → ghosts.note d owners ≡ of_lanes (length owners) (seen_in st.note)
  pub reach : ghosts.reach d ≡ st.kept
  pub moment : ghosts.moment d ≡ met.moment st.at
  pub told_out : (j : Snapshot (Journal D met)) (ks : List Keeping) → ghosts.HasTold d j ks → AreTold met j.value st ks
  pub told_into : (j : Snapshot (Journal D met)) (ks : List Keeping) → AreTold met j.value st ks → ghosts.HasTold d j ks
  pub out : (o : Start RegisterState Lane (Snapshot (Journal D met))) → ghosts.IsSince d o → (lanes ≡ length o.owners) × IsJournalSince met st o
  pub into : (o : Start RegisterState Lane (Snapshot (Journal D met))) → (lanes ≡ length o.owners) × IsJournalSince met st o → ghosts.IsSince d o

-- so it reads the desk of this turn
pub reads_at : {D J : Type 0} (met : Disks D) {ghosts : Ghosts J (Snapshot (Journal D met))} (start : ArrayStart (Snapshot (Journal D met)))
    (c : Claim) (others : List Claim) (first taken : HallHand (array_service (lanes_in start)) RegisterState Lane (NotedDesk J) (Snapshot (Journal D met)))
    → HasTaken (desk_machines ghosts (lanes_in start)) start c others first taken → (d : J) (lanes : ℕ)
    (k : ℕ)
    (st : Standing D (HallNote (Snapshot (Journal D met)))) → lanes ≡ k → Reads met ghosts d lanes st → Reads met ghosts d k st
reads_at met {ghosts} start c others first taken t d lanes k st same reads = subst (λ (n : ℕ). Reads met ghosts d n st) same reads

module _ {D : Type 0} (met : Disks D) (st mid st' : Standing D (HallNote (Snapshot (Journal D met))))
    (resumed : Continues met (hall_notes st.lanes) st mid) (more : Continues met (hall_notes st.lanes) mid st')
    (lists : AreOfLanes st'.lanes (seen_in st'.note)) where
  journal_goes_on : (o : Start RegisterState Lane (Snapshot (Journal D met))) → IsJournalSince met st o → IsJournalSince met st' o
  journal_goes_on o since =
      let same : st'.lanes ≡ st.lanes = more.lanes ∙ resumed.lanes in record {
        lanes = same ∙ since.lanes;
        world = subst (λ (k : ℕ). (hall_notes k).start st'.note ≡ opening k (record { register = o.register; lanes = o.owners })) (sym same)
            (more.start ∙ resumed.start ∙ since.world);
        lists = lists;
        disk = same_both met (disk_of o.desk.value) st.disk st'.disk since.disk (same_both met st.disk mid.disk st'.disk resumed.disk more.disk);
        kept = λ honest.
            let first = since.disk.goes_on honest in
            let then_ = resumed.disk.goes_on honest in
            subst (λ (k : ℕ). KeepsSince met (hall_notes k) st' (met.moment (disk_of o.desk.value)) nowhere) (sym same)
            (more.lasts honest (met.moment (disk_of o.desk.value)) nowhere (omega (arith, first, then_)) (record { c = omega arith; p = omega arith })
            (resumed.lasts honest (met.moment (disk_of o.desk.value)) nowhere first (record { c = omega arith; p = omega arith }) (since.kept honest)));
        reached = λ honest.
            let first = since.reached honest in
            let then_ = resumed.reached honest in
            let last = more.reached honest in omega (arith, first, then_, last);
      }

-- the desk's note is what the pass has seen
module _ {D : Type 0} (met : Disks D) (st : Standing D (HallNote (Snapshot (Journal D met)))) (v : ArrayView (Snapshot (Journal D met))) (n : ℕ)
    (many : st.lanes ≡ n) (sized : length v.seen.lanes ≡ n) (owners : length v.seen.was ≡ n)
    (a : AreAlike (hall_notes st.lanes) st.note (note_seen v)) where
  pub lists_are : of_lanes n (seen_in st.note) ≡ v.seen
  lists_are = (λ i. record {
    register = (a.history i).register;
    lanes = listed n (λ l. (a.history i).lane l);
    keepings = (a.history i).keepings;
    was = listed n (λ l. a.was i l);
  }) ∙ of_all n v.seen sized owners

  pub note_of_lanes : AreOfLanes st.lanes (seen_in st.note)
  note_of_lanes = record {
    lists = ap (λ (k : ℕ). history_of (array_service st.lanes) (of_lanes k (seen_in st.note))) many
        ∙ ap (λ (g : ArrayLists). history_of (array_service st.lanes) g) lists_are ∙ sym a.history;
    was = ap (λ (k : ℕ). owner_at (of_lanes k (seen_in st.note)).was) many ∙ ap (λ (g : ArrayLists). owner_at g.was) lists_are ∙ sym a.was;
  }

-- ---- the desk lies in its slot

module _ {D J : Type 0} (met : Disks D) {ghosts : Ghosts J (Snapshot (Journal D met))} (start : ArrayStart (Snapshot (Journal D met)))
    (noted : NotedDesk J) (lanes : ℕ) (st : Standing D (HallNote (Snapshot (Journal D met)))) (reads : Reads met ghosts noted.desk lanes st) where
  module _ (h : ArrayLists) (is : IsDeskOf (desk_machines ghosts (lanes_in start)) start h noted) where
    pub since_here : (lanes ≡ lanes_in start) × IsJournalSince met st start
    unfolding desk_machines
    since_here = subst (λ (o : ArrayStart (Snapshot (Journal D met))). (lanes ≡ length o.owners) × IsJournalSince met st o)
        (λ i. record { register = is.register i; owners = is.owners i; desk = start.desk }) (reads.out _ is.since)

    uncut_here_note : GrowsUncut h (of_lanes (lanes_in start) (seen_in st.note))
    unfolding desk_machines
    uncut_here_note = subst (GrowsUncut h)
        (reads.note noted.owners.value.items ∙ ap (λ (os : List Lane). of_lanes (length os) (seen_in st.note)) is.owners) is.uncut

    pub owners_here : length h.was ≡ lanes_in start
    owners_here = ap (λ (os : List Lane). length os) uncut_here_note.was ∙ listed_length (lanes_in start) (λ l. owner_at (seen_in st.note).was l)
      where
        listed_length : (n : ℕ) (f : ℕ → Lane) → length (listed n f) ≡ n
        listed_length zero f = refl
        listed_length (suc n) f = ap suc (listed_length n (λ l. f (suc l)))

    pub far_here : AllByRecursion (λ (k : Keeping). IsAsFar k.own st.kept) h.keepings
    unfolding desk_machines
    far_here = subst (λ (r : Reach). AllByRecursion (λ (k : Keeping). IsAsFar k.own r) h.keepings) reads.reach is.far

    -- what the last turn left
    pub left_here : left_of st ≡ left_after (left_first start.desk.value) h.keepings
    unfolding desk_machines
    left_here = (reads.told_out start.desk h.keepings is.told).left

    -- and no turn counted more faults than its disk had
    pub counted_here : AllByRecursion (λ (k : Keeping). k.faults_after ≤ met.faults st.disk) h.keepings
    unfolding desk_machines
    counted_here = all_weaker _ _ h.keepings (λ (k : Keeping) (lies : LiesBetween met (disk_of start.desk.value) st.disk k). lies.faults_after)
        (reads.told_out start.desk h.keepings is.told).between

    kept_here : (k : Keeping) → IsIn h.keepings k → k.answer ≡ Kept
        → IsIn (seen_in st.note).keepings k ⊎ ((k.own ≡ st.kept) × (k.moment ≡ met.moment st.at))
    unfolding desk_machines
    kept_here k there answer = subst (λ (x : List Keeping × Reach × ℕ). IsIn x.0 k ⊎ ((k.own ≡ x.1) × (k.moment ≡ x.2)))
        (λ i. ((reads.note noted.owners.value.items i).keepings, reads.reach i, reads.moment i)) (is.kept k there answer)

  -- so its note may be brought up
  pub desk_behind : (v : ArrayView (Snapshot (Journal D met))) → v.start ≡ Some start
      → IsDeskOf (desk_machines ghosts (lanes_in start)) start v.seen noted
      → IsLegal (array_service (lanes_in start)) (world_of (desk_machines ghosts (lanes_in start)) start) (history_of (array_service (lanes_in start)) v.seen)
      → ListsAreHistories (array_service (lanes_in start)) Lane → IsBehind met (hall_notes st.lanes) st (lanes_in start) (note_seen v)
  desk_behind v begun is legal laws =
      let n = lanes_in start in
      let since = (since_here v.seen is).1 in
      let world = subst (λ (k : ℕ). (hall_notes k).start st.note ≡ opening k (world_known (Some start))) since.lanes since.world in
      let lists = subst (λ (k : ℕ). AreOfLanes k (seen_in st.note)) since.lanes since.lists in
      let known = ap (λ (o : Option (ArrayStart (Snapshot (Journal D met)))). opening n (world_known o)) begun in
      subst (λ (k : ℕ). IsBehind met (hall_notes k) st n (note_seen v)) (sym since.lanes) (record {
        lanes_are = sym since.lanes;
        start = known ∙ sym world;
        was = ap (λ (os : List Lane). owner_at os) (uncut_here_note v.seen is).was ∙ lists.was;
        legal = subst (λ (w : World (array_service n)). IsLegal (array_service n) w (history_of (array_service n) v.seen)) (sym known)
            (legal_as start (history_of (array_service n) v.seen)
            (subst (λ (w : World (array_service n)). IsLegal (array_service n) w (history_of (array_service n) v.seen)) (same_world ghosts n start) legal));
        resumes = record {
          others = subst (λ (g : History (array_service n)). GoesOn g (history_of (array_service n) v.seen)) lists.lists
              (laws.uncut v.seen (of_lanes n (seen_in st.note)) (uncut_here_note v.seen is));
          keepings = far_here v.seen is;
        };
        keepings = kept_here v.seen is;
      })

-- ---- the turn is taken

module _ {K : Type 0} (start : ArrayStart K) (v : ArrayView K) (pass : IsPass start v) (idle : v.claims ≡ []) where
  pub may_draw_desk : MayDrawDesk start v
  may_draw_desk =
      record { pass = pass; no_desk = ap (λ cs. total (numbers OfDesk) cs) idle; no_turn = ap (λ cs. total busy cs) idle }

module _ {J K : Type 0} (ghosts : Ghosts J K) (start : ArrayStart K) (v : ArrayView K) (pass : IsPass start v) (idle : v.claims ≡ []) (n : ℕ)
    (first taken : HallHand (array_service (lanes_in start)) RegisterState Lane (NotedDesk J) K)
    (drew : first.0 ≡ record v { claims = claim OfDesk n false ∷ v.claims })
    (t : HasTaken (desk_machines ghosts (lanes_in start)) start (claim OfDesk n false) v.claims first taken) where
  taken_is : taken.0 ≡ seeing v (claim OfDesk n true ∷ v.claims) t.seen
  taken_is = ap (λ (x : HallHand (array_service (lanes_in start)) RegisterState Lane (NotedDesk J) K). x.0) t.is
      ∙ (λ i. seeing (drew i) (claim OfDesk n true ∷ v.claims) t.seen)

  pub seen_taken : taken.0.seen ≡ t.seen
  seen_taken = ap (λ (x : ArrayView K). x.seen) taken_is

  pub begun_taken : taken.0.start ≡ Some start
  begun_taken = ap (λ (x : ArrayView K). x.start) taken_is ∙ pass.begun

  pub named_taken : names taken.0 ≡ names v
  named_taken = ap (λ (x : ArrayView K). names x) taken_is

  pub in_turn_taken : IsOpened start → (lanes : ℕ) → lanes ≡ lanes_in start → length taken.0.seen.was ≡ lanes_in start
      → IsInTurn start taken.0 taken.0 lanes lanes None
  in_turn_taken opened lanes many owners = record {
    opened = opened;
    lanes_are = many;
    pass = pass_on start v taken.0 _ t.seen taken_is pass;
    number = n;
    mine = ap (λ (x : ArrayView K). x.claims) taken_is ∙ ap (λ cs. claim OfDesk n true ∷ cs) idle;
    left = (many, refl);
    view_is = subst (λ (x : ArrayView K). x ≡ seeing x x.claims x.seen) (sym taken_is) refl;
    longer = grows_here taken.0.seen;
    keepings = refl;
    own_same = λ x named. refl;
    sized = ap (λ (h : ArrayLists). length h.lanes) seen_taken ∙ t.sized;
    owners = owners;
  }

  -- the desk that was taken out
  pub desk_taken : (noted : NotedDesk J) → t.slot ≡ AtDesk noted → IsDeskOf (desk_machines ghosts (lanes_in start)) start taken.0.seen noted
  desk_taken noted here = subst (λ (h : ArrayLists). IsDeskOf (desk_machines ghosts (lanes_in start)) start h noted) (sym seen_taken)
      (subst (λ x. StandsFor (desk_machines ghosts (lanes_in start)) OfDesk x start t.seen) here t.stands)

  pub legal_taken : IsLegal (array_service (lanes_in start)) (world_of (desk_machines ghosts (lanes_in start)) start)
      (history_of (array_service (lanes_in start)) taken.0.seen)
  legal_taken = subst (λ (h : ArrayLists). IsLegal (array_service (lanes_in start)) (world_of (desk_machines ghosts (lanes_in start)) start)
      (history_of (array_service (lanes_in start)) h)) (sym seen_taken) t.grown.legal

-- ---- the turn is passed

-- a keeping that was answered Ok has the moment at which the desk reached its numbers
reached_at : {D N : Type 0} (met : Disks D) (notes : NoteOf N) (work : DeskWork) (before after : Standing D N) (result : Result ℕ Why)
    → HasDone met notes work before after result → answer_by work result ≡ Kept → moment_by met after work result ≡ met.moment after.at
reached_at met notes Flush before after (Ok n) done answer = ap met.moment (sym done.all.at)
reached_at met notes Flush before after (Err why) done answer = absurd (let never : Refused ≡ Kept = answer in cc)
reached_at met notes (FlushPast place) before after (Ok n) done answer = refl
reached_at met notes (FlushPast place) before after (Err why) done answer = absurd (let never : Refused ≡ Kept = answer in cc)
reached_at met notes KeepRegister before after (Ok n) done answer = ap met.moment (sym done.0.all.at)
reached_at met notes KeepRegister before after (Err why) done answer = absurd (let never : Refused ≡ Kept = answer in cc)
reached_at met notes Look before after result done answer = absurd (let never : Looked ≡ Kept = answer in cc)

-- ---- what it told

pub left_push : (left : Left) (ks : List Keeping) (k : Keeping) → left_after left (ks ++ k ∷ []) ≡ left_by k
left_push left [] k = refl
left_push left (i ∷ ks) k = left_push (left_by i) ks k

follow_push : (most : ℕ) (left : Left) (ks : List Keeping) (k : Keeping) → AllFollow most left ks → Follows most (left_after left ks) k
    → AllFollow most left (ks ++ k ∷ [])
follow_push most left [] k all last = (last, tt)
follow_push most left (i ∷ ks) k all last = (all.0, follow_push most (left_by i) ks k all.1 last)

module _ {D N : Type 0} (met : Disks D) (notes : NoteOf N) (reached : Reach → ℕ) (before after : Standing D N) (result : Result ℕ Why)
    (done : HasKeptAll met notes reached before after result) where
  left_stays : StaysOwed before after → left_of after ≡ left_of before
  left_stays stays = λ i. record { end = stays.end i; owed = owed_by (stays.pending i); cut = stays.cut i; own = stays.kept i }

  settled_by : (p : Option (List Record)) → before.pending ≡ p → 0 < owed_by p
      → (left_of after ≡ left_of before) ⊎ (IsAsFar before.cut after.kept × (before.end + owed_by p ≤ met.most before.disk))
  settled_by None is some = absurd (omega arith)
  settled_by (Some rs) is some = dite (dec_le (before.end + need_of rs) (met.most before.disk))
      (λ fits. ⊎_elim (λ stays. inl (left_stays stays.1)) (λ kept. inr (kept, fits)) (done.first.settled rs is))
      (λ no. inl (left_stays (done.first.full rs is (omega (arith, no))).1))

  done_by : (answer_of result ≡ Kept) → (left_of after ≡ left_of before) ⊎ ((owed_by after.pending ≡ 0) × (after.kept ≡ after.cut))
  done_by = by result done.all where
    by : (r : Result ℕ Why) → OnOk r (IsAllKept after) → answer_of r ≡ Kept
        → (left_of after ≡ left_of before) ⊎ ((owed_by after.pending ≡ 0) × (after.kept ≡ after.cut))
    by (Ok n) all answer = inr (ap owed_by all.settled, all.kept)
    by (Err why) all answer = absurd (let never : Refused ≡ Kept = answer in cc)

-- of what it found
follows_by : {D N : Type 0} (met : Disks D) (notes : NoteOf N) (work : DeskWork) (before after : Standing D N) (result : Result ℕ Why)
    → HasDone met notes work before after result → Follows (met.most before.disk) (left_of before) (item_of met before after work result)
follows_by met notes Flush before after result done = record {
  settled = settled_by met notes (λ r. r.c) before after result done before.pending refl;
  done = done_by met notes (λ r. r.c) before after result done;
}
follows_by met notes (FlushPast place) before after result done = dite (dec_le (place + 1) before.kept.c)
    (λ more.
    let past : place < before.kept.c = omega (arith, more) in
    let same = ap left_of (done.shared past).0 in
    record { settled = λ some. inl same; done = λ answer. inl same })
    (λ no_more.
    let most : before.kept.c ≤ place = omega (arith, no_more) in
    let all = done.flushed most in record {
      settled = settled_by met notes (λ r. r.c) before after result all before.pending refl;
      done = done_by met notes (λ r. r.c) before after result all;
    })
follows_by met notes KeepRegister before after result done = record {
  settled = settled_by met notes (λ r. r.p) before after result done.0 before.pending refl;
  done = done_by met notes (λ r. r.p) before after result done.0;
}
follows_by met notes Look before after result done =
    let same = ap left_of done.0 in record { settled = λ some. inl same; done = λ answer. inl same }

-- its moment is that of the turn's end, or the one at which the desk reached its numbers
moment_behind : {D N : Type 0} (met : Disks D) (first : D) (after : Standing D N) → met.moment first ≤ met.moment after.at
    → met.moment first ≤ met.moment after.disk → (work : DeskWork) (result : Result ℕ Why) → met.moment first ≤ moment_by met after work result
moment_behind met first after at end Flush result = end
moment_behind met first after at end (FlushPast place) (Ok n) = at
moment_behind met first after at end (FlushPast place) (Err why) = end
moment_behind met first after at end KeepRegister result = end
moment_behind met first after at end Look result = end

moment_before : {D N : Type 0} (met : Disks D) (after : Standing D N) → met.moment after.at ≤ met.moment after.disk
    → (work : DeskWork) (result : Result ℕ Why) → moment_by met after work result ≤ met.moment after.disk
moment_before met after by_now Flush result = omega arith
moment_before met after by_now (FlushPast place) (Ok n) = by_now
moment_before met after by_now (FlushPast place) (Err why) = omega arith
moment_before met after by_now KeepRegister result = omega arith
moment_before met after by_now Look result = omega arith

module _ {D J : Type 0} (met : Disks D) {ghosts : Ghosts J (Snapshot (Journal D met))} (start : ArrayStart (Snapshot (Journal D met)))
    (laws : DeskTurns (desk_machines ghosts (lanes_in start))) (old new : NotedDesk J) (lanes : ℕ) (register_same : new.register ≡ old.register)
    (owners_same : new.owners ≡ old.owners) (st before st' : Standing D (HallNote (Snapshot (Journal D met))))
    (reads : Reads met ghosts old.desk lanes st) (reads' : Reads met ghosts new.desk lanes st')
    (v w : ArrayView (Snapshot (Journal D met))) (is : IsDeskOf (desk_machines ghosts (lanes_in start)) start v.seen old)
    (turn : IsInTurn start v w (lanes_in start) (lanes_in start) None)
    (resumed : Continues met (hall_notes st.lanes) st before) (continues : Continues met (hall_notes st.lanes) before st')
    (up_to : AreAlike (hall_notes st'.lanes) st'.note (note_seen w)) where
  many : st'.lanes ≡ lanes_in start
  many = continues.lanes ∙ resumed.lanes ∙ (since_here met start old lanes st reads v.seen is).1.lanes

  fits : AreOfLanes st'.lanes (seen_in st'.note)
  fits = note_of_lanes met st' w (lanes_in start) many turn.sized turn.owners up_to

  -- the desk went on
  pub gone_on : before.disk ≡ st.disk → (met.honest → KeepsSince met (hall_notes st'.lanes) st' (met.moment st'.disk) st'.kept)
      → (met.honest → KeepsSince met (hall_notes st'.lanes) st' (met.moment st'.at) st'.kept)
      → (met.honest → (i : Keeping) → IsIn (lists met (hall_notes st'.lanes) st').keepings i → i.answer ≡ Kept
      → KeepsSince met (hall_notes st'.lanes) st' i.moment i.own)
      → (met.honest → met.moment st'.at ≤ met.moment st'.disk)
      → (met.honest → st'.pending ≡ None → (image : List ℕ) → met.images st'.disk image
      → HoldsKept (array_kept st'.lanes) ((hall_notes st'.lanes).start st'.note) (lists met (hall_notes st'.lanes) st') st'.kept image)
      → AreOfCuts (hall_notes st'.lanes) st' → OwesItsCuts (hall_notes st'.lanes) st' → HasGoneOn met start before st'
  gone_on same images reached each by_now settled cuts owed =
      let since = (since_here met start old lanes st reads v.seen is).1 in record {
        first = subst (SameDisk met (disk_of start.desk.value)) (sym same) since.disk;
        went = subst (λ (k : ℕ). Continues met (hall_notes k) before st') since.lanes continues;
        since = journal_goes_on met st before st' resumed continues fits start since;
        images = λ honest. subst (λ (k : ℕ). KeepsSince met (hall_notes k) st' (met.moment st'.disk) st'.kept) many (images honest);
        reached = λ honest. subst (λ (k : ℕ). KeepsSince met (hall_notes k) st' (met.moment st'.at) st'.kept) many (reached honest);
        each = subst (λ (k : ℕ). met.honest → (i : Keeping) → IsIn (lists met (hall_notes k) st').keepings i → i.answer ≡ Kept
            → KeepsSince met (hall_notes k) st' i.moment i.own) many each;
        by_now = by_now;
        settled = subst (λ (k : ℕ). met.honest → st'.pending ≡ None → (image : List ℕ) → met.images st'.disk image
            → HoldsKept (array_kept k) ((hall_notes k).start st'.note) (lists met (hall_notes k) st') st'.kept image) many settled;
        cuts = subst (λ (k : ℕ). AreOfCuts (hall_notes k) st') many cuts;
        owed = subst (λ (k : ℕ). OwesItsCuts (hall_notes k) st') many owed;
      }

  before_fits : IsAsFar st.kept st'.kept
  before_fits = let a = resumed.own.c in let b = continues.own.c in let x = resumed.own.p in let y = continues.own.p in
      record { c = omega (arith, a, b); p = omega (arith, x, y) }

  seen_is : of_lanes (lanes_in start) (seen_in st'.note) ≡ w.seen
  seen_is = lists_are met st' w (lanes_in start) many turn.sized turn.owners up_to

  -- they have all that there was when the turn was taken, and what the pass has seen since begins with them
  pub noted_all : GrowsFrom (of_lanes (lanes_in start) (seen_in st'.note)) v.seen
  noted_all = subst (λ (h : ArrayLists). GrowsFrom h v.seen) (sym seen_is) turn.longer

  pub noted_begins : (k : Keeping) (back u : ArrayView (Snapshot (Journal D met))) → back ≡ w
      → HasPassed (desk_machines ghosts (lanes_in start)) start (at_desk k) back u → GrowsFrom u.seen (of_lanes (lanes_in start) (seen_in st'.note))
  noted_begins k back u same p =
      let grown = grows_on p.seen (pushed back.seen (at_desk k)) back.seen p.grown.begins (grows_keeping back.seen k) in
      subst (λ (x : ArrayLists × ArrayLists). GrowsFrom x.0 x.1)
      (λ i. (sym (ap (λ (x : ArrayView (Snapshot (Journal D met))). x.seen) p.is) i, (ap (λ (x : ArrayView (Snapshot (Journal D met))). x.seen) same ∙ sym seen_is) i))
      grown

  note_is : (owners : List Lane) → owners ≡ start.owners → ghosts.note new.desk owners ≡ w.seen
  note_is owners same = reads'.note owners ∙ ap (λ (os : List Lane). of_lanes (length os) (seen_in st'.note)) same
      ∙ seen_is

  -- what its keeping tells lies between the first disk and this one
  told_between : (met.honest → met.moment st'.at ≤ met.moment st'.disk) → (did : DeskNews)
      → LiesBetween met (disk_of start.desk.value) st'.disk (keeping_by met before st' did)
  told_between by_now did =
      let since = (since_here met start old lanes st reads v.seen is).1 in
      let after = journal_goes_on met st before st' resumed continues fits start since in
      let a = since.disk.faults in
      let b = resumed.disk.faults in record {
        faults_before = omega (arith, a, b);
        faults_after = omega arith;
        begun = λ honest. moment_behind met (disk_of start.desk.value) st' (after.reached honest) (after.disk.goes_on honest) did.work did.result.value;
        ended = λ honest. moment_before met st' (by_now honest) did.work did.result.value;
      }

  -- so do those that were told before
  tells : (met.honest → met.moment st'.at ≤ met.moment st'.disk) → left_of before ≡ left_of st → (did : DeskNews)
      → HasDone met (hall_notes st.lanes) did.work before st' did.result.value → (ks : List Keeping)
      → AreTold met start.desk.value st ks → AreTold met start.desk.value st' (ks ++ keeping_by met before st' did ∷ [])
  tells by_now same did done ks told =
      let k = keeping_by met before st' did in
      let first = left_first start.desk.value in
      let disk = (since_here met start old lanes st reads v.seen is).1.disk in
      let most : met.most before.disk ≡ met.most (disk_of start.desk.value) = resumed.disk.most ∙ disk.most in record {
        between = all_both _ ks (k ∷ [])
            (all_weaker _ _ ks (λ (i : Keeping) (lies : LiesBetween met (disk_of start.desk.value) st.disk i).
            let a = resumed.disk in
            let b = continues.disk in
            let c = lies.faults_after in
            let d = a.faults in
            let e = b.faults in record {
              faults_before = lies.faults_before;
              faults_after = omega (arith, c, d, e);
              begun = lies.begun;
              ended = λ honest.
                  let x = lies.ended honest in
                  let y = a.goes_on honest in
                  let z = b.goes_on honest in omega (arith, x, y, z);
            }) told.between)
            (told_between by_now did, tt);
        follow = follow_push (met.most (disk_of start.desk.value)) first ks k told.follow
            (subst (λ (x : ℕ × Left). Follows x.0 x.1 k) (λ i. (most i, (same ∙ told.left) i))
            (follows_by met (hall_notes st.lanes) did.work before st' did.result.value done));
        left = sym (left_push first ks k);
      }

  -- with its keeping it may be passed
  pub keeping_fits : (met.honest → met.moment st'.at ≤ met.moment st'.disk) → left_of before ≡ left_of st → (did : DeskNews)
      → HasDone met (hall_notes st.lanes) did.work before st' did.result.value
      → IsDeskOf (desk_machines ghosts (lanes_in start)) start (pushed w.seen (at_desk (keeping_by met before st' did))) new
  unfolding desk_machines
  keeping_fits by_now same did done =
      let owners = ap (λ (x : Snapshot _). x.value.items) owners_same ∙ is.owners in
      laws.keeps start w.seen v.seen old new (keeping_by met before st' did) is turn.keepings
      (λ first since.
      let o = reads.out _ since in
      subst (λ (p : Start RegisterState Lane (Snapshot (Journal D met))). ghosts.IsSince new.desk p)
      (λ i. record { register = (sym register_same i).value; owners = (sym owners_same i).value.items; desk = first })
      (reads'.into _ (o.0, journal_goes_on met st before st' resumed continues fits _ o.1)))
      (ap (λ (x : Snapshot RegisterState). x.value) register_same)
      (ap (λ (x : Snapshot _). x.value.items) owners_same)
      (subst (GrowsUncut w.seen) (sym (note_is new.owners.value.items owners)) (uncut_here w.seen))
      (ap (λ (h : ArrayLists). h.keepings) (note_is new.owners.value.items owners))
      (subst (λ (x : Reach × Reach). IsAsFar x.0 x.1) (λ i. (sym reads.reach i, sym reads'.reach i)) before_fits)
      (subst (λ (r : Reach). IsAsFar st'.kept r) (sym reads'.reach) (record { c = omega arith; p = omega arith }))
      (λ told. reads'.told_into start.desk _ (tells by_now same did done v.seen.keepings (reads.told_out start.desk v.seen.keepings told)))
      (λ answer. (
        sym reads'.reach,
        reached_at met (hall_notes st.lanes) did.work before st' did.result.value done answer ∙ sym reads'.moment,
      ))

  ready : (met.honest → met.moment st'.at ≤ met.moment st'.disk) → left_of before ≡ left_of st → (did : DeskNews) → HasDone met (hall_notes st.lanes) did.work before st' did.result.value
      → ghosts.news new.desk ≡ Some (keeping_by met before st' did)
      → (more : List (ℕ × HallSlot (array_service (lanes_in start)) RegisterState Lane (NotedDesk J)))
      → IsReadyToPass (desk_machines ghosts (lanes_in start)) start (at_desk (keeping_by met before st' did)) (w, (1, AtDesk new) ∷ more)
  unfolding desk_machines
  ready by_now same did done news more =
      laws.may_pass start (w, (1, AtDesk new) ∷ more) turn.number [] more new (keeping_by met before st' did) turn.pass (rests start turn refl).1 refl news
      (keeping_fits by_now same did done)

  pub may_pass_desk : (met.honest → met.moment st'.at ≤ met.moment st'.disk) → left_of before ≡ left_of st → (did : DeskNews) → HasDone met (hall_notes st.lanes) did.work before st' did.result.value
      → ghosts.news new.desk ≡ Some (keeping_by met before st' did)
      → (me : HallHand (array_service (lanes_in start)) RegisterState Lane (NotedDesk J) (Snapshot (Journal D met)))
      → (more : List (ℕ × HallSlot (array_service (lanes_in start)) RegisterState Lane (NotedDesk J))) → me ≡ (w, (1, AtDesk new) ∷ more)
      → IsReadyToPass (desk_machines ghosts (lanes_in start)) start (at_desk (keeping_by met before st' did)) me
  may_pass_desk by_now same did done news me more is_me =
      subst (λ (x : HallHand (array_service (lanes_in start)) RegisterState Lane (NotedDesk J) (Snapshot (Journal D met))).
      IsReadyToPass (desk_machines ghosts (lanes_in start)) start (at_desk (keeping_by met before st' did)) x) (sym is_me) (ready by_now same did done news more)

-- ---- what the turn leaves

places_more : {Q V : Type 0} (xs ys : List (RegisterItem Q V)) → places xs ≤ places (xs ++ ys)
places_more [] ys = omega arith
places_more (Entered e ∷ xs) ys = let more = places_more xs ys in omega arith
places_more (DrawnCut n k ∷ xs) ys = places_more xs ys
places_more (RegisterCut p found ∷ xs) ys = places_more xs ys

ok_as : (result : Result ℕ Why) (m seen there : ℕ) → seen ≤ there → IfOk result (λ n. (m ≡ n) × (there ≤ n)) → IfOk result (λ n. (n ≡ m) × (seen ≤ n))
ok_as (Ok n) m seen there le ok = let more = ok.1 in (sym ok.0, omega (arith, le, more))
ok_as (Err why) m seen there le ok = ok

-- what a flush kept it has kept since its end
at_its_end : {D N : Type 0} (met : Disks D) (notes : NoteOf N) (reached : Reach → ℕ) (place : ℕ) (before after : Standing D N) (result : Result ℕ Why)
    → HasKeptAll met notes reached before after result → moment_by met after (FlushPast place) result ≡ met.moment after.disk
at_its_end met notes reached place before after (Ok n) done = ap met.moment done.all.at
at_its_end met notes reached place before after (Err why) done = refl

-- it was what the last turn left, none before reaches farther or counted more faults, and the note has all that there was
abbrev pub IsFound : {D : Type 0} {met : Disks D} → ArrayStart (Snapshot (Journal D met))
    → (before after : Standing D (HallNote (Snapshot (Journal D met)))) → ArrayLists → Type 0
IsFound {met} start before after h =
    AllByRecursion (λ (i : Keeping). IsAsFar i.own before.kept) h.keepings
    × (left_of before ≡ left_after (left_first start.desk.value) h.keepings)
    × GrowsFrom (of_lanes (lanes_in start) (seen_in after.note)) h
    × AllByRecursion (λ (i : Keeping). i.faults_after ≤ met.faults before.disk) h.keepings

-- what is kept from the lists of the note is kept from those that begin with them
module _ {D : Type 0} (met : Disks D) (start : ArrayStart (Snapshot (Journal D met))) (d : Standing D (HallNote (Snapshot (Journal D met))))
    (since : IsJournalSince met d start) (stays : StaysKept (array_service (lanes_in start))) (seen : ArrayLists)
    (legal : IsLegal (array_service (lanes_in start)) (world_of (machines {K = Snapshot (Journal D met)} (lanes_in start)) start) (history_of (array_service (lanes_in start)) seen))
    (begins : GrowsFrom seen (of_lanes (lanes_in start) (seen_in d.note))) where
  legal_noted : IsLegal (array_service (lanes_in start)) ((hall_notes (lanes_in start)).start d.note) (history_of (array_service (lanes_in start)) seen)
  legal_noted =
      let n = lanes_in start in
      let world = subst (λ (k : ℕ). (hall_notes k).start d.note ≡ opening k (world_known (Some start))) since.lanes since.world in
      subst (λ (w : World (array_service n)). IsLegal (array_service n) w (history_of (array_service n) seen)) (sym world)
      (legal_as start (history_of (array_service n) seen) legal)

  longer_noted : IsPrefix (lists met (hall_notes (lanes_in start)) d) (history_of (array_service (lanes_in start)) seen)
  longer_noted =
      let n = lanes_in start in
      let of = subst (λ (k : ℕ). AreOfLanes k (seen_in d.note)) since.lanes since.lists in
      subst (λ (h : History (array_service n)). IsPrefix h (history_of (array_service n) seen)) of.lists
      (record { register = begins.register; lane = begins.lanes; keepings = begins.keepings })

  kept_later : (moment : ℕ) (own : Reach) → KeepsSince met (hall_notes (lanes_in start)) d moment own
      → HoldSince met (array_kept (lanes_in start)) ((hall_notes (lanes_in start)).start d.note) (history_of (array_service (lanes_in start)) seen) d.disk moment own
  kept_later moment own kept = λ image left.
      let x = kept image left in
      let k = x.at.kept in record {
        reach = x.reach;
        at = record {
          bodies = x.at.bodies;
          holds = x.at.holds;
          kept = record {
            world = k.world;
            told = k.told;
            kept = stays ((hall_notes (lanes_in start)).start d.note) (lists met (hall_notes (lanes_in start)) d) (history_of (array_service (lanes_in start)) seen)
                k.world x.reach k.kept legal_noted longer_noted;
          };
        };
        far = x.far;
      }

module _ {D : Type 0} (met : Disks D) (start : ArrayStart (Snapshot (Journal D met))) (k : ℕ)
    (before after : Standing D (HallNote (Snapshot (Journal D met)))) (result : Result ℕ Why) (v w : ArrayView (Snapshot (Journal D met)))
    (many : k ≡ lanes_in start) (owing : OwesItsCuts (hall_notes k) before) (far : places v.seen.register ≤ places (seen_in before.note).register) (gone : HasGoneOn met start before after)
    (begins : GrowsFrom w.seen (of_lanes (lanes_in start) (seen_in after.note))) (stays : StaysKept (array_service (lanes_in start))) where
  -- what its note has
  noted_in : (d : Standing D (HallNote (Snapshot (Journal D met)))) → after ≡ d → (item : Keeping)
      (t : HasKept (machines (lanes_in start)) start item [] v w) → IsFound start before d t.before → HasNoted met start d t.before t.seen
  noted_in d same item t found =
      let here = subst (λ (x : ArrayLists × Standing D (HallNote (Snapshot (Journal D met)))). GrowsFrom x.0 (of_lanes (lanes_in start) (seen_in x.1.note)))
      (λ i. (ap (λ (x : ArrayView (Snapshot (Journal D met))). x.seen) t.is i, same i)) begins in
      let went = subst (HasGoneOn met start before) same gone in record {
        all = found.2;
        begins = here;
        images = λ honest. kept_later met start d went.since stays t.seen t.legal here (met.moment d.disk) d.kept (went.images honest);
        each = λ honest i was is. kept_later met start d went.since stays t.seen t.legal here i.moment i.own
            (went.each honest i (in_longer (seen_in d.note).keepings t.before.keepings i found.2.keepings was) is);
      }

  to_here : (reached : Reach → ℕ) → (t : HasKept (machines (lanes_in start)) start (keeping_of met before after result) [] v w)
      × IsFound start before after t.before → HasKeptAll met (hall_notes k) reached before after result → HasKeptTo met reached start result v w
  to_here reached turn done = record {
    before = before;
    after = after;
    turn = turn.0;
    far = turn.1.0;
    counted = turn.1.3;
    found = turn.1.1;
    gone = gone;
    noted = noted_in after refl (keeping_of met before after result) turn.0 turn.1;
    ok = ok_as result (reached after.kept) (places v.seen.register) (places (seen_in before.note).register) far done.ok;
    all = done.all;
    cause = done.cause;
    full = done.full;
    first = done.first;
    stopped = done.stopped;
    owing = subst (λ (n : ℕ). OwesItsCuts (hall_notes n) before) many owing;
    wrote = subst (λ (n : ℕ). AppendsCuts (hall_notes n) before after result) many done.wrote;
  }

  -- the place was kept already
  shared_here : (place : ℕ) → place < before.kept.c
      → (t : HasKept (machines (lanes_in start)) start (item_of met before after (FlushPast place) result) [] v w)
      × IsFound start before after t.before → (after ≡ before) × (result ≡ Ok before.kept.c)
      → HasShared met start place result v w
  shared_here place past turn same =
      let shared = subst (λ (x : Standing D (HallNote (Snapshot (Journal D met))) × Result ℕ Why). (t : HasKept (machines (lanes_in start)) start
      (item_of met before x.0 (FlushPast place) x.1) [] v w) × IsFound start before x.0 t.before)
      (λ i. (same.0 i, same.1 i)) turn in record {
        desk = before;
        turn = shared.0;
        far = shared.1.0;
        found = shared.1.1;
        gone = subst (HasGoneOn met start before) same.0 gone;
        noted = noted_in before same.0 _ shared.0 shared.1;
        past = past;
        is = same.1;
      }

  -- it was not, and all was flushed
  flushed_here : (place : ℕ) → before.kept.c ≤ place
      → (t : HasKept (machines (lanes_in start)) start (item_of met before after (FlushPast place) result) [] v w)
      × IsFound start before after t.before → HasKeptAll met (hall_notes k) (λ r. r.c) before after result
      → (flushed : HasFlushed met start result v w) × (flushed.before.kept.c ≤ place)
  unfolding to_here
  flushed_here place most turn done = (
    to_here (λ r. r.c) (subst (λ (m : ℕ). (t : HasKept (machines (lanes_in start)) start (record (keeping_of met before after result) { moment = m }) [] v w)
        × IsFound start before after t.before)
        (at_its_end met (hall_notes k) (λ r. r.c) place before after result done) turn) done,
    most,
  )

  pub turn_is : (work : DeskWork) → (t : HasKept (machines (lanes_in start)) start (item_of met before after work result) [] v w)
      × IsFound start before after t.before → HasDone met (hall_notes k) work before after result → IsTurnOf met work start result v w
  unfolding to_here
  turn_is Flush turn done = to_here (λ r. r.c) turn done
  turn_is (FlushPast place) turn done = dite (dec_le (place + 1) before.kept.c)
      (λ more.
      let past : place < before.kept.c = omega (arith, more) in inl (shared_here place past turn (done.shared past)))
      (λ no_more.
      let most : before.kept.c ≤ place = omega (arith, no_more) in inr (flushed_here place most turn (done.flushed most)))
  turn_is KeepRegister turn done = (to_here (λ r. r.p) turn done.0, done.1)
  turn_is Look turn done =
      let looked = subst (λ (d : Standing D (HallNote (Snapshot (Journal D met)))). (t : HasKept (machines (lanes_in start)) start
      (record (keeping_of met before d (Ok before.kept.c)) { answer = Looked }) [] v w)
      × IsFound start before d t.before) done.0 turn in (
        before.kept.c,
        done.1,
        record {
          desk = before;
          turn = looked.0;
          far = looked.1.0;
          found = looked.1.1;
          gone = subst (HasGoneOn met start before) done.0 gone;
          noted = noted_in before done.0 _ looked.0 looked.1;
          is = refl;
        },
      )

module _ {J K : Type 0} (ghosts : Ghosts J K) (start : ArrayStart K) (laws : DeskTurns (desk_machines ghosts (lanes_in start))) (v : ArrayView K)
    (pass : IsPass start v) (idle : v.claims ≡ []) (n : ℕ)
    (first taken back : HallHand (array_service (lanes_in start)) RegisterState Lane (NotedDesk J) K)
    (drew : first.0 ≡ record v { claims = claim OfDesk n false ∷ v.claims })
    (t : HasTaken (desk_machines ghosts (lanes_in start)) start (claim OfDesk n false) v.claims first taken)
    (turn : IsInTurn start taken.0 back.0 (lanes_in start) (lanes_in start) None) where
  seen_then : taken.0.seen ≡ t.seen
  seen_then = seen_taken ghosts start v pass idle n first taken drew t

  claims_then : back.0.claims ≡ taken.0.claims
  claims_then = (rests start turn refl).1 ∙ sym turn.mine

  -- what the pass had seen was there before the turn
  pub far_then : (k : ℕ) (before : HallNote K) → AreAlike (hall_notes k) before (note_seen taken.0)
      → places v.seen.register ≤ places (seen_in before).register
  far_then k before a =
      let same : (seen_in before).register ≡ t.seen.register =
      ap (λ (h : History (array_service k)). h.register) a.history ∙ ap (λ (h : ArrayLists). h.register) seen_then in
      let grew = t.grown.begins.register in
      let more = places_more first.0.seen.register grew.0 in
      let all : places (seen_in before).register ≡ places (first.0.seen.register ++ grew.0) =
      ap (λ (items : List (RegisterItem Asked Verdict)). places items) (same ∙ grew.1) in
      let was : places first.0.seen.register ≡ places v.seen.register = ap (λ (x : ArrayView K). places x.seen.register) drew in
      omega (arith, more, all, was)

  -- what was true of the lists when the turn was taken is so of those before this keeping
  pub kept_then : (P : ArrayLists → Type 0) → P taken.0.seen → (k : Keeping) (w : ArrayView K)
      → HasPassed (desk_machines ghosts (lanes_in start)) start (at_desk k) back.0 w → (t : HasKept (machines (lanes_in start)) start k [] v w)
      × P t.before
  kept_then P found k w passed =
      let law = laws.kept start n k v first taken back w (may_draw_desk start v pass idle) drew t
      (turn.view_is ∙ (λ i. seeing taken.0 (claims_then i) back.0.seen))
      (subst (GrowsFrom back.0.seen) seen_then turn.longer)
      (turn.keepings ∙ ap (λ (h : ArrayLists). h.keepings) seen_then)
      (λ y named. turn.own_same y (subst (λ ns. 0 < times y ns) (sym (named_taken ghosts start v pass idle n first taken drew t)) named)
      ∙ ap (λ (h : ArrayLists). own y h.register) seen_then)
      passed in
      let x = law.0 in
      subst (λ cs. (t : HasKept (machines (lanes_in start)) start k cs v w) × P t.before)
      idle (
        record {
          before = x.before;
          seen = x.seen;
          is = x.is;
          begins = x.begins;
          longer = x.longer;
          keepings = x.keepings;
          own_same = x.own_same;
          legal = subst (λ (y : World (array_service (lanes_in start))). IsLegal (array_service (lanes_in start)) y
              (history_of (array_service (lanes_in start)) x.seen)) (same_world ghosts (lanes_in start) start) x.legal;
          unused = x.unused;
        },
        subst P (seen_then ∙ sym law.1) found,
      )

-- whether a flush was shared or not, it is one turn of the desk
pub one_kept : {D : Type 0} (met : Disks D) (start : ArrayStart (Snapshot (Journal D met))) (place : ℕ) (result : Result ℕ Why)
    (v w : ArrayView (Snapshot (Journal D met))) → HasFlushedPast met start place result v w
    → (k : Keeping) × HasKept (machines (lanes_in start)) start k [] v w
one_kept met start place result v w turn = ⊎_elim (λ shared. (_, shared.turn)) (λ flushed. (_, flushed.0.turn)) turn

-- ---- the pass

module _ {K : Type 0} (start : ArrayStart K) (k : Keeping) (v w : ArrayView K) (kept : HasKept (machines (lanes_in start)) start k [] v w) where
  pub counted_after : (front : ℕ) → front ≤ places v.seen.register → front ≤ places w.seen.register
  counted_after front le =
      let a = kept.begins.register in
      let b = kept.longer.register in
      let x = places_more v.seen.register a.0 in
      let y = places_more kept.before.register b.0 in
      let p : places kept.before.register ≡ places (v.seen.register ++ a.0) = ap (λ (items : List (RegisterItem Asked Verdict)). places items) a.1 in
      let q : places w.seen.register ≡ places (kept.before.register ++ b.0) =
      ap (λ (z : ArrayView K). places z.seen.register) kept.is ∙ ap (λ (items : List (RegisterItem Asked Verdict)). places items) b.1 in
      omega (arith, le, x, y, p, q)

  pub below_after : (front : ℕ) → AreBelow front v → AreBelow front w
  below_after front below = λ x e named here.
      let mine = subst (λ ns. 0 < times x ns) (ap (λ (z : ArrayView K). names z) kept.is) named in
      below x e mine (subst (λ es. IsIn es e) (ap (λ (z : ArrayView K). own x z.seen.register) kept.is ∙ kept.own_same x mine) here)
