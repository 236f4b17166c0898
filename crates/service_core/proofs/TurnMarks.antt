-- What the turns of a request mark, lane by lane.
use Rattle.std.proofs.Common.{◌≡◌, ◌≢◌, ◌⊎◌, inl, inr, ⊎_elim, ℕ, zero, suc, ◌+◌, ◌<◌, true, List, [], ◌∷◌, ◌++◌, length, get_or, Option, Some, None, Result, Ok, Err, IsErrAnd, refl, sym, ap, subst, ◌∙◌, append_assoc, arith}
use Rattle.std.specs.Prelude.{slice_set}
use Rattle.std.specs.FinMap.{get}
use Rattle.object_ids.specs.IdValues.{Id}
use Rattle.object_ids.specs.Ids.{lane_of}
use Rattle.object_ops.specs.Replies.{Follows, was_done}
use Rattle.object_ops.specs.declared.grants.Grant.{Grant}
use Rattle.object_ops.specs.declared.grants.Step.{Step}
use Rattle.object_ops.specs.declared.ops.Op.{Op}
use Rattle.object_ops.specs.declared.ops.Op.TheVariants.{DropObject}
use Rattle.object_ops.specs.declared.replies.Reply.{Reply}
use Rattle.object_acts.specs.Arrays.Marked.{IsDone}
use Rattle.object_acts.specs.Objects.{Objects}
use Rattle.object_acts.specs.declared.objects.Object.{Object}
use Rattle.chunk_owner.specs.Acts.{IsTouchedIn, acted, touched}
use Rattle.chunk_owner.specs.Lanes.{IsWhole, Lane}
use Rattle.chunk_owner.specs.Marks.{IsMarkAt, IsStepMark as IsLaneMark}
use Rattle.chunk_owner.specs.Owners.Joined.{AreLanes, whole}
use Rattle.chunk_owner.specs.Slots.Marking.{AddsMarks, IsToDrop, IsToForget}
use Rattle.chunk_owner.specs.Slots.Slots.{IsMarked, IsMarkedIn as IsMarkedAt, object_by, object_of}
use Rattle.chunk_owner.specs.declared.slots.slot.Mark.{Mark}
use Rattle.chunk_owner.specs.declared.slots.slot.Mark.TheVariants.{Kept, Changed, Dropped}
use Rattle.chunk_owner.specs.declared.slots.slot.Slot.{Slot}
use Rattle.chunk_owner.proofs.OfOwners.WholeLemmas.{at_home, this_lane}
use Rattle.chunk_owner.proofs.OfSlots.Standing.{get-objects_of}
use Rattle.access_lists.specs.declared.people.Caller.{Caller}
use Rattle.object_ops.specs.declared.ops.Request.{Request}
use Rattle.register.specs.Decided.{Decides, RegisterState, decided, passed}
use Rattle.register.specs.Kept.{IsRegisterMarked}
use Rattle.register.specs.declared.tickets.Turn.{Turn}
use Rattle.register.specs.declared.verdicts.Verdict.{Verdict}
use Rattle.register.specs.declared.verdicts.Verdict.TheVariants as verdict
use Rattle.register.specs.Tickets.{Issue}
use Rattle.service_core.specs.declared.answers.What.{What}
use Rattle.service_core.specs.declared.answers.What.TheVariants as whats
use Rattle.service_core.specs.Marking.{AddsLaneMarks, AddsRequestMarks, AddsWorldMarks, IsForgetMark, IsNodeMark, IsObjectMark, IsRemovalMark, IsRequestMark, IsStepMark, IsTakenMark, IsTurnMark, IsVerdictMark, MarksFront, MarksTurns, MarksVerdict, StopsMarking}
use Rattle.service_core.specs.Marking.IsRequestMark.{of_objects, of_register}
use Rattle.service_core.specs.Steps.{Obeys, Takes}
use Rattle.service_core.specs.Worlds.{State, seen}
use Rattle.service_core.proofs.DecideMarks.{decides_marks, undecided_marks}
use Rattle.service_core.proofs.ForgetLemmas.{Forgetting, SoFar as SoForgotten, turn_below, turn_next}
use Rattle.service_core.proofs.TurnLemmas.{SoFar, more_done, wants}

-- ---- one lane of several

-- what is marked where one lane changes
pub marked_set : (P : List ℕ → Type 0) (l new : Lane) → AddsMarks P l.slots new.slots → (i : ℕ) (ls : List Lane) → get_or ls i l ≡ l → AddsLaneMarks P ls (slice_set ls i new)
marked_set P l new adds i [] is key marked = inl marked
marked_set P l new adds zero (x ∷ ls) is key (inl here) =
    ⊎_elim (λ was. inl (inl (subst (λ (y : Lane). IsMarked y.slots key) (sym is) was))) (λ p. inr p) (adds key here)
marked_set P l new adds zero (x ∷ ls) is key (inr more) = inl (inr more)
marked_set P l new adds (suc i) (x ∷ ls) is key (inl here) = inl (inl here)
marked_set P l new adds (suc i) (x ∷ ls) is key (inr more) = ⊎_elim (λ was. inl (inr was)) (λ p. inr p) (marked_set P l new adds i ls is key more)

pub marks_on : (P : List ℕ → Type 0) (a b c : List Lane) → AddsLaneMarks P a b → AddsLaneMarks P b c → AddsLaneMarks P a c
marks_on P a b c first later key marked = ⊎_elim (λ was. first key was) (λ p. inr p) (later key marked)

-- ---- what is marked, of objects

removal_by : (id : Id) (o : Object) (m : Mark) (key : List ℕ) → m ≢ Dropped → IsMarkedAt id Dropped o.body key → IsRemovalMark id (object_by m o) key
removal_by id o Kept key stands marked = ⊎_elim (λ own. inl own.0) (λ c. inr (c.0, c.1, c.2, c.3)) marked
removal_by id o Changed key stands marked = ⊎_elim (λ own. inl own.0) (λ c. inr (c.0, c.1, c.2, c.3)) marked
removal_by id o Dropped key stands marked = absurd (stands refl)

slot_removal : (id : Id) (slot : Option Slot) (key : List ℕ) → IsToDrop id slot key → IsRemovalMark id (object_of slot) key
slot_removal id None key h = absurd h
slot_removal id (Some s) key h = removal_by id s.object s.mark key h.0 h.1

slot_mark : (op : Op) (id : Id) (slot : Option Slot) (key : List ℕ) → IsMarkAt id op slot key → IsObjectMark id op (object_of slot) key
slot_mark (DropObject at) id slot key h = slot_removal id slot key h
slot_mark op id slot key h = h

-- ---- a lane among all

module _ (n i : ℕ) (ls : List Lane) (l : Lane) (h : AreLanes n 0 ls) (few : i < length ls) (is : get_or ls i l ≡ l) (wholes : IsWhole l) where
  -- what stands at an id of the lane
  object_at : (id : Id) → lane_of n id ≡ i → object_of (get l.slots id) ≡ get (whole ls) id
  object_at id at =
      let e : lane_of n id ≡ 0 + i = omega (arith, at) in
      sym (get-objects_of l.slots id) ∙ ap (λ (m : Objects). get m id) (sym wholes.objects) ∙ sym (at_home n 0 i ls l h id e few is)

  -- a step marks what it changes
  pub step_mark : {E : Type 0} (g : Grant) (op : Op) (s : Step) (r : Result Reply E) (new : Objects) → IsTouchedIn i n (touched g op s) → Follows (acted g op s (whole ls)) (whole ls) r new
      → (key : List ℕ) → IsDone r × IsLaneMark g op s l.slots key → IsStepMark g op s (whole ls) key
  step_mark g op s (Ok reply) new touches follows key m = record {
    id = m.1.id;
    at = m.1.at;
    changes = m.1.changes;
    done = sym (ap was_done follows.0) ∙ m.0;
    part = subst (λ (o : Option Object). IsObjectMark m.1.id op o key) (object_at m.1.id (subst (λ (t : Option Id). IsTouchedIn i n t) m.1.at touches)) (slot_mark op m.1.id (get l.slots m.1.id) key m.1.part);
  }
  step_mark g op s (Err e) new touches follows key m = absurd m.0

  -- the removal of a domain marks what it drops
  home : (id : Id) (slot : Option Slot) (key : List ℕ) → get l.slots id ≡ slot → IsToDrop id slot key → lane_of n id ≡ i
  home id None key e drop = absurd drop
  home id (Some s) key e drop =
      let this = this_lane n i ls l l h few is in
      ap (λ j. lane_of j id) (sym this.lanes) ∙ wholes.slots.home id s e ∙ this.lane

  pub forget_mark : (number : ℕ) (key : List ℕ) → IsToForget number (get l.slots) key → IsForgetMark number (whole ls) key
  forget_mark number key m = record {
    id = m.0;
    of = m.1;
    part = subst (λ (o : Option Object). IsRemovalMark m.0 o key) (object_at m.0 (home m.0 (get l.slots m.0) key refl m.2)) (slot_removal m.0 (get l.slots m.0) key m.2);
  }

-- the lane whose turn comes is as it was
pub same_lane : (number k : ℕ) (os ls : List Lane) (l : Lane) → Forgetting number k os ls → k < length ls → get_or ls k l ≡ l → get_or os k l ≡ l
same_lane number k [] [] l h few is = refl
same_lane number k [] (x ∷ ls) l h few is = absurd h
same_lane number k (o ∷ os) [] l h few is = absurd h
same_lane number zero (o ∷ os) (x ∷ ls) l h few is = sym h.0 ∙ is
same_lane number (suc k) (o ∷ os) (x ∷ ls) l h few is = same_lane number k os ls l h.1 (omega (arith, few)) is

-- ---- the turns of a request

-- what was done of some turns, and what is left; those that were done marked what they changed
pub record MarkedSoFar (g : Grant) (op : Op) (all : List Turn) (old : List Lane) (reply : Reply) (cur : List Lane) (left : List Turn) : Type 0 where
  pub so : SoFar g op all (whole old) reply (whole cur) left
  pub alone : AddsLaneMarks (IsTurnMark g op so.front (whole old)) old cur

module _ (g : Grant) (op : Op) (old : List Lane) where
  -- a mark of some turns is one of more
  more_turns : (front more : List Turn) (key : List ℕ) → IsTurnMark g op front (whole old) key → IsTurnMark g op (front ++ more) (whole old) key
  more_turns front more key p = record {
    front = p.front;
    turn = p.turn;
    rest = p.rest ++ more;
    split = ap (λ ts. ts ++ more) p.split ∙ append_assoc p.front (p.turn ∷ p.rest) more;
    reached = p.reached;
    mark = p.mark;
  }

  module _ (all : List Turn) where
    module _ (reply : Reply) (cur new : List Lane) (left : List Turn) (s : MarkedSoFar g op all old reply cur left) where
      last_mark : (t : Turn) → was_done reply ≡ true → (key : List ℕ) → IsTakenMark g op t.step (whole cur) key → IsTurnMark g op (s.so.front ++ t ∷ []) (whole old) key
      last_mark t done key p = record {
        front = s.so.front;
        turn = t;
        rest = [];
        split = refl;
        reached = ap (λ (q : Reply × Objects). was_done q.0) s.so.done ∙ done;
        mark = subst (λ (m : Objects). IsTakenMark g op t.step m key) (sym (ap (λ (q : Reply × Objects). q.1) s.so.done)) p;
      }

      pub marks_more : (E : Type 0) (r : Reply) (rest : List Turn) (t : Turn) → left ≡ t ∷ rest → was_done reply ≡ true → Takes {E = E} g op t.step (whole cur) (Ok r) (whole new)
          → AddsLaneMarks (λ key. IsDone {E = E} (Ok r) × IsTakenMark g op t.step (whole cur) key) cur new → MarkedSoFar g op all old r new rest
      marks_more E r rest t is done takes now = record {
        so = record {
          front = s.so.front ++ t ∷ [];
          split = s.so.split ∙ ap (λ ts. s.so.front ++ ts) is ∙ sym (append_assoc s.so.front (t ∷ []) rest);
          done = more_done g op all (whole old) E reply r (whole cur) (whole new) left t done takes s.so;
        };
        alone = λ key marked. ⊎_elim
            (λ was. ⊎_elim (λ before. inl before) (λ p. inr (more_turns s.so.front (t ∷ []) key p)) (s.alone key was))
            (λ p. inr (last_mark t done key p.1)) (now key marked);
      }

      -- all of them are marks of the turns
      pub marks_ended : AddsLaneMarks (IsTurnMark g op all (whole old)) old cur
      marks_ended key marked = ⊎_elim (λ was. inl was)
          (λ p. inr (subst (λ (ts : List Turn). IsTurnMark g op ts (whole old) key) (sym s.so.split) (more_turns s.so.front left key p))) (s.alone key marked)

      -- no memory was found for the next one
      pub marks_stopped : {E : Type 0} (e : E) (rest : List Turn) (t : Turn) → left ≡ t ∷ rest → was_done reply ≡ true → Takes g op t.step (whole cur) (Err e) (whole new)
          → AddsLaneMarks (λ key. IsDone {E = E} (Err e) × IsTakenMark g op t.step (whole cur) key) cur new → MarksFront g op all old new
      marks_stopped e rest t is done takes now = let w = wants g op all (whole old) t.step (whole cur) (whole new) e takes in record {
        stop = record {
          front = s.so.front;
          short = t;
          rest = rest;
          split = s.so.split ∙ ap (λ ts. s.so.front ++ ts) is;
          step = w.0;
          reached = ap (λ (q : Reply × Objects). was_done q.0) s.so.done ∙ done;
          stands = w.1 ∙ sym (ap (λ (q : Reply × Objects). q.1) s.so.done);
        };
        alone = λ key marked. ⊎_elim (λ was. s.alone key was) (λ p. absurd p.0) (now key marked);
      }

-- the want of memory is handed on
pub marks_handed : {E : Type 0} (g : Grant) (op : Op) (all : List Turn) (old new : List Lane) (r : Result Reply E) (e : E) → IsErrAnd r (λ x. x ≡ e) → MarksFront g op all old new → MarksTurns g op all old r new
marks_handed g op all old new (Ok x) e h m = absurd h
marks_handed g op all old new (Err x) e h m = m

-- ---- the removal of a domain

pub forget_marks : (number : ℕ) (old ls : List Lane) (left rest : List Turn) (t : Turn) (l new : Lane) → left ≡ t ∷ rest → AreLanes (length old) 0 old → length ls ≡ length old → get_or ls t.lane l ≡ l → IsWhole l
    → SoForgotten number (length old) old ls left → AddsLaneMarks (IsForgetMark number (whole old)) old ls → AddsMarks (IsToForget number (get l.slots)) l.slots new.slots
    → AddsLaneMarks (IsForgetMark number (whole old)) old (slice_set ls t.lane new)
forget_marks number old ls left rest t l new is lanes count at wholes s before adds =
    let below : t.lane < length old = turn_below number (length old) old ls left rest t is s in
    let next = turn_next number (length old) old ls left rest t is s in
    let was : get_or old t.lane l ≡ l =
    subst (λ (j : ℕ). get_or old j l ≡ l) (sym next.0)
    (same_lane number s.count old ls l s.lanes (omega (arith, below, count, next.0)) (ap (λ j. get_or ls j l) (sym next.0) ∙ at)) in
    marks_on (IsForgetMark number (whole old)) old ls (slice_set ls t.lane new) before
    (marked_set (IsForgetMark number (whole old)) l new
    (λ key marked. ⊎_elim inl (λ p. inr (forget_mark (length old) t.lane old l lanes below was wholes number key p)) (adds key marked)) t.lane ls at)

-- ---- a world

-- what is marked in the register and in the lanes
pub both_marks : (P Q R : List ℕ → Type 0) (d new : RegisterState) (ls left : List Lane) → ((key : List ℕ) → P key → R key) → ((key : List ℕ) → Q key → R key)
    → ((key : List ℕ) → IsRegisterMarked new key → IsRegisterMarked d key ⊎ P key) → AddsLaneMarks Q ls left
    → AddsWorldMarks R (record { register = d; lanes = ls }) (record { register = new; lanes = left })
both_marks P Q R d new ls left by_register by_lanes register lanes key (inl marked) = ⊎_elim (λ was. inl (inl was)) (λ p. inr (by_register key p)) (register key marked)
both_marks P Q R d new ls left by_register by_lanes register lanes key (inr marked) = ⊎_elim (λ was. inl (inr was)) (λ q. inr (by_lanes key q)) (lanes key marked)

-- what is marked of objects is so by what was decided
pub by_decision : (d : RegisterState) (caller : Caller) (request : Request) (v : Verdict) (new : RegisterState) → Decides d caller request v new → (m : Objects) (key : List ℕ)
    → IsVerdictMark request.op v m key → IsVerdictMark request.op (decided d caller request).0 m key
by_decision d caller request (verdict.Granted issue) new h m key p = subst (λ (w : Verdict × RegisterState). IsVerdictMark request.op w.0 m key) h p
by_decision d caller request (verdict.Answered reply) new h m key p = absurd p
by_decision d caller request (verdict.Denied right) new h m key p = absurd p
by_decision d caller request (verdict.Refused refusal) new h m key p = absurd p
by_decision d caller request verdict.NoMemory new h m key p = absurd p

-- ---- a request

module _ (d : RegisterState) (caller : Caller) (request : Request) (new : RegisterState) (items left : List Lane) where
  abbrev Before : State
  Before = record { register = d; lanes = items }

  abbrev After : State
  After = record { register = new; lanes = left }

  all_marked : (v : Verdict) → Decides d caller request v new → AddsLaneMarks (IsVerdictMark request.op v (whole items)) items left → AddsWorldMarks (IsRequestMark (seen Before) caller request) Before After
  all_marked v decides lanes = both_marks (IsNodeMark request (decided d caller request).0) (IsVerdictMark request.op v (whole items)) (IsRequestMark (seen Before) caller request)
      d new items left (λ key p. of_register p) (λ key p. of_objects (by_decision d caller request v new decides (whole items) key p)) (decides_marks d caller request v new decides) lanes

  none_marked : new ≡ passed d → AddsLaneMarks (λ key. ⊥) items left → AddsWorldMarks (λ key. ⊥) Before After
  none_marked undecided lanes = both_marks (λ key. ⊥) (λ key. ⊥) (λ key. ⊥) d new items left (λ key p. p) (λ key p. p) (λ key marked. inl (undecided_marks d new undecided key marked)) lanes

  front_marked : (issue : Issue) → Decides d caller request (verdict.Granted issue) new → MarksFront issue.grant request.op issue.left items left
      → StopsMarking request (decided d caller request).0 Before After
  front_marked issue decides marks =
      let granted : verdict.Granted issue ≡ (decided d caller request).0 = ap (λ (p : Verdict × RegisterState). p.0) decides in
      subst (λ (v : Verdict). StopsMarking request v Before After) granted (
        marks.stop,
        both_marks (IsNodeMark request (verdict.Granted issue)) (IsTurnMark issue.grant request.op marks.stop.front (whole items))
            (λ key. IsNodeMark request (verdict.Granted issue) key ⊎ IsTurnMark issue.grant request.op marks.stop.front (whole items) key) d new items left (λ key p. inl p) (λ key p. inr p)
            (λ key marked. ⊎_elim (λ was. inl was) (λ p. inr (subst (λ (v : Verdict). IsNodeMark request v key) (sym granted) p)) (decides_marks d caller request (verdict.Granted issue) new decides key marked))
            marks.alone,
      )

  pub request_marked : (v : Verdict) (what : What) → Decides d caller request v new → Obeys request.op v (whole items) what (whole left) → MarksVerdict request.op v items what left
      → AddsRequestMarks Before caller request what After
  request_marked (verdict.Granted issue) whats.NoMemory decides obeys lanes = inr (front_marked issue decides lanes)
  request_marked (verdict.Granted issue) (whats.Replied reply) decides obeys lanes = all_marked (verdict.Granted issue) decides lanes
  request_marked (verdict.Granted issue) (whats.Denied right) decides obeys lanes = all_marked (verdict.Granted issue) decides lanes
  request_marked (verdict.Answered answer) whats.NoMemory decides obeys lanes = absurd obeys
  request_marked (verdict.Answered answer) (whats.Replied reply) decides obeys lanes = all_marked (verdict.Answered answer) decides lanes
  request_marked (verdict.Answered answer) (whats.Denied right) decides obeys lanes = all_marked (verdict.Answered answer) decides lanes
  request_marked (verdict.Denied denied) whats.NoMemory decides obeys lanes = absurd obeys
  request_marked (verdict.Denied denied) (whats.Replied reply) decides obeys lanes = all_marked (verdict.Denied denied) decides lanes
  request_marked (verdict.Denied denied) (whats.Denied right) decides obeys lanes = all_marked (verdict.Denied denied) decides lanes
  request_marked (verdict.Refused refusal) whats.NoMemory decides obeys lanes = absurd obeys
  request_marked (verdict.Refused refusal) (whats.Replied reply) decides obeys lanes = all_marked (verdict.Refused refusal) decides lanes
  request_marked (verdict.Refused refusal) (whats.Denied right) decides obeys lanes = all_marked (verdict.Refused refusal) decides lanes
  request_marked verdict.NoMemory whats.NoMemory decides obeys lanes = inl (none_marked decides.2 lanes)
  request_marked verdict.NoMemory (whats.Replied reply) decides obeys lanes = all_marked verdict.NoMemory decides lanes
  request_marked verdict.NoMemory (whats.Denied right) decides obeys lanes = all_marked verdict.NoMemory decides lanes
