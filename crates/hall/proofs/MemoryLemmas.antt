-- Memory was wanting exactly where it was for the verdict, or for one of the place's turns.
use Rattle.std.proofs.Common.{◌≡◌, ◌⊎◌, inl, inr, ⊎_elim, ℕ, Bool, true, false, true≢false, cond, List, [], ◌∷◌, ◌++◌, Option, Some, None, eqb}
use Rattle.std.proofs.Common.{refl, sym, ap, subst, ◌∙◌}
use Rattle.std.specs.Prelude.{nat_lt}
use Rattle.std.proofs.lemmas.Bool.Decides.{eqb_tells}
use Rattle.std.proofs.lemmas.Option.{none-some, same_Some}
use Rattle.access_lists.specs.declared.people.Caller.{Caller}
use Rattle.object_ops.specs.declared.grants.Grant.{Grant}
use Rattle.object_ops.specs.declared.ops.Op.{Op}
use Rattle.object_ops.specs.declared.ops.Op.TheVariants.{DropNode}
use Rattle.object_ops.specs.declared.ops.Request.{Request}
use Rattle.object_ops.specs.declared.replies.Reply.{Reply}
use Rattle.register.specs.Tickets.{Issue}
use Rattle.register.specs.declared.tickets.Turn.{Turn}
use Rattle.register.specs.declared.verdicts.Verdict.{Verdict}
use Rattle.register.specs.declared.verdicts.Verdict.TheVariants as verdict
use Rattle.service_core.specs.declared.answers.Answer.{Answer}
use Rattle.service_core.specs.declared.answers.What.{What}
use Rattle.service_core.specs.declared.answers.What.TheVariants as what
use Rattle.lane_histories.specs.Histories.{History, IsIn, LaneList, RegisterList, Ticket, cut_of, issued, objects_step, part_of, places}
use Rattle.lane_histories.specs.Histories.{ticket_of, tickets, tickets_for}
use Rattle.lane_histories.specs.Laws.{EntriesAreFound, OutcomesAreFound}
use Rattle.lane_histories.specs.Legal.{IsLegal, IsLegalLane, IsLegalLaneItem}
use Rattle.lane_histories.specs.Replies.{What as LaneWhat, by_register, by_turn, entry_at, entry_what, is_same_part, no_memory, one_what, outcome_of}
use Rattle.lane_histories.specs.Replies.{pair_what, turns_what, what_of}
use Rattle.lane_histories.specs.Services.{Service, Turns, World, no_turn, one_turn, two_turns, each_lane}
use Rattle.lane_histories.specs.declared.items.Entry.{Entry}
use Rattle.lane_histories.specs.declared.items.LaneItem.{LaneItem}
use Rattle.lane_histories.specs.declared.items.LaneItem.TheVariants.{Passed, WasCut}
use Rattle.lane_histories.specs.declared.items.Outcome.{Outcome}
use Rattle.lane_histories.specs.declared.items.Outcome.TheVariants.{Done, Short, Skipped}
use Rattle.lane_histories.specs.declared.items.Part.{Part}
use Rattle.lane_histories.specs.declared.items.Part.TheVariants.{Only, First, Second}
use Rattle.lane_histories.specs.declared.items.RegisterItem.TheVariants.{Entered, DrawnCut, RegisterCut}
use Rattle.hall_rule.specs.Machines.{world_of}
use Rattle.hall_rule.specs.Seen.{history_of, lane_of}
use Rattle.hall_rule.specs.WholeTurns.{entry_behind}
use Rattle.service_histories.specs.ArrayServices.{Asked, MayFindNone, array_service, listed, turns_for, turns_of}
use Rattle.service_histories.specs.PlainSteps.{answer_of, of_verdict}
use Rattle.service_histories.specs.declared.tasks.Task.{Task}
use Rattle.service_histories.specs.declared.tasks.Task.TheVariants.{DropsDomain}
use Rattle.hall.specs.Answers.{ArrayStart, ArrayView, HasAnswered, HasShortTurn, HasVerdict, IsWantingWhere, asked_by}
use Rattle.hall.specs.ArrayMachines.{lanes_in, machines}
use Rattle.hall.proofs.DenialLemmas.{is_in_list}

-- ---- lists

in_one_of : {X : Type 0} (xs ys : List X) (x : X) → IsIn (xs ++ ys) x → IsIn xs x ⊎ IsIn ys x
in_one_of [] ys x here = inr here
in_one_of (y ∷ xs) ys x here = ⊎_elim
    (λ same. inl (inl same))
    (λ later. ⊎_elim (λ a. inl (inr a)) (λ b. inr b) (in_one_of xs ys x later))
    here

pub in_beginning : {X : Type 0} (front more : List X) (x : X) → IsIn front x → IsIn (front ++ more) x
in_beginning [] more x here = absurd here
in_beginning (y ∷ front) more x here = ⊎_elim (λ same. inl same) (λ later. inr (in_beginning front more x later)) here

-- ---- what a lane has of a place

same_part : (a b : Part) → is_same_part a b ≡ true → a ≡ b
same_part Only Only same = refl
same_part Only First same = absurd (true≢false (sym same))
same_part Only (Second b) same = absurd (true≢false (sym same))
same_part First Only same = absurd (true≢false (sym same))
same_part First First same = refl
same_part First (Second b) same = absurd (true≢false (sym same))
same_part (Second a) Only same = absurd (true≢false (sym same))
same_part (Second a) First same = absurd (true≢false (sym same))
same_part (Second a) (Second b) same = ⊎_elim (λ is. ap Second is.1) (λ far. absurd (true≢false (sym same ∙ far.0))) (eqb_tells a b)

module _ {T R : Type 0} where
  abbrev IsFoundIn : List (LaneItem T R) → ℕ → Part → Outcome R → Type 0
  IsFoundIn items place part y = (task : T) × IsIn items (Passed place part task y)

  -- an outcome that is found stands in the list
  found_first : (items : List (LaneItem T R)) (other : ℕ) (there : Part) (task : T) (z : Outcome R) (place : ℕ) (part : Part) (y : Outcome R)
      → (outcome_of place part items ≡ Some y → IsFoundIn items place part y)
      → outcome_of place part (Passed other there task z ∷ items) ≡ Some y → IsFoundIn (Passed other there task z ∷ items) place part y
  found_first items other there task z place part y behind is = ⊎_elim
      (λ at. by_part (is_same_part there part) refl at.1 (sym (tested at.0) ∙ is))
      (λ far. later (behind (sym (tested far.0) ∙ is)))
      (eqb_tells other place)
    where
      later : IsFoundIn items place part y → IsFoundIn (Passed other there task z ∷ items) place part y
      later f = (f.0, inr f.1)

      tested : {b : Bool} → eqb other place ≡ b → outcome_of place part (Passed other there task z ∷ items)
          ≡ cond b (cond (is_same_part there part) (Some z) (outcome_of place part items)) (outcome_of place part items)
      tested at = ap (λ (b : Bool). cond b (cond (is_same_part there part) (Some z) (outcome_of place part items)) (outcome_of place part items)) at

      by_part : (b : Bool) → is_same_part there part ≡ b → other ≡ place → cond (is_same_part there part) (Some z) (outcome_of place part items) ≡ Some y
          → IsFoundIn (Passed other there task z ∷ items) place part y
      by_part true same at found =
          let value : z ≡ y = same_Some z y (sym (ap (λ (b : Bool). cond b (Some z) (outcome_of place part items)) same) ∙ found) in
          (task, inl (λ i. Passed (at i) (same_part there part same i) task (value i)))
      by_part false same at found = later (behind (sym (ap (λ (b : Bool). cond b (Some z) (outcome_of place part items)) same) ∙ found))

  found_stands : (items : List (LaneItem T R)) (place : ℕ) (part : Part) (y : Outcome R) → outcome_of place part items ≡ Some y
      → IsFoundIn items place part y
  found_stands [] place part y is = absurd (none-some y is)
  found_stands (Passed other there task z ∷ items) place part y is =
      found_first items other there task z place part y (found_stands items place part y) is
  found_stands (WasCut number at found ∷ items) place part y is =
      let later = found_stands items place part y is in (later.0, inr later.1)

  ticket_stands : (items : List (LaneItem T R)) (i : LaneItem T R) → IsIn items i → IsIn (tickets items) (ticket_of i)
  ticket_stands [] i here = absurd here
  ticket_stands (x ∷ items) i here = ⊎_elim
      (λ same. inl (ap (λ (z : LaneItem T R). ticket_of z) same))
      (λ later. inr (ticket_stands items i later))
      here

module _ (s : Service) where
  -- each item of a legal list is one that may come where it stands
  legal_at : (o : s.Objects) (items : LaneList s) (i : LaneItem s.Task s.Reply) → IsLegalLane s o items → IsIn items i
      → (at : s.Objects) × IsLegalLaneItem s at i
  legal_at o [] i legal here = absurd here
  legal_at o (x ∷ items) i legal here = ⊎_elim
      (λ same. (o, subst (IsLegalLaneItem s o) same legal.0))
      (λ later. legal_at (objects_step s o x) items i legal.1 later)
      here

  -- ---- a ticket is one of an entry's turns

  abbrev IsTicketOf : ℕ → ℕ → Part → s.Task → Entry s.Asked s.Verdict → Type 0
  IsTicketOf l place part task e = IsIn (tickets_for s l e.place (s.turns e.asked e.verdict)) (part_of place part task)

  no_cut : (here : Bool) (number c place : ℕ) (part : Part) (task : s.Task)
      → IsIn {X = Ticket s.Task} (cond here (cut_of number c ∷ []) []) (part_of place part task) → ⊥
  no_cut true number c place part task here = ⊎_elim (λ (same : ◌≡◌ {A = Ticket s.Task} (cut_of number c) (part_of place part task)). absurd (cc)) (λ never. never) here
  no_cut false number c place part task here = here

  of_entry : (l place : ℕ) (part : Part) (task : s.Task) (items : RegisterList s) → IsIn (issued s l items) (part_of place part task)
      → (e : Entry s.Asked s.Verdict) × IsIn items (Entered e) × IsTicketOf l place part task e
  of_entry l place part task [] here = absurd here
  of_entry l place part task (Entered e ∷ items) here = ⊎_elim
      (λ mine. (e, inl refl, mine))
      (λ later. let r = of_entry l place part task items later in (r.0, inr r.1, r.2))
      (in_one_of (tickets_for s l e.place (s.turns e.asked e.verdict)) (issued s l items) (part_of place part task) here)
  of_entry l place part task (DrawnCut number c ∷ items) here = ⊎_elim
      (λ cut. absurd (no_cut (nat_lt l s.lanes) number c place part task cut))
      (λ later. let r = of_entry l place part task items later in (r.0, inr r.1, r.2))
      (in_one_of (cond (nat_lt l s.lanes) (cut_of number c ∷ []) []) (issued s l items) (part_of place part task) here)
  of_entry l place part task (RegisterCut at found ∷ items) here =
      let r = of_entry l place part task items here in (r.0, inr r.1, r.2)

  -- it is this one, if it is there at all
  that_ticket : (A : Type 0) (here : Bool) (p place : ℕ) (there part : Part) (act task : s.Task)
      → (here ≡ true → p ≡ place → there ≡ part → act ≡ task → A)
      → IsIn {X = Ticket s.Task} (cond here (part_of p there act ∷ []) []) (part_of place part task) → A
  that_ticket A true p place there part act task then here = ⊎_elim
      (λ (same : ◌≡◌ {A = Ticket s.Task} (part_of p there act) (part_of place part task)).
      let a : p ≡ place = cc in let b : there ≡ part = cc in let c : act ≡ task = cc in then refl a b c)
      (λ never. absurd never)
      here
  that_ticket A false p place there part act task then here = absurd here

  place_of_ticket : (l p place : ℕ) (part : Part) (task : s.Task) (t : Turns s.Task) → IsIn (tickets_for s l p t) (part_of place part task) → p ≡ place
  place_of_ticket l p place part task no_turn here = absurd here
  place_of_ticket l p place part task (one_turn a act) here = that_ticket (p ≡ place) (eqb a l) p place Only part act task (λ h e f g. e) here
  place_of_ticket l p place part task (two_turns a act b next) here = ⊎_elim
      (that_ticket (p ≡ place) (eqb a l) p place First part act task (λ h e f g. e))
      (that_ticket (p ≡ place) (eqb b l) p place (Second a) part next task (λ h e f g. e))
      (in_one_of (cond (eqb a l) (part_of p First act ∷ []) []) (cond (eqb b l) (part_of p (Second a) next ∷ []) []) (part_of place part task) here)
  place_of_ticket l p place part task (each_lane act) here = that_ticket (p ≡ place) (nat_lt l s.lanes) p place Only part act task (λ h e f g. e) here

-- ---- only a step of an object may find no memory

not_each : (g : Grant) (op : Op) (ts : List Turn) (task : Task) → listed g op ts ≡ each_lane task → ⊥
not_each g op [] task is = cc
not_each g op (t ∷ []) task is = cc
not_each g op (t ∷ u ∷ ts) task is = cc

abbrev task_in_each : Turns Task → Task → Task
task_in_each no_turn other = other
task_in_each (one_turn a act) other = other
task_in_each (two_turns a act b next) other = other
task_in_each (each_lane act) other = act

drops_find : (op : Op) (issue : Issue) (task : Task) → turns_for op issue ≡ each_lane task → MayFindNone task → ⊥
drops_find DropNode issue task is none_found = subst MayFindNone (sym (ap (λ (t : Turns Task). task_in_each t (DropsDomain issue.grant.number)) is)) none_found
drops_find op issue task is none_found = not_each issue.grant op issue.left task is

removals_find : (asked : Asked) (v : Verdict) (task : Task) → turns_of asked v ≡ each_lane task → MayFindNone task → ⊥
removals_find asked (verdict.Granted issue) task is none_found = drops_find asked.1.value.op issue task is none_found
removals_find asked (verdict.Answered answer) task is none_found = cc
removals_find asked (verdict.Denied right) task is none_found = cc
removals_find asked (verdict.Refused refusal) task is none_found = cc
removals_find asked verdict.NoMemory task is none_found = cc

-- ---- what is told

abbrev IsToldWant : What → Type 0
IsToldWant what.NoMemory = Unit {0}
IsToldWant told = ⊥

told_want : (w : What) → w ≡ what.NoMemory → IsToldWant w
told_want w is = subst IsToldWant (sym is) tt

module _ (n : ℕ) (start : World (array_service n)) (h : History (array_service n)) (legal : IsLegal (array_service n) start h) (place : ℕ) where
  abbrev s : Service
  s = array_service n

  -- a turn of the place found no memory
  abbrev IsShort : Type 0
  IsShort = (lane : ℕ) × (part : Part) × (task : Task) × IsIn (h.lane lane) (Passed place part task Short)

  abbrev IsFoundAt : ℕ → Part → Outcome Reply → Type 0
  IsFoundAt l part y = outcome_of place part (h.lane l) ≡ Some y

  short_there : (l : ℕ) (part : Part) → IsFoundAt l part Short → IsShort
  short_there l part found = let f = found_stands (h.lane l) place part Short found in (l, part, f.0, f.1)

  -- only a second turn is passed over
  not_skipped : (l : ℕ) → (IsFoundAt l Only Skipped → ⊥) × (IsFoundAt l First Skipped → ⊥)
  not_skipped l = (
    λ found. let f = found_stands (h.lane l) place Only Skipped found in (legal_at s (start.objects l) (h.lane l) _ (legal.lanes l) f.1).1,
    λ found. let f = found_stands (h.lane l) place First Skipped found in (legal_at s (start.objects l) (h.lane l) _ (legal.lanes l) f.1).1,
  )

  -- ---- where want of memory is told, it was met

  one_short : (l : ℕ) (o : Option (Outcome Reply)) (w : LaneWhat Verdict Reply) → outcome_of place Only (h.lane l) ≡ o → one_what o ≡ Some w
      → IsToldWant (answer_of w) → IsShort
  one_short l None w found is want = absurd (none-some w is)
  one_short l (Some (Done reply)) w found is want = absurd (subst (λ (x : LaneWhat Verdict Reply). IsToldWant (answer_of x)) (sym (same_Some (by_turn reply) w is)) want)
  one_short l (Some Short) w found is want = short_there l Only found
  one_short l (Some Skipped) w found is want = absurd ((not_skipped l).0 found)

  first_short : (a : ℕ) (x : Outcome Reply) (w : LaneWhat Verdict Reply) → IsFoundAt a First x → what_of x ≡ w → IsToldWant (answer_of w) → IsShort
  first_short a (Done reply) w found is want = absurd (subst (λ (x : LaneWhat Verdict Reply). IsToldWant (answer_of x)) (sym is) want)
  first_short a Short w found is want = short_there a First found
  first_short a Skipped w found is want = absurd ((not_skipped a).1 found)

  pair_short : (a b : ℕ) (o p : Option (Outcome Reply)) (w : LaneWhat Verdict Reply) → outcome_of place First (h.lane a) ≡ o
      → outcome_of place (Second a) (h.lane b) ≡ p → pair_what o p ≡ Some w → IsToldWant (answer_of w) → IsShort
  pair_short a b None p w first second is want = absurd (none-some w is)
  pair_short a b (Some x) None w first second is want = absurd (none-some w is)
  pair_short a b (Some x) (Some (Done reply)) w first second is want =
      absurd (subst (λ (x : LaneWhat Verdict Reply). IsToldWant (answer_of x)) (sym (same_Some (by_turn reply) w is)) want)
  pair_short a b (Some x) (Some Short) w first second is want = short_there b (Second a) second
  pair_short a b (Some x) (Some Skipped) w first second is want = first_short a x w first (same_Some (what_of x) w is) want

  by_verdict : (v : Verdict) (w : LaneWhat Verdict Reply) → ◌≡◌ {A = Option (LaneWhat Verdict Reply)} (Some (by_register v)) (Some w) → IsToldWant (answer_of w)
      → IsToldWant (of_verdict v)
  by_verdict v w is want = subst (λ (x : LaneWhat Verdict Reply). IsToldWant (answer_of x)) (sym (same_Some (by_register v) w is)) want

  module _ (by : ℕ) (asked : Asked) where
    abbrev entry : Verdict → Entry Asked Verdict
    entry v = record { place = place; by = by; asked = asked; verdict = v }

    granted_short : (issue : Issue) (t : Turns Task) (w : LaneWhat Verdict Reply) → turns_what s h.lane (entry (verdict.Granted issue)) t ≡ Some w
        → IsToldWant (answer_of w) → IsShort
    granted_short issue no_turn w is want = absurd (by_verdict (verdict.Granted issue) w is want)
    granted_short issue (one_turn l task) w is want = one_short l (outcome_of place Only (h.lane l)) w refl is want
    granted_short issue (two_turns a task b next) w is want =
        pair_short a b (outcome_of place First (h.lane a)) (outcome_of place (Second a) (h.lane b)) w refl refl is want
    granted_short issue (each_lane task) w is want = absurd (by_verdict (verdict.Granted issue) w is want)

    pub want_met : (v : Verdict) (w : LaneWhat Verdict Reply) → turns_what s h.lane (entry v) (turns_of asked v) ≡ Some w → IsToldWant (answer_of w)
        → (v ≡ verdict.NoMemory) ⊎ IsShort
    want_met (verdict.Granted issue) w is want = inr (granted_short issue (turns_of asked (verdict.Granted issue)) w is want)
    want_met (verdict.Answered answer) w is want = absurd (by_verdict (verdict.Answered answer) w is want)
    want_met (verdict.Denied right) w is want = absurd (by_verdict (verdict.Denied right) w is want)
    want_met (verdict.Refused refusal) w is want = absurd (by_verdict (verdict.Refused refusal) w is want)
    want_met verdict.NoMemory w is want = inl refl

    -- ---- where it was met, it is told

    pub want_told : (v : Verdict) (w : LaneWhat Verdict Reply) → turns_what s h.lane (entry v) (turns_of asked v) ≡ Some w
        → v ≡ verdict.NoMemory → answer_of w ≡ what.NoMemory
    want_told v w is refused =
        sym (ap answer_of (same_Some (by_register verdict.NoMemory) w
        (sym (ap (λ (x : Verdict). turns_what s h.lane (entry x) (turns_of asked x)) refused) ∙ is)))

  -- an item of the place found no memory
  module _ (found : OutcomesAreFound (array_service n)) (e : Entry Asked Verdict) (l : ℕ) (part : Part) (task : Task)
      (here : IsIn (h.lane l) (Passed place part task Short)) where
    abbrev IsWant : LaneWhat Verdict Reply → Type 0
    IsWant w = answer_of w ≡ what.NoMemory

    want : (w : LaneWhat Verdict Reply) → ◌≡◌ {A = Option (LaneWhat Verdict Reply)} (Some no_memory) (Some w) → IsWant w
    want w is = sym (ap answer_of (same_Some no_memory w is))

    -- it was found
    at_lane : (a : ℕ) (there : Part) → eqb a l ≡ true → there ≡ part → IsFoundAt a there Short
    at_lane a there same is_part = ⊎_elim
        (λ is. ap (λ (x : ℕ × Part). outcome_of place x.1 (h.lane x.0)) (λ i. (is.1 i, is_part i)) ∙ found start h l place part task Short legal here)
        (λ far. absurd (true≢false (sym same ∙ far.0)))
        (eqb_tells a l)

    stands_at : (a : ℕ) (there : Part) → eqb a l ≡ true → there ≡ part → IsIn (h.lane a) (Passed place there task Short)
    stands_at a there same is_part = ⊎_elim
        (λ is. subst (λ (x : ℕ × Part). IsIn (h.lane x.0) (Passed place x.1 task Short)) (λ i. (sym is.1 i, sym is_part i)) here)
        (λ far. absurd (true≢false (sym same ∙ far.0)))
        (eqb_tells a l)

    by_first : (a b : ℕ) (p : Option (Outcome Reply)) (w : LaneWhat Verdict Reply) → IsFoundAt a First Short → IsIn (h.lane a) (Passed place First task Short)
        → outcome_of place (Second a) (h.lane b) ≡ p → pair_what (Some Short) p ≡ Some w → IsWant w
    by_first a b None w first stands second is = absurd (none-some w is)
    by_first a b (Some (Done reply)) w first stands second is =
        let f = found_stands (h.lane b) place (Second a) (Done reply) second in
        absurd (true≢false (sym (legal.pairs a b place task f.0 Short (Done reply) stands f.1)))
    by_first a b (Some Short) w first stands second is = want w is
    by_first a b (Some Skipped) w first stands second is = want w is

    by_second : (a b : ℕ) (o : Option (Outcome Reply)) (w : LaneWhat Verdict Reply) → pair_what o (Some Short) ≡ Some w → IsWant w
    by_second a b None w is = absurd (none-some w is)
    by_second a b (Some x) w is = want w is

    by_turns : (t : Turns Task) (w : LaneWhat Verdict Reply) → ((act : Task) → t ≡ each_lane act → MayFindNone act → ⊥)
        → IsIn (tickets_for s l place t) (part_of place part task) → turns_what s h.lane (record e { place = place }) t ≡ Some w → IsWant w
    by_turns no_turn w removal ticket is = absurd ticket
    by_turns (one_turn a act) w removal ticket is = that_ticket s (IsWant w) (eqb a l) place place Only part act task
        (λ same e f g. want w (sym (ap one_what (at_lane a Only same f)) ∙ is)) ticket
    by_turns (two_turns a act b next) w removal ticket is = ⊎_elim
        (that_ticket s (IsWant w) (eqb a l) place place First part act task
        (λ same e f g. by_first a b (outcome_of place (Second a) (h.lane b)) w (at_lane a First same f) (stands_at a First same f) refl
        (sym (ap (λ (o : Option (Outcome Reply)). pair_what o (outcome_of place (Second a) (h.lane b))) (at_lane a First same f)) ∙ is)))
        (that_ticket s (IsWant w) (eqb b l) place place (Second a) part next task
        (λ same e f g. by_second a b (outcome_of place First (h.lane a)) w
        (sym (ap (pair_what (outcome_of place First (h.lane a))) (at_lane b (Second a) same f)) ∙ is)))
        (in_one_of (cond (eqb a l) (part_of place First act ∷ []) []) (cond (eqb b l) (part_of place (Second a) next ∷ []) []) (part_of place part task) ticket)
    by_turns (each_lane act) w removal ticket is = that_ticket s (IsWant w) (nat_lt l n) place place Only part act task
        (λ same e f g.
        absurd (removal act refl (subst MayFindNone (sym g) (legal_at s (start.objects l) (h.lane l) _ (legal.lanes l) here).1)))
        ticket

-- ---- the whole

module _ {D : Type 0} (start : ArrayStart D) (entries : EntriesAreFound (array_service (lanes_in start)))
    (outcomes : OutcomesAreFound (array_service (lanes_in start))) where
  pub wanting_where : (caller : Caller) (request : Request) (answer : Answer) (v w : ArrayView D) → HasAnswered start caller request answer v w
      → IsWantingWhere w answer
  wanting_where caller request answer v w h =
      let a = h.asked in
      let n = lanes_in start in
      let s = array_service n in
      let world = world_of (machines {K = D} n) start in
      let g = history_of s a.seen in
      let asked = asked_by caller request in
      let e : Entry Asked Verdict = entry_behind a.before.register v.number asked h.decided_as in
      let here = is_in_list a.seen.register a.before.register (Entered e) a.entered in
      let there : entry_at answer.place a.seen.register ≡ Some e =
      ap (λ (p : ℕ). entry_at p a.seen.register) a.place_is ∙ entries world g e a.legal here in
      let came : turns_what s g.lane e (turns_of asked h.decided_as) ≡ Some h.what_is = sym (ap (entry_what s g.lane) there) ∙ a.replied in
      let seen : w.seen ≡ a.seen = ap (λ (x : ArrayView D). x.seen) a.is in
      let place = places a.before.register in (
        (λ told. ⊎_elim
            (λ refused. inl (e, subst (λ z. IsIn z.register (Entered e)) (sym seen) here, sym a.place_is, refused))
            (λ (short : IsShort n world g a.legal place). inr (
              short.0,
              short.1,
              short.2,
              subst (λ (p : ℕ). IsIn (lane_of w.seen.lanes short.0) (Passed p short.1 short.2 Short)) (sym a.place_is)
                  (subst (λ z. IsIn (lane_of z.lanes short.0) (Passed place short.1 short.2 Short)) (sym seen) short.3),
            ))
            (want_met n world g a.legal place v.number asked h.decided_as h.what_is came (told_want (answer_of h.what_is) (sym h.told ∙ told)))),
        (λ met. h.told ∙ ⊎_elim
            (λ (x : HasVerdict w answer.place verdict.NoMemory).
            let there_too = entries world g x.0 a.legal (subst (λ z. IsIn z.register (Entered x.0)) seen x.1) in
            let same : x.0 ≡ e = same_Some x.0 e (sym there_too ∙ ap (λ (p : ℕ). entry_at p a.seen.register) x.2 ∙ there) in
            want_told n world g a.legal place v.number asked h.decided_as h.what_is came (sym (ap (λ (z : Entry Asked Verdict). z.verdict) same) ∙ x.3))
            (λ (x : HasShortTurn w answer.place).
            let item : IsIn (g.lane x.0) (Passed place x.1 x.2 Short) =
            subst (λ (p : ℕ). IsIn (g.lane x.0) (Passed p x.1 x.2 Short)) a.place_is
            (subst (λ z. IsIn (lane_of z.lanes x.0) (Passed answer.place x.1 x.2 Short)) seen x.3) in
            let order = a.legal.in_order x.0 in
            let ticket : Ticket Task = part_of place x.1 x.2 in
            let issued_there : IsIn (issued s x.0 a.seen.register) ticket =
            subst (λ (ts : List (Ticket Task)). IsIn ts ticket) (sym order.1)
            (in_beginning (tickets (g.lane x.0)) order.0 ticket (ticket_stands (g.lane x.0) (Passed place x.1 x.2 Short) item)) in
            let owner = of_entry s x.0 place x.1 x.2 a.seen.register issued_there in
            let same_place : owner.0.place ≡ place =
            place_of_ticket s x.0 owner.0.place place x.1 x.2 (turns_of owner.0.asked owner.0.verdict) owner.2 in
            let same : owner.0 ≡ e = same_Some owner.0 e
            (sym (entries world g owner.0 a.legal owner.1) ∙ ap (λ (p : ℕ). entry_at p a.seen.register) same_place ∙ entries world g e a.legal here) in
            by_turns n world g a.legal place outcomes e x.0 x.1 x.2 item (turns_of asked h.decided_as) h.what_is (removals_find asked h.decided_as)
            (subst (λ (z : Entry Asked Verdict). IsTicketOf s x.0 place x.1 x.2 z) same owner.2) came)
            met),
      )
