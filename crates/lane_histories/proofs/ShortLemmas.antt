-- Where a place is told that memory was wanting.
use Rattle.std.proofs.Common.{◌≡◌, ◌⊎◌, inl, inr, ⊎_elim, ℕ, Bool, true, false, cond, [], ◌∷◌, Option, Some, None, refl, ap, sym, ◌∙◌}
use Rattle.std.proofs.Common.{subst, true≢false, eqb-true, ◌==◌, nat_lt}
use Rattle.lane_histories.specs.Services.{Service, World, Turns, no_turn, one_turn, two_turns, each_lane}
use Rattle.lane_histories.specs.Histories.{Entry, Entered, DrawnCut, RegisterCut, Part, Only, First, Second, Ticket, part_of, cut_of}
use Rattle.lane_histories.specs.Histories.{Outcome, Done, Short, Skipped, Passed, WasCut, History, IsIn, LaneList, RegisterList}
use Rattle.lane_histories.specs.Histories.{issued, objects_step, tickets, tickets_for}
use Rattle.lane_histories.specs.Legal.{IsLegal, IsLegalLane, IsLegalLaneItem, PairsAgree}
use Rattle.lane_histories.specs.Replies.{What, by_register, by_turn, no_memory, entry_at, entry_what, is_same_part, one_what, outcome_of}
use Rattle.lane_histories.specs.Replies.{pair_what, turns_what}
use Rattle.lane_histories.specs.Shorts.{IsShortAt, ShortsAreTold}
use Rattle.lane_histories.proofs.Lists.{in_either, in_longer}
use Rattle.lane_histories.proofs.Orders.{in_tickets}
use Rattle.lane_histories.proofs.FoundLemmas.{outcomes_are_found}
use Rattle.lane_histories.proofs.PlaceLemmas.{entries_are_found}

same_parts : (a b : Part) → is_same_part a b ≡ true → a ≡ b
same_parts Only Only e = refl
same_parts Only First e = absurd (true≢false (sym e))
same_parts Only (Second l) e = absurd (true≢false (sym e))
same_parts First Only e = absurd (true≢false (sym e))
same_parts First First e = refl
same_parts First (Second l) e = absurd (true≢false (sym e))
same_parts (Second k) Only e = absurd (true≢false (sym e))
same_parts (Second k) First e = absurd (true≢false (sym e))
same_parts (Second k) (Second l) e = ap Second (eqb-true k l e)

module _ (s : Service) where
  -- ---- outcomes

  -- at the first item, and else behind it
  at_item : (place : ℕ) (part : Part) (other : ℕ) (there : Part) (task : s.Task) (z : Outcome s.Reply) (items : LaneList s) (y : Outcome s.Reply)
      → (outcome_of place part items ≡ Some y → (t : s.Task) × IsIn items (Passed place part t y))
      → (here same : Bool) → (other == place) ≡ here → is_same_part there part ≡ same
      → cond here (cond same (Some z) (outcome_of place part items)) (outcome_of place part items) ≡ Some y
      → (t : s.Task) × IsIn (Passed other there task z ∷ items) (Passed place part t y)
  at_item place part other there task z items y behind true true at of is =
      let place_is = eqb-true other place at in
      let part_is = same_parts there part of in
      let outcome_is : z ≡ y = cc in
      (task, inl (λ i. Passed (place_is i) (part_is i) task (outcome_is i)))
  at_item place part other there task z items y behind true false at of is = let more = behind is in (more.0, inr more.1)
  at_item place part other there task z items y behind false same at of is = let more = behind is in (more.0, inr more.1)

  -- one that is found of a part stands in the list
  pub found_here : (place : ℕ) (part : Part) (items : LaneList s) (y : Outcome s.Reply)
      → outcome_of place part items ≡ Some y → (task : s.Task) × IsIn items (Passed place part task y)
  found_here place part [] y is = absurd (let never : ◌≡◌ {A = Option (Outcome s.Reply)} None (Some y) = is in cc)
  found_here place part (WasCut number c found ∷ items) y is =
      let more = found_here place part items y is in (more.0, inr more.1)
  found_here place part (Passed other there task z ∷ items) y is =
      at_item place part other there task z items y (found_here place part items y) (other == place) (is_same_part there part) refl refl is

  -- an item in a legal list may come there
  legal_here : (o : s.Objects) (items : LaneList s) (place : ℕ) (part : Part) (task : s.Task) (y : Outcome s.Reply)
      → IsLegalLane s o items → IsIn items (Passed place part task y) → (at : s.Objects) × IsLegalLaneItem s at (Passed place part task y)
  legal_here o [] place part task y legal here = absurd here
  legal_here o (i ∷ items) place part task y legal here = ⊎_elim
      (λ same. (o, subst (IsLegalLaneItem s o) same legal.0))
      (λ later. legal_here (objects_step s o i) items place part task y legal.1 later)
      here

  -- ---- tickets

  -- those of an entry are of its place
  one_place : (p place : ℕ) (one part : Part) (task next : s.Task) (here : Bool)
      → IsIn {X = Ticket s.Task} (cond here (part_of p one task ∷ []) []) (part_of place part next) → p ≡ place
  one_place p place one part task next true here = ⊎_elim (λ same. let e : p ≡ place = cc in e) (λ none. absurd none) here
  one_place p place one part task next false here = absurd here

  turns_place : (l p place : ℕ) (part : Part) (task : s.Task) (turns : Turns s.Task) → IsIn (tickets_for s l p turns) (part_of place part task) → p ≡ place
  turns_place l p place part task no_turn here = absurd here
  turns_place l p place part task (one_turn a act) here = one_place p place Only part act task (a == l) here
  turns_place l p place part task (two_turns a act b next) here = ⊎_elim
      (one_place p place First part act task (a == l))
      (one_place p place (Second a) part next task (b == l))
      (in_either _ _ _ here)
  turns_place l p place part task (each_lane act) here = one_place p place Only part act task (nat_lt l s.lanes) here

  not_a_part : (number c place : ℕ) (part : Part) (task : s.Task) (here : Bool)
      → IsIn {X = Ticket s.Task} (cond here (cut_of number c ∷ []) []) (part_of place part task) → ⊥
  not_a_part number c place part task true here = ⊎_elim (λ same. absurd (cc)) (λ none. none) here
  not_a_part number c place part task false here = here

  pub record IsOfEntry (l place : ℕ) (part : Part) (task : s.Task) (xs : RegisterList s) : Type 0 where
    pub entry : Entry s.Asked s.Verdict
    pub here : IsIn xs (Entered entry)
    pub place_is : entry.place ≡ place
    pub ticket : IsIn (tickets_for s l entry.place (s.turns entry.asked entry.verdict)) (part_of place part task)

  later_entry : (l place : ℕ) (part : Part) (task : s.Task) (xs ys : RegisterList s)
      → ((e : Entry s.Asked s.Verdict) → IsIn xs (Entered e) → IsIn ys (Entered e)) → IsOfEntry l place part task xs → IsOfEntry l place part task ys
  later_entry l place part task xs ys on t = record { entry = t.entry; here = on t.entry t.here; place_is = t.place_is; ticket = t.ticket }

  -- a ticket of a part is of an entry of its place
  of_entry : (l place : ℕ) (part : Part) (task : s.Task) (xs : RegisterList s) → IsIn (issued s l xs) (part_of place part task)
      → IsOfEntry l place part task xs
  of_entry l place part task [] here = absurd here
  of_entry l place part task (Entered e ∷ xs) here = ⊎_elim
      (λ mine. record {
        entry = e;
        here = inl refl;
        place_is = turns_place l e.place place part task (s.turns e.asked e.verdict) mine;
        ticket = mine;
      })
      (λ later. later_entry l place part task xs (Entered e ∷ xs) (λ x h. inr h) (of_entry l place part task xs later))
      (in_either _ (issued s l xs) _ here)
  of_entry l place part task (DrawnCut number c ∷ xs) here = ⊎_elim
      (λ cut. absurd (not_a_part number c place part task (nat_lt l s.lanes) cut))
      (λ later. later_entry l place part task xs (DrawnCut number c ∷ xs) (λ x h. inr h) (of_entry l place part task xs later))
      (in_either _ (issued s l xs) _ here)
  of_entry l place part task (RegisterCut p found ∷ xs) here =
      later_entry l place part task xs (RegisterCut p found ∷ xs) (λ x h. inr h) (of_entry l place part task xs here)

  -- ---- what turns come to

  abbrev Told : Type 0
  Told = What s.Verdict s.Reply

  -- the one ticket there is that of the part
  that_part : (p place : ℕ) (a l : ℕ) (one part : Part) (task next : s.Task) (here : Bool) → (a == l) ≡ here
      → IsIn {X = Ticket s.Task} (cond here (part_of p one task ∷ []) []) (part_of place part next) → (a ≡ l) × (one ≡ part)
  that_part p place a l one part task next true at here =
      (eqb-true a l at, ⊎_elim (λ same. let e : one ≡ part = cc in e) (λ none. absurd none) here)
  that_part p place a l one part task next false at here = absurd here

  -- the first found none: a second is skipped
  first_short : (lane : ℕ → LaneList s) (place a b : ℕ) (task : s.Task) (what : Told) (y : Option (Outcome s.Reply)) → PairsAgree s lane
      → IsIn (lane a) (Passed place First task Short) → outcome_of place (Second a) (lane b) ≡ y
      → pair_what (Some Short) y ≡ Some what → what ≡ no_memory
  first_short lane place a b task what None agree here two is = absurd (let never : ◌≡◌ {A = Option Told} None (Some what) = is in cc)
  first_short lane place a b task what (Some (Done r)) agree here two is =
      let second = found_here place (Second a) (lane b) (Done r) two in
      absurd (true≢false (sym (agree a b place task second.0 Short (Done r) here second.1)))
  first_short lane place a b task what (Some Short) agree here two is = let e : what ≡ no_memory = cc in e
  first_short lane place a b task what (Some Skipped) agree here two is = let e : what ≡ no_memory = cc in e

  second_short : (x : Option (Outcome s.Reply)) (what : Told) → pair_what x (Some Short) ≡ Some what → what ≡ no_memory
  second_short None what is = absurd (let never : ◌≡◌ {A = Option Told} None (Some what) = is in cc)
  second_short (Some x) what is = let e : what ≡ no_memory = cc in e

  turn_short : (lane : ℕ → LaneList s) (e : Entry s.Asked s.Verdict) (turns : Turns s.Task) (what : Told) (l : ℕ) (part : Part) (task : s.Task)
      → PairsAgree s lane → IsIn (lane l) (Passed e.place part task Short) → outcome_of e.place part (lane l) ≡ Some Short
      → IsIn (tickets_for s l e.place turns) (part_of e.place part task) → turns_what s lane e turns ≡ Some what
      → (what ≡ no_memory) ⊎ ((act : s.Task) × (turns ≡ each_lane act) × (act ≡ task))
  turn_short lane e no_turn what l part task agree here found ticket is = absurd ticket
  turn_short lane e (one_turn a act) what l part task agree here found ticket is =
      let at = that_part e.place e.place a l Only part act task (a == l) refl ticket in
      let same : outcome_of e.place Only (lane a) ≡ Some Short = (λ i. outcome_of e.place (at.1 i) (lane (at.0 i))) ∙ found in
      let told : ◌≡◌ {A = Option Told} (Some no_memory) (Some what) = ap one_what (sym same) ∙ is in
      inl (let e : what ≡ no_memory = cc in e)
  turn_short lane e (two_turns a act b next) what l part task agree here found ticket is = ⊎_elim
      (λ one. let at = that_part e.place e.place a l First part act task (a == l) refl one in
      let same : outcome_of e.place First (lane a) ≡ Some Short = (λ i. outcome_of e.place (at.1 i) (lane (at.0 i))) ∙ found in
      let first : IsIn (lane a) (Passed e.place First task Short) =
      subst (λ (p : ℕ × Part). IsIn (lane p.0) (Passed e.place p.1 task Short)) (λ i. (sym at.0 i, sym at.1 i)) here in
      inl (first_short lane e.place a b task what (outcome_of e.place (Second a) (lane b)) agree first refl
      (ap (λ x. pair_what x (outcome_of e.place (Second a) (lane b))) (sym same) ∙ is)))
      (λ two. let at = that_part e.place e.place b l (Second a) part next task (b == l) refl two in
      let same : outcome_of e.place (Second a) (lane b) ≡ Some Short = (λ i. outcome_of e.place (at.1 i) (lane (at.0 i))) ∙ found in
      inl (second_short (outcome_of e.place First (lane a)) what (ap (pair_what (outcome_of e.place First (lane a))) (sym same) ∙ is)))
      (in_either _ _ _ ticket)
  turn_short lane e (each_lane act) what l part task agree here found ticket is = inr (act, refl, that_task (nat_lt l s.lanes) ticket)
    where
      that_task : (there : Bool) → IsIn {X = Ticket s.Task} (cond there (part_of e.place Only act ∷ []) []) (part_of e.place part task) → act ≡ task
      that_task true here = ⊎_elim (λ same. let e : act ≡ task = cc in e) (λ none. absurd none) here
      that_task false here = absurd here

  -- ---- and what comes of it

  one_told : (x : Option (Outcome s.Reply)) → ◌≡◌ {A = Option Told} (one_what x) (Some no_memory) → (x ≡ Some Short) ⊎ (x ≡ Some Skipped)
  one_told None is = absurd (let never : ◌≡◌ {A = Option Told} None (Some no_memory) = is in cc)
  one_told (Some (Done r)) is = absurd (let never : ◌≡◌ {A = Option Told} (Some (by_turn r)) (Some no_memory) = is in cc)
  one_told (Some Short) is = inl refl
  one_told (Some Skipped) is = inr refl

  pair_told : (x y : Option (Outcome s.Reply)) → ◌≡◌ {A = Option Told} (pair_what x y) (Some no_memory)
      → (x ≡ Some Short) ⊎ (x ≡ Some Skipped) ⊎ (y ≡ Some Short)
  pair_told None y is = absurd (let never : ◌≡◌ {A = Option Told} None (Some no_memory) = is in cc)
  pair_told (Some x) None is = absurd (let never : ◌≡◌ {A = Option Told} None (Some no_memory) = is in cc)
  pair_told (Some x) (Some (Done r)) is = absurd (let never : ◌≡◌ {A = Option Told} (Some (by_turn r)) (Some no_memory) = is in cc)
  pair_told (Some x) (Some Short) is = inr (inr refl)
  pair_told (Some (Done r)) (Some Skipped) is = absurd (let never : ◌≡◌ {A = Option Told} (Some (by_turn r)) (Some no_memory) = is in cc)
  pair_told (Some Short) (Some Skipped) is = inl refl
  pair_told (Some Skipped) (Some Skipped) is = inr (inl refl)

  module _ (start : World s) (h : History s) (legal : IsLegal s start h) (e : Entry s.Asked s.Verdict) where
    short_at : (l : ℕ) (part : Part) → outcome_of e.place part (h.lane l) ≡ Some Short → IsShortAt h e.place
    short_at l part is = let found = found_here e.place part (h.lane l) Short is in record { lane = l; part = part; task = found.0; here = found.1 }

    only_done : (l : ℕ) → outcome_of e.place Only (h.lane l) ≡ Some Skipped → ⊥
    only_done l is =
        let found = found_here e.place Only (h.lane l) Skipped is in
        (legal_here (start.objects l) (h.lane l) e.place Only found.0 Skipped (legal.lanes l) found.1).1

    first_done : (l : ℕ) → outcome_of e.place First (h.lane l) ≡ Some Skipped → ⊥
    first_done l is =
        let found = found_here e.place First (h.lane l) Skipped is in
        (legal_here (start.objects l) (h.lane l) e.place First found.0 Skipped (legal.lanes l) found.1).1

    turns_short : (turns : Turns s.Task) → ◌≡◌ {A = Option Told} (turns_what s h.lane e turns) (Some no_memory) → IsShortAt h e.place
    turns_short no_turn is = absurd (let never : ◌≡◌ {A = Option Told} (Some (by_register e.verdict)) (Some no_memory) = is in cc)
    turns_short (one_turn l task) is =
        ⊎_elim (short_at l Only) (λ skipped. absurd (only_done l skipped)) (one_told (outcome_of e.place Only (h.lane l)) is)
    turns_short (two_turns a task b next) is = ⊎_elim
        (short_at a First)
        (λ others. ⊎_elim (λ skipped. absurd (first_done a skipped)) (short_at b (Second a)) others)
        (pair_told (outcome_of e.place First (h.lane a)) (outcome_of e.place (Second a) (h.lane b)) is)
    turns_short (each_lane task) is = absurd (let never : ◌≡◌ {A = Option Told} (Some (by_register e.verdict)) (Some no_memory) = is in cc)

    turns_verdict : (turns : Turns s.Task) (v : s.Verdict) → ◌≡◌ {A = Option Told} (turns_what s h.lane e turns) (Some (by_register v)) → v ≡ e.verdict
    turns_verdict no_turn v is = let same : e.verdict ≡ v = cc in sym same
    turns_verdict (one_turn l task) v is = absurd (one_by_turn (outcome_of e.place Only (h.lane l)) is)
      where
        one_by_turn : (x : Option (Outcome s.Reply)) → ◌≡◌ {A = Option Told} (one_what x) (Some (by_register v)) → ⊥
        one_by_turn None is = let never : ◌≡◌ {A = Option Told} None (Some (by_register v)) = is in absurd (cc)
        one_by_turn (Some (Done r)) is = let never : ◌≡◌ {A = Option Told} (Some (by_turn r)) (Some (by_register v)) = is in absurd (cc)
        one_by_turn (Some Short) is = let never : ◌≡◌ {A = Option Told} (Some no_memory) (Some (by_register v)) = is in absurd (cc)
        one_by_turn (Some Skipped) is = let never : ◌≡◌ {A = Option Told} (Some no_memory) (Some (by_register v)) = is in absurd (cc)
    turns_verdict (two_turns a task b next) v is = absurd (pair_by_turn (outcome_of e.place First (h.lane a)) (outcome_of e.place (Second a) (h.lane b)) is)
      where
        pair_by_turn : (x y : Option (Outcome s.Reply)) → ◌≡◌ {A = Option Told} (pair_what x y) (Some (by_register v)) → ⊥
        pair_by_turn None y is = let never : ◌≡◌ {A = Option Told} None (Some (by_register v)) = is in absurd (cc)
        pair_by_turn (Some x) None is = let never : ◌≡◌ {A = Option Told} None (Some (by_register v)) = is in absurd (cc)
        pair_by_turn (Some x) (Some (Done r)) is = let never : ◌≡◌ {A = Option Told} (Some (by_turn r)) (Some (by_register v)) = is in absurd (cc)
        pair_by_turn (Some x) (Some Short) is = let never : ◌≡◌ {A = Option Told} (Some no_memory) (Some (by_register v)) = is in absurd (cc)
        pair_by_turn (Some (Done r)) (Some Skipped) is = let never : ◌≡◌ {A = Option Told} (Some (by_turn r)) (Some (by_register v)) = is in absurd (cc)
        pair_by_turn (Some Short) (Some Skipped) is = let never : ◌≡◌ {A = Option Told} (Some no_memory) (Some (by_register v)) = is in absurd (cc)
        pair_by_turn (Some Skipped) (Some Skipped) is = let never : ◌≡◌ {A = Option Told} (Some no_memory) (Some (by_register v)) = is in absurd (cc)
    turns_verdict (each_lane task) v is = let same : e.verdict ≡ v = cc in sym same

  -- ---- the whole

  pub shorts_are_told : ShortsAreTold s
  shorts_are_told start h e what legal here is =
      let turns = s.turns e.asked e.verdict in
      let found : entry_at e.place h.register ≡ Some e = entries_are_found s start h e legal here in
      let told : turns_what s h.lane e turns ≡ Some what = ap (entry_what s h.lane) (sym found) ∙ is in
      record {
        by_verdict = λ v same. turns_verdict start h legal e turns v (told ∙ ap Some same);
        without_turn = λ none. let both : ◌≡◌ {A = Option Told} (Some (by_register e.verdict)) (Some what) = ap (turns_what s h.lane e) (sym none) ∙ told in
            let same : what ≡ by_register e.verdict = cc in same;
        only = λ same. turns_short start h legal e turns (told ∙ ap Some same);
        short = λ short. at_short start h e what legal found told short;
      }
    where
      at_short : (start : World s) (h : History s) (e : Entry s.Asked s.Verdict) (what : Told) (legal : IsLegal s start h)
          → entry_at e.place h.register ≡ Some e → turns_what s h.lane e (s.turns e.asked e.verdict) ≡ Some what → IsShortAt h e.place
          → (what ≡ no_memory) ⊎ ((task : s.Task) × (s.turns e.asked e.verdict ≡ each_lane task) × s.MayBeShort task)
      at_short start h e what legal found told short =
          let l = short.lane in
          let ticket = in_longer (issued s l h.register) (tickets (h.lane l)) (part_of e.place short.part short.task) (legal.in_order l)
          (in_tickets s (h.lane l) (Passed e.place short.part short.task Short) short.here) in
          let of = of_entry l e.place short.part short.task h.register ticket in
          let same : of.entry ≡ e = one_entry of.entry (entries_are_found s start h of.entry legal of.here) of.place_is in
          let mine = subst (λ (x : Entry s.Asked s.Verdict).
          IsIn (tickets_for s l x.place (s.turns x.asked x.verdict)) (part_of e.place short.part short.task)) same of.ticket in
          let outcome = outcomes_are_found s start h l e.place short.part short.task Short legal short.here in
          let may = (legal_here (start.objects l) (h.lane l) e.place short.part short.task Short (legal.lanes l) short.here).1 in
          ⊎_elim
          (λ none. inl none)
          (λ each. inr (each.0, each.1, subst s.MayBeShort (sym each.2) may))
          (turn_short h.lane e (s.turns e.asked e.verdict) what l short.part short.task legal.pairs short.here outcome mine told)
        where
          one_entry : (x : Entry s.Asked s.Verdict) → entry_at x.place h.register ≡ Some x → x.place ≡ e.place → x ≡ e
          one_entry x there at =
              let both : ◌≡◌ {A = Option (Entry s.Asked s.Verdict)} (Some x) (Some e) = sym there ∙ ap (λ (n : ℕ). entry_at n h.register) at ∙ found in
              let same : x ≡ e = cc in same
