-- Lists whose replay may come so are legal.
use Rattle.std.proofs.Common.{◌≡◌, ◌⊎◌, inl, inr, ⊎_elim, ℕ, suc, ◌<◌, Bool, true, false, cond, [], ◌∷◌, ◌++◌, take, drop, refl, ap, sym, ◌∙◌, subst, arith, append_assoc}
use Rattle.std.specs.Prelude.{◌==◌, nat_lt}
use Rattle.std.specs.List.{AllByRecursion}
use Rattle.std.proofs.lemmas.Bool.{eqb-true, ltb-true}
use Rattle.lane_histories.specs.Services.{Service, Turns, no_turn, one_turn, two_turns, each_lane}
use Rattle.lane_histories.specs.Histories.{RegisterItem, Entry, Entered, DrawnCut, RegisterCut, Part, Only, First, Second, Ticket, part_of, cut_of, Outcome, LaneItem, Passed, ticket_of, tickets, IsIn, StartsWith, in_lane, tickets_for, issued, register_step, RegisterList, LaneList, TicketList}
use Rattle.lane_histories.specs.Legal.{IsLegalRegister, IsLegalLane, PairsAgree}
use Rattle.lane_histories.specs.Replays.{IsNextItem, IsReplay, MayCome, MayTake, MayTakeTurns, Stage, decided_stage, next_objects, replayed, stage_step, staged, taken, turn_taken, turns_taken}
use Rattle.lane_histories.specs.Laws.{ReplaysAreLegal}
use Rattle.lane_histories.proofs.Orders.{in_tickets}
use Rattle.lane_histories.proofs.Lists.{all_at, all_front}
use Rattle.lane_histories.proofs.Orders.{IsIssuedSince, issued_ordered}

module _ (s : Service) where
  -- ---- one lane, before it took its turn

  record LaneBefore (left : TicketList s) (o : s.Objects) (rest : LaneList s) : Type 0 where
    starts : StartsWith left (tickets rest)
    legal : IsLegalLane s o rest

  lane_before : (ticket : Ticket s.Task) (later : TicketList s) (here : Bool) (o : s.Objects) (rest : LaneList s)
      → (here ≡ true → IsNextItem s o ticket rest)
      → StartsWith later (tickets (cond here (drop 1 rest) rest))
      → IsLegalLane s (cond here (next_objects s o rest) o) (cond here (drop 1 rest) rest)
      → LaneBefore (cond here (ticket ∷ []) [] ++ later) o rest
  lane_before ticket later false o rest may starts legal = record { starts = starts; legal = legal }
  lane_before ticket later true o [] may starts legal = record { starts = (ticket ∷ later, refl); legal = tt }
  lane_before ticket later true o (i ∷ rest) may starts legal =
      let next = may refl in
      record { starts = (starts.0, (λ k. sym next.0 k ∷ starts.1 k)); legal = (next.1, legal) }

  -- an item is left, or was the next one
  was_next : (here : Bool) (rest : LaneList s) (x : LaneItem s.Task s.Reply) → IsIn rest x
      → IsIn (cond here (drop 1 rest) rest) x ⊎ ((here ≡ true) × IsIn (take 1 rest) x)
  was_next false rest x is = inl is
  was_next true [] x is = absurd is
  was_next true (i ∷ rest) x is = ⊎_elim (λ same. inr (refl, inl same)) (λ later. inl later) is

  next_ticket : (o : s.Objects) (ticket : Ticket s.Task) (rest : LaneList s) (x : LaneItem s.Task s.Reply)
      → IsNextItem s o ticket rest → IsIn (take 1 rest) x → ticket_of x ≡ ticket
  next_ticket o ticket [] x may is = absurd is
  next_ticket o ticket (i ∷ rest) x may is = ⊎_elim (λ same. ap ticket_of (sym same) ∙ may.0) (λ none. absurd none) is

  -- ---- all lanes, before some took their turn

  record Before (st : Stage s) (left : ℕ → TicketList s) : Type 0 where
    starts : (l : ℕ) → StartsWith (left l) (tickets (st.rest l))
    legal : (l : ℕ) → IsLegalLane s (st.objects l) (st.rest l)

  before_taken : (st : Stage s) (here : ℕ → Bool) (ticket : Ticket s.Task) (later : ℕ → TicketList s)
      → ((l : ℕ) → here l ≡ true → MayTake s st l ticket) → Before (taken s here st) later
      → Before st (λ l. cond (here l) (ticket ∷ []) [] ++ later l)
  before_taken st here ticket later may after =
      let one = λ (l : ℕ). lane_before ticket (later l) (here l) (st.objects l) (st.rest l) (may l) (after.starts l) (after.legal l) in
      record { starts = λ l. (one l).starts; legal = λ l. (one l).legal }

  before_with : (st : Stage s) (f g : ℕ → TicketList s) → ((l : ℕ) → f l ≡ g l) → Before st f → Before st g
  before_with st f g same before = record { starts = λ l. (let starts = before.starts l in (starts.0, sym (same l) ∙ starts.1)); legal = before.legal }

  at_lane : (st : Stage s) (a : ℕ) (ticket : Ticket s.Task) → MayTake s st a ticket → (l : ℕ) → (a == l) ≡ true → MayTake s st l ticket
  at_lane st a ticket may l is = subst (λ (m : ℕ). MayTake s st m ticket) (eqb-true a l is) may

  turns_before : (st : Stage s) (place : ℕ) (turns : Turns s.Task) (later : ℕ → TicketList s) → MayTakeTurns s st place turns
      → Before (turns_taken s st turns) later → Before st (λ l. tickets_for s l place turns ++ later l)
  turns_before st place no_turn later may after = after
  turns_before st place (one_turn a task) later may after = before_taken st (λ l. a == l) (part_of place Only task) later (at_lane st a (part_of place Only task) may) after
  turns_before st place (two_turns a task b next) later may after =
      let one : Ticket s.Task = part_of place First task in
      let two : Ticket s.Task = part_of place (Second a) next in
      let between : ℕ → TicketList s = λ l. in_lane l b two ++ later l in
      let half = before_taken (turn_taken s st a) (λ l. b == l) two later (at_lane (turn_taken s st a) b two may.1) after in
      before_with st _ _ (λ l. sym (append_assoc (in_lane l a one) (in_lane l b two) (later l))) (before_taken st (λ l. a == l) one between (at_lane st a one may.0) half)
  turns_before st place (each_lane task) later may after = before_taken st (λ l. nat_lt l s.lanes) (part_of place Only task) later (λ l is. may l (ltb-true l s.lanes is)) after

  -- ---- pairs

  -- what is left belongs to later places
  abbrev IsLater : ℕ → Stage s → Type 0
  IsLater n st = (l place : ℕ) (part : Part) (task : s.Task) (x : Outcome s.Reply) → IsIn (st.rest l) (Passed place part task x) → n < place

  -- where no first or second turn is taken, all pairs are left
  plain_pairs : (st : Stage s) (here : ℕ → Bool) (ticket : Ticket s.Task) → ((l : ℕ) → here l ≡ true → MayTake s st l ticket)
      → ((place a : ℕ) (task : s.Task) → ticket ≡ part_of place First task → ⊥)
      → ((place a : ℕ) (task : s.Task) → ticket ≡ part_of place (Second a) task → ⊥) → PairsAgree s (taken s here st).rest
      → PairsAgree s st.rest
  plain_pairs st here ticket may no_first no_second pairs a b place task next x y is_first is_second = ⊎_elim
      (λ left. ⊎_elim
      (λ also. pairs a b place task next x y left also)
      (λ (now : (here b ≡ true) × IsIn (take 1 (st.rest b)) (Passed place (Second a) next y)). absurd (no_second place a next (sym (next_ticket (st.objects b) ticket (st.rest b) _ (may b now.0) now.1))))
      (was_next (here b) (st.rest b) _ is_second))
      (λ (now : (here a ≡ true) × IsIn (take 1 (st.rest a)) (Passed place First task x)). absurd (no_first place a task (sym (next_ticket (st.objects a) ticket (st.rest a) _ (may a now.0) now.1))))
      (was_next (here a) (st.rest a) _ is_first)

  module _ (st : Stage s) (n a b : ℕ) (task next : s.Task) (may : MayTakeTurns s st n (two_turns a task b next))
      (later : IsLater n (turns_taken s st (two_turns a task b next)))
      (pairs : PairsAgree s (turns_taken s st (two_turns a task b next)).rest) where
    abbrev mid : Stage s
    mid = turn_taken s st a

    abbrev end : Stage s
    end = turn_taken s mid b

    -- a first turn is the one taken now, or comes later
    first_where : (l place : ℕ) (t : s.Task) (x : Outcome s.Reply) → IsIn (st.rest l) (Passed place First t x)
        → IsIn (end.rest l) (Passed place First t x) ⊎ ((a ≡ l) × (place ≡ n) × IsIn (take 1 (st.rest a)) (Passed place First t x))
    first_where l place t x is = ⊎_elim
        (λ left. ⊎_elim
        (λ also. inl also)
        (λ (now : ((b == l) ≡ true) × IsIn (take 1 (mid.rest l)) (Passed place First t x)).
        absurd (no_second (next_ticket (mid.objects l) (part_of n (Second a) next) (mid.rest l) _ (at_lane mid b (part_of n (Second a) next) may.1 l now.0) now.1)))
        (was_next (b == l) (mid.rest l) _ left))
        (λ (now : ((a == l) ≡ true) × IsIn (take 1 (st.rest l)) (Passed place First t x)).
        let here : a ≡ l = eqb-true a l now.0 in
        let ticket = next_ticket (st.objects l) (part_of n First task) (st.rest l) _ (at_lane st a (part_of n First task) may.0 l now.0) now.1 in
        inr (here, same_place ticket, subst (λ (m : ℕ). IsIn (take 1 (st.rest m)) (Passed place First t x)) (sym here) now.1))
        (was_next (a == l) (st.rest l) _ is)
      where
        no_second : ◌≡◌ {A = Ticket s.Task} (part_of place First t) (part_of n (Second a) next) → ⊥
        no_second e = let never : First ≡ Second a = cc in cc

        same_place : ◌≡◌ {A = Ticket s.Task} (part_of place First t) (part_of n First task) → place ≡ n
        same_place e = cc

    second_where : (l place c : ℕ) (t : s.Task) (y : Outcome s.Reply) → IsIn (st.rest l) (Passed place (Second c) t y)
        → IsIn (end.rest l) (Passed place (Second c) t y) ⊎ ((b ≡ l) × (place ≡ n) × (c ≡ a) × IsIn (take 1 (mid.rest b)) (Passed place (Second c) t y))
    second_where l place c t y is = ⊎_elim
        (λ left. ⊎_elim
        (λ also. inl also)
        (λ (now : ((b == l) ≡ true) × IsIn (take 1 (mid.rest l)) (Passed place (Second c) t y)).
        let here : b ≡ l = eqb-true b l now.0 in
        let ticket = next_ticket (mid.objects l) (part_of n (Second a) next) (mid.rest l) _ (at_lane mid b (part_of n (Second a) next) may.1 l now.0) now.1 in
        inr (here, same_place ticket, same_lane ticket, subst (λ (m : ℕ). IsIn (take 1 (mid.rest m)) (Passed place (Second c) t y)) (sym here) now.1))
        (was_next (b == l) (mid.rest l) _ left))
        (λ (now : ((a == l) ≡ true) × IsIn (take 1 (st.rest l)) (Passed place (Second c) t y)).
        absurd (no_first (next_ticket (st.objects l) (part_of n First task) (st.rest l) _ (at_lane st a (part_of n First task) may.0 l now.0) now.1)))
        (was_next (a == l) (st.rest l) _ is)
      where
        no_first : ◌≡◌ {A = Ticket s.Task} (part_of place (Second c) t) (part_of n First task) → ⊥
        no_first e = let never : Second c ≡ First = cc in cc

        same_place : ◌≡◌ {A = Ticket s.Task} (part_of place (Second c) t) (part_of n (Second a) next) → place ≡ n
        same_place e = cc

        same_lane : ◌≡◌ {A = Ticket s.Task} (part_of place (Second c) t) (part_of n (Second a) next) → c ≡ a
        same_lane e = cc

    pair_pairs : PairsAgree s st.rest
    pair_pairs c d place t u x y is_first is_second = ⊎_elim
        (λ left. ⊎_elim
        (λ also. pairs c d place t u x y left also)
        (λ (now : (b ≡ d) × (place ≡ n) × (c ≡ a) × IsIn (take 1 (mid.rest b)) (Passed place (Second c) u y)). let same : place ≡ n = now.1 in let after = later c place First t x left in absurd (omega arith))
        (second_where d place c u y is_second))
        (λ (now : (a ≡ c) × (place ≡ n) × IsIn (take 1 (st.rest a)) (Passed place First t x)). ⊎_elim
        (λ left. let same : place ≡ n = now.1 in let after = later d place (Second c) u y left in absurd (omega arith))
        (λ (also : (b ≡ d) × (place ≡ n) × (c ≡ a) × IsIn (take 1 (mid.rest b)) (Passed place (Second c) u y)).
        may.2 t u x y
        (subst (λ (p : ℕ). IsIn (take 1 (st.rest a)) (Passed p First t x)) now.1 now.2)
        (subst (λ (p : ℕ × ℕ). IsIn (take 1 (mid.rest b)) (Passed p.0 (Second p.1) u y)) (λ k. (now.1 k, also.2 k)) also.3))
        (second_where d place c u y is_second))
        (first_where c place t x is_first)

  turns_pairs : (st : Stage s) (n : ℕ) (turns : Turns s.Task) → MayTakeTurns s st n turns → IsLater n (turns_taken s st turns)
      → PairsAgree s (turns_taken s st turns).rest → PairsAgree s st.rest
  turns_pairs st n no_turn may later pairs = pairs
  turns_pairs st n (one_turn a task) may later pairs = plain_pairs st (λ l. a == l) (part_of n Only task) (at_lane st a (part_of n Only task) may) (λ p c t e. no_first e) (λ p c t e. no_second e) pairs
    where
      no_first : {p : ℕ} {t : s.Task} → ◌≡◌ {A = Ticket s.Task} (part_of n Only task) (part_of p First t) → ⊥
      no_first e = let never : Only ≡ First = cc in cc

      no_second : {p c : ℕ} {t : s.Task} → ◌≡◌ {A = Ticket s.Task} (part_of n Only task) (part_of p (Second c) t) → ⊥
      no_second {c} e = let never : Only ≡ Second c = cc in cc
  turns_pairs st n (two_turns a task b next) may later pairs = pair_pairs st n a b task next may later pairs
  turns_pairs st n (each_lane task) may later pairs = plain_pairs st (λ l. nat_lt l s.lanes) (part_of n Only task) (λ l is. may l (ltb-true l s.lanes is)) (λ p c t e. no_first e) (λ p c t e. no_second e) pairs
    where
      no_first : {p : ℕ} {t : s.Task} → ◌≡◌ {A = Ticket s.Task} (part_of n Only task) (part_of p First t) → ⊥
      no_first e = let never : Only ≡ First = cc in cc

      no_second : {p c : ℕ} {t : s.Task} → ◌≡◌ {A = Ticket s.Task} (part_of n Only task) (part_of p (Second c) t) → ⊥
      no_second {c} e = let never : Only ≡ Second c = cc in cc

  -- ---- all items

  turns_leave : (st : Stage s) (turns : Turns s.Task) → (turns_taken s st turns).register ≡ st.register
  turns_leave st no_turn = refl
  turns_leave st (one_turn a task) = refl
  turns_leave st (two_turns a task b next) = refl
  turns_leave st (each_lane task) = refl

  stage_register : (st : Stage s) (i : RegisterItem s.Asked s.Verdict) → (stage_step s st i).register ≡ register_step s st.register i
  stage_register st (Entered e) = turns_leave (decided_stage s st e) (s.turns e.asked e.verdict)
  stage_register st (DrawnCut number c) = refl
  stage_register st (RegisterCut p found) = refl

  record Back (st : Stage s) (n cuts : ℕ) (items : RegisterList s) : Type 0 where
    register : IsLegalRegister s st.register n cuts items
    before : Before st (λ l. issued s l items)
    pairs : PairsAgree s st.rest

  -- what is left behind an entry belongs to later places
  later_places : (st : Stage s) (n cuts : ℕ) (items : RegisterList s) → Back st (suc n) cuts items → IsLater n st
  later_places st n cuts items b l place part task x is =
      let starts = b.before.starts l in
      let since : AllByRecursion (IsIssuedSince {T = s.Task} (suc n) cuts) (tickets (st.rest l)) =
      all_front _ (tickets (st.rest l)) starts.0 (subst (AllByRecursion (IsIssuedSince {T = s.Task} (suc n) cuts)) starts.1 (issued_ordered s l st.register (suc n) cuts items b.register).since) in
      all_at _ (tickets (st.rest l)) (part_of place part task) since (in_tickets s (st.rest l) (Passed place part task x) is)

  back_entry : (st : Stage s) (n cuts : ℕ) (e : Entry s.Asked s.Verdict) (items : RegisterList s) → e.place ≡ n
      → MayCome s st (Entered e) → Back (stage_step s st (Entered e)) (suc n) cuts items
      → Before st (λ l. issued s l (Entered e ∷ items)) × PairsAgree s st.rest
  back_entry st n cuts e items there may b =
      let decided = decided_stage s st e in
      let turns = s.turns e.asked e.verdict in
      let before = turns_before decided e.place turns (λ l. issued s l items) may b.before in
      let later = later_places (stage_step s st (Entered e)) n cuts items b in
      (record { starts = before.starts; legal = before.legal }, turns_pairs decided e.place turns may (λ l place part task x is. let after = later l place part task x is in omega arith) b.pairs)

  back : (items : RegisterList s) (st : Stage s) (n cuts : ℕ) → IsReplay s st n cuts items
      → ((l : ℕ) → (replayed s items st).rest l ≡ []) → Back st n cuts items
  back [] st n cuts legal left = record {
    register = tt;
    before = record { starts = λ l. rw (left l) ([], refl); legal = λ l. rw (left l) tt };
    pairs = λ a b place task next x y is_first is_second. absurd (subst (λ (rest : LaneList s). IsIn rest (Passed place First task x)) (left a) is_first);
  }
  back (Entered e ∷ items) st n cuts legal left =
      let b = back items (stage_step s st (Entered e)) (suc n) cuts legal.2 left in
      let both = back_entry st n cuts e items legal.0.0 legal.1 b in
      record { register = (legal.0, subst (λ (d : s.Register). IsLegalRegister s d (suc n) cuts items) (stage_register st (Entered e)) b.register); before = both.0; pairs = both.1 }
  back (DrawnCut number c ∷ items) st n cuts legal left =
      let drawn : Stage s = record st { register = s.drawn st.register } in
      let here : ℕ → Bool = λ l. nat_lt l s.lanes in
      let may : (l : ℕ) → here l ≡ true → MayTake s drawn l (cut_of number c) = λ l is. legal.1 l (ltb-true l s.lanes is) in
      let b = back items (stage_step s st (DrawnCut number c)) n (suc cuts) legal.2 left in
      let before = before_taken drawn here (cut_of number c) (λ l. issued s l items) may b.before in
      record {
        register = (legal.0, b.register);
        before = record { starts = before.starts; legal = before.legal };
        pairs = plain_pairs drawn here (cut_of number c) may (λ p a t e. no_part e) (λ p a t e. no_part e) b.pairs;
      }
    where
      no_part : {p : ℕ} {part : Part} {t : s.Task} → ◌≡◌ {A = Ticket s.Task} (cut_of number c) (part_of p part t) → ⊥
      no_part e = cc
  back (RegisterCut p found ∷ items) st n cuts legal left =
      let b = back items (stage_step s st (RegisterCut p found)) n cuts legal.2 left in
      record { register = (legal.0, b.register); before = record { starts = b.before.starts; legal = b.before.legal }; pairs = b.pairs }

pub replays_are_legal : (s : Service) → ReplaysAreLegal s
replays_are_legal s start h legal left =
    let b = back s h.register (staged start h.lane) 0 0 legal left in
    record { register = b.register; lanes = b.before.legal; in_order = b.before.starts; pairs = b.pairs }
