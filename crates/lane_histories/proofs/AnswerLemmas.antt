-- What a place is answered is what the replay answers there.
use Rattle.std.proofs.Common.{◌≡◌, ℕ, zero, suc, ◌+◌, ◌≤◌, ◌<◌, Bool, true, false, cond, [], ◌∷◌, ◌++◌, drop, Option, Some, None, refl, ap, sym, ◌∙◌, subst, arith, append_assoc, eq-eqb, ne_eqb}
use Rattle.std.specs.Prelude.{◌==◌, nat_lt, slice_get}
use Rattle.lane_histories.specs.Services.{Service, Turns, no_turn, one_turn, two_turns, each_lane}
use Rattle.lane_histories.specs.Histories.{Entry, Entered, DrawnCut, RegisterCut, Part, Only, First, Second, Ticket, part_of, cut_of, Outcome, LaneItem, Passed, WasCut, ticket_of, tickets, StartsWith, in_lane, places, tickets_for, issued, RegisterList, LaneList, TicketList}
use Rattle.lane_histories.specs.Legal.{IsLegalRegister}
use Rattle.lane_histories.specs.Replays.{Stage, decided_stage, stage_step, staged, turn_taken, turns_taken}
use Rattle.lane_histories.specs.Replies.{entry_at, entry_what, is_same_part, next_outcome, one_what, outcome_of, pair_what, reply, stage_what, turns_what, answers}
use Rattle.lane_histories.specs.Laws.{RepliesAreReplays}
use Rattle.lane_histories.proofs.Lists.{head_is}
use Rattle.lane_histories.proofs.FoundLemmas.{same_itself}
use Rattle.lane_histories.proofs.ReplayLemmas.{Ready, ready_with, stepped, taken_passes}

module _ (s : Service) where
  -- the part is of this place
  abbrev IsOfPlace : ℕ → Ticket s.Task → Type 0
  IsOfPlace place (part_of other part task) = other ≡ place
  IsOfPlace place (cut_of number c) = Unit {0}

  -- ---- an item that is passed over

  -- of another place
  pass_over : (n place : ℕ) (part : Part) (i : LaneItem s.Task s.Reply) (rest : LaneList s) → IsOfPlace n (ticket_of i) → n < place
      → outcome_of place part (i ∷ rest) ≡ outcome_of place part rest
  pass_over n place part (Passed other there task y) rest is later =
      ap (λ (b : Bool). cond b (cond (is_same_part there part) (Some y) (outcome_of place part rest)) (outcome_of place part rest)) (ne_eqb other place (λ same. let e : other ≡ n = is in omega arith))
  pass_over n place part (WasCut number c found) rest is later = refl

  either_way : (b : Bool) (o : Option (Outcome s.Reply)) → cond b o o ≡ o
  either_way true o = refl
  either_way false o = refl

  -- a first turn, where a second is sought
  first_over : (place a : ℕ) (task : s.Task) (i : LaneItem s.Task s.Reply) (rest : LaneList s)
      → ticket_of i ≡ part_of place First task → outcome_of place (Second a) (i ∷ rest) ≡ outcome_of place (Second a) rest
  first_over place a task (Passed other there that y) rest is =
      let same : there ≡ First = cc in
      ap (λ (p : Part). cond (other == place) (cond (is_same_part p (Second a)) (Some y) (outcome_of place (Second a) rest)) (outcome_of place (Second a) rest)) same ∙ either_way (other == place) (outcome_of place (Second a) rest)
  first_over place a task (WasCut number c found) rest is = absurd (cc)

  -- the next item has the ticket, if it is there
  found_next : (place : ℕ) (part : Part) (task : s.Task) (later : TicketList s) (rest : LaneList s)
      → StartsWith (part_of place part task ∷ later) (tickets rest) → outcome_of place part rest ≡ next_outcome place part rest
  found_next place part task later [] starts = refl
  found_next place part task later (WasCut number c found ∷ rest) starts = absurd (never number c (tickets rest ++ starts.0) starts.1)
    where
      never : (number c : ℕ) (ts : TicketList s) → ◌≡◌ {A = TicketList s} (part_of place part task ∷ later) (cut_of number c ∷ ts) → ⊥
      never number c ts e = cc
  found_next place part task later (Passed other there that y ∷ rest) starts = both (other == place) (is_same_part there part) (same_place starts.1) (same_part starts.1)
    where
      same_place : {ts : TicketList s} → ◌≡◌ {A = TicketList s} (part_of place part task ∷ later) (part_of other there that ∷ ts) → (other == place) ≡ true
      same_place e = let same : other ≡ place = cc in eq-eqb other place same

      same_part : {ts : TicketList s} → ◌≡◌ {A = TicketList s} (part_of place part task ∷ later) (part_of other there that ∷ ts) → is_same_part there part ≡ true
      same_part e = let same : there ≡ part = cc in ap (λ (p : Part). is_same_part p part) same ∙ same_itself part

      both : (here same : Bool) → here ≡ true → same ≡ true
          → cond here (cond same (Some y) (outcome_of place part rest)) (outcome_of place part rest) ≡ cond here (cond same (Some y) None) None
      both true true a b = refl
      both true false a b = absurd (cc)
      both false same a b = absurd (cc)

  -- ---- lanes that take a turn

  -- items of a place are left out where a later place is sought
  taken_over : (n place : ℕ) (part : Part) (here : Bool) (ticket : Ticket s.Task) (later : TicketList s) (rest : LaneList s)
      → IsOfPlace n ticket → n < place → StartsWith (cond here (ticket ∷ []) [] ++ later) (tickets rest)
      → outcome_of place part (cond here (drop 1 rest) rest) ≡ outcome_of place part rest
  taken_over n place part false ticket later rest is after starts = refl
  taken_over n place part true ticket later [] is after starts = refl
  taken_over n place part true ticket later (i ∷ rest) is after starts =
      let same : ticket_of i ≡ ticket = head_is ticket (ticket_of i) later (tickets rest ++ starts.0) starts.1 in
      sym (pass_over n place part i rest (subst (IsOfPlace n) (sym same) is) after)

  turns_over : (n place l : ℕ) (part : Part) (st : Stage s) (turns : Turns s.Task) (later : ℕ → TicketList s) → n < place
      → Ready s st (λ m. tickets_for s m n turns ++ later m)
      → outcome_of place part ((turns_taken s st turns).rest l) ≡ outcome_of place part (st.rest l)
  turns_over n place l part st no_turn later after ready = refl
  turns_over n place l part st (one_turn a task) later after ready = taken_over n place part (a == l) (part_of n Only task) (later l) (st.rest l) refl after (ready.starts l)
  turns_over n place l part st (two_turns a task b next) later after ready =
      let one : Ticket s.Task = part_of n First task in
      let two : Ticket s.Task = part_of n (Second a) next in
      let between : ℕ → TicketList s = λ m. in_lane m b two ++ later m in
      let apart : Ready s st (λ m. in_lane m a one ++ between m) = ready_with s st _ _ (λ m. append_assoc (in_lane m a one) (in_lane m b two) (later m)) ready in
      let half = (taken_passes s st (λ m. a == m) one between apart).ready in
      taken_over n place part (b == l) two (later l) ((turn_taken s st a).rest l) refl after (half.starts l)
      ∙ taken_over n place part (a == l) one (between l) (st.rest l) refl after (apart.starts l)
  turns_over n place l part st (each_lane task) later after ready = taken_over n place part (nat_lt l s.lanes) (part_of n Only task) (later l) (st.rest l) refl after (ready.starts l)

  -- ---- one entry

  -- of each lane the outcomes of places from n on are still to come
  abbrev Ahead : (ℕ → LaneList s) → ℕ → Stage s → Type 0
  Ahead lane n st = (l place : ℕ) (part : Part) → n ≤ place → outcome_of place part (lane l) ≡ outcome_of place part (st.rest l)

  here_starts : (l : ℕ) (ticket : Ticket s.Task) (later : TicketList s) (rest : LaneList s)
      → StartsWith (in_lane l l ticket ++ later) (tickets rest) → StartsWith (ticket ∷ later) (tickets rest)
  here_starts l ticket later rest starts = subst (λ (b : Bool). StartsWith (cond b (ticket ∷ []) [] ++ later) (tickets rest)) (eq-eqb l l refl) starts

  known : (lane : ℕ → LaneList s) (st : Stage s) (e : Entry s.Asked s.Verdict) (l : ℕ) (part : Part) (task : s.Task) (later : TicketList s) → Ahead lane e.place st → StartsWith (part_of e.place part task ∷ later) (tickets (st.rest l))
      → outcome_of e.place part (lane l) ≡ next_outcome e.place part (st.rest l)
  known lane st e l part task later ahead starts = ahead l e.place part (omega arith) ∙ found_next e.place part task later (st.rest l) starts

  -- where the first turn was taken in the same lane, the second is behind it
  second_over : (place a : ℕ) (task : s.Task) (here : Bool) (later : TicketList s) (rest : LaneList s)
      → StartsWith (cond here (part_of place First task ∷ []) [] ++ later) (tickets rest)
      → outcome_of place (Second a) (cond here (drop 1 rest) rest) ≡ outcome_of place (Second a) rest
  second_over place a task false later rest starts = refl
  second_over place a task true later [] starts = refl
  second_over place a task true later (i ∷ rest) starts = sym (first_over place a task i rest (head_is (part_of place First task) (ticket_of i) later (tickets rest ++ starts.0) starts.1))

  answered : (lane : ℕ → LaneList s) (st : Stage s) (e : Entry s.Asked s.Verdict) (turns : Turns s.Task) (later : ℕ → TicketList s)
      → Ahead lane e.place st → Ready s st (λ l. tickets_for s l e.place turns ++ later l)
      → stage_what s st e turns ≡ turns_what s lane e turns
  answered lane st e no_turn later ahead ready = refl
  answered lane st e (one_turn l task) later ahead ready = ap one_what (sym (known lane st e l Only task (later l) ahead (here_starts l (part_of e.place Only task) (later l) (st.rest l) (ready.starts l))))
  answered lane st e (two_turns a task b next) later ahead ready =
      let one : Ticket s.Task = part_of e.place First task in
      let two : Ticket s.Task = part_of e.place (Second a) next in
      let between : ℕ → TicketList s = λ m. in_lane m b two ++ later m in
      let apart : Ready s st (λ m. in_lane m a one ++ between m) = ready_with s st _ _ (λ m. append_assoc (in_lane m a one) (in_lane m b two) (later m)) ready in
      let half = (taken_passes s st (λ m. a == m) one between apart).ready in
      let mid = turn_taken s st a in
      let x : outcome_of e.place First (lane a) ≡ next_outcome e.place First (st.rest a) = known lane st e a First task (between a) ahead (here_starts a one (between a) (st.rest a) (apart.starts a)) in
      let y : outcome_of e.place (Second a) (lane b) ≡ next_outcome e.place (Second a) (mid.rest b) =
      ahead b e.place (Second a) (omega arith) ∙ sym (second_over e.place a task (a == b) (between b) (st.rest b) (apart.starts b))
      ∙ found_next e.place (Second a) next (later b) (mid.rest b) (here_starts b two (later b) (mid.rest b) (half.starts b)) in
      λ i. pair_what (sym x i) (sym y i)
  answered lane st e (each_lane task) later ahead ready = refl

  -- ---- all entries

  decided_ready : (st : Stage s) (d : s.Register) (left : ℕ → TicketList s) → Ready s st left → Ready s (record st { register = d }) left
  decided_ready st d left ready = record { starts = ready.starts; legal = ready.legal; pairs = ready.pairs }

  cut_over : (place number c : ℕ) (part : Part) (here : Bool) (later : TicketList s) (rest : LaneList s)
      → StartsWith (cond here (cut_of number c ∷ []) [] ++ later) (tickets rest)
      → outcome_of place part (cond here (drop 1 rest) rest) ≡ outcome_of place part rest
  cut_over place number c part false later rest starts = refl
  cut_over place number c part true later [] starts = refl
  cut_over place number c part true later (WasCut other at found ∷ rest) starts = refl
  cut_over place number c part true later (Passed other there task y ∷ rest) starts = absurd (never (tickets rest ++ starts.0) starts.1)
    where
      never : (ts : TicketList s) → ◌≡◌ {A = TicketList s} (cut_of number c ∷ later) (part_of other there task ∷ ts) → ⊥
      never ts e = cc

  all_answers : (lane : ℕ → LaneList s) (items : RegisterList s) (st : Stage s) (n cuts : ℕ)
      → IsLegalRegister s st.register n cuts items → Ready s st (λ l. issued s l items) → Ahead lane n st
      → (k : ℕ) → k < places items → slice_get (answers s items st) k ≡ Some (entry_what s lane (entry_at (n + k) items))
  all_answers lane [] st n cuts legal ready ahead k few = absurd (omega arith)
  all_answers lane (Entered e ∷ items) st n cuts legal ready ahead zero few =
      let there : e.place ≡ n = legal.0.0 in
      let decided = decided_stage s st e in
      let turns = s.turns e.asked e.verdict in
      let from_here : Ahead lane e.place decided = λ l place part after. ahead l place part (omega arith) in
      let same = answered lane decided e turns (λ l. issued s l items) from_here (decided_ready st decided.register _ ready) in
      let at_it : entry_at (n + 0) (Entered e ∷ items) ≡ Some e = ap (λ (b : Bool). cond b (Some e) (entry_at (n + 0) items)) (eq-eqb e.place (n + 0) (omega arith)) in
      ap Some (same ∙ ap (entry_what s lane) (sym at_it))
  all_answers lane (Entered e ∷ items) st n cuts legal ready ahead (suc k) few =
      let there : e.place ≡ n = legal.0.0 in
      let decided = decided_stage s st e in
      let turns = s.turns e.asked e.verdict in
      let step = stepped s st (Entered e) (λ l. issued s l items) ready in
      let on : Ahead lane (suc n) (stage_step s st (Entered e)) = λ l place part after.
      ahead l place part (omega arith) ∙ sym (turns_over e.place place l part decided turns (λ m. issued s m items) (omega arith) (decided_ready st decided.register _ ready)) in
      let legal_on = subst (λ (d : s.Register). IsLegalRegister s d (suc n) cuts items) (sym step.register) legal.1 in
      let more = all_answers lane items (stage_step s st (Entered e)) (suc n) cuts legal_on step.ready on k (omega arith) in
      let at_it : entry_at (n + suc k) (Entered e ∷ items) ≡ entry_at (suc n + k) items =
      ap (λ (b : Bool). cond b (Some e) (entry_at (n + suc k) items)) (ne_eqb e.place (n + suc k) (λ same. omega arith)) ∙ ap (λ (m : ℕ). entry_at m items) (let sum : n + suc k ≡ suc n + k = omega arith in sum) in
      more ∙ ap (λ (o : Option (Entry s.Asked s.Verdict)). Some (entry_what s lane o)) (sym at_it)
  all_answers lane (DrawnCut number c ∷ items) st n cuts legal ready ahead k few =
      let step = stepped s st (DrawnCut number c) (λ l. issued s l items) ready in
      let on : Ahead lane n (stage_step s st (DrawnCut number c)) = λ l place part after. ahead l place part after ∙ sym (cut_over place number c part (nat_lt l s.lanes) (issued s l items) (st.rest l) (ready.starts l)) in
      all_answers lane items (stage_step s st (DrawnCut number c)) n (suc cuts) (subst (λ (d : s.Register). IsLegalRegister s d n (suc cuts) items) (sym step.register) legal.1) step.ready on k few
  all_answers lane (RegisterCut p found ∷ items) st n cuts legal ready ahead k few =
      let step = stepped s st (RegisterCut p found) (λ l. issued s l items) ready in
      all_answers lane items (stage_step s st (RegisterCut p found)) n cuts legal.1 step.ready ahead k few

pub replies_are_replays : (s : Service) → RepliesAreReplays s
replies_are_replays s start h legal place few =
    let ready : Ready s (staged start h.lane) (λ l. issued s l h.register) = record { starts = legal.in_order; legal = legal.lanes; pairs = legal.pairs } in
    let all = all_answers s h.lane h.register (staged start h.lane) 0 0 legal.register ready (λ l at part after. refl) place few in
    all ∙ ap (λ (n : ℕ). Some (reply s h n)) (let same : 0 + place ≡ place = omega arith in same)
