-- The replay of one world and those of its register and lanes.
use Rattle.std.proofs.Common.{◌≡◌, inr, ℕ, Bool, true, false, cond, [], ◌∷◌, ◌++◌, drop, refl, ap, sym, ◌∙◌, subst, append_assoc, eq-eqb}
use Rattle.std.specs.Prelude.{◌==◌, nat_lt}
use Rattle.std.proofs.lemmas.Bool.{lt-ltb}
use Rattle.lane_histories.specs.Services.{Service, Turns, no_turn, one_turn, two_turns, each_lane}
use Rattle.lane_histories.specs.Histories.{RegisterItem, Entered, DrawnCut, RegisterCut, Only, First, Second, Ticket, part_of, cut_of, LaneItem, ticket_of, tickets, IsIn, StartsWith, in_lane, tickets_for, tickets_of, issued, register_step, register_after, objects_after, RegisterList, LaneList, TicketList}
use Rattle.lane_histories.specs.Legal.{IsLegalRegister, IsLegalLane, PairsAgree, cuts_on, places_on}
use Rattle.lane_histories.specs.Replays.{IsNextItem, IsReplay, MayCome, MayTake, MayTakeTurns, Stage, decided_stage, next_objects, replayed, stage_step, staged, taken, turn_taken, turns_taken}
use Rattle.lane_histories.specs.Laws.{ReplaysAreProducts}
use Rattle.lane_histories.proofs.Lists.{in_take, head_is, tail_is}

module _ (s : Service) where
  -- the items that are left are the first of these tickets, and may come
  pub record Ready (st : Stage s) (left : ℕ → TicketList s) : Type 0 where
    pub starts : (l : ℕ) → StartsWith (left l) (tickets (st.rest l))
    pub legal : (l : ℕ) → IsLegalLane s (st.objects l) (st.rest l)
    pub pairs : PairsAgree s st.rest

  -- one lane, which may take a turn
  record LaneTaken (ticket : Ticket s.Task) (later : TicketList s) (here : Bool) (o : s.Objects) (rest : LaneList s) : Type 0 where
    may : here ≡ true → IsNextItem s o ticket rest
    starts : StartsWith later (tickets (cond here (drop 1 rest) rest))
    legal : IsLegalLane s (cond here (next_objects s o rest) o) (cond here (drop 1 rest) rest)
    was : (x : LaneItem s.Task s.Reply) → IsIn (cond here (drop 1 rest) rest) x → IsIn rest x
    same : objects_after s (cond here (next_objects s o rest) o) (cond here (drop 1 rest) rest) ≡ objects_after s o rest

  lane_taken : (ticket : Ticket s.Task) (later : TicketList s) (here : Bool) (o : s.Objects) (rest : LaneList s)
      → StartsWith (cond here (ticket ∷ []) [] ++ later) (tickets rest) → IsLegalLane s o rest
      → LaneTaken ticket later here o rest
  lane_taken ticket later false o rest starts legal = record { may = λ e. absurd (never e); starts = starts; legal = legal; was = λ x here. here; same = refl }
    where
      never : false ≡ true → ⊥
      never e = cc
  lane_taken ticket later true o [] starts legal = record { may = λ e. tt; starts = (later, refl); legal = tt; was = λ x here. here; same = refl }
  lane_taken ticket later true o (i ∷ rest) starts legal =
      let heads : ticket_of i ≡ ticket = head_is ticket (ticket_of i) later (tickets rest ++ starts.0) starts.1 in
      let tails : later ≡ tickets rest ++ starts.0 = tail_is ticket (ticket_of i) later (tickets rest ++ starts.0) starts.1 in
      record { may = λ e. (heads, legal.0); starts = (starts.0, tails); legal = legal.1; was = λ x here. inr here; same = refl }

  -- from a stage to a later one, whose lanes come to the same
  pub record Passes (old new : Stage s) (later : ℕ → TicketList s) : Type 0 where
    pub ready : Ready new later
    pub was : (l : ℕ) (x : LaneItem s.Task s.Reply) → IsIn (new.rest l) x → IsIn (old.rest l) x
    pub same : (l : ℕ) → objects_after s (new.objects l) (new.rest l) ≡ objects_after s (old.objects l) (old.rest l)
    pub register : new.register ≡ old.register

  module _ (st : Stage s) (here : ℕ → Bool) (ticket : Ticket s.Task) (later : ℕ → TicketList s)
      (ready : Ready st (λ l. cond (here l) (ticket ∷ []) [] ++ later l)) where
    one_lane : (l : ℕ) → LaneTaken ticket (later l) (here l) (st.objects l) (st.rest l)
    one_lane l = lane_taken ticket (later l) (here l) (st.objects l) (st.rest l) (ready.starts l) (ready.legal l)

    pub may_take : (l : ℕ) → here l ≡ true → MayTake s st l ticket
    may_take l is = (one_lane l).may is

    pub taken_passes : Passes st (taken s here st) later
    taken_passes = record {
      ready = record {
        starts = λ l. (one_lane l).starts;
        legal = λ l. (one_lane l).legal;
        pairs = λ a b place task next x y is_first is_second. ready.pairs a b place task next x y ((one_lane a).was _ is_first) ((one_lane b).was _ is_second);
      };
      was = λ l x is. (one_lane l).was x is;
      same = λ l. (one_lane l).same;
      register = refl;
    }

  pub ready_with : (st : Stage s) (f g : ℕ → TicketList s) → ((l : ℕ) → f l ≡ g l) → Ready st f → Ready st g
  ready_with st f g same ready = record { starts = λ l. (let starts = ready.starts l in (starts.0, sym (same l) ∙ starts.1)); legal = ready.legal; pairs = ready.pairs }

  passes_on : (a b c : Stage s) (f g : ℕ → TicketList s) → Passes a b f → Passes b c g → Passes a c g
  passes_on a b c f g x y = record {
    ready = y.ready;
    was = λ l i is. x.was l i (y.was l i is);
    same = λ l. y.same l ∙ x.same l;
    register = y.register ∙ x.register;
  }

  -- ---- the turns of a request

  record Served (st : Stage s) (place : ℕ) (turns : Turns s.Task) (later : ℕ → TicketList s) : Type 0 where
    may : MayTakeTurns s st place turns
    passes : Passes st (turns_taken s st turns) later

  self_is : (a : ℕ) → (a == a) ≡ true
  self_is a = eq-eqb a a refl

  served : (st : Stage s) (place : ℕ) (turns : Turns s.Task) (later : ℕ → TicketList s)
      → Ready st (λ l. tickets_for s l place turns ++ later l) → Served st place turns later
  served st place no_turn later ready = record { may = tt; passes = record { ready = ready; was = λ l x is. is; same = λ l. refl; register = refl } }
  served st place (one_turn a task) later ready = record {
    may = may_take st (λ l. a == l) (part_of place Only task) later ready a (self_is a);
    passes = taken_passes st (λ l. a == l) (part_of place Only task) later ready;
  }
  served st place (two_turns a task b next) later ready =
      let one : Ticket s.Task = part_of place First task in
      let two : Ticket s.Task = part_of place (Second a) next in
      let after : ℕ → TicketList s = λ l. in_lane l b two ++ later l in
      let apart : Ready st (λ l. in_lane l a one ++ after l) = ready_with st _ _ (λ l. append_assoc (in_lane l a one) (in_lane l b two) (later l)) ready in
      let half = taken_passes st (λ l. a == l) one after apart in
      let all = taken_passes (turn_taken s st a) (λ l. b == l) two later half.ready in
      record {
        may = (
          may_take st (λ l. a == l) one after apart a (self_is a),
          may_take (turn_taken s st a) (λ l. b == l) two later half.ready b (self_is b),
          λ t u x y is_first is_second. ready.pairs a b place t u x y (in_take 1 (st.rest a) _ is_first) (half.was b _ (in_take 1 ((turn_taken s st a).rest b) _ is_second)),
        );
        passes = passes_on st (turn_taken s st a) (turn_taken s (turn_taken s st a) b) after later half all;
      }
  served st place (each_lane task) later ready = record {
    may = λ l few. may_take st (λ m. nat_lt m s.lanes) (part_of place Only task) later ready l (lt-ltb l s.lanes few);
    passes = taken_passes st (λ m. nat_lt m s.lanes) (part_of place Only task) later ready;
  }

  -- ---- one item of the register's list

  pub record Stepped (st : Stage s) (i : RegisterItem s.Asked s.Verdict) (later : ℕ → TicketList s) : Type 0 where
    pub may : MayCome s st i
    pub ready : Ready (stage_step s st i) later
    pub same : (l : ℕ) → objects_after s ((stage_step s st i).objects l) ((stage_step s st i).rest l) ≡ objects_after s (st.objects l) (st.rest l)
    pub register : (stage_step s st i).register ≡ register_step s st.register i

  with_register : (st : Stage s) (d : s.Register) (left : ℕ → TicketList s) → Ready st left → Ready (record st { register = d }) left
  with_register st d left ready = record { starts = ready.starts; legal = ready.legal; pairs = ready.pairs }

  pub stepped : (st : Stage s) (i : RegisterItem s.Asked s.Verdict) (later : ℕ → TicketList s)
      → Ready st (λ l. tickets_of s l i ++ later l) → Stepped st i later
  stepped st (Entered e) later ready =
      let on = served (decided_stage s st e) e.place (s.turns e.asked e.verdict) later (with_register st (s.decided st.register e.asked e.verdict) _ ready) in
      record { may = on.may; ready = on.passes.ready; same = on.passes.same; register = on.passes.register }
  stepped st (DrawnCut number c) later ready =
      let decided = with_register st (s.drawn st.register) _ ready in
      let here : ℕ → Bool = λ l. nat_lt l s.lanes in
      let on = taken_passes (record st { register = s.drawn st.register }) here (cut_of number c) later decided in
      record {
        may = λ l few. may_take (record st { register = s.drawn st.register }) here (cut_of number c) later decided l (lt-ltb l s.lanes few);
        ready = on.ready;
        same = on.same;
        register = refl;
      }
  stepped st (RegisterCut p found) later ready = record { may = tt; ready = with_register st (s.recorded found st.register) _ ready; same = λ l. refl; register = refl }

  -- ---- all items

  pub record Replayed (st : Stage s) (places cuts : ℕ) (items : RegisterList s) : Type 0 where
    pub legal : IsReplay s st places cuts items
    pub register : (replayed s items st).register ≡ register_after s st.register items
    pub rest : (l : ℕ) → (replayed s items st).rest l ≡ []
    pub same : (l : ℕ) → objects_after s ((replayed s items st).objects l) ((replayed s items st).rest l) ≡ objects_after s (st.objects l) (st.rest l)

  nothing_left : (rest : LaneList s) → StartsWith {X = Ticket s.Task} [] (tickets rest) → rest ≡ []
  nothing_left [] starts = refl
  nothing_left (i ∷ rest) starts = absurd (never (ticket_of i) (tickets rest ++ starts.0) starts.1)
    where
      never : (t : Ticket s.Task) (ts : TicketList s) → [] ≡ t ∷ ts → ⊥
      never t ts e = cc

  pub replay : (items : RegisterList s) (st : Stage s) (places cuts : ℕ) → IsLegalRegister s st.register places cuts items
      → Ready st (λ l. issued s l items) → Replayed st places cuts items
  replay [] st places cuts legal ready = record { legal = tt; register = refl; rest = λ l. nothing_left (st.rest l) (ready.starts l); same = λ l. refl }
  replay (i ∷ items) st places cuts legal ready =
      let step = stepped st i (λ l. issued s l items) ready in
      let more = replay items (stage_step s st i) (places_on places i) (cuts_on cuts i)
      (subst (λ (d : s.Register). IsLegalRegister s d (places_on places i) (cuts_on cuts i) items) (sym step.register) legal.1) step.ready in
      record {
        legal = (legal.0, step.may, more.legal);
        register = more.register ∙ ap (λ (d : s.Register). register_after s d items) step.register;
        rest = more.rest;
        same = λ l. more.same l ∙ step.same l;
      }

pub replays_are_products : (s : Service) → ReplaysAreProducts s
replays_are_products s start h legal =
    let st = staged start h.lane in
    let all = replay s h.register st 0 0 legal.register (record { starts = legal.in_order; legal = legal.lanes; pairs = legal.pairs }) in
    let end = replayed s h.register st in
    record {
      legal = all.legal;
      register = all.register;
      objects = λ l. ap (objects_after s (end.objects l)) (sym (all.rest l)) ∙ all.same l;
      rest = all.rest;
    }
