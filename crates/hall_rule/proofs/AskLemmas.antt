-- An ask, from its turns.
use Rattle.std.proofs.Common.{◌≡◌, inl, ⊎_elim, ℕ, ◌+◌, ◌<◌, ◌≤◌, List, [], ◌∷◌, ◌++◌, length, length-append, cond, Bool, true, false, eqb, eq-eqb}
use Rattle.std.proofs.Common.{ne_eqb, Some, refl, sym, ap, ◌∙◌, subst, arith}
use Rattle.std.specs.Prelude.{slice_get}
use Rattle.lane_histories.specs.Services.{Service, World, Turns, no_turn, one_turn, two_turns}
use Rattle.lane_histories.specs.Histories.{Ticket, part_of, StartsWith, own, places, in_lane, issued, ticket_of, tickets, tickets_for}
use Rattle.lane_histories.specs.declared.items.LaneItem.{LaneItem}
use Rattle.std.proofs.lemmas.Bool.{eqb-true}
use Rattle.lane_histories.specs.declared.items.RegisterItem.{RegisterItem}
use Rattle.lane_histories.specs.declared.items.Entry.{Entry}
use Rattle.lane_histories.specs.declared.items.Part.{Part}
use Rattle.lane_histories.specs.declared.items.Outcome.{Outcome}
use Rattle.lane_histories.specs.declared.items.RegisterItem.TheVariants.{Entered}
use Rattle.lane_histories.specs.declared.items.Part.TheVariants.{Only, First, Second}
use Rattle.lane_histories.specs.declared.items.LaneItem.TheVariants.{Passed}
use Rattle.lane_histories.specs.Legal.{IsLegal}
use Rattle.hall_rule.specs.declared.queue.Queue.TheVariants.{OfRegister, OfLane}
use Rattle.hall_rule.specs.declared.queue.Claim.{Claim}
use Rattle.hall_rule.specs.declared.view.Start.{Start}
use Rattle.hall_rule.specs.Sums.{total, times}
use Rattle.hall_rule.specs.Seen.{GrowsFrom, SeenLists, history_of, lane_of, lanes_of, at_register, pushed}
use Rattle.hall_rule.specs.Machines.{Machines, world_of}
use Rattle.hall_rule.specs.Claims.{claim, numbers, busy, bumped, claims_of, count_of, issued_by}
use Rattle.hall_rule.specs.Rule.{names, HallView, seeing}
use Rattle.hall_rule.specs.Steps.{others_of}
use Rattle.lane_histories.proofs.Lists.{nothing_more}
use Rattle.hall_rule.proofs.SeenLemmas.{starts_same, starts_trans, own_append, own_push_none, begins_refl, begins_trans}
use Rattle.hall_rule.proofs.SeenLemmas.{begins_pushed, one_ticket, ticket_in}
use Rattle.hall_rule.proofs.FitLemmas.{number_named}
use Rattle.std.specs.Prelude.{not}
use Rattle.hall_rule.specs.WholeTurns.{IsPass, MayDraw, entry_behind, HasDecided, MayAct, HasActed}
use Rattle.hall_rule.specs.Asks.{MayServe, HasServed, HasAsked}
use Rattle.hall_rule.proofs.TurnLemmas.{places_begin, places_append}
use Rattle.lane_histories.specs.Histories.{IsIn}
use Rattle.lane_histories.specs.Legal.{is_well}
use Rattle.lane_histories.specs.Replies.{What, entry_what, by_register, outcome_of, one_what, two_what, pair_what, turns_what, what_of}
use Rattle.lane_histories.specs.Replies.{reply}
use Rattle.lane_histories.proofs.Lists.{in_back, in_either, in_longer}
use Rattle.lane_histories.proofs.FoundLemmas.{outcomes_are_found}
use Rattle.lane_histories.proofs.PlaceLemmas.{entries_are_found}
use Rattle.lane_histories.proofs.Tickets.{one_number, first_number, second_number, ticket_stays}

module _ (service : Service) {N : Type 0} where
  -- the ticket of an item of this lane was passed
  passed_at : (h : SeenLists service N) (l k : ℕ) (i : LaneItem service.Task service.Reply) (ticket : Ticket service.Task) → eqb l k ≡ true
      → ticket_of i ≡ ticket → IsIn (lane_of h.lanes l) i → IsIn (tickets (lane_of h.lanes k)) ticket
  passed_at h l k i ticket same is here = subst (λ (x : ℕ × Ticket service.Task). IsIn (tickets (lane_of h.lanes x.0)) x.1)
      (λ j. (eqb-true l k same j, is j)) (ticket_in (lane_of h.lanes l) i here)

  outcome_here : (world : World service) (h : SeenLists service N) (lane place : ℕ) (part : Part) (task : service.Task)
      (y : Outcome service.Reply) → IsLegal service world (history_of service h) → IsIn (lane_of h.lanes lane) (Passed place part task y)
      → outcome_of place part (lane_of h.lanes lane) ≡ Some y
  outcome_here world h lane place part task y legal here =
      outcomes_are_found service world (history_of service h) lane place part task y legal here

  -- what the turns of an entry that is in the list came to is the place's reply
  replied_at : (world : World service) (h : SeenLists service N) (before : List (RegisterItem service.Asked service.Verdict))
      (e : Entry service.Asked service.Verdict) (what : What service.Verdict service.Reply) → IsLegal service world (history_of service h)
      → StartsWith h.register (before ++ Entered e ∷ [])
      → turns_what service (history_of service h).lane e (service.turns e.asked e.verdict) ≡ Some what
      → reply service (history_of service h) e.place ≡ Some what
  replied_at world h before e what legal entered is =
      let here : IsIn h.register (Entered e) = in_longer h.register (before ++ Entered e ∷ []) (Entered e) entered
      (in_back before (Entered e ∷ []) (Entered e) (inl refl)) in
      ap (entry_what service (history_of service h).lane) (entries_are_found service world (history_of service h) e legal here) ∙ is

module _ {service : Service} {M N P E : Type 0} (m : Machines service M N P E) (start : Start M N E) where
  pub may_draw : (v : HallView service M N E) → IsPass start v → v.claims ≡ [] → MayDraw start v
  may_draw v pass idle = record { pass = pass; no_register = ap (total (numbers OfRegister)) idle; no_turn = ap (total busy) idle }

  -- the turn of a request brought its tickets into hand
  pub may_serve : (place : ℕ) (asked : service.Asked) (verdict : service.Verdict) (v w : HallView service M N E) → IsPass start v
      → v.claims ≡ [] → (d : HasDecided m start place asked verdict v w)
      → MayServe m start d.before.register (entry_behind d.before.register v.number asked verdict) w
  may_serve place asked verdict v w pass idle d =
      let t = d.turned in
      let e : Entry service.Asked service.Verdict = entry_behind d.before.register v.number asked verdict in
      let claims : List Claim = claims_of (count_of service d.before.register) (lanes_of service.lanes (service.turns asked verdict)) in
      let none_else : issued_by service t.before (at_register (Entered e)) ++ v.claims ≡ claims =
      ap (λ (x : SeenLists service N). claims_of (count_of service x.register)
      (lanes_of service.lanes (service.turns asked verdict)) ++ v.claims) d.before_is ∙ ap (λ cs. claims ++ cs) idle
      ∙ nothing_more claims in
      let is : w ≡ seeing v claims t.seen = t.is ∙ (λ i. seeing v (none_else i) t.seen) in
      let same = t.same in
      subst (MayServe m start d.before.register e) (sym is) record {
        pass = record { live = pass.live; no_guests = refl; begun = pass.begun };
        fresh = refl;
        entered = starts_same t.seen.register (d.before.register ++ Entered e ∷ [])
            (sym same ∙ ap (λ (x : SeenLists service N). x.register ++ Entered e ∷ []) d.before_is);
        is_claims = refl;
        legal = t.legal;
      }

  module _ (before : List (RegisterItem service.Asked service.Verdict)) (e : Entry service.Asked service.Verdict)
      (v : HallView service M N E) (may : MayServe m start before e v) where
    pub claims_are : (turns : Turns service.Task) → service.turns e.asked e.verdict ≡ turns
        → v.claims ≡ claims_of (count_of service before) (lanes_of service.lanes turns)
    claims_are turns is = may.is_claims ∙ ap (λ (t : Turns service.Task). claims_of (count_of service before) (lanes_of service.lanes t)) is

    pub ticket_there : (l n : ℕ) (ticket : Ticket service.Task) → slice_get (issued service l (before ++ Entered e ∷ [])) n ≡ Some ticket
        → slice_get (issued service l v.seen.register) n ≡ Some ticket
    ticket_there l n ticket is = ap (λ (register : List (RegisterItem service.Asked service.Verdict)). slice_get (issued service l register)
        n) may.entered.1 ∙ ticket_stays service l n ticket (before ++ Entered e ∷ []) may.entered.0 is

    -- without turns the answer is the register's
    pub served_by_register : service.turns e.asked e.verdict ≡ no_turn → HasServed m start e (by_register e.verdict) v v
    served_by_register is = record {
      seen = v.seen;
      is = may.fresh ∙ (λ i. seeing v (claims_are no_turn is i) v.seen);
      longer = begins_refl v.seen;
      own_same = λ x named. refl;
      legal = may.legal;
      passed = λ l t here. absurd (subst (λ (turns : Turns service.Task). IsIn (tickets_for service l e.place turns) t) is here);
      what_is = ap (turns_what service (history_of service v.seen).lane e) is;
    }

    -- of one turn
    module _ (l : ℕ) (task : service.Task) (is : service.turns e.asked e.verdict ≡ one_turn l task) where
      pub may_act_only : (n : ℕ) → n ≡ count_of service before l → l < length start.owners
          → MayAct service start l n e.place Only task false v
      may_act_only n number there =
          let claims = claims_are (one_turn l task) is in
          let mine : v.claims ≡ claim (OfLane l) n false ∷ [] = claims ∙ ap (λ k. claim (OfLane l) k false ∷ []) (sym number) in record {
            pass = may.pass;
            there = there;
            is_claim = mine ∙ ap (λ cs. claim (OfLane l) n false ∷ cs) (sym (ap others_of mine));
            no_turn = ap (λ cs. total busy (others_of cs)) mine;
            ticket = ticket_there l n (part_of e.place Only task)
                (ap (slice_get (issued service l (before ++ Entered e ∷ []))) number ∙ one_number service before e l task is);
            to_skip = refl;
          }

      pub served_by_one : (y : Outcome service.Reply) (w : HallView service M N E) → HasActed m start l e.place Only task y v w
          → HasServed m start e (what_of y) v w
      served_by_one y w a =
          let t = a.turned in
          let none_left : others_of v.claims ≡ [] = ap others_of (claims_are (one_turn l task) is) in
          let seen_is : w.seen ≡ t.seen = ap (λ (x : HallView service M N E). x.seen) t.is in record {
            seen = t.seen;
            is = t.is ∙ (λ i. seeing v (none_left i) t.seen);
            longer = subst (λ (h : SeenLists service N). GrowsFrom h v.seen) seen_is a.longer;
            own_same = λ x named. t.own_after x named ∙ t.own_before x named;
            legal = t.legal;
            passed = λ k u here.
                let one = one_ticket (eqb l k) (part_of e.place Only task) u
                (subst (λ (turns : Turns service.Task). IsIn (tickets_for service k e.place turns) u) is here) in
                passed_at service t.seen l k (Passed e.place Only task y) u one.0 one.1
                (subst (λ (h : SeenLists service N). IsIn (lane_of h.lanes l) (Passed e.place Only task y)) seen_is a.here);
            what_is = ap (turns_what service (history_of service t.seen).lane e) is
                ∙ ap one_what (outcome_here service (world_of m start) t.seen l e.place Only task y t.legal
                (subst (λ (h : SeenLists service N). IsIn (lane_of h.lanes l) (Passed e.place Only task y)) seen_is a.here));
          }

    -- of two turns
    module _ (a : ℕ) (task : service.Task) (b : ℕ) (next : service.Task)
        (is : service.turns e.asked e.verdict ≡ two_turns a task b next) where
      pub may_act_first : (n : ℕ) → n ≡ count_of service before a → a < length start.owners
          → MayAct service start a n e.place First task false v
      may_act_first n number there =
          let mine : v.claims ≡ claim (OfLane a) n false ∷ (claim (OfLane b) (bumped (count_of service before) a b) false ∷ []) =
          claims_are (two_turns a task b next) is ∙ ap (λ k. claim (OfLane a) k
          false ∷ (claim (OfLane b) (bumped (count_of service before) a b) false ∷ [])) (sym number) in record {
            pass = may.pass;
            there = there;
            is_claim = mine ∙ ap (λ cs. claim (OfLane a) n false ∷ cs) (sym (ap others_of mine));
            no_turn = ap (λ cs. total busy (others_of cs)) mine;
            ticket = ticket_there a n (part_of e.place First task)
                (ap (slice_get (issued service a (before ++ Entered e ∷ []))) number ∙ first_number service before e a b task next is);
            to_skip = refl;
          }

      second_count : length (issued service b before ++ in_lane b a (part_of e.place First task)) ≡ bumped (count_of service before) a b
      second_count = length-append (issued service b before) (in_lane b a (part_of e.place First task)) ∙ go (eqb a b)
        where
          go : (here : Bool) → count_of service before b + length (cond here (part_of e.place First task ∷ []) [])
              ≡ cond here (count_of service before b + 1) (count_of service before b)
          go true = refl
          go false = omega arith

      pub may_act_second : (n : ℕ) (x : Outcome service.Reply) (u : HallView service M N E) → n ≡ bumped (count_of service before) a b
          → b < length start.owners → HasActed m start a e.place First task x v u
          → MayAct service start b n e.place (Second a) next (not (is_well service x)) u
      may_act_second n x u number there acted =
          let t = acted.turned in
          let left : others_of v.claims ≡ claim (OfLane b) n false ∷ [] = ap others_of (claims_are (two_turns a task b next) is)
          ∙ ap (λ k. claim (OfLane b) k false ∷ []) (sym number) in
          let mine : u.claims ≡ claim (OfLane b) n false ∷ [] = ap (λ (z : HallView service M N E). z.claims) t.is ∙ left in record {
            pass = record {
              live = ap (λ (z : HallView service M N E). z.live) t.is
                  ∙ may.pass.live;
              no_guests = ap (λ (z : HallView service M N E). z.guests) t.is;
              begun =
                  ap (λ (z : HallView service M N E). z.start) t.is ∙ may.pass.begun;
            };
            there = there;
            is_claim = mine ∙ ap (λ cs. claim (OfLane b) n false ∷ cs) (sym (ap others_of mine));
            no_turn = ap (λ cs. total busy (others_of cs)) mine;
            ticket =
                let two = ticket_there b n (part_of e.place (Second a) next)
                (ap (slice_get (issued service b (before ++ Entered e ∷ []))) (number ∙ sym second_count)
                ∙ second_number service before e a b task next is) in
                ap (λ (register : List (RegisterItem service.Asked service.Verdict)). slice_get (issued service b register) n)
                acted.longer.register.1 ∙ ticket_stays service b n (part_of e.place (Second a) next) v.seen.register
                acted.longer.register.0 two;
            to_skip = (task, x, acted.here, refl);
          }

      pub served_by_two : (x y : Outcome service.Reply) (what : What service.Verdict service.Reply) (u w : HallView service M N E)
          → HasActed m start a e.place First task x v u → HasActed m start b e.place (Second a) next y u w → two_what x (Some y) ≡ Some what
          → HasServed m start e what v w
      served_by_two x y what u w one two what_is =
          let s = one.turned in
          let t = two.turned in
          let left : others_of v.claims ≡ claim (OfLane b) (bumped (count_of service before) a b) false ∷ [] =
          ap others_of (claims_are (two_turns a task b next) is) in
          let none_left : others_of u.claims ≡ [] = ap (λ (z : HallView service M N E). others_of z.claims) s.is ∙ ap others_of left in
          let seen_is : w.seen ≡ t.seen = ap (λ (z : HallView service M N E). z.seen) t.is in
          let middle : u.seen ≡ s.seen = ap (λ (z : HallView service M N E). z.seen) s.is in
          let same_names : names v ≡ names u = ap (λ (z : HallView service M N E). names z) (sym s.is) in
          let on : GrowsFrom t.seen u.seen = subst (λ (h : SeenLists service N). GrowsFrom h u.seen) seen_is two.longer in
          let first_in : IsIn (lane_of t.seen.lanes a) (Passed e.place First task x) =
          in_longer (lane_of t.seen.lanes a) (lane_of u.seen.lanes a) (Passed e.place First task x) (on.lanes a) one.here in
          let second_in : IsIn (lane_of t.seen.lanes b) (Passed e.place (Second a) next y) =
          subst (λ (h : SeenLists service N). IsIn (lane_of h.lanes b) (Passed e.place (Second a) next y)) seen_is two.here in
          let found = outcome_here service (world_of m start) t.seen a e.place First task x t.legal first_in in
          let found' = outcome_here service (world_of m start) t.seen b e.place (Second a) next y t.legal second_in in record {
            seen = t.seen;
            is = t.is ∙ (λ i. seeing (s.is i) (none_left i) t.seen);
            longer = begins_trans t.seen u.seen v.seen on one.longer;
            own_same = λ k named. t.own_after k (subst (λ ns. 0 < times k ns) same_names named)
                ∙ t.own_before k (subst (λ ns. 0 < times k ns) same_names named) ∙ ap (λ (h : SeenLists service N). own k h.register) middle
                ∙ s.own_after k named ∙ s.own_before k named;
            legal = t.legal;
            passed = λ k ticket here. ⊎_elim
                (λ one. let it = one_ticket (eqb a k) (part_of e.place First task) ticket one in
                passed_at service t.seen a k (Passed e.place First task x) ticket it.0 it.1 first_in)
                (λ two. let it = one_ticket (eqb b k) (part_of e.place (Second a) next) ticket two in
                passed_at service t.seen b k (Passed e.place (Second a) next y) ticket it.0 it.1 second_in)
                (in_either (in_lane k a (part_of e.place First task)) (in_lane k b (part_of e.place (Second a) next)) ticket
                (subst (λ (turns : Turns service.Task). IsIn (tickets_for service k e.place turns) ticket) is here));
            what_is = ap (turns_what service (history_of service t.seen).lane e) is ∙ (λ i. pair_what (found i) (found' i)) ∙ what_is;
          }

  -- the turn of the register and the turns of the lanes make an ask
  pub has_asked : (place : ℕ) (asked : service.Asked) (verdict : service.Verdict) (what : What service.Verdict service.Reply)
      (v u w : HallView service M N E) → IsPass start v → v.claims ≡ [] → (d : HasDecided m start place asked verdict v u)
      → HasServed m start (entry_behind d.before.register v.number asked verdict) what u w → HasAsked m start place asked verdict what v w
  has_asked place asked verdict what v u w pass idle d s =
      let t = d.turned in
      let e : Entry service.Asked service.Verdict = entry_behind d.before.register v.number asked verdict in
      let may = may_serve place asked verdict v u pass idle d in
      let entered : StartsWith s.seen.register (d.before.register ++ Entered e ∷ []) =
      starts_trans s.seen.register u.seen.register (d.before.register ++ Entered e ∷ []) s.longer.register may.entered in
      let u_seen : u.seen ≡ t.seen = ap (λ (z : HallView service M N E). z.seen) t.is in
      let same_names : names v ≡ names u = ap (λ (z : HallView service M N E). names z) (sym t.is) in
      let pushed_begins : GrowsFrom t.seen (pushed t.before (at_register (Entered e))) = t.longer in
      let own_after : (x : ℕ) → 0 < times x (names v) → own x s.seen.register ≡ own x (d.before.register ++ Entered e ∷ []) =
      λ x named. s.own_same x (subst (λ ns. 0 < times x ns) same_names named) ∙ ap (λ (h : SeenLists service N). own x h.register) u_seen
      ∙ t.own_after x named ∙ ap (λ (h : SeenLists service N). own x (h.register ++ Entered e ∷ [])) d.before_is in
      let own_before : (x : ℕ) → 0 < times x (names v)
      → own x d.before.register ≡ own x v.seen.register = λ x named. ap (λ (h : SeenLists service N). own x h.register) (sym d.before_is)
      ∙ t.own_before x named in
      let mine = number_named v pass.live in record {
        before = d.before;
        seen = s.seen;
        is = s.is ∙ (λ i. seeing (t.is i) [] s.seen);
        longer = begins_trans s.seen u.seen v.seen s.longer
            (subst (λ (h : SeenLists service N). GrowsFrom h v.seen) (sym u_seen)
            (begins_trans t.seen (pushed t.before (at_register (Entered e))) v.seen t.longer
            (begins_trans (pushed t.before (at_register (Entered e))) t.before v.seen (begins_pushed t.before (at_register (Entered e)) tt)
            t.begins)));
        legal = s.legal;
        begins = subst (λ (h : SeenLists service N). GrowsFrom h v.seen) d.before_is t.begins;
        place_is = d.place_is;
        entered = entered;
        decided = d.may;
        own_grew = own_after v.number (omega arith) ∙ own_append v.number d.before.register (Entered e ∷ [])
            ∙ (λ i. own_before v.number (omega arith) i ++ mine_only i);
        own_others = λ x other named. own_after x named
            ∙ own_push_none x d.before.register (Entered e) (ap (λ (b : Bool). cond b (e ∷ []) []) (ne_eqb v.number x other))
            ∙ own_before x named;
        passed = s.passed;
        replied = ap (reply service (history_of service s.seen)) d.place_is
            ∙ replied_at service (world_of m start) s.seen d.before.register e what s.legal entered s.what_is;
      }
    where
      mine_only : own v.number (Entered (entry_behind d.before.register v.number asked verdict) ∷ [])
          ≡ entry_behind d.before.register v.number asked verdict ∷ []
      mine_only = ap (λ (b : Bool). cond b (entry_behind d.before.register v.number asked verdict ∷ []) []) (eq-eqb v.number v.number refl)

module _ {service : Service} {M N P E : Type 0} (m : Machines service M N P E) (start : Start M N E) where
  -- the place is at or above the front
  pub place_above : (front place : ℕ) (asked : service.Asked) (verdict : service.Verdict) (what : What service.Verdict service.Reply)
      (v w : HallView service M N E) → front ≤ places v.seen.register → HasAsked m start place asked verdict what v w → front ≤ place
  place_above front place asked verdict what v w low h = let a = places_begin h.before.register v.seen.register h.begins.register in
      let b = h.place_is in omega arith

  -- and it has been seen
  pub front_seen : (place : ℕ) (asked : service.Asked) (verdict : service.Verdict) (what : What service.Verdict service.Reply)
      (v w : HallView service M N E) → HasAsked m start place asked verdict what v w → place + 1 ≤ places w.seen.register
  front_seen place asked verdict what v w h =
      let e : Entry service.Asked service.Verdict = entry_behind h.before.register v.number asked verdict in
      let a = places_begin h.seen.register (h.before.register ++ Entered e ∷ []) h.entered in
      let b = places_append h.before.register (Entered e ∷ []) in
      let c = h.place_is in
      let d : places w.seen.register ≡ places h.seen.register = ap (λ (x : HallView service M N E). places x.seen.register) h.is in
      omega arith
