-- One ticket in each lane, turn by turn.
use Rattle.std.proofs.Common.{◌≡◌, ◌≢◌, ℕ, zero, suc, ◌+◌, ◌-◌, ◌<◌, ◌≤◌, List, [], ◌∷◌, ◌++◌, length, cond, Bool, false, ne_eqb, Some, refl}
use Rattle.std.proofs.Common.{sym, ap}
use Rattle.std.proofs.Common.{◌∙◌, subst, arith}
use Rattle.std.specs.Prelude.{nat_lt, slice_get}
use Rattle.std.proofs.lemmas.Bool.{ltb-true}
use mathlib.Core.Logic.{dite}
use native.Mathlib.Decide.{ℕ_discrete}
use Rattle.lane_histories.specs.Services.{Service, Turns, each_lane}
use Rattle.lane_histories.specs.Histories.{IsIn, Ticket, cut_of, drawn, issued, own, part_of, places, ticket_of, tickets, tickets_for}
use Rattle.lane_histories.specs.declared.items.Entry.{Entry}
use Rattle.lane_histories.specs.declared.items.LaneItem.{LaneItem}
use Rattle.lane_histories.specs.declared.items.Part.TheVariants.{Only}
use Rattle.lane_histories.specs.declared.items.RegisterItem.{RegisterItem}
use Rattle.lane_histories.specs.declared.items.RegisterItem.TheVariants.{DrawnCut}
use Rattle.lane_histories.specs.Legal.{IsLegal}
use Rattle.lane_histories.specs.Replies.{by_register, turns_what}
use Rattle.lane_histories.proofs.Tickets.{cut_number, each_number, ticket_stays}
use Rattle.hall_rule.specs.declared.queue.Claim.{Claim}
use Rattle.hall_rule.specs.declared.queue.Queue.{Queue}
use Rattle.hall_rule.specs.declared.queue.Queue.TheVariants.{OfDesk, OfLane}
use Rattle.hall_rule.specs.declared.view.Start.{Start}
use Rattle.hall_rule.specs.Sums.{times, total, upward}
use Rattle.hall_rule.specs.Machines.{Machines, world_of}
use Rattle.hall_rule.specs.Seen.{GrowsFrom, SameList, SeenLists, at_lane, history_of, lane_of}
use Rattle.hall_rule.specs.Claims.{bumped, busy, claim, claims_of, count_of, holds}
use Rattle.hall_rule.specs.Rule.{HallView, names, seeing}
use Rattle.hall_rule.specs.Steps.{others_of}
use Rattle.hall_rule.specs.WholeTurns.{HasDrawnCut, HasTurned, IsPass, MayAct, MayCutLane}
use Rattle.hall_rule.specs.Asks.{HasServed, MayServe}
use Rattle.hall_rule.specs.LaneTickets.{IsServingLanes, claims_from}
use Rattle.hall_rule.proofs.AskLemmas.{claims_are, ticket_there}
use Rattle.hall_rule.proofs.Sums.{total_append}
use Rattle.lane_histories.proofs.Lists.{nothing_more}
use Rattle.hall_rule.proofs.SeenLemmas.{begins_refl, begins_trans, one_ticket, same_list_refl, same_list_trans, ticket_in, tickets_longer}

-- ---- the numbers of the tickets

claims_alike : (f g : ℕ → ℕ) (lane n : ℕ) → ((l : ℕ) → lane ≤ l → f l ≡ g l) → claims_from f lane n ≡ claims_from g lane n
claims_alike f g lane zero same = refl
claims_alike f g lane (suc n) same =
    (λ i. claim (OfLane lane) (same lane (omega arith) i) false ∷ claims_alike f g (lane + 1) n (λ l from. same l (omega arith)) i)

pub claims_up : (count : ℕ → ℕ) (lane n : ℕ) → claims_of count (upward lane n) ≡ claims_from count lane n
claims_up count lane zero = refl
claims_up count lane (suc n) = ap (λ cs. claim (OfLane lane) (count lane) false ∷ cs)
    (claims_up (bumped count lane) (lane + 1) n ∙ claims_alike (bumped count lane) count (lane + 1) n
    (λ l from. ap (λ (b : Bool). cond b (count l + 1) (count l)) (ne_eqb lane l (λ e. absurd (omega (arith, e))))))

claims_next : (count : ℕ → ℕ) (lane lanes : ℕ) → lane < lanes
    → claims_from count lane (lanes - lane) ≡ claim (OfLane lane) (count lane) false ∷ claims_from count (lane + 1) (lanes - (lane + 1))
claims_next count lane lanes below =
    ap (claims_from count lane) (let e : lanes - lane ≡ suc (lanes - (lane + 1)) = omega arith in e)

from_first : (count : ℕ → ℕ) (lanes : ℕ) → claims_of count (upward 0 lanes) ≡ claims_from count 0 (lanes - 0)
from_first count lanes = claims_up count 0 lanes ∙ ap (claims_from count 0) (let e : lanes ≡ lanes - 0 = omega arith in e)

no_claims : (count : ℕ → ℕ) (lane lanes : ℕ) → lane ≡ lanes → claims_from count lane (lanes - lane) ≡ []
no_claims count lane lanes all = ap (claims_from count lane) (let e : lanes - lane ≡ 0 = omega arith in e)

module _ {service : Service} {M N P E : Type 0} (m : Machines service M N P E) (start : Start M N E) where
  -- ---- it begins

  pub lanes_begin_entry : (before : List (RegisterItem service.Asked service.Verdict)) (e : Entry service.Asked service.Verdict)
      (v : HallView service M N E) (task : service.Task) → MayServe m start before e v → service.turns e.asked e.verdict ≡ each_lane task
      → IsServingLanes m start (count_of service before) (part_of e.place Only task) 0 [] v v
  lanes_begin_entry before e v task may is =
      let mine : v.claims ≡ claims_from (count_of service before) 0 (service.lanes - 0) ++ [] =
      claims_are m start before e v may (each_lane task) is ∙ from_first (count_of service before) service.lanes
      ∙ sym (nothing_more (claims_from (count_of service before) 0 (service.lanes - 0))) in record {
        is = may.fresh ∙ (λ i. seeing v (mine i) v.seen);
        few = omega arith;
        tickets = λ l below. ticket_there m start before e v may l (count_of service before l) (part_of e.place Only task)
            (each_number service before e l task below is);
        passed = λ l under. absurd (omega (arith, under));
        longer = begins_refl v.seen;
        own_same = λ x named. refl;
        legal = may.legal;
        kept = λ q held. same_list_refl q v.seen;
      }

  pub lanes_begin_cut : (place : ℕ) (v w : HallView service M N E) → (d : HasDrawnCut m start place v w)
      → IsServingLanes m start (count_of service d.before.register) (cut_of (drawn d.before.register) (places d.before.register)) 0 v.claims
      w w
  lanes_begin_cut place v w d =
      let t = d.turned in
      let item : RegisterItem service.Asked service.Verdict = DrawnCut (drawn d.before.register) (places d.before.register) in
      let count : ℕ → ℕ = count_of service d.before.register in
      let seen : w.seen ≡ t.seen = ap (λ (x : HallView service M N E). x.seen) t.is in
      let here : w.seen.register ≡ d.before.register ++ item ∷ [] =
      ap (λ (h : SeenLists service N). h.register) seen ∙ sym t.same ∙ ap (λ (h : SeenLists service N). h.register ++ item ∷ []) d.before_is in
      let fresh : w ≡ seeing w w.claims w.seen =
      subst (λ (x : HallView service M N E). x ≡ seeing x x.claims x.seen) (sym t.is) refl in record {
        is = fresh ∙ (λ i. seeing w (d.is_claims i) w.seen) ∙ (λ i. seeing w (from_first count service.lanes i ++ v.claims) w.seen);
        few = omega arith;
        tickets = λ l below. ap (λ (register : List (RegisterItem service.Asked service.Verdict)). slice_get (issued service l register)
            (count l)) here
            ∙ cut_number service d.before.register l (drawn d.before.register) (places d.before.register) below;
        passed = λ l under. absurd (omega (arith, under));
        longer = begins_refl w.seen;
        own_same = λ x named. refl;
        legal = subst (λ (h : SeenLists service N). IsLegal service (world_of m start) (history_of service h)) (sym seen) t.legal;
        kept = λ q held. same_list_refl q w.seen;
      }

  -- ---- it goes on

  module _ (count : ℕ → ℕ) (ticket : Ticket service.Task) (lane : ℕ) (others : List Claim) (v w : HallView service M N E)
      (s : IsServingLanes m start count ticket lane others v w) where
    next_claim : lane < service.lanes
        → w.claims ≡ claim (OfLane lane) (count lane) false ∷ (claims_from count (lane + 1) (service.lanes - (lane + 1)) ++ others)
    next_claim below = ap (λ (x : HallView service M N E). x.claims) s.is
        ∙ ap (λ cs. cs ++ others) (claims_next count lane service.lanes below)

    others_are : lane < service.lanes → others_of w.claims ≡ claims_from count (lane + 1) (service.lanes - (lane + 1)) ++ others
    others_are below = ap others_of (next_claim below)

    mine : lane < service.lanes → w.claims ≡ claim (OfLane lane) (count lane) false ∷ others_of w.claims
    mine below = next_claim below ∙ ap (λ cs. claim (OfLane lane) (count lane) false ∷ cs) (sym (others_are below))

    pub is_pass : IsPass start v → IsPass start w
    is_pass pass = record {
      live = ap (λ (x : HallView service M N E). x.live) s.is ∙ pass.live;
      no_guests = ap (λ (x : HallView service M N E). x.guests) s.is;
      begun = ap (λ (x : HallView service M N E). x.start) s.is ∙ pass.begun;
    }

    -- of the tickets that wait none is held
    waiting : (f : Claim → ℕ) → ((l n : ℕ) → f (claim (OfLane l) n false) ≡ 0) → (k n : ℕ) → total f (claims_from count k n) ≡ 0
    waiting f none k zero = refl
    waiting f none k (suc n) = let a = none k (count k) in let b = waiting f none (k + 1) n in omega arith

    rest_total : (f : Claim → ℕ) → ((l n : ℕ) → f (claim (OfLane l) n false) ≡ 0) → lane < service.lanes
        → total f (others_of w.claims) ≡ total f others
    rest_total f none below =
        let a = total_append f (claims_from count (lane + 1) (service.lanes - (lane + 1))) others in
        let b = waiting f none (lane + 1) (service.lanes - (lane + 1)) in
        ap (total f) (others_are below) ∙ (let c : total f (claims_from count (lane + 1) (service.lanes - (lane + 1)) ++ others)
        ≡ total f others = omega arith in c)

    -- the next lane's ticket may be taken
    module _ (below : lane < service.lanes) (there : lane < length start.owners) (pass : IsPass start v)
        (free : total busy others ≡ 0) where
      pub may_cut_next : (cut place : ℕ) → ticket ≡ cut_of cut place → 0 < total (holds OfDesk) others
          → MayCutLane service start lane (count lane) cut place w
      may_cut_next cut place is desk = record {
        pass = is_pass pass;
        there = there;
        is_claim = mine below;
        no_turn = rest_total busy (λ l n. refl) below ∙ free;
        ticket = s.tickets lane below ∙ ap Some is;
        desk = let same = rest_total (holds OfDesk) (λ l n. refl) below in omega arith;
      }

      pub may_act_next : (place : ℕ) (task : service.Task) → ticket ≡ part_of place Only task
          → MayAct service start lane (count lane) place Only task false w
      may_act_next place task is = record {
        pass = is_pass pass;
        there = there;
        is_claim = mine below;
        no_turn = rest_total busy (λ l n. refl) below ∙ free;
        ticket = s.tickets lane below ∙ ap Some is;
        to_skip = refl;
      }

    pub lanes_go_on : (u : HallView service M N E) (item : LaneItem service.Task service.Reply) (owner : N) → lane < service.lanes
        → ticket_of item ≡ ticket → IsIn (lane_of u.seen.lanes lane) item → HasTurned m start (at_lane lane item owner) (others_of w.claims) w u → GrowsFrom u.seen w.seen
        → IsServingLanes m start count ticket (lane + 1) others v u
    lanes_go_on u item owner below told here t longer =
        let seen : u.seen ≡ t.seen = ap (λ (x : HallView service M N E). x.seen) t.is in
        let same_names : names v ≡ names w = ap (λ (x : HallView service M N E). names x) (sym s.is) in record {
          is = t.is ∙ (λ i. seeing (s.is i) (others_are below i) (sym seen i));
          few = omega arith;
          tickets = λ l under. ap (λ (register : List (RegisterItem service.Asked service.Verdict)). slice_get (issued service l register)
              (count l)) longer.register.1 ∙ ticket_stays service l (count l) ticket w.seen.register longer.register.0 (s.tickets l under);
          passed = λ l under. dite (ℕ_discrete l lane)
              (λ same. subst (λ (x : ℕ × Ticket service.Task). IsIn (tickets (lane_of u.seen.lanes x.0)) x.1) (λ i. (sym same i, told i))
              (ticket_in (lane_of u.seen.lanes lane) item here))
              (λ other. tickets_longer (lane_of u.seen.lanes l) (lane_of w.seen.lanes l) ticket (longer.lanes l)
              (s.passed l (let apart : l ≢ lane = other in omega (arith, under, apart))));
          longer = begins_trans u.seen w.seen v.seen longer s.longer;
          own_same = λ x named.
              let here = subst (λ ns. 0 < times x ns) same_names named in
              ap (λ (h : SeenLists service N). own x h.register) seen ∙ t.own_after x here ∙ t.own_before x here ∙ s.own_same x named;
          legal = subst (λ (h : SeenLists service N). IsLegal service (world_of m start) (history_of service h)) (sym seen) t.legal;
          kept = λ q held. same_list_trans q v.seen w.seen u.seen (s.kept q held) (still q held seen);
        }
      where
        still : (q : Queue) → 0 < total (holds q) others → u.seen ≡ t.seen → SameList q w.seen u.seen
        still q held seen = subst (SameList q w.seen) (sym seen)
            (t.kept q (let same = rest_total (holds q) (λ l n. refl) below in omega arith))

    -- ---- it ends

    pub lanes_end : lane ≡ service.lanes → w ≡ seeing v others w.seen
    lanes_end all = s.is ∙ (λ i. seeing v (no_claims count lane service.lanes all i ++ others) w.seen)

  pub served_by_each : (before : List (RegisterItem service.Asked service.Verdict)) (e : Entry service.Asked service.Verdict)
      (task : service.Task) (v w : HallView service M N E) → service.turns e.asked e.verdict ≡ each_lane task
      → IsServingLanes m start (count_of service before) (part_of e.place Only task) service.lanes [] v w
      → HasServed m start e (by_register e.verdict) v w
  served_by_each before e task v w is s = record {
    seen = w.seen;
    is = lanes_end (count_of service before) (part_of e.place Only task) service.lanes [] v w s refl;
    longer = s.longer;
    own_same = s.own_same;
    legal = s.legal;
    passed = λ l ticket here.
        let one = one_ticket (nat_lt l service.lanes) (part_of e.place Only task) ticket
        (subst (λ (turns : Turns service.Task). IsIn (tickets_for service l e.place turns) ticket) is here) in
        subst (λ (t : Ticket service.Task). IsIn (tickets (lane_of w.seen.lanes l)) t) one.1 (s.passed l (ltb-true l service.lanes one.0));
    what_is = ap (turns_what service (history_of service w.seen).lane e) is;
  }
