-- What an item adds keeps the lists legal, and a machine at home stands for its list.
use Rattle.std.proofs.Common.{◌≡◌, ℕ, ◌<◌, List, [], ◌∷◌, ◌++◌, set, length, cond, Bool, eq-eqb, ne_eqb, Some, refl, sym, ap, ◌∙◌, subst}
use Rattle.std.specs.Prelude.{slice_get}
use mathlib.Core.Logic.{dite}
use native.Mathlib.Decide.{ℕ_discrete}
use Rattle.lane_histories.specs.Services.{Service, World}
use Rattle.lane_histories.specs.Histories.{Ticket, part_of, cut_of, ticket_of, History, StartsWith, changed_at, own, places, drawn, tickets}
use Rattle.lane_histories.specs.Histories.{tickets_of, tickets_for, in_lane, in_each, issued, register_step, register_after, objects_after}
use Rattle.lane_histories.specs.Histories.{objects_step}
use Rattle.lane_histories.specs.declared.items.RegisterItem.{RegisterItem}
use Rattle.lane_histories.specs.declared.items.LaneItem.{LaneItem}
use Rattle.lane_histories.specs.declared.items.Part.TheVariants.{Only, First, Second}
use Rattle.lane_histories.specs.declared.items.LaneItem.TheVariants.{Passed, WasCut}
use Rattle.lane_histories.specs.Legal.{IsLegalRegisterItem, IsLegalLaneItem, IsNext, IsReached, IsPrefix, IsLegal, SecondsFollow}
use Rattle.lane_histories.specs.Legal.{with_register_item, with_lane_item, with_keeping}
use Rattle.hall_rule.specs.Queues.{IsQueue}
use Rattle.hall_rule.specs.Seen.{GrowsFrom, nothing, len_of, SameList, SeenLists, history_of, lane_of, Item, at_register}
use Rattle.hall_rule.specs.Seen.{at_desk, at_lane, queue_of, pushed}
use Rattle.lane_histories.specs.Legal.{IsReachedBy}
use Rattle.hall_rule.specs.WholeTurns.{MayJoinList}
use Rattle.hall_rule.proofs.SeenLemmas.{lane_set_same, lane_set_other, lane_nothing}
use Rattle.lane_histories.proofs.Pushes.{register_pushed, keeping_pushed, lane_pushed, seconds_pushed}
use Rattle.lane_histories.proofs.Tickets.{ticket_stays, next_by_number}
use Rattle.lane_histories.proofs.Lists.{in_longer}

-- the lists with one item more of a lane are those of the history with it
module _ (service : Service) {N : Type 0} (h : SeenLists service N) (lane : ℕ) (i : LaneItem service.Task service.Reply) (owner : N)
    (is : lane < length h.lanes) where
  abbrev new : List (LaneItem service.Task service.Reply)
  new = lane_of h.lanes lane ++ i ∷ []

  lanes_with : (l : ℕ) → lane_of (set h.lanes lane new) l ≡ changed_at lane new (λ m. lane_of h.lanes m) l
  lanes_with l = dite (ℕ_discrete lane l)
      (λ e. subst (λ (x : ℕ). lane_of (set h.lanes lane new) x ≡ changed_at lane new (λ m. lane_of h.lanes m) x) e
      (lane_set_same h.lanes lane new is ∙ sym (ap (λ (b : Bool). cond b new (lane_of h.lanes lane)) (eq-eqb lane lane refl))))
      (λ ne. lane_set_other h.lanes lane l new (λ e. ne (sym e))
      ∙ sym (ap (λ (b : Bool). cond b new (lane_of h.lanes l)) (ne_eqb lane l ne)))

  pub history_with : history_of service (pushed h (at_lane lane i owner)) ≡ with_lane_item (history_of service h) lane i
  history_with k = record { register = h.register; lane = λ l. lanes_with l k; keepings = h.keepings }

module _ (service : Service) {N : Type 0} (world : World service) (lanes : ℕ) where
  next_ticket : (n lane : ℕ) (h : SeenLists service N) (i : LaneItem service.Task service.Reply) → n ≡ length (lane_of h.lanes lane)
      → slice_get (issued service lane h.register) n ≡ Some (ticket_of i) → IsLegal service world (history_of service h)
      → IsNext service (history_of service h) lane (ticket_of i)
  next_ticket n lane h i here ticket legal = next_by_number service (history_of service h) lane (ticket_of i) (legal.in_order lane)
      (subst (λ (k : ℕ). slice_get (issued service lane h.register) k ≡ Some (ticket_of i)) here ticket)

  pub legal_pushed : (n : ℕ) (h : SeenLists service N) (item : Item service.Asked service.Verdict service.Task service.Reply N)
      → IsQueue (length h.lanes) (queue_of item) → n ≡ len_of h (queue_of item) → MayJoinList service world lanes n h item
      → IsLegal service world (history_of service h) → SecondsFollow service (history_of service h).lane
      → IsLegal service world (history_of service (pushed h item))
  legal_pushed n h (at_register e) is here may legal seconds = register_pushed service world (history_of service h) legal e may.0
  legal_pushed n h (at_desk k) is here may legal seconds = keeping_pushed service world (history_of service h) legal k
  legal_pushed n h (at_lane lane i owner) is here may legal seconds =
      subst (IsLegal service world) (sym (history_with service h lane i owner is))
      (lane_pushed service world (history_of service h) legal lane i (next_ticket n lane h i here may.0 legal) seconds
      may.1 may.2)

  pub seconds_pushed_by : (n : ℕ) (h : SeenLists service N) (item : Item service.Asked service.Verdict service.Task service.Reply N)
      → IsQueue (length h.lanes) (queue_of item) → n ≡ len_of h (queue_of item) → MayJoinList service world lanes n h item
      → IsLegal service world (history_of service h) → SecondsFollow service (history_of service h).lane
      → SecondsFollow service (history_of service (pushed h item)).lane
  seconds_pushed_by n h (at_register e) is here may legal seconds = seconds
  seconds_pushed_by n h (at_desk k) is here may legal seconds = seconds
  seconds_pushed_by n h (at_lane lane i owner) is here may legal seconds =
      subst (λ (g : History service). SecondsFollow service g.lane) (sym (history_with service h lane i owner is))
      (seconds_pushed service world (history_of service h) legal lane i (next_ticket n lane h i here may.0 legal) seconds
      may.1)

  reached_on : (h seen : SeenLists service N) → GrowsFrom h seen → (i : LaneItem service.Task service.Reply)
      → IsReachedBy service (history_of service seen) i → IsReachedBy service (history_of service h) i
  reached_on h seen on (Passed place Only task y) r = tt
  reached_on h seen on (Passed place First task y) r = tt
  reached_on h seen on (Passed place (Second a) task y) r =
      (r.0, r.1, in_longer (lane_of h.lanes a) (lane_of seen.lanes a) (Passed place First r.0 r.1) (on.lanes a) r.2, r.3)
  reached_on h seen on (WasCut number at found) r = tt

  -- what may come next behind the lists as a pass has seen them may come behind those of the hall
  pub may_come_on : (n : ℕ) (h seen : SeenLists service N) (item : Item service.Asked service.Verdict service.Task service.Reply N)
      → GrowsFrom h seen → SameList (queue_of item) seen h → MayJoinList service world lanes n seen item
      → MayJoinList service world lanes n h item
  may_come_on n h seen (at_register e) on same may = (
    subst (λ (register : List (RegisterItem service.Asked service.Verdict)). IsLegalRegisterItem service
        (register_after service world.register register) (places register) (drawn register) e) same may.0,
    may.1,
  )
  may_come_on n h seen (at_desk k) on same may = tt
  may_come_on n h seen (at_lane lane i owner) on same may = (
    ap (λ (register : List (RegisterItem service.Asked service.Verdict)). slice_get (issued service lane register) n) on.register.1
        ∙ ticket_stays service lane n (ticket_of i) seen.register on.register.0 may.0,
    reached_on h seen on i may.1,
    subst (λ (items : List (LaneItem service.Task service.Reply)). IsLegalLaneItem service
        (objects_after service (world.objects lane) items) i) same.0 may.2,
  )

module _ (service : Service) {N : Type 0} (world : World service) where
  nothing_lane : (owners : List N) (l : ℕ) → (history_of service (nothing owners)).lane l ≡ []
  nothing_lane owners l = lane_nothing (length owners) l

  pub legal_nothing : (owners : List N) → IsLegal service world (history_of service (nothing owners))
  legal_nothing owners = record {
    register = tt;
    lanes = λ l. subst (λ (items : List (LaneItem service.Task service.Reply)). Rattle.lane_histories.specs.Legal.IsLegalLane service
        (world.objects l) items) (sym (nothing_lane owners l)) tt;
    in_order = λ l. subst (λ (items : List (LaneItem service.Task service.Reply)). StartsWith [] (tickets items)) (sym (nothing_lane owners l))
        ([], refl);
    pairs = λ a b place task next x y first second. absurd
        (subst (λ (items : List (LaneItem service.Task service.Reply)). Rattle.lane_histories.specs.Histories.IsIn items
        (Passed place First task x)) (nothing_lane owners a) first);
  }

  pub seconds_nothing : (owners : List N) → SecondsFollow service (history_of service (nothing owners)).lane
  seconds_nothing owners a b place next y second = absurd
      (subst (λ (items : List (LaneItem service.Task service.Reply)). Rattle.lane_histories.specs.Histories.IsIn items
      (Passed place (Second a) next y)) (nothing_lane owners b) second)
