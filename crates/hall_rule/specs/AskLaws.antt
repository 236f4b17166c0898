-- What the turns of an `ask` come to, and those of one ticket in each lane.
--     AsksAreAnswered m     from the register's turn to the place's reply
--     LanesAreServed m      a request that goes to all lanes, and a drawn cut
use Rattle.std.specs.Prelude.{◌≡◌, ℕ, ◌+◌, ◌<◌, ◌≤◌, not, false, List, [], length, Some}
use Rattle.lane_histories.specs.Services.{each_lane, no_turn, one_turn, two_turns}
use Rattle.lane_histories.specs.Histories.{IsIn, Ticket, cut_of, drawn, part_of, places, ticket_of}
use Rattle.lane_histories.specs.Legal.{is_well}
use Rattle.lane_histories.specs.Replies.{What, by_register, two_what, what_of}
use Rattle.lane_histories.specs.declared.items.Entry.{Entry}
use Rattle.lane_histories.specs.declared.items.LaneItem.{LaneItem}
use Rattle.lane_histories.specs.declared.items.Outcome.{Outcome}
use Rattle.lane_histories.specs.declared.items.Part.TheVariants.{First, Only, Second}
use Rattle.lane_histories.specs.declared.items.RegisterItem.{RegisterItem}
use Rattle.lane_histories.specs.Services.{Service}
use Rattle.hall_rule.specs.declared.queue.Queue.TheVariants.{OfDesk}
use Rattle.hall_rule.specs.declared.queue.Claim.{Claim}
use Rattle.hall_rule.specs.declared.view.Start.{Start}
use Rattle.hall_rule.specs.Machines.{Machines}
use Rattle.hall_rule.specs.Rule.{HallView, seeing}
use Rattle.hall_rule.specs.Sums.{total}
use Rattle.hall_rule.specs.Claims.{bumped, busy, count_of, holds}
use Rattle.hall_rule.specs.Seen.{GrowsFrom, at_lane, lane_of}
use Rattle.hall_rule.specs.Steps.{others_of}
use Rattle.hall_rule.specs.WholeTurns.{HasActed, HasDecided, HasDrawnCut, HasTurned, IsPass}
use Rattle.hall_rule.specs.WholeTurns.{MayAct, MayCutLane, MayDraw, entry_behind}
use Rattle.hall_rule.specs.Asks.{HasAsked, HasServed, MayServe}
use Rattle.hall_rule.specs.LaneTickets.{IsServingLanes}

-- ---- an ask

-- a pass that has the tickets of an entry in hand
pub record ServeLaws {service : Service} {M N P E : Type 0} (m : Machines service M N P E)
    (start : Start M N E) (before : List (RegisterItem service.Asked service.Verdict))
    (e : Entry service.Asked service.Verdict) (v : HallView service M N E) : Type 0 where
  pub by_none : service.turns e.asked e.verdict ≡ no_turn
      → HasServed m start e (by_register e.verdict) v v
  -- the one turn
  pub may_act_only : (l : ℕ) (task : service.Task)
      → service.turns e.asked e.verdict ≡ one_turn l task → (n : ℕ) → n ≡ count_of service before l
      → l < length start.owners → MayAct service start l n e.place Only task false v
  pub by_one : (l : ℕ) (task : service.Task) → service.turns e.asked e.verdict ≡ one_turn l task
      → (y : Outcome service.Reply) (w : HallView service M N E)
      → HasActed m start l e.place Only task y v w → HasServed m start e (what_of y) v w
  -- the first and the second
  pub may_act_first : (a : ℕ) (task : service.Task) (b : ℕ) (next : service.Task)
      → service.turns e.asked e.verdict ≡ two_turns a task b next
      → (n : ℕ) → n ≡ count_of service before a → a < length start.owners
      → MayAct service start a n e.place First task false v
  pub may_act_second : (a : ℕ) (task : service.Task) (b : ℕ) (next : service.Task)
      → service.turns e.asked e.verdict ≡ two_turns a task b next
      → (n : ℕ) (x : Outcome service.Reply) (u : HallView service M N E)
      → n ≡ bumped (count_of service before) a b → b < length start.owners
      → HasActed m start a e.place First task x v u
      → MayAct service start b n e.place (Second a) next (not (is_well service x)) u
  pub by_two : (a : ℕ) (task : service.Task) (b : ℕ) (next : service.Task)
      → service.turns e.asked e.verdict ≡ two_turns a task b next
      → (x y : Outcome service.Reply) (what : What service.Verdict service.Reply)
      (u w : HallView service M N E) → HasActed m start a e.place First task x v u
      → HasActed m start b e.place (Second a) next y u w → two_what x (Some y) ≡ Some what
      → HasServed m start e what v w

pub record AsksAreAnswered {service : Service} {M N P E : Type 0} (m : Machines service M N P E)
    : Type 0 where
  pub may_draw : (start : Start M N E) (v : HallView service M N E) → IsPass start v
      → v.claims ≡ [] → MayDraw start v
  -- the turn of the request brought its tickets into hand
  pub may_serve : (start : Start M N E) (place : ℕ) (asked : service.Asked)
      (verdict : service.Verdict) (v w : HallView service M N E) → IsPass start v → v.claims ≡ []
      → (d : HasDecided m start place asked verdict v w)
      → MayServe m start d.before.register
      (entry_behind d.before.register v.number asked verdict) w
  pub serve : (start : Start M N E) (before : List (RegisterItem service.Asked service.Verdict))
      (e : Entry service.Asked service.Verdict) (v : HallView service M N E)
      → MayServe m start before e v → ServeLaws m start before e v
  pub asked : (start : Start M N E) (place : ℕ) (asked : service.Asked)
      (verdict : service.Verdict) (what : What service.Verdict service.Reply)
      (v u w : HallView service M N E) → IsPass start v → v.claims ≡ []
      → (d : HasDecided m start place asked verdict v u)
      → HasServed m start (entry_behind d.before.register v.number asked verdict) what u w
      → HasAsked m start place asked verdict what v w
  -- its place is at or above the front, and has been seen
  pub place_above : (start : Start M N E) (front place : ℕ) (asked : service.Asked)
      (verdict : service.Verdict) (what : What service.Verdict service.Reply)
      (v w : HallView service M N E) → front ≤ places v.seen.register
      → HasAsked m start place asked verdict what v w → front ≤ place
  pub place_seen : (start : Start M N E) (place : ℕ) (asked : service.Asked)
      (verdict : service.Verdict) (what : What service.Verdict service.Reply)
      (v w : HallView service M N E) → HasAsked m start place asked verdict what v w
      → place + 1 ≤ places w.seen.register

-- ---- one ticket in each lane

-- the lanes below this one have had their turns
pub record LaneLaws {service : Service} {M N P E : Type 0} (m : Machines service M N P E)
    (start : Start M N E) (count : ℕ → ℕ) (ticket : Ticket service.Task) (lane : ℕ)
    (others : List Claim) (v w : HallView service M N E) : Type 0 where
  pub pass : IsPass start v → IsPass start w
  pub may_cut : lane < service.lanes → lane < length start.owners → IsPass start v
      → total busy others ≡ 0 → (cut place : ℕ) → ticket ≡ cut_of cut place
      → 0 < total (holds OfDesk) others → MayCutLane service start lane (count lane) cut place w
  pub may_act : lane < service.lanes → lane < length start.owners → IsPass start v
      → total busy others ≡ 0 → (place : ℕ) (task : service.Task)
      → ticket ≡ part_of place Only task
      → MayAct service start lane (count lane) place Only task false w
  pub go_on : (u : HallView service M N E) (item : LaneItem service.Task service.Reply) (owner : N)
      → lane < service.lanes → ticket_of item ≡ ticket → IsIn (lane_of u.seen.lanes lane) item
      → HasTurned m start (at_lane lane item owner) (others_of w.claims) w u → GrowsFrom u.seen w.seen
      → IsServingLanes m start count ticket (lane + 1) others v u
  pub end : lane ≡ service.lanes → w ≡ seeing v others w.seen

pub record LanesAreServed {service : Service} {M N P E : Type 0} (m : Machines service M N P E)
    : Type 0 where
  pub begin_entry : (start : Start M N E)
      (before : List (RegisterItem service.Asked service.Verdict))
      (e : Entry service.Asked service.Verdict) (v : HallView service M N E)
      (task : service.Task) → MayServe m start before e v
      → service.turns e.asked e.verdict ≡ each_lane task
      → IsServingLanes m start (count_of service before) (part_of e.place Only task) 0 [] v v
  pub begin_cut : (start : Start M N E) (place : ℕ) (v w : HallView service M N E)
      → (d : HasDrawnCut m start place v w)
      → IsServingLanes m start (count_of service d.before.register)
      (cut_of (drawn d.before.register) (places d.before.register)) 0 v.claims w w
  pub lane : (start : Start M N E) (count : ℕ → ℕ) (ticket : Ticket service.Task) (lane : ℕ)
      (others : List Claim) (v w : HallView service M N E)
      → IsServingLanes m start count ticket lane others v w
      → LaneLaws m start count ticket lane others v w
  pub by_each : (start : Start M N E)
      (before : List (RegisterItem service.Asked service.Verdict))
      (e : Entry service.Asked service.Verdict) (task : service.Task)
      (v w : HallView service M N E) → service.turns e.asked e.verdict ≡ each_lane task
      → IsServingLanes m start (count_of service before) (part_of e.place Only task)
      service.lanes [] v w
      → HasServed m start e (by_register e.verdict) v w
