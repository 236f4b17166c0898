-- One ticket in each lane, turn by turn: those of a request to all lanes, or of a drawn cut.
--     claims_from count lane n     the tickets of n lanes from this one on, with these numbers
--     IsServingLanes ..            the lanes below had their turns; the other tickets are in hand
use Rattle.std.specs.Prelude.{◌≡◌, ℕ, zero, suc, ◌+◌, ◌-◌, ◌<◌, ◌≤◌, List, [], ◌∷◌, ◌++◌, Some}
use Rattle.std.specs.Prelude.{false, slice_get}
use Rattle.lane_histories.specs.Services.{Service}
use Rattle.lane_histories.specs.Histories.{IsIn, Ticket, issued, own}
use Rattle.lane_histories.specs.Histories.{tickets as tickets_passed}
use Rattle.lane_histories.specs.Legal.{IsLegal}
use Rattle.hall_rule.specs.declared.queue.Claim.{Claim}
use Rattle.hall_rule.specs.declared.queue.Queue.{Queue}
use Rattle.hall_rule.specs.declared.queue.Queue.TheVariants.{OfLane}
use Rattle.hall_rule.specs.declared.view.Start.{Start}
use Rattle.hall_rule.specs.Sums.{times, total}
use Rattle.hall_rule.specs.Machines.{Machines, world_of}
use Rattle.hall_rule.specs.Seen.{GrowsFrom, SameList, history_of, lane_of}
use Rattle.hall_rule.specs.Claims.{claim, holds}
use Rattle.hall_rule.specs.Rule.{HallView, names, seeing}

abbrev pub claims_from : (ℕ → ℕ) → ℕ → ℕ → List Claim
claims_from count lane zero = []
claims_from count lane (suc n) =
    claim (OfLane lane) (count lane) false ∷ claims_from count (lane + 1) n

-- From `v` on. The tickets lie before other claims, and no entry of these turns is the pass's own.
pub record IsServingLanes {service : Service} {M N P E : Type 0} (m : Machines service M N P E)
    (start : Start M N E) (count : ℕ → ℕ) (ticket : Ticket service.Task) (lane : ℕ)
    (others : List Claim) (v w : HallView service M N E) : Type 0 where
  pub is : w ≡ seeing v (claims_from count lane (service.lanes - lane) ++ others) w.seen
  pub few : lane ≤ service.lanes
  pub tickets : (l : ℕ) → l < service.lanes
      → slice_get (issued service l w.seen.register) (count l) ≡ Some ticket
  -- the lanes below have passed theirs
  pub passed : (l : ℕ) → l < lane → IsIn (tickets_passed (lane_of w.seen.lanes l)) ticket
  pub longer : GrowsFrom w.seen v.seen
  pub own_same : (x : ℕ) → 0 < times x (names v)
      → own x w.seen.register ≡ own x v.seen.register
  pub legal : IsLegal service (world_of m start) (history_of service w.seen)
  pub kept : (q : Queue) → 0 < total (holds q) others → SameList q v.seen w.seen
