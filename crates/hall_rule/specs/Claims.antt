-- The numbers and tickets in hand, as claims. What a claim is counts as 1 or 0, so that a sum over
-- all views says who has it.
--     numbers q, waits q n, holds_at q n, holds q, busy    what a claim is
--     claims_of count lanes     tickets of these lanes, by the next number of each
--     issued_by s h item        the tickets that an item issues
use Rattle.std.specs.Prelude.{ℕ, ◌+◌, Bool, true, false, cond, ◌==◌, List, [], ◌∷◌, length}
use Rattle.lane_histories.specs.Services.{Service}
use Rattle.lane_histories.specs.Histories.{issued}
use Rattle.lane_histories.specs.declared.items.RegisterItem.{RegisterItem}
use Rattle.hall_rule.specs.declared.queue.Queue.{Queue}
use Rattle.hall_rule.specs.declared.queue.Queue.TheVariants.{OfRegister, OfDesk, OfLane}
use Rattle.hall_rule.specs.declared.queue.Claim.{Claim}
use Rattle.hall_rule.specs.Queues.{same_queue}
use Rattle.hall_rule.specs.Seen.{Item, at_register, at_desk, at_lane, SeenLists, lanes_issued}

-- 1 where the two are the same
abbrev pub same_number : ℕ → ℕ → ℕ
same_number a b = cond (a == b) 1 0

abbrev pub is_desk : Queue → Bool
is_desk OfRegister = false
is_desk OfDesk = true
is_desk (OfLane lane) = false

abbrev pub claim : Queue → ℕ → Bool → Claim
claim q n held = record { queue = q; number = n; held = held }

-- 1 where the claim is on this queue
abbrev pub numbers : Queue → Claim → ℕ
numbers q c = cond (same_queue c.queue q) 1 0

-- 1 where it is on this queue, with this number
abbrev pub is_at : Queue → ℕ → Claim → ℕ
is_at q n c = cond (same_queue c.queue q) (same_number c.number n) 0

-- 1 where it is this one, and waits
abbrev pub waits : Queue → ℕ → Claim → ℕ
waits q n c = cond c.held 0 (is_at q n c)

-- 1 where it is this one, and has the turn
abbrev pub holds_at : Queue → ℕ → Claim → ℕ
holds_at q n c = cond c.held (is_at q n c) 0

-- 1 where it has the turn of this queue
abbrev pub holds : Queue → Claim → ℕ
holds q c = cond c.held (numbers q c) 0

-- 1 where it has a turn of the register or of a lane
abbrev pub busy : Claim → ℕ
busy c = cond c.held (cond (is_desk c.queue) 0 1) 0

-- one ticket more of this lane
abbrev pub bumped : (ℕ → ℕ) → ℕ → ℕ → ℕ
bumped count lane l = cond (lane == l) (count l + 1) (count l)

-- tickets of these lanes, by the next number of each
abbrev pub claims_of : (ℕ → ℕ) → List ℕ → List Claim
claims_of count [] = []
claims_of count (lane ∷ lanes) = claim (OfLane lane) (count lane) false ∷ claims_of
    (bumped count lane) lanes

-- how many tickets of a lane were issued, by the register's list
abbrev pub count_of : (service : Service) → List (RegisterItem service.Asked service.Verdict) → ℕ
    → ℕ
count_of service register l = length (issued service l register)

-- the tickets that an item issues behind these lists
abbrev pub issued_by : (service : Service) {N : Type 0} → SeenLists service N
    → Item service.Asked service.Verdict service.Task service.Reply N → List Claim
issued_by service h (at_register e) =
    claims_of (count_of service h.register) (lanes_issued service e)
issued_by service h (at_desk k) = []
issued_by service h (at_lane lane i owner) = []
