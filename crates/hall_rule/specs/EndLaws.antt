-- How a hall begins and ends.
--     HallsBeginAndEnd m    with fresh machines, and with one pass that has every name
use Rattle.std.specs.Prelude.{◌≡◌, ℕ, ◌+◌, ◌<◌, ◌≤◌, ◌^◌, List, [], ◌∷◌, length, map, replicate}
use Rattle.std.specs.Prelude.{true}
use mathlib.Core.Option.{some}
use lib.ListN.{get_elem?}
use Rattle.atomic_table.specs.Table.{opening}
use Rattle.lane_histories.specs.Services.{Service}
use Rattle.hall_rule.specs.declared.slot.LaneSlot.{LaneSlot}
use Rattle.hall_rule.specs.declared.slot.RegisterSlot.{RegisterSlot}
use Rattle.hall_rule.specs.declared.slot.Slot.TheVariants.{AtDesk, AtLane, AtRegister}
use Rattle.hall_rule.specs.declared.view.Start.{Start}
use Rattle.hall_rule.specs.Machines.{Machines}
use Rattle.hall_rule.specs.Standing.{HallSlot, IsFresh, IsFreshDesk}
use Rattle.hall_rule.specs.Homes.{desk_home, lane_home, register_home}
use Rattle.hall_rule.specs.Rule.{FollowsRule, HallState, HallView, first_view, names}
use Rattle.hall_rule.specs.Closes.{HasClosed}

-- the slots at the end: each machine lies in its own
pub record EndLaws {service : Service} {M N P E : Type 0} (m : Machines service M N P E)
    (start : Start M N E) (v : HallView service M N E) (slots : List (HallSlot service M N P))
    : Type 0 where
  pub register : (d : RegisterSlot M service.Asked service.Verdict)
      × (get_elem? slots 0 ≡ some (AtRegister d))
  pub desk : (d : P) × (get_elem? slots 1 ≡ some (AtDesk d))
  pub owners : (lane : ℕ) → lane < length start.owners
      → (d : LaneSlot N service.Reply) × (get_elem? slots (lane + 2) ≡ some (AtLane d))
  -- and these machines are what is left of the hall
  pub closed : (register : M) (desk : P) (owners : List N)
      → ((d : RegisterSlot M service.Asked service.Verdict)
      × (get_elem? slots 0 ≡ some (AtRegister d)) × (register ≡ d.register))
      → get_elem? slots 1 ≡ some (AtDesk desk)
      → length owners ≡ length start.owners
      → ((lane : ℕ) → lane < length start.owners → (d : LaneSlot N service.Reply)
      × (get_elem? slots (lane + 2) ≡ some (AtLane d)) × (get_elem? owners lane ≡ some d.owner))
      → HasClosed m start v register owners desk

pub record HallsBeginAndEnd {service : Service} {M N P E : Type 0} (m : Machines service M N P E)
    : Type 0 where
  pub begin : (passes : ℕ) (start : Start M N E) (desk : P) (words : List ℕ)
      (slots : List (HallSlot service M N P)) → IsFresh m start → IsFreshDesk m start desk → 1 ≤ passes → passes < 2 ^ 32
      → words ≡ replicate (length start.owners + 4) 0
      → slots ≡ register_home start.register ∷ (desk_home desk ∷ map lane_home start.owners)
      → FollowsRule m passes start
      (opening words slots (first_view passes start.owners start))
  pub end : (passes : ℕ) (start : Start M N E) (s : HallState service M N P E)
      (slots : List (HallSlot service M N P)) (id : ℕ) (v : HallView service M N E)
      → FollowsRule m passes start s → get_elem? s.views id ≡ some v
      → ((k : ℕ) (slot : HallSlot service M N P) → get_elem? s.homes k ≡ some (some slot)
      → get_elem? slots k ≡ some slot)
      → v.live ≡ true → v.claims ≡ [] → v.guests ≡ [] → length (names v) ≡ passes
      → EndLaws m start v slots
