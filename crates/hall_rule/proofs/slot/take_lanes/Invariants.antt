use Rattle.std.proofs.Common.{◌≡◌, ℕ, ◌+◌, ◌<◌, ◌≤◌, false, length, get_or, vec_capacity}
use mathlib.Core.Option.{some}
use lib.ListN.{get_elem?}
use Rattle.std.specs.Mem.Slots.{slots_len, slots_filled, slots_items}
use Rattle.std.specs.Mem.Slots.Ownership.{Filled}
use Rattle.hall_rule.specs.declared.slot.LaneSlot.{LaneSlot}
use Rattle.hall_rule.specs.declared.slot.Slot.TheVariants.{AtLane}
use Rattle.hall_rule.proofs.slot.take_lanes.Given as goal

abbrev pub invariant-loop-lane : goal.invariant-loop-lane
invariant-loop-lane g l = record {
  count : slots_len l.closed.slots ≡ l.lanes + 2;
  items : slots_items l.closed.slots ≡ slots_items l.fn.closed.slots;
  filled : Filled (slots_filled l.closed.slots) (l.lane + 2) (l.lanes + 2);
  empty : (k : ℕ) → k < l.lane + 2 → get_or (slots_filled l.closed.slots) k false ≡ false;
  room : l.lanes ≤ vec_capacity l.room;
  taken : length l.room.items ≡ l.lane;
  owners : (k : ℕ) → k < l.lane → (s : LaneSlot g.row.N.Denot g.row.R.Denot)
      × (get_elem? (slots_items l.fn.closed.slots) (k + 2) ≡ some (AtLane s)) × (get_elem? l.room.items k ≡ some s.owner);
}
