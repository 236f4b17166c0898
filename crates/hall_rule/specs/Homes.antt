-- Slots that are at home, and slots that are empty.
--     register_home r, desk_home d, lane_home o    a machine in its slot, before anything was done
--     IsEmptied filled n                           the first n slots are empty
use Rattle.std.specs.Prelude.{◌≡◌, ℕ, ◌<◌, Bool, false, List, None, slice_index_or}
use Rattle.hall_rule.specs.declared.slot.Slot.{Slot}
use Rattle.hall_rule.specs.declared.slot.Slot.TheVariants.{AtRegister, AtDesk, AtLane}

abbrev pub register_home : {M N P Q V R : Type 0} → M → Slot M N P Q V R
register_home register = AtRegister (record { register = register; news = None })

abbrev pub desk_home : {M N P Q V R : Type 0} → P → Slot M N P Q V R
desk_home desk = AtDesk desk

abbrev pub lane_home : {M N P Q V R : Type 0} → N → Slot M N P Q V R
lane_home owner = AtLane (record { owner = owner; news = None })

abbrev pub IsEmptied : List Bool → ℕ → Type 0
IsEmptied filled n = (k : ℕ) → k < n → slice_index_or filled k false ≡ false
