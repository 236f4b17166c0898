-- The numbers that a register gave out, by its list.
--     RegistersCount lanes     its places and tickets are those of the list
--     IsFreshRegister d        it gave none yet, as at the begin of a run
--     FreshRegistersHaveRoom   while a list that a fresh register began with is short, a place and a ticket of each lane are left
use Rattle.std.specs.Prelude.{◌≡◌, ℕ, ◌+◌, ◌<◌, ◌^◌, List, length, slice_index}
use Rattle.domains.specs.Contents.{Contents}
use Rattle.register.specs.Decided.{HasRoom, RegisterState}
use Rattle.register.specs.Kept.{installed}
use Rattle.register.specs.declared.verdicts.Verdict.{Verdict}
use Rattle.lane_histories.specs.Histories.{issued, places, register_after}
use Rattle.lane_histories.specs.Legal.{IsLegalRegister}
use Rattle.lane_histories.specs.declared.items.RegisterItem.{RegisterItem}
use Rattle.service_histories.specs.ArrayServices.{Asked, array_service}

-- ---- what the list adds

-- each lane has a number, and the places and each lane's tickets have grown by those of the list
pub record IsCounted (lanes : ℕ) (items : List (RegisterItem Asked Verdict)) (old new : RegisterState) : Type 0 where
  pub places : new.places ≡ old.places + places items
  pub lanes_are : length new.issued ≡ lanes
  pub tickets : (l : ℕ) → l < lanes
      → slice_index new.issued l ≡ slice_index old.issued l + length (issued (array_service lanes) l items)

abbrev pub RegistersCount : ℕ → Type 0
RegistersCount lanes =
    (d : RegisterState) (p c : ℕ) (items : List (RegisterItem Asked Verdict))
    → 0 < lanes → length d.issued ≡ lanes → IsLegalRegister (array_service lanes) d p c items
    → IsCounted lanes items d (register_after (array_service lanes) d items)

-- ---- what is left

-- no place and no ticket was given
pub record IsFreshRegister (d : RegisterState) : Type 0 where
  pub places : d.places ≡ 0
  pub tickets : (l : ℕ) → slice_index d.issued l ≡ 0

abbrev pub InstallsAreFresh : Type 0
InstallsAreFresh = (c : Contents) (lanes run : ℕ) → IsFreshRegister (installed c lanes run)

abbrev pub FreshRegistersHaveRoom : ℕ → Type 0
FreshRegistersHaveRoom lanes =
    (d : RegisterState) (p c : ℕ) (items : List (RegisterItem Asked Verdict))
    → 0 < lanes → length d.issued ≡ lanes → IsLegalRegister (array_service lanes) d p c items → IsFreshRegister d
    → places items < 2 ^ 61 → ((l : ℕ) → l < lanes → length (issued (array_service lanes) l items) < 2 ^ 62)
    → HasRoom (register_after (array_service lanes) d items)
