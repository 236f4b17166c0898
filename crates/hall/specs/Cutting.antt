-- What a turn does in which a lane or the register is cut.
--     AreCutTickets ..       one ticket of each lane from a lane on, with the lane's next number
--     HasDrawnTickets ..     a cut was drawn, and its tickets are in hand
--     HasCutOwner ..         a lane was cut, with the records of what changed since its last cut
--     HasCutCatalogue ..     so was the register
use Rattle.std.specs.Prelude.{◌≡◌, ℕ, ◌+◌, ◌<◌, Bool, true, false, List, [], ◌∷◌}
use mathlib.Core.Option.{some}
use Rattle.chunk_owner.specs.Lanes.{Lane}
use Rattle.flush_journal.specs.Records.{Held, Record}
use Rattle.register.specs.Decided.{RegisterState}
use Rattle.register.specs.declared.tickets.Turn.{Turn}
use Rattle.lane_histories.specs.Cuts.{behind_cut, register_cut}
use Rattle.lane_histories.specs.Histories.{objects_after, register_after, register_at}
use Rattle.hall_rule.specs.Claims.{count_of}
use Rattle.hall_rule.specs.Seen.{lane_of, was_of}
use Rattle.hall_rule.specs.WholeTurns.{HasCutLane, HasCutRegister, HasDrawnCut}
use Rattle.service_histories.specs.ArrayServices.{array_service, kept_part}
use Rattle.service_histories.specs.Cuttings.{CutsOwner, CutsRegister, IsOwnerMarked, IsRegisterSince}
use Rattle.service_histories.specs.Tellings.{objects_in}
use Rattle.hall.specs.Answers.{ArrayStart, ArrayView}
use Rattle.hall.specs.ArrayMachines.{lanes_in, machines}

-- ---- a drawn cut

abbrev pub AreCutTickets : (ℕ → ℕ) → ℕ → ℕ → List Turn → Type 0
AreCutTickets count lanes lane [] = lane ≡ lanes
AreCutTickets count lanes lane (t ∷ ts) = (t.lane ≡ lane) × (t.ticket ≡ count lane) × (lane < lanes)
    × AreCutTickets count lanes (lane + 1) ts

pub record HasDrawnTickets {K : Type 0} (start : ArrayStart K) (place : ℕ) (tickets : List Turn)
    (v w : ArrayView K) : Type 0 where
  pub cut : HasDrawnCut (machines (lanes_in start)) start place v w
  pub tickets_are : AreCutTickets (count_of (array_service (lanes_in start)) cut.before.register)
      (lanes_in start) 0 tickets

-- ---- a lane's cut

-- where memory was found the records of what changed were added, whatever is held; else all is as it was
abbrev pub AddsOwner : Bool → Lane → Lane → List Record → List Record → Type 0
AddsOwner true old new first last = (base : Held) → CutsOwner old new base first last
AddsOwner false old new first last = (new ≡ old) × (last ≡ first)

-- the owner as the turn found it, since its lane's last cut, and as it left it
pub record HasCutOwner {K : Type 0} (start : ArrayStart K) (lane cut place : ℕ) (found : Bool)
    (first last : List Record) (v w : ArrayView K) : Type 0 where
  pub old : Lane
  pub new : Lane
  pub turn : HasCutLane (machines (lanes_in start)) start lane cut place found new v w
  pub now : old.objects ≡ objects_after (array_service (lanes_in start))
      (objects_in start.owners lane) (lane_of turn.turned.before.lanes lane)
  pub was : Lane
  pub was_is : was_of turn.turned.before lane ≡ some was
  pub since : IsOwnerMarked (lanes_in start) lane (behind_cut (lane_of turn.turned.before.lanes lane)) was old
  pub adds : AddsOwner found old new first last

-- ---- the register's

abbrev pub AddsRegister : Bool → RegisterState → RegisterState → List Record → List Record → Type 0
AddsRegister true old new first last = (base : Held) → CutsRegister old new base first last
AddsRegister false old new first last = (new ≡ old) × (last ≡ first)

pub record HasCutCatalogue {K : Type 0} (start : ArrayStart K) (place : ℕ) (found : Bool)
    (first last : List Record) (v w : ArrayView K) : Type 0 where
  pub old : RegisterState
  pub new : RegisterState
  pub turn : HasCutRegister (machines (lanes_in start)) start place found v w
  pub now : old ≡ register_after (array_service (lanes_in start)) start.register
      turn.before.register
  pub since : IsRegisterSince (kept_part (register_at (array_service (lanes_in start))
      (register_cut turn.before.register) start.register turn.before.register)) old
  pub adds : AddsRegister found old new first last
