-- What a cut of a world leaves that found no memory, and in which order it writes where it found some.
use Rattle.std.specs.Prelude.{◌≡◌, List}
use Rattle.flush_journal.specs.Cuts.Cuts.{AppendsEach, IsCut}
use Rattle.flush_journal.specs.Records.{Held, Record}
use Rattle.chunk_owner.specs.Owners.Cutting.{CutsFront}
use Rattle.chunk_owner.specs.Slots.Bodies.{IsObjectRecord}
use Rattle.register.specs.Decided.{RegisterState}
use Rattle.register.specs.Kept.{AddsInTurn, IsRegisterMarked, IsRegisterRecord, RegisterSays, all_kept}
use Rattle.service_core.specs.Worlds.{State, seen}

-- the register is cut whole, by these records
pub record IsCutRegister (old new : RegisterState) (first last : List Record) : Type 0 where
  pub cut : (base : Held) → IsCut (IsRegisterMarked old) base first last (λ held. RegisterSays old base → RegisterSays new held)
  pub bodies : AppendsEach (λ r. IsRegisterMarked old r.0 × IsRegisterRecord old r) first last
  pub kept : new ≡ all_kept old

-- Memory ran out in the register, and all is as it was; or in a lane: the register and the lanes before it are cut whole, that lane and all
-- later ones are as they were, and behind the records of the others nothing was appended.
pub data StopsCut (old new : State) (first last : List Record) : Type 0 where
  in_register : new ≡ old → last ≡ first → StopsCut old new first last
  in_lane : (mid : List Record) → IsCutRegister old.register new.register first mid → CutsFront old.lanes new.lanes mid last
      → StopsCut old new first last

-- the records of the register come first, those of its numbers before those of nodes, and then those of objects
pub record CutsInTurn (s : State) (first last : List Record) : Type 0 where
  pub mid : List Record
  pub register : AddsInTurn s.register.run s.register.catalogue s.register.marks first mid
  pub objects : AppendsEach (IsObjectRecord (seen s).objects) mid last
