-- The array service, as a journal's desk keeps it.
--     array_kept lanes      the service, what records tell of it, how its owners mark what changed, and that cuts write just that
--     OwnerCutsWrite        a cut of an owner that found memory is one that a desk asks for
--     RegisterCutsWrite     so is one of the register
use Rattle.std.specs.Prelude.{ℕ, true, List}
use Rattle.std.specs.List.{AllByRecursion}
use Rattle.flush_journal.specs.Records.{Held, Record}
use Rattle.chunk_owner.specs.Lanes.{Lane}
use Rattle.register.specs.Decided.{RegisterState}
use Rattle.register.specs.Kept.{IsRegisterMarked}
use Rattle.lane_histories.specs.Histories.{LaneList, changed_at}
use Rattle.journal_desk.specs.Cuts.{AddsRecords, CutsInLane, WritesCatalogue}
use Rattle.journal_desk.specs.KeptServices.{KeptService}
use Rattle.service_histories.specs.ArrayServices.{KeptPart, array_service}
use Rattle.service_histories.specs.Cuttings.{CutsOwner, CutsRegister, IsOwnerMarked, IsRegisterSince, WritesMarked}
use Rattle.service_histories.specs.JournalParts.{TellsLane, TellsRegister}
use Rattle.service_histories.specs.Markings.{array_marking}

abbrev pub array_kept : ℕ → KeptService
array_kept lanes = record {
  service = array_service lanes;
  TellsCatalogue = TellsRegister;
  TellsLane = λ held l m. TellsLane lanes l held m;
  marking = array_marking lanes;
  ChangedInLane = WritesMarked lanes;
  ChangedInRegister = λ d added. AllByRecursion (λ r. IsRegisterMarked d r.0) added;
}

-- the owner of the lane is since its last cut; it was cut, whatever is held
abbrev pub OwnerCutsWrite : ℕ → Type 0
OwnerCutsWrite lanes =
    (l : ℕ) (items : LaneList (array_service lanes)) (was : ℕ → Lane) (old new : Lane) (first last : List Record)
    → IsOwnerMarked lanes l items (was l) old
    → ((base : Held) → CutsOwner old new base first last)
    → CutsInLane (array_kept lanes) true l items old.objects was (changed_at l new was) first last

-- the register is since its last cut
abbrev pub RegisterCutsWrite : ℕ → Type 0
RegisterCutsWrite lanes =
    (c : KeptPart) (old new : RegisterState) (first last : List Record) → IsRegisterSince c old
    → ((base : Held) → CutsRegister old new base first last)
    → AddsRecords true (WritesCatalogue (array_kept lanes) c old) first last
