-- Records that describe two registers or two worlds describe one.
use Rattle.std.specs.Prelude.{◌≡◌, ℕ, Some}
use Rattle.std.specs.FinMap.{get}
use Rattle.flush_journal.specs.Records.{Held}
use Rattle.object_ids.specs.IdValues.{Id}
use Rattle.object_ids.specs.Ids.{InRange}
use Rattle.object_acts.specs.declared.objects.Object.{Object}
use Rattle.domains.specs.Contents.{Contents}
use Rattle.chunk_owner.specs.Installs.Records.{IsWholeObject}
use Rattle.chunk_owner.specs.Owners.Joined.{whole}
use Rattle.register.specs.Installed.Registers.{DescribesRegister}
use Rattle.service_core.specs.Records.{DescribesWorld, IsWorldOf}
use Rattle.service_core.specs.Steps.{World}
use Rattle.service_core.specs.Worlds.{State, seen}
use Rattle.object_acts.specs.Objects.{Objects}

-- ---- the register

-- the run, the nodes and the number of the next domain
abbrev pub RegistersAreOne : Type 0
RegistersAreOne = (held : Held) (run other : ℕ) (c d : Contents) → DescribesRegister held run c → DescribesRegister held other d → (other ≡ run) × (d ≡ c)

-- ---- the world

-- each stands at an id that has a record, its parts can be spelled, and no chunk is marked
pub record AreWhole (objects : Objects) : Type 0 where
  pub ids : (id : Id) (o : Object) → get objects id ≡ Some o → InRange id
  pub parts : (id : Id) → IsWholeObject (get objects id)

-- but for the places, serials and tickets that were given, of which nothing is held
pub record AreOne (first second : ℕ) (w v : World) : Type 0 where
  pub run : second ≡ first
  pub catalogue : v.register.catalogue ≡ w.register.catalogue
  pub objects : v.objects ≡ w.objects

abbrev pub WorldsAreOne : Type 0
WorldsAreOne = (held : Held) (run other : ℕ) (w v : World) → AreWhole w.objects → AreWhole v.objects → DescribesWorld held run w → DescribesWorld held other v → AreOne run other w v

-- at the begin of a run nothing was given, so the worlds are one in all
abbrev pub InstallsAreOne : Type 0
InstallsAreOne = (held : Held) (lanes : ℕ) (s t : State) → AreWhole (whole s.lanes) → AreWhole (whole t.lanes) → IsWorldOf held lanes s → IsWorldOf held lanes t → seen t ≡ seen s
