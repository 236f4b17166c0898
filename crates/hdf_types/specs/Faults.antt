-- Why a tree is no type, and where.
use Rattle.std.specs.Prelude.{◌≡◌, ℕ, List, Result, Err}
use Rattle.json_trees.specs.Faults.{Gives as GivesTold}
use Rattle.hdf_types.specs.declared.faults.Cause.{Cause}
use Rattle.hdf_types.specs.declared.faults.TypeFault.{TypeFault}
use Rattle.hdf_types.specs.declared.faults.TypeFault.TheVariants.{NoMemory, Refused}

pub record Fault : Type 0 where
  pub path : List ℕ
  pub cause : Cause

unfoldable pub fault : List ℕ → Cause → Fault
fault p c = record { path = p; cause = c }

-- an error tells the fault of the tests, or that memory ran out
abbrev pub Fails : {A : Type 0} → TypeFault → Result A Fault → Type 0
Fails NoMemory r = Unit {0}
Fails (Refused p c) r = r ≡ Err (fault p c)

-- a call gives what the tests find, seen through `see`, or memory ran out
abbrev pub Gives : {A T : Type 0} → (T → A) → Result T TypeFault → Result A Fault → Type 0
Gives see given found = GivesTold Fails see given found
