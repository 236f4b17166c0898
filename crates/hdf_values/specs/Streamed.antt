-- What is told of values that were read from a stream of tokens.
use Rattle.std.specs.Prelude.{◌≡◌, ℕ, List, ◌++◌, Option, Some, None, Result, Ok, Err}
use Rattle.serde_json.specs.Data.{Data}
use Rattle.hdf_types.specs.Elems.{Elem}
use Rattle.shapes.specs.RowMajor.{cell_count}
use Rattle.hdf_values.specs.Faults.{lower}
use Rattle.hdf_values.specs.Nested.{counted, each_nested, nested_from}
use Rattle.hdf_values.specs.declared.faults.Misfit.{Misfit}
use Rattle.hdf_values.specs.declared.faults.ValueFault.{ValueFault}

-- no fault, and the bytes stand behind the old ones; or the fault
abbrev pub Told : {F : Type 0} → Option F → List ℕ → List ℕ → Result (List ℕ) F → Type 0
Told None old new r = (bs : List ℕ) × (r ≡ Ok bs) × (new ≡ old ++ bs)
Told (Some f) old new r = r ≡ Err f

-- the same of a member, unless a fault was told before
abbrev pub MemberTold : Option ValueFault → Option ValueFault → List ℕ → List ℕ → Result (List ℕ) ValueFault → Type 0
MemberTold None fault old new r = Told fault old new r
MemberTold (Some f) fault old new r = fault ≡ Some f

-- of misfits that there may be the lower
abbrev pub lowest : Option Misfit → Option Misfit → Option Misfit
lowest None rest = rest
lowest (Some m) None = Some m
lowest (Some m) (Some n) = Some (lower m n)

-- the bytes of the members of a list, which is to have so many, or their first fault
abbrev pub members_from : Elem → ℕ → List ℕ → ℕ → List Data → Result (List ℕ) ValueFault
members_from e want dims p ds = counted want p (each_nested (nested_from e dims) (cell_count dims) p) (Some ds)
