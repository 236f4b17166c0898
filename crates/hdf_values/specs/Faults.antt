-- Why a tree is no value of a type, and at which element.
use Rattle.std.specs.Prelude.{ℕ, nat_le, if◌then◌else◌}
use Rattle.hdf_values.specs.declared.faults.Misfit.{Misfit}
use Rattle.hdf_values.specs.declared.faults.Misfit.TheVariants as misfits
use Rattle.hdf_values.specs.declared.faults.ValueFault.{ValueFault}
use Rattle.hdf_values.specs.declared.faults.ValueFault.TheVariants.{NotOfType, OutOfRange, TooLong, NotAscii, Nul}

abbrev pub rank : Misfit → ℕ
rank misfits.NotOfType = 1
rank misfits.OutOfRange = 2
rank misfits.TooLong = 3
rank misfits.NotAscii = 4
rank misfits.Nul = 5

-- of two, the one of lower rank
abbrev pub lower : Misfit → Misfit → Misfit
lower m n = if nat_le (rank m) (rank n) then m else n

-- the fault of the element at this place
abbrev pub at_place : ℕ → Misfit → ValueFault
at_place p misfits.NotOfType = NotOfType p
at_place p misfits.OutOfRange = OutOfRange p
at_place p misfits.TooLong = TooLong p
at_place p misfits.NotAscii = NotAscii p
at_place p misfits.Nul = Nul p
