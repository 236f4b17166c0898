-- What a call answers that reads something which may not be there.
use Rattle.std.specs.Prelude.{◌≡◌, Option, Some, None, Result, Ok, Err}
use Rattle.object_records.specs.declared.faults.BodyFault.{BodyFault}
use Rattle.object_records.specs.declared.faults.BodyFault.TheVariants.{NoObject, NoMemory}

-- what is there is given, seen through `see`; where nothing is there that is told; and memory may run out
abbrev pub Reads : {A T : Type 0} → (T → A) → Result T BodyFault → Option A → Type 0
Reads see (Ok x) found = found ≡ Some (see x)
Reads see (Err NoObject) found = found ≡ None
Reads see (Err NoMemory) found = Unit {0}
