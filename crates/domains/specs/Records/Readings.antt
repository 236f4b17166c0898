-- What a call answers that reads something which may not be there.
use Rattle.std.specs.Prelude.{◌≡◌, Option, Some, None, Result, Ok, Err}
use Rattle.domains.specs.declared.records.faults.NodeFault.{NodeFault}
use Rattle.domains.specs.declared.records.faults.NodeFault.TheVariants.{BadNode, NoMemory}

-- what is there is given; where nothing is there that is told; and memory may run out
abbrev pub Reads : {A : Type 0} → Result A NodeFault → Option A → Type 0
Reads (Ok x) found = found ≡ Some x
Reads (Err BadNode) found = found ≡ None
Reads (Err NoMemory) found = Unit {0}
