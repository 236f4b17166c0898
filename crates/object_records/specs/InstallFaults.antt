-- The fault of records that describe no objects.
use Rattle.std.specs.Prelude.{ℕ, List}
use Rattle.object_records.specs.declared.install_fault.InstallFault.{InstallFault}
use Rattle.object_records.specs.declared.install_fault.InstallFault.TheVariants.{BadRecord, NoMemory}

-- the key that is named has the property
abbrev pub MatchFault : InstallFault → (List ℕ → Type 0) → Type 0
MatchFault (BadRecord key) P = P key.items
MatchFault NoMemory P = Unit {0}
