-- Why a document isn't adopted.
use Rattle.std.specs.Prelude.{◌≡◌, ℕ, ◌+◌, ◌-◌, nat_lt, List, Option, Some, None, Result, Ok, Err, if◌then◌else◌}
use Rattle.object_ids.specs.declared.limits.LimitKind.TheVariants as limit
use Rattle.domains.specs.Changes.{domain_fault}
use Rattle.domains.specs.declared.faults.CatFault.{CatFault}
use Rattle.domains.specs.declared.faults.CatFault.TheVariants as cat
use Rattle.register.specs.Decided.{RegisterState, serial_limit}
use Rattle.documents.specs.declared.reader.loaded.Loaded.{Loaded}
use Rattle.json_import.specs.Fresh.Renamed.{other_count}
use Rattle.json_import.specs.declared.adoption.faults.AdoptFault.{AdoptFault}
use Rattle.json_import.specs.declared.adoption.faults.AdoptFault.TheVariants.{NoFolder, Taken, Limit, NoMemory}

-- a fault of a new domain as one of adoption; the last three are faults of other changes
abbrev pub told : CatFault → AdoptFault
told cat.NoFolder = NoFolder
told cat.Taken = Taken
told (cat.Limit what) = Limit what
told cat.NoMemory = NoMemory
told cat.NoDomain = NoFolder
told cat.NotEmpty = Taken
told cat.Root = Taken

-- fewer serials are left than these
abbrev pub serial_fault : RegisterState → ℕ → Option AdoptFault
serial_fault d many = if nat_lt (serial_limit - d.serial) many then Some (Limit limit.Serial) else None

abbrev pub fault_or : Option CatFault → Option AdoptFault → Option AdoptFault
fault_or None later = later
fault_or (Some fault) later = Some (told fault)

-- the faults of a new domain in their order, and then that fewer serials are left than objects are to be made
abbrev pub adopt_fault : RegisterState → List ℕ → Loaded → Option AdoptFault
adopt_fault d path l = fault_or (domain_fault d.catalogue path) (serial_fault d (1 + other_count l))

-- a call answers this fault, or it succeeds or finds no memory where there is none
abbrev pub IsBlamed : {A : Type 0} → Result A AdoptFault → Option AdoptFault → Type 0
IsBlamed (Ok x) fault = fault ≡ None
IsBlamed (Err NoMemory) fault = fault ≡ None
IsBlamed (Err e) fault = fault ≡ Some e

-- a fact of a refusal that isn't for want of memory
abbrev pub OnRefusal : {A : Type 0} → Result A AdoptFault → Type 0 → Type 0
OnRefusal (Ok x) fact = Unit {0}
OnRefusal (Err NoMemory) fact = Unit {0}
OnRefusal (Err e) fact = fact
