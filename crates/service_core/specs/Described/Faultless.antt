-- Records that describe a register or a world have no key at fault, and of any others one key is named.
use Rattle.std.specs.Prelude.{◌≡◌, ℕ, List}
use Rattle.flush_journal.specs.Records.{Held, IsRecordMap}
use Rattle.domains.specs.Contents.{Contents}
use Rattle.register.specs.Installed.Registers.{DescribesRegister, IsRegisterFault}
use Rattle.service_core.specs.Records.{DescribesWorld, IsWorldFault}
use Rattle.service_core.specs.Steps.{World}

-- no record of the register is at fault, and none is missing
abbrev pub RegistersStand : Type 0
RegistersStand = (held : Held) (run : ℕ) (c : Contents) → DescribesRegister held run c → (key : List ℕ) → IsRegisterFault held key → ⊥

-- no key is at fault, over whatever lanes; an empty body would be no chunk and tell no cell, so no body is empty
abbrev pub WorldsStand : Type 0
WorldsStand = (held : Held) (run : ℕ) (w : World) → IsRecordMap held → DescribesWorld held run w → (lanes : ℕ) (key : List ℕ) → IsWorldFault lanes held key → ⊥

-- of the keys at fault one is named
abbrev pub FaultsAreOne : Type 0
FaultsAreOne = (held : Held) (lanes : ℕ) (key other : List ℕ) → IsWorldFault lanes held key → IsWorldFault lanes held other → other ≡ key
