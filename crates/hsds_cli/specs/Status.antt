-- The numbers and the words of the program's ends.
use Rattle.std.specs.Prelude.{ℕ, List, codes}
use Rattle.configuration.specs.declared.fault.ConfigFault.{ConfigFault}
use Rattle.configuration.specs.declared.fault.ConfigFault.TheVariants as config
use Rattle.json_export.specs.declared.faults.ExportFault.{ExportFault}
use Rattle.json_export.specs.declared.faults.ExportFault.TheVariants as export
use Rattle.edge_traits.specs.declared.source_texts.reading.TextFault.{TextFault}
use Rattle.edge_traits.specs.declared.source_texts.reading.TextFault.TheVariants as text
use Rattle.hsds_cli.specs.declared.status.Status.{Status}
use Rattle.hsds_cli.specs.declared.status.Status.TheVariants.{Done, Words, Configuration, ReadFault, WriteFault, DiskFault, NotAJournal, Refused, JournalExists, DoorFault, InputCut, UsedUp, Budget, NoMemory}

abbrev pub number_of : Status → ℕ
number_of Done = 0
number_of Words = 1
number_of Configuration = 2
number_of ReadFault = 3
number_of WriteFault = 4
number_of DiskFault = 5
number_of NotAJournal = 6
number_of Refused = 7
number_of JournalExists = 8
number_of DoorFault = 9
number_of InputCut = 10
number_of UsedUp = 11
number_of Budget = 12
number_of NoMemory = 13

-- what the program prints to standard error
abbrev pub word_of : Status → List ℕ
word_of Done = codes "done"
word_of Words = codes "words"
word_of Configuration = codes "configuration"
word_of ReadFault = codes "read-fault"
word_of WriteFault = codes "write-fault"
word_of DiskFault = codes "disk-fault"
word_of NotAJournal = codes "not-a-journal"
word_of Refused = codes "refused"
word_of JournalExists = codes "journal-exists"
word_of DoorFault = codes "door-fault"
word_of InputCut = codes "input-cut"
word_of UsedUp = codes "used-up"
word_of Budget = codes "budget"
word_of NoMemory = codes "no-memory"

-- the status where a configuration couldn't be read from its source
abbrev pub text_status : TextFault → Status
text_status text.TooLong = Configuration
text_status text.ReadFault = ReadFault
text_status text.NoMemory = NoMemory

-- or where its text spells none
abbrev pub config_status : ConfigFault → Status
config_status config.BadToml = Configuration
config_status config.BadKey = Configuration
config_status config.NoMemory = NoMemory

-- the status where no document is given
abbrev pub export_status : ExportFault → Status
export_status export.NoDomain = Refused
export_status export.TooLarge = Refused
export_status export.NoMemory = NoMemory
