-- Refusals of names as refusals of parts of a document.
use Rattle.object_ids.specs.declared.names.NameFault.{NameFault}
use Rattle.object_ids.specs.declared.names.NameFault.TheVariants.{BadName, NoMemory as NoNameMemory}
use Rattle.configuration.specs.declared.fault.Refusal.{Refusal}
use Rattle.configuration.specs.declared.fault.Refusal.TheVariants.{BadKey, NoMemory}

abbrev pub from_name_fault : NameFault → Refusal
from_name_fault BadName = BadKey
from_name_fault NoNameMemory = NoMemory
