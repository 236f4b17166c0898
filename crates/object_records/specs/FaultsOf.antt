-- The faults of parts, as those of a body.
use Rattle.hdf_types.specs.declared.faults.TypeFault.{TypeFault}
use Rattle.hdf_types.specs.declared.faults.TypeFault.TheVariants as types
use Rattle.hdf_values.specs.declared.attributes.AttributeFault.{AttributeFault}
use Rattle.hdf_values.specs.declared.attributes.AttributeFault.TheVariants as attributes
use Rattle.hdf_values.specs.declared.faults.ValueFault.{ValueFault}
use Rattle.hdf_values.specs.declared.faults.ValueFault.TheVariants as values
use Rattle.groups_links.specs.declared.reading.LinkFault.{LinkFault}
use Rattle.groups_links.specs.declared.reading.LinkFault.TheVariants as links
use Rattle.object_ids.specs.declared.names.NameFault.{NameFault}
use Rattle.object_ids.specs.declared.names.NameFault.TheVariants as names
use Rattle.object_ids.specs.declared.puts.PutFault.{PutFault}
use Rattle.object_ids.specs.declared.puts.PutFault.TheVariants as puts
use Rattle.object_records.specs.declared.faults.BodyFault.{BodyFault}
use Rattle.object_records.specs.declared.faults.BodyFault.TheVariants.{NoObject, NoMemory}

abbrev pub of_type : TypeFault → BodyFault
of_type types.NoMemory = NoMemory
of_type f = NoObject

abbrev pub of_attribute : AttributeFault → BodyFault
of_attribute attributes.NoMemory = NoMemory
of_attribute f = NoObject

abbrev pub of_value : ValueFault → BodyFault
of_value values.NoMemory = NoMemory
of_value f = NoObject

abbrev pub of_link : LinkFault → BodyFault
of_link links.NotALink = NoObject
of_link links.NoMemory = NoMemory

abbrev pub of_name : NameFault → BodyFault
of_name names.BadName = NoObject
of_name names.NoMemory = NoMemory

abbrev pub of_put : PutFault → BodyFault
of_put puts.NoMemory = NoMemory
of_put f = NoObject
