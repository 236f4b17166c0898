-- The faults of parts, as those of a node.
use Rattle.object_ids.specs.declared.names.NameFault.{NameFault}
use Rattle.object_ids.specs.declared.names.NameFault.TheVariants as names
use Rattle.access_lists.specs.declared.list.ListFault.{ListFault}
use Rattle.access_lists.specs.declared.list.ListFault.TheVariants as lists
use Rattle.domains.specs.declared.records.faults.NodeFault.{NodeFault}
use Rattle.domains.specs.declared.records.faults.NodeFault.TheVariants.{BadNode, NoMemory}

abbrev pub of_name : NameFault → NodeFault
of_name names.BadName = BadNode
of_name names.NoMemory = NoMemory

abbrev pub of_list : ListFault → NodeFault
of_list lists.Limit = BadNode
of_list lists.NoMemory = NoMemory
