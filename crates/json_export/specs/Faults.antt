-- The faults of printing, as those of an export.
use Rattle.documents.specs.declared.domains.printed.PrintFault.{PrintFault}
use Rattle.documents.specs.declared.domains.printed.PrintFault.TheVariants as print
use Rattle.json_export.specs.declared.faults.ExportFault.{ExportFault}
use Rattle.json_export.specs.declared.faults.ExportFault.TheVariants.{TooLarge, NoMemory}

abbrev pub of_print : PrintFault → ExportFault
of_print print.TooLarge = TooLarge
of_print print.NoMemory = NoMemory
