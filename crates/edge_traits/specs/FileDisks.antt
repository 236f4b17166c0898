-- A disk over a file of the system.
use Rattle.std.specs.Prelude.{Bool}
use Rattle.edge_traits.specs.FailStops.{has_stopped}
use Rattle.edge_traits.specs.declared.file_disk.FileDisk.{FileDisk}

-- a sync of it has failed
abbrev pub file_has_stopped : FileDisk → Bool
file_has_stopped d = has_stopped d.disk
