-- A disk whose file may be new in its folder.
use Rattle.std.specs.Prelude.{◌⊎◌, ℕ, ◌+◌, Option, Some, None, ⊤}
use Rattle.edge_traits.specs.Disks.{Only}
use Rattle.edge_traits.specs.declared.disk.Disk.{Ghosts}
use Rattle.hsds_cli.specs.declared.named_disk.NamedDisk.{NamedDisk}

-- the disk over the file
abbrev pub file_of : {D F : Type 0} → NamedDisk D F → D
file_of d = d.file

-- the folder that has the file's name, where the name is new
abbrev pub folder_of : {D F : Type 0} → NamedDisk D F → Option F
folder_of d = d.folder

abbrev pub folder_faults : {F : Type 0} (met : Ghosts F) → Option F → ℕ
folder_faults met None = 0
folder_faults met (Some folder) = met.faults folder

abbrev pub IsFolderStopped : {F : Type 0} (met : Ghosts F) → Option F → Type 0
IsFolderStopped met None = ⊥
IsFolderStopped met (Some folder) = met.stopped folder

-- the folder, where there is one, was synced: a crash leaves just what it read before
abbrev pub IsFolderKept : {F : Type 0} (met : Ghosts F) → Option F → Option F → Type 0
IsFolderKept met None now = ⊤
IsFolderKept met (Some old) None = ⊥
IsFolderKept met (Some old) (Some now) = Only (met.reads old) (met.images now)
