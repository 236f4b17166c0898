use Rattle.std.proofs.Common.{◌≡◌, string_bytes}
use Rattle.containers.specs.TextMaps.Keyed.{keyed}
use Rattle.configuration.specs.Catalogues.{ArePaths, CanBePut, folder_nodes, with_nodes}
use Rattle.configuration.proofs.catalogue.put_folders.Given as goal

abbrev pub invariant-folders : goal.invariant-folders
invariant-folders l =
    ArePaths (keyed string_bytes l.path-iterator)
    × CanBePut l.catalogue (folder_nodes (keyed string_bytes l.path-iterator))
    × (with_nodes l.catalogue (folder_nodes (keyed string_bytes l.path-iterator)) ≡ with_nodes l.initial.catalogue (folder_nodes (keyed string_bytes l.fn.folders.entries)))
