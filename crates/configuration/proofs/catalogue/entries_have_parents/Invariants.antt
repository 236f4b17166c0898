use Rattle.std.proofs.Common.{◌≡◌, string_bytes}
use Rattle.std.specs.List.{list_all}
use Rattle.containers.specs.TextMaps.Keyed.{keyed}
use Rattle.configuration.specs.Catalogues.{has_parent}
use Rattle.configuration.proofs.catalogue.entries_have_parents.Given as goal

abbrev pub invariant-paths : goal.invariant-paths
invariant-paths l = list_all (λ e. has_parent l.folders e.0) (keyed string_bytes l.path-iterator) ≡ list_all (λ e. has_parent l.folders e.0) (keyed string_bytes l.settings.entries)
