use Rattle.std.proofs.Common.{◌≡◌, not, string_bytes}
use Rattle.std.specs.List.{list_all}
use Rattle.std.specs.FinMap.{contains_key}
use Rattle.containers.specs.TextMaps.Keyed.{keyed}
use Rattle.configuration.proofs.catalogue.are_new.Given as goal

abbrev pub invariant-paths : goal.invariant-paths
invariant-paths l = list_all (λ e. not (contains_key l.folders e.0)) (keyed string_bytes l.path-iterator) ≡ list_all (λ e. not (contains_key l.folders e.0)) (keyed string_bytes l.settings.entries)
