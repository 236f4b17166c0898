use Rattle.std.proofs.Common.{◌≡◌}
use Rattle.std.specs.List.{list_all}
use Rattle.configuration.specs.Settings.{is_setting_key}
use Rattle.configuration.proofs.TableLemmas.{rest_of}
use Rattle.configuration.proofs.owned.has_setting_keys.Given as goal

abbrev pub invariant-keys : goal.invariant-keys
invariant-keys l = list_all (λ e. is_setting_key e.0) (rest_of l.key-iterator) ≡ list_all (λ e. is_setting_key e.0) (rest_of l.table.entries)
