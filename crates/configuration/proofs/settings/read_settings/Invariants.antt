use Rattle.std.proofs.Common.{◌≡◌, option_map}
use Rattle.configuration.specs.Settings.{setting_of}
use Rattle.configuration.specs.Tables.{all_of}
use Rattle.configuration.proofs.TableLemmas.{rest_of}
use Rattle.configuration.proofs.settings.read_settings.Given as goal
use Rattle.containers.specs.TextMaps.Keyed.{with_entries, map_of}

abbrev pub invariant-settings : goal.invariant-settings
invariant-settings l = option_map (with_entries l.settings) (all_of setting_of (rest_of l.key-iterator)) ≡ option_map map_of (all_of setting_of (rest_of l.table.entries))
