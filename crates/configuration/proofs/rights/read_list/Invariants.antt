use Rattle.std.proofs.Common.{◌≡◌, ◌+◌, ◌≤◌, length, option_map}
use Rattle.std.specs.FinMap.{len}
use Rattle.access_lists.specs.declared.list.TheConstants.{MAX_ENTRIES}
use Rattle.configuration.specs.Settings.{entry_of}
use Rattle.configuration.specs.Tables.{all_of}
use Rattle.configuration.proofs.TableLemmas.{rest_of}
use Rattle.configuration.proofs.rights.read_list.Given as goal
use Rattle.containers.specs.TextMaps.Keyed.{with_entries, map_of}

abbrev pub invariant-entries : goal.invariant-entries
invariant-entries l =
    (option_map (with_entries l.list) (all_of entry_of (rest_of l.key-iterator)) ≡ option_map map_of (all_of entry_of (rest_of l.table.entries)))
    × (len l.list + length l.key-iterator ≤ MAX_ENTRIES)
