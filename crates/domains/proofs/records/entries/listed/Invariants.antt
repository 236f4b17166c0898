use Rattle.std.proofs.Common.{◌≡◌, ◌+◌, ◌≤◌, length, option_map}
use Rattle.std.specs.FinMap.{len}
use Rattle.json_trees.specs.Trees.{all_in}
use Rattle.access_lists.specs.InForce.{most_entries}
use Rattle.domains.specs.Records.Lists.{entry_of}
use Rattle.domains.proofs.OfRecords.ReadLemmas.{rest_of}
use Rattle.domains.proofs.records.entries.listed.Given as goal
use Rattle.containers.specs.TextMaps.Keyed.{with_entries, map_of}

-- what is listed so far, in front of what is left, for which there is room
abbrev pub invariant-entries : goal.invariant-entries
invariant-entries l =
    (option_map (with_entries l.list) (all_in entry_of (rest_of l.key-iterator)) ≡ option_map map_of (all_in entry_of (rest_of l.members.entries)))
    × (len l.list + length l.key-iterator ≤ most_entries)
