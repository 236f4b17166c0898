use Rattle.std.proofs.Common.{◌≡◌, ◌+◌, ◌≤◌, length}
use Rattle.std.specs.FinMap.{entries, len}
use Rattle.std.specs.Option.{option_copied}
use Rattle.containers.specs.TextMaps.Keyed.{text_order, with_values}
use Rattle.containers.specs.TextMaps.Nexts.{left}
use Rattle.groups_links.specs.GroupLinks.{most_links}
use Rattle.json_import.specs.Fresh.Renamed.{renamed_link}
use Rattle.json_import.proofs.OfFresh.PutLemmas.{IsNewBehind, put_left}
use Rattle.json_import.proofs.fresh.links.renamed_links.Given as goal

-- with those that are left, all are put
abbrev pub invariant-loop-title : goal.invariant-loop-title
invariant-loop-title l = record {
  put : put_left (renamed_link l.ids.names l.ids.root) l.renamed (option_copied l.after) l.links
      ≡ with_values (renamed_link l.ids.names l.ids.root) l.links;
  new : IsNewBehind (renamed_link l.ids.names l.ids.root) l.renamed (option_copied l.after);
  room : len l.renamed + length (left text_order (option_copied l.after) (entries l.links)) ≤ most_links;
}

abbrev pub decreases-loop-title : goal.decreases-loop-title
decreases-loop-title l = length (left text_order (option_copied l.after) (entries l.links))
