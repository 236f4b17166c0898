use Rattle.std.proofs.Common.{◌≡◌, Some, length}
use Rattle.std.specs.FinMap.{entries}
use Rattle.std.specs.Str.{IsUtf8}
use Rattle.containers.specs.TextMaps.Keyed.{text_order}
use Rattle.containers.specs.TextMaps.Nexts.{left}
use Rattle.domains.specs.Children.{children_in}
use Rattle.domains.specs.ChildSteps.{IsFrom}
use Rattle.domains.proofs.children.next_child.Given as goal

-- no child stands between where the walk began and where it is
abbrev pub invariant-paths : goal.invariant-paths
invariant-paths l =
    (children_in l.folder (left text_order (Some l.last) (entries l.nodes)) ≡ children_in l.folder (left text_order (Some l.after) (entries l.nodes)))
    × IsFrom l.folder l.last × IsUtf8 l.last

abbrev pub decreases-paths : goal.decreases-paths
decreases-paths l = length (left text_order (Some l.last) (entries l.nodes))
