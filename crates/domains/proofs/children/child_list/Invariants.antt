use Rattle.std.proofs.Common.{◌≡◌, ◌++◌, Some, map, length}
use Rattle.std.specs.FinMap.{entries}
use Rattle.serde_json.specs.View.{view}
use Rattle.std.specs.Str.{IsUtf8}
use Rattle.containers.specs.TextMaps.Keyed.{text_order}
use Rattle.containers.specs.TextMaps.Nexts.{left}
use Rattle.domains.specs.Children.{children_in}
use Rattle.domains.specs.ChildSteps.{IsFrom}
use Rattle.domains.specs.NodeTrees.{child_tree}
use Rattle.domains.proofs.children.child_list.Given as goal

-- what is listed so far, in front of the children that are left
abbrev pub invariant-children : goal.invariant-children
invariant-children l =
    (map view l.trees.items ++ map (λ e. child_tree e.0 e.1) (children_in l.folder (left text_order (Some l.after) (entries l.nodes)))
    ≡ map (λ e. child_tree e.0 e.1) (children_in l.folder (entries l.nodes)))
    × IsFrom l.folder l.after × IsUtf8 l.after

abbrev pub decreases-children : goal.decreases-children
decreases-children l = length (children_in l.folder (left text_order (Some l.after) (entries l.nodes)))
