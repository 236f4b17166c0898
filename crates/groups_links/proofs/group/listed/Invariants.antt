use Rattle.std.proofs.Common.{◌≡◌, ◌++◌, map}
use Rattle.serde_json.specs.View.{view}
use Rattle.groups_links.specs.Printed.{link_tree}
use Rattle.groups_links.proofs.group.listed.Given as goal

-- what is listed so far, in front of what is left
abbrev pub invariant-loop-link : goal.invariant-loop-link
invariant-loop-link l =
    map view l.items.items ++ map (λ e. link_tree e.1.name e.1.value l.form) l.link-iterator
    ≡ map (λ e. link_tree e.1.name e.1.value l.form) l.links.entries
