-- The items of the vector, seen as data, are those of the list.
use Rattle.std.proofs.Common.{map, option_map, Some, ap, sym, ◌∙◌}
use Rattle.serde_json.specs.View.{view}
use Rattle.json_trees.specs.Trees.{list_of}
use Rattle.json_trees.proofs.TreeLemmas.{listed}
use Rattle.json_trees.proofs.list_items.Goals as goal

pub returns : goal.returns
returns c =
    let items = c.in_ok-list.list.now.items in
    let shown = rw c.in_ok-list.was at c.as_array.ensures in
    ap (λ s. Some (map view s)) c.as_slice.ensures.value ∙ ap Some (sym (listed items)) ∙ ap (option_map list_of) shown
