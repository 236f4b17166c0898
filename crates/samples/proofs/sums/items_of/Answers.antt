use Rattle.std.proofs.Common.{◌∙◌, [], Option, map, option_map, ap, sym}
use Rattle.std.specs.Prelude.{unwrap_or}
use Rattle.serde_json.specs.Data.{Items}
use Rattle.serde_json.specs.View.{view}
use Rattle.json_trees.specs.Trees.{list_of}
use Rattle.json_trees.proofs.TreeLemmas.{listed}
use Rattle.samples.proofs.sums.items_of.Goals as goal

pub returns-in-Some : goal.returns-in-Some
returns-in-Some c =
    ap (map view) c.as_slice.ensures.value
    ∙ (sym (listed c.in-Some.items.now.items) ∙ ap (λ (o : Option Items). unwrap_or (option_map list_of o) []) c.in-Some.ensures)
