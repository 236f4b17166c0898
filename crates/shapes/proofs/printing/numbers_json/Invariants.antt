use Rattle.std.proofs.Common.{◌≡◌, map, take}
use Rattle.serde_json.specs.View.{view}
use Rattle.shapes.specs.Printed.{limit_tree}
use Rattle.shapes.proofs.printing.numbers_json.Given as goal

abbrev pub invariant-loop-n : goal.invariant-loop-n
invariant-loop-n l = map view l.list.items ≡ map (limit_tree l.form) (take l.n-index l.numbers)
