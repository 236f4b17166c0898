use Rattle.std.proofs.Common.{◌≡◌, map, take}
use Rattle.serde_json.specs.View.{view}
use Rattle.shapes.specs.declared.printing.Form.TheVariants.{Rest}
use Rattle.shapes.specs.Printed.{limit_tree}
use Rattle.object_acts.proofs.arrays.creation.numbers_json.Given as goal

abbrev pub invariant-loop-n : goal.invariant-loop-n
invariant-loop-n l = map view l.list.items ≡ map (limit_tree Rest) (take l.n-index l.numbers)
