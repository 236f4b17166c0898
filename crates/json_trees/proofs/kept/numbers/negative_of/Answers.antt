use Rattle.std.proofs.Common.{option_and_then, arith, length-drop}
use Rattle.json_trees.specs.Numbers.{as_negative}
use Rattle.json_trees.proofs.OfKept.NumberLemmas.{behind_minus, no_negative}
use Rattle.json_trees.proofs.kept.numbers.negative_of.Goals as goal

pub returns-then-has_minus : goal.returns-then-has_minus
returns-then-has_minus c =
    let s = c.as_bytes-bytes.result.now in
    behind_minus (option_and_then as_negative) s c.args.text.now c.scan.result c.negative.result _ c.if-has_minus.ensures.value c.scan.ensures.parts (omega (arith, length-drop 1 s)) c.as_bytes-bytes.ensures.value c.negative.ensures

pub returns-else-has_minus : goal.returns-else-has_minus
returns-else-has_minus c = no_negative c.as_bytes-bytes.result.now c.args.text.now c.if-has_minus.ensures.value c.as_bytes-bytes.ensures.value
