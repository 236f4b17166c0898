use Rattle.std.proofs.Common.{is_some, arith, length-drop}
use Rattle.json_trees.proofs.OfKept.NumberLemmas.{behind_minus, without_minus}
use Rattle.json_trees.proofs.kept.numbers.has_number.Goals as goal

pub returns-then-has_minus : goal.returns-then-has_minus
returns-then-has_minus c =
    let s = c.as_bytes-bytes.result.now in
    behind_minus is_some s c.args.text.now c.scan.result c.has_negative.result _ c.if-has_minus.ensures.value c.scan.ensures.parts (omega (arith, length-drop 1 s)) c.as_bytes-bytes.ensures.value c.has_negative.ensures

pub returns-else-has_minus : goal.returns-else-has_minus
returns-else-has_minus c =
    without_minus is_some c.as_bytes-bytes.result.now c.args.text.now c.scan-else-has_minus.result c.has_unsigned.result c.if-has_minus.ensures.value c.scan-else-has_minus.ensures.parts c.as_bytes-bytes.ensures.value c.has_unsigned.ensures
