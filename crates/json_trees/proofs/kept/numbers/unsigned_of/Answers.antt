use Rattle.std.proofs.Common.{option_and_then}
use Rattle.serde_json.specs.Find.{as_u64}
use Rattle.json_trees.proofs.OfKept.NumberLemmas.{no_unsigned, without_minus}
use Rattle.json_trees.proofs.kept.numbers.unsigned_of.Goals as goal

pub returns-then-has_minus : goal.returns-then-has_minus
returns-then-has_minus c = no_unsigned c.as_bytes-bytes.result.now c.args.text.now c.if-has_minus.ensures.value c.as_bytes-bytes.ensures.value

pub returns-else-has_minus : goal.returns-else-has_minus
returns-else-has_minus c =
    without_minus (option_and_then as_u64) c.as_bytes-bytes.result.now c.args.text.now c.scan.result c.unsigned.result c.if-has_minus.ensures.value c.scan.ensures.parts c.as_bytes-bytes.ensures.value c.unsigned.ensures
