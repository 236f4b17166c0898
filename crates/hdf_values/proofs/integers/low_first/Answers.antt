-- Eight bytes by cases.
use Rattle.std.proofs.Common.{◌∙◌, arith}
use Rattle.hdf_values.proofs.ByteLemmas.{eight_low}
use Rattle.hdf_values.proofs.integers.low_first.Goals as goal

pub returns-in-len8 : goal.returns-in-len8
returns-in-len8 c = c.from_le_bytes-in-len8.ensures ∙ eight_low c.args.bytes.now (omega (arith, c.in-len8.len_at_least, c.in-len8.len_below))
