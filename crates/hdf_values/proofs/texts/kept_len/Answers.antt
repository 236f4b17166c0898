-- One byte less.
use Rattle.std.proofs.Common.{◌∙◌, arith}
use Rattle.hdf_values.proofs.TextLemmas.{kept_less, kept_whole}
use Rattle.hdf_values.proofs.texts.kept_len.Goals as goal

pub loop-len-preserved : goal.loop-len-preserved
loop-len-preserved c = record {
  within = omega arith;
  front = kept_less c.args.fill c.loop-len.len c.args.bytes.now c.loop-len-test.true c.loop-len.invariant.within c.if-bytes-len.true ∙ c.loop-len.invariant.front;
}

pub returns-else-bytes-len-clause-front : goal.returns-else-bytes-len-clause-front
returns-else-bytes-len-clause-front c =
    kept_whole c.args.fill c.loop-len.len c.args.bytes.now c.loop-len-test.true c.loop-len.invariant.within c.if-bytes-len.false ∙ c.loop-len.invariant.front
