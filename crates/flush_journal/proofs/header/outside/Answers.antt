use Rattle.std.proofs.Common.{◌∙◌, sym, inl, inr, arith}
use Rattle.flush_journal.specs.Files.{header_ranges}
use Rattle.flush_journal.proofs.ReadLemmas.{outside_missing, outside_wrong, outside_right, outside_done, each_inside}
use Rattle.flush_journal.proofs.header.outside.Goals as goal
use Rattle.flush_journal.proofs.header.outside.Goals.{then-i-bytes-via-then-i-bytes, then-i-bytes-via-else-i-bytes+then-bytes-i, then-i-bytes-via-else-i-bytes+else-bytes-i+then-bytes-i-2}

pub returns-then-i-bytes-clause-place : goal.returns-then-i-bytes-clause-place
returns-then-i-bytes-clause-place c =
    let i = c.loop-i.i in
    let bytes = c.args.bytes.now in
    sym (c.loop-i.invariant.so_far ∙ elim c.then-i-bytes.branch [
      | then-i-bytes-via-then-i-bytes w ↦ outside_missing i i header_ranges bytes c.loop-i-test.true w.if-i-bytes.true
      | then-i-bytes-via-else-i-bytes+then-bytes-i w ↦ outside_wrong i i header_ranges bytes c.loop-i-test.true w.if-i-bytes.false (inl w.if-bytes-i.true)
      | then-i-bytes-via-else-i-bytes+else-bytes-i+then-bytes-i-2 w ↦ outside_wrong i i header_ranges bytes c.loop-i-test.true w.if-i-bytes.false (inr w.if-bytes-i-2.true)
    ])

pub loop-i-preserved : goal.loop-i-preserved
loop-i-preserved c = record {
  so_far = c.loop-i.invariant.so_far ∙ outside_right c.loop-i.i c.loop-i.i header_ranges c.args.bytes.now c.loop-i-test.true c.if-i-bytes.false c.if-bytes-i.false c.if-bytes-i-2.false;
  long = omega (arith, c.if-i-bytes.false);
}

pub returns-clause-place : goal.returns-clause-place
returns-clause-place c = sym (c.loop-i.invariant.so_far ∙ outside_done c.loop-i.i c.loop-i.i header_ranges _ c.loop-i-test.false)

pub returns-clause-some_lane : goal.returns-clause-some_lane
returns-clause-some_lane c = (each_inside 11 0 header_ranges c.args.bytes.now (omega arith) (c.loop-i.invariant.so_far ∙ outside_done c.loop-i.i c.loop-i.i header_ranges _ c.loop-i-test.false)).0

pub returns-clause-few_lanes : goal.returns-clause-few_lanes
returns-clause-few_lanes c = (each_inside 11 0 header_ranges c.args.bytes.now (omega arith) (c.loop-i.invariant.so_far ∙ outside_done c.loop-i.i c.loop-i.i header_ranges _ c.loop-i-test.false)).1
