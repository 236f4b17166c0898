use Rattle.chunk_store.proofs.StretchLemmas.{blank_next}
use Rattle.chunk_store.proofs.stretches.add_blanks.Goals as goal

pub loop-preserved : goal.loop-preserved
loop-preserved c = λ ats e.
    blank_next c.args.frame.now.blank.items ats c.loop.counter c.args.many c.loop.out.items c.extend_from_slice.new.self.items c.as_slice.result.now _ e c.loop-test.true c.in_ok-extend_from_slice.ensures.items c.as_slice.ensures.value (c.loop.invariant ats e)
