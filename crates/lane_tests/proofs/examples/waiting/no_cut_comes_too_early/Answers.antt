use Rattle.lane_tests.proofs.OfExamples.WaitLemmas.{out_late, pending_late}
use Rattle.lane_tests.proofs.examples.waiting.no_cut_comes_too_early.Goals as goal

pub returns-clause-drawn : goal.returns-clause-drawn
returns-clause-drawn c = λ new happens. out_late happens.1.0

pub returns-clause-register : goal.returns-clause-register
returns-clause-register c = λ found new happens. out_late happens.1.0

pub returns-clause-pending : goal.returns-clause-pending
returns-clause-pending c = λ new happens. pending_late happens.1.0

pub returns-clause-unsettled : goal.returns-clause-unsettled
returns-clause-unsettled c = λ found new happens. pending_late happens.1.0
