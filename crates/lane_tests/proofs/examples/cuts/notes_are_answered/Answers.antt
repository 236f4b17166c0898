use Rattle.std.proofs.Common.{true}
use Rattle.lane_histories.specs.Core.{history}
use Rattle.lane_tests.proofs.OfExamples.CutRuns.{late_runs, opened_is}
use Rattle.lane_tests.proofs.OfExamples.WholeLemmas.{drawn_first, drawn_has, late_whole}
use Rattle.lane_tests.specs.Examples.Cuts.{after_late, cut_late, drawn_late, opened, start}
use Rattle.lane_tests.proofs.examples.cuts.notes_are_answered.Goals as goal

pub returns-clause-earlier : goal.returns-clause-earlier
returns-clause-earlier c =
    let legal = c.events_keep.ensures.legal 2 start opened (after_late true) (cut_late true) opened_is (late_runs true) in
    c.prefixes_are_legal.ensures 2 start (history drawn_late) (history (after_late true)) legal drawn_first drawn_has

pub returns-clause-product : goal.returns-clause-product
returns-clause-product c =
    let legal = c.events_keep.ensures.legal 2 start opened (after_late true) (cut_late true) opened_is (late_runs true) in
    c.replays_are_products.ensures.product 2 start (history (after_late true)) legal

pub returns-clause-whole : goal.returns-clause-whole
returns-clause-whole c = late_whole

pub returns-clause-answers : goal.returns-clause-answers
returns-clause-answers c = λ place few.
    let legal = c.events_keep.ensures.legal 2 start opened (after_late true) (cut_late true) opened_is (late_runs true) in
    c.whole_histories_are_plain.ensures.answers 2 start (history (after_late true)) legal late_whole place few
