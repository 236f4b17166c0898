use Rattle.std.proofs.Common.{refl, subst}
use Rattle.lane_histories.specs.Core.{history}
use Rattle.lane_histories.specs.KeptContents.{TellsKept}
use Rattle.lane_histories.specs.declared.items.Reach.{Reach}
use Rattle.lane_tests.proofs.OfExamples.CutRuns.{early_runs, opened_is}
use Rattle.lane_tests.specs.Examples.Cuts.{after_early, cut_early, opened, start}
use Rattle.lane_tests.specs.Examples.Notes.{contents, notes}
use Rattle.lane_tests.proofs.examples.batches.early_reach.Goals as goal

pub returns : goal.returns
returns c = λ x image.
    let kept = c.events_keep.ensures.images 2 start opened after_early cut_early opened_is early_runs x image in
    subst (λ (reach : Reach). TellsKept notes contents start (history after_early) x reach) (kept.farther refl) kept.tells
