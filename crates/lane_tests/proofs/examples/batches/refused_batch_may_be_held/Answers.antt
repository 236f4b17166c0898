use Rattle.std.proofs.Common.{inl, inr, false, refl, subst, ◌++◌}
use Rattle.lane_histories.specs.Core.{history}
use Rattle.lane_histories.specs.KeptContents.{TellsKept}
use Rattle.lane_histories.specs.declared.items.Reach.{Reach}
use Rattle.lane_tests.proofs.OfExamples.CutRuns.{late_runs, none_happens, opened_is, refused_images, settled_from_opened, settled_runs}
use Rattle.lane_tests.specs.Examples.Cuts.{after_late, after_settled, cut_late, opened, settling, start, to_its_append}
use Rattle.lane_tests.specs.Examples.Notes.{contents, notes}
use Rattle.lane_tests.proofs.examples.batches.refused_batch_may_be_held.Goals as goal

pub returns-clause-run : goal.returns-clause-run
returns-clause-run c = late_runs false

pub returns-clause-images : goal.returns-clause-images
returns-clause-images c = refused_images

pub returns-clause-kept : goal.returns-clause-kept
returns-clause-kept c = c.events_keep.ensures.images 2 start opened (after_late false) (cut_late false) opened_is (late_runs false)

pub returns-clause-settles : goal.returns-clause-settles
returns-clause-settles c = settled_runs

pub returns-clause-held : goal.returns-clause-held
returns-clause-held c = λ x image.
    let kept = c.events_keep.ensures.images 2 start opened after_settled (cut_late false ++ settling) opened_is settled_from_opened x image in
    subst (λ (reach : Reach). TellsKept notes contents start (history after_settled) x reach) (kept.farther refl) kept.tells

pub returns-clause-crashed : goal.returns-clause-crashed
returns-clause-crashed c = none_happens

pub returns-clause-both : goal.returns-clause-both
returns-clause-both c = (inl refl, inr (to_its_append, refl))
