use Rattle.std.proofs.Common.{◌++◌, [], ◌∷◌, refl, subst}
use Rattle.lane_histories.specs.Core.{history, takes_turn}
use Rattle.lane_histories.specs.KeptContents.{TellsKept}
use Rattle.lane_histories.specs.declared.items.Outcome.TheVariants.{Done}
use Rattle.lane_histories.specs.declared.items.Reach.{Reach}
use Rattle.lane_tests.proofs.OfExamples.CutRuns.{early_runs, later_goes_on, later_runs, opened_is}
use Rattle.lane_tests.proofs.OfExamples.RefutedLemmas.{not_so_far, not_so_far_later}
use Rattle.lane_tests.specs.Examples.Cuts.{after_early, cut_early, opened, start, to_its_cut, written_later}
use Rattle.lane_tests.specs.Examples.Notes.{contents, notes}
use Rattle.lane_tests.proofs.examples.refuted.batches_reach_no_farther_than_their_cut.Goals as goal

pub returns-clause-now : goal.returns-clause-now
returns-clause-now c = λ w told kept. not_so_far w kept

pub returns-clause-legal : goal.returns-clause-legal
returns-clause-legal c = c.events_keep.ensures.legal 2 start opened written_later (cut_early ++ takes_turn 0 (Done 0) ∷ []) opened_is later_runs

pub returns-clause-later : goal.returns-clause-later
returns-clause-later c = not_so_far_later

pub returns-clause-stays : goal.returns-clause-stays
returns-clause-stays c = λ x image.
    let kept = c.events_keep.ensures.images 2 start opened after_early cut_early opened_is early_runs x image in
    let tells = subst (λ (reach : Reach). TellsKept notes contents start (history after_early) x reach) (kept.farther refl) kept.tells in
    let legal = c.events_keep.ensures.legal 2 start opened written_later (cut_early ++ takes_turn 0 (Done 0) ∷ []) opened_is later_runs in
    record {
      world = tells.world;
      told = tells.told;
      kept = c.what_is_kept_stays_kept.ensures 2 start (history after_early) (history written_later) tells.world to_its_cut tells.kept legal later_goes_on.longer;
    }
