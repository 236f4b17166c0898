use Rattle.lane_histories.proofs.AnswerLemmas.{replies_are_replays}
use Rattle.lane_histories.proofs.FoundLemmas.{outcomes_are_found}
use Rattle.lane_histories.proofs.PlaceLemmas.{entries_are_found}
use Rattle.lane_histories.proofs.ReplyLemmas.{replies_stay}
use Rattle.lane_histories.proofs.laws.replies_are_replays.Goals as goal

pub returns : goal.returns
returns g c = record {
  replay = λ lanes. replies_are_replays (g.S.Lanes.service lanes);
  stay = λ lanes. replies_stay (g.S.Lanes.service lanes);
  entry = λ lanes. entries_are_found (g.S.Lanes.service lanes);
  outcome = λ lanes. outcomes_are_found (g.S.Lanes.service lanes);
}
