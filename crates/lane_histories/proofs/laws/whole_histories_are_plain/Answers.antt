use Rattle.lane_histories.proofs.PlainLemmas.{whole_answers_are_plain, whole_is_plain}
use Rattle.lane_histories.proofs.laws.whole_histories_are_plain.Goals as goal

pub returns : goal.returns
returns g c = record {
  world = λ lanes. whole_is_plain (g.S.Lanes.service lanes);
  answers = λ lanes. whole_answers_are_plain (g.S.Lanes.service lanes);
}
