use Rattle.service_histories.proofs.ClosingLemmas.{worlds_close, worlds_close_seen}
use Rattle.service_histories.proofs.LeftLemmas.{left_worlds_are_said}
use Rattle.service_histories.proofs.Readying.{gives_out}
use Rattle.service_histories.proofs.laws.worlds_close.Goals as goal

pub returns : goal.returns
returns c = record {
  built = λ lanes. worlds_close lanes (c.turns_are_ready.ensures.kept lanes) (gives_out c.decisions_keep.ensures.granted lanes);
  seen = worlds_close_seen;
  said = left_worlds_are_said;
}
