use Rattle.std.proofs.Common.{refl}
use Rattle.rest_session.proofs.AnswerSizes.{denial_size, fault_size, full_size}
use Rattle.rest_session.proofs.laws.short_answers.Goals as goal

pub returns : goal.returns
returns c = record {
  room = refl;
  denied = denial_size;
  fault = fault_size;
  full = λ end need room close p q r. full_size end need room p q r close;
}
