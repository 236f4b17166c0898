use Rattle.service_core.proofs.DecideMarks.{decided_marks}
use Rattle.service_core.proofs.laws.other_requests_keep_the_catalogue.Goals as goal

pub returns : goal.returns
returns c = λ w caller request other. (decided_marks w.register caller request).catalogue other
