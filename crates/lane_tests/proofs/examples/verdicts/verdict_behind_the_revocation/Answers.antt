use Rattle.std.proofs.Common.{refl}
use Rattle.lane_tests.proofs.OfExamples.RefutedLemmas.{revoked_legal}
use Rattle.lane_tests.proofs.examples.verdicts.verdict_behind_the_revocation.Goals as goal

pub returns : goal.returns
returns c = revoked_legal _ refl
