use Rattle.service_core.proofs.AnswerTrees.Readings.{answers_readable, calls_readable, none_shallow, refusals_readable, stays_shallow}
use Rattle.object_acts.proofs.OfDepths.Depths.{sound_shallow}
use Rattle.service_core.proofs.answer_trees.bodies_read_back.Goals as goal

pub returns : goal.returns
returns c = record { answers = answers_readable; none = none_shallow; stays = stays_shallow; sound = sound_shallow; calls = calls_readable; refused = refusals_readable }
