use Rattle.chunk_owner.proofs.OtherKeys.{keys_are_of_one_id, keys_are_of_one_lane, marks_are_of_lane}
use Rattle.chunk_owner.proofs.laws.keys_are_of_one_lane.Goals as goal

pub returns : goal.returns
returns c = record { marks = marks_are_of_lane; id = keys_are_of_one_id; lane = keys_are_of_one_lane }
