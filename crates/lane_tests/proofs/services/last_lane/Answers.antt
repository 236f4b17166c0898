use Rattle.lane_tests.proofs.LastLemmas.{are_front, is_last}
use Rattle.lane_tests.proofs.services.last_lane.Goals as goal

pub new-requires-clause-own : goal.new-requires-clause-own
new-requires-clause-own c = (is_last 2 _ _ _ _ c.in-Some.ensures.owners c.requires.lanes c.requires.count).lane

pub new-requires-clause-two : goal.new-requires-clause-two
new-requires-clause-two c = (is_last 2 _ _ _ _ c.in-Some.ensures.owners c.requires.lanes c.requires.count).lanes

pub returns-in-Some-clause-lanes : goal.returns-in-Some-clause-lanes
returns-in-Some-clause-lanes c = are_front 2 _ _ _ c.in-Some.ensures.owners c.requires.lanes
