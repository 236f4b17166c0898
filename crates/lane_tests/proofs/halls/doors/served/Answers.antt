use Rattle.lane_tests.proofs.halls.doors.served.Goals as goal

pub over_hall-requires-clause-begun : goal.over_hall-requires-clause-begun
over_hall-requires-clause-begun g c κs within = c.in-Ok.ensures
