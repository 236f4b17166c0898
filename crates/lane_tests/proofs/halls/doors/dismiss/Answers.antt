use Rattle.std.proofs.Common.{arith}
use Rattle.lane_tests.proofs.OfClerks.{front_members, last_member}
use Rattle.lane_tests.proofs.halls.doors.dismiss.Goals as goal

pub join-requires-clause-of_this_hall_too : goal.join-requires-clause-of_this_hall_too
join-requires-clause-of_this_hall_too c =
    (last_member c.args.hall.now _ c.pop.new.self.items c.in-Some.clerk c.in-Some.ensures.items c.clerks.invariant.left).of_this_hall

pub clerks-preserved : goal.clerks-preserved
clerks-preserved c =
    let i = c.clerks.invariant in
    let one = (last_member c.args.hall.now _ c.pop.new.self.items c.in-Some.clerk c.in-Some.ensures.items i.left).alone in
    let more = c.join.ensures.names in
    let so_far = i.names in record {
      of_this_hall = c.join.ensures.of_this_hall;
      left = front_members c.args.hall.now _ c.pop.new.self.items c.in-Some.clerk c.in-Some.ensures.items i.left;
      names = omega (arith, one, more, so_far, c.in-Some.ensures.cases);
    }

pub returns-clause-names : goal.returns-clause-names
returns-clause-names c =
    let so_far = c.clerks.invariant.names in
    omega (arith, so_far, c.in_default.ensures.cases)
