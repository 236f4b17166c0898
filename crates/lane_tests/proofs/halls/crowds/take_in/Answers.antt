use Rattle.std.proofs.Common.{◌∷◌, [], subst, arith}
use Rattle.std.specs.Prelude.{All}
use Rattle.lane_tests.specs.Crowds.{IsMember}
use Rattle.lane_tests.specs.declared.halls.crowds.Member.{Member}
use Rattle.lane_tests.proofs.CallerLists.{all_front, all_last}
use Rattle.lane_tests.proofs.halls.crowds.take_in.Goals as goal

pub join-requires-clause-of_this_hall_too : goal.join-requires-clause-of_this_hall_too
join-requires-clause-of_this_hall_too c =
    let Ours = λ (m : Member). IsMember c.args.hall.now m.pass in
    (all_last Ours c.pop.new.self.items c.in-Some.member (subst (All Ours) c.in-Some.ensures.items c.members.invariant.left)).of_this_hall

pub members-preserved : goal.members-preserved
members-preserved c =
    let i = c.members.invariant in
    let Ours = λ (m : Member). IsMember c.args.hall.now m.pass in
    let all = subst (All Ours) c.in-Some.ensures.items i.left in
    let one = (all_last Ours c.pop.new.self.items c.in-Some.member all).alone in
    let more = c.join.ensures.names in
    let so_far = i.names in record {
      of_this_hall = c.join.ensures.of_this_hall;
      left = all_front Ours c.pop.new.self.items (c.in-Some.member ∷ []) all;
      names = omega (arith, one, more, so_far, c.in-Some.ensures.cases);
    }

pub returns-clause-names : goal.returns-clause-names
returns-clause-names c =
    let so_far = c.members.invariant.names in
    omega (arith, so_far, c.in_default.ensures.cases)
