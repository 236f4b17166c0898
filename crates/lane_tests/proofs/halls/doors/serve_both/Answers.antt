use Rattle.std.proofs.Common.{arith}
use Rattle.lane_tests.proofs.PassLemmas.{last_name}
use Rattle.lane_tests.proofs.halls.doors.serve_both.Goals as goal

pub dismiss-requires-clause-of_this_hall : goal.dismiss-requires-clause-of_this_hall
dismiss-requires-clause-of_this_hall g c = c.hire_both.ensures.giver.of_this_hall

pub returns-clause-names : goal.returns-clause-names
returns-clause-names g c =
    let mine = last_name c.args.hall.now c.hire_both.new.pass c.hire_both.ensures.giver c.hire_both.new.pass.live in
    let all = c.dismiss.ensures.names in
    let many = c.hire_both.ensures.count in
    let still = c.work_all.ensures.count in
    omega (arith, mine, all, many, still)
