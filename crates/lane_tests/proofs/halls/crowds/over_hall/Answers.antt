use Rattle.std.proofs.Common.{vec_len, arith}
use Rattle.lane_tests.proofs.PassLemmas.{first_giver, last_name}
use Rattle.lane_tests.proofs.halls.crowds.over_hall.Goals as goal

pub admit_all-requires-clause-giver : goal.admit_all-requires-clause-giver
admit_all-requires-clause-giver g c =
    let b = c.requires.begun in
    first_giver c.args.hall c.args.pass b.0 (vec_len c.args.scripts) b.1

pub take_in-requires-clause-of_this_hall : goal.take_in-requires-clause-of_this_hall
take_in-requires-clause-of_this_hall g c = c.admit_all.ensures.giver.of_this_hall

pub close-world-requires-clause-whole : goal.close-world-requires-clause-whole
close-world-requires-clause-whole g c =
    let mine = last_name c.args.hall c.admit_all.new.pass c.admit_all.ensures.giver c.admit_all.new.pass.live in
    let all = c.take_in.ensures.names in
    let many = c.admit_all.ensures.count in
    let still = c.speak_all.ensures.count in
    let passes = c.requires.begun.1.passes_are in
    omega (arith, mine, all, many, still, passes)
