use Rattle.std.proofs.Common.{◌≡◌, ◌+◌, length, vec_len}
use Rattle.std.specs.Prelude.{All}
use Rattle.hall.specs.Passes.{IsPassOf, names_of}
use Rattle.lane_tests.specs.Crowds.{IsMember}
use Rattle.lane_tests.proofs.halls.doors.dismiss.Given as goal

abbrev pub invariant-clerks : goal.invariant-clerks
invariant-clerks l = record {
  of_this_hall : IsPassOf l.hall l.pass;
  left : All (λ w. IsMember l.hall w.pass) l.clerks.items;
  names : length (names_of l.pass) + vec_len l.clerks ≡ length (names_of l.initial.pass) + vec_len l.initial.clerks;
}

abbrev pub decreases-clerks : goal.decreases-clerks
decreases-clerks l = vec_len l.clerks
