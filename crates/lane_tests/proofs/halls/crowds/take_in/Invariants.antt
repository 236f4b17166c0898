use Rattle.std.proofs.Common.{◌≡◌, ◌+◌, length, vec_len}
use Rattle.std.specs.Prelude.{All}
use Rattle.hall.specs.Passes.{IsPassOf, names_of}
use Rattle.lane_tests.specs.Crowds.{IsMember}
use Rattle.lane_tests.proofs.halls.crowds.take_in.Given as goal

abbrev pub invariant-members : goal.invariant-members
invariant-members l = record {
  of_this_hall : IsPassOf l.hall l.pass;
  left : All (λ m. IsMember l.hall m.pass) l.members.items;
  names : length (names_of l.pass) + vec_len l.members ≡ length (names_of l.initial.pass) + vec_len l.initial.members;
}

abbrev pub decreases-members : goal.decreases-members
decreases-members l = vec_len l.members
