use Rattle.std.proofs.Common.{◌≡◌, ◌+◌, vec_len, vec_capacity}
use Rattle.std.specs.Prelude.{All}
use Rattle.lane_tests.specs.Crowds.{IsGiver, IsMember}
use Rattle.lane_tests.proofs.halls.crowds.admit_all.Given as goal

abbrev pub invariant-scripts : goal.invariant-scripts
invariant-scripts l = record {
  giver : IsGiver l.hall (vec_len l.scripts) l.pass;
  members : All (λ m. IsMember l.hall m.pass) l.members.items;
  count : vec_len l.members + vec_len l.scripts ≡ vec_len l.initial.scripts;
  room : vec_capacity l.members ≡ vec_capacity l.initial.members;
}

abbrev pub decreases-scripts : goal.decreases-scripts
decreases-scripts l = vec_len l.scripts
