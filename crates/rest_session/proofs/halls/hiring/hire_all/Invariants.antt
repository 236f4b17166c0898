use Rattle.std.proofs.Common.{◌≡◌, ℕ, ◌+◌, ◌++◌, Some, false, map, vec_len, vec_capacity}
use Rattle.std.specs.Prelude.{All, reverse}
use Rattle.hall_rule.specs.Sums.{upward}
use Rattle.hall.specs.Passes.{view_of}
use Rattle.rest_session.specs.Halls.Staff.{IsGiver, IsHired}
use Rattle.rest_session.proofs.halls.hiring.hire_all.Given as goal

abbrev pub invariant-doors : goal.invariant-doors
invariant-doors g l = record {
  count : vec_len l.workers + vec_len l.doors ≡ vec_len l.initial.doors;
  giver : IsGiver l.hall (vec_len l.workers) (vec_len l.doors + 1) l.pass;
  hired : All (λ w. (x : ℕ) × IsHired l.hall x w.pass) l.workers.items;
  numbers : map (λ w. (view_of w.pass).number) l.workers.items ≡ upward 1 (vec_len l.workers);
  doors : map (λ w. w.door) l.workers.items ++ reverse (map (λ d. Some d) l.doors.items) ≡ reverse (map (λ d. Some d) l.initial.doors.items);
  lists : l.initial.lists.items ≡ l.lists.items ++ reverse (map (λ w. w.ends) l.workers.items);
  left : vec_len l.lists ≡ vec_len l.doors + 1;
  failed : All (λ w. w.door_failed ≡ false) l.workers.items;
  workers_room : vec_capacity l.workers ≡ vec_capacity l.initial.workers;
  doors_room : vec_capacity l.doors ≡ vec_capacity l.initial.doors;
}

abbrev pub decreases-doors : goal.decreases-doors
decreases-doors g l = vec_len l.doors
