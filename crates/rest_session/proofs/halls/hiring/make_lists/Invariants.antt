use Rattle.std.proofs.Common.{◌≡◌, ◌≤◌, [], vec_len, vec_capacity}
use Rattle.std.specs.Prelude.{All}
use Rattle.rest_session.proofs.halls.hiring.make_lists.Given as goal

abbrev pub invariant-lists : goal.invariant-lists
invariant-lists l = (vec_len l.lists ≡ l.counter) × All (λ x. (x.items ≡ []) × (l.links ≤ vec_capacity x)) l.lists.items
