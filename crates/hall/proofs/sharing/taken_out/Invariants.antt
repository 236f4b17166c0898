use Rattle.std.proofs.Common.{◌≡◌, ◌≤◌, ◌+◌, ◌++◌, length, reverse, vec_capacity, vec_len}
use Rattle.hall.proofs.sharing.taken_out.Given as goal

abbrev pub invariant-owners : goal.invariant-owners
invariant-owners l = record {
  all : l.fn.owners.owners ≡ l.owners.owners ++ reverse l.taken.items;
  room : l.owners.room ≡ l.fn.owners.room;
  fits : length l.owners.owners + vec_len l.taken ≤ vec_capacity l.taken;
}

abbrev pub decreases-owners : goal.decreases-owners
decreases-owners l = length l.owners.owners
