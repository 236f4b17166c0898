use Rattle.std.proofs.Common.{◌≡◌, ◌++◌}
use Rattle.hall.proofs.sharing.put_back.Given as goal

abbrev pub invariant-loop-owner : goal.invariant-loop-owner
invariant-loop-owner l = record {
  owners : l.owners.owners ≡ l.yielded;
  room : l.owners.room ≡ l.fn.owners.room;
  left : l.owners.owners ++ l.owner-iterator.rest.items ≡ l.fn.taken.items;
}
