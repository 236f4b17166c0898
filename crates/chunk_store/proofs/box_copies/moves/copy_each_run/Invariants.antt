use Rattle.std.proofs.Common.{◌≡◌, ◌≤◌, drop, length}
use Rattle.chunk_store.specs.BoxCopies.Moves.{AreMovedTo, source_of, target_of}
use Rattle.chunk_store.proofs.box_copies.moves.copy_each_run.Given as goal

abbrev pub invariant-loop-run : goal.invariant-loop-run
invariant-loop-run l = record {
  left : drop (length l.yielded) l.fn.runs ≡ l.run-iterator;
  few : length l.yielded ≤ length l.fn.runs;
  moved : AreMovedTo (target_of l.way) (source_of l.way) (length l.yielded) l.fn.runs l.size l.from l.fn.out l.out;
  len : length l.out ≡ length l.fn.out;
}
