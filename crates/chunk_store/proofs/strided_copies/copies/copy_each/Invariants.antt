use Rattle.std.proofs.Common.{◌≡◌, length}
use Rattle.chunk_store.specs.StridedCopies.Strides.{AreCopied, AreOthersKept}
use Rattle.chunk_store.proofs.strided_copies.copies.copy_each.Given as goal

abbrev pub invariant-loop-i : goal.invariant-loop-i
invariant-loop-i l = record {
  copied : AreCopied l.to l.at l.i l.size l.from l.out;
  kept : AreOthersKept l.to l.i l.size l.fn.out l.out;
  len : length l.out ≡ length l.fn.out;
}
