use Rattle.std.proofs.Common.{◌-◌, ◌≤◌}
use Rattle.chunk_store.proofs.TruncationLemmas.{ArePartlyTruncated}
use Rattle.chunk_store.proofs.truncating.truncate_cells.Given as goal

abbrev pub invariant-loop-done : goal.invariant-loop-done
invariant-loop-done l = record {
  few : l.done ≤ l.many;
  partly : ArePartlyTruncated l.frame l.new l.index l.initial.bytes l.bytes l.done;
}

abbrev pub decreases-loop-done : goal.decreases-loop-done
decreases-loop-done l = l.many - l.done
