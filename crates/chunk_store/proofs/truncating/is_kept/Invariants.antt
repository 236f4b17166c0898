use Rattle.std.proofs.Common.{◌≡◌, drop}
use Rattle.chunk_store.specs.Marks.{keeps}
use Rattle.chunk_store.proofs.truncating.is_kept.Given as goal

abbrev pub invariant-loop-axis : goal.invariant-loop-axis
invariant-loop-axis l = keeps (drop l.axis l.index) (drop l.axis l.chunk) (drop l.axis l.old) (drop l.axis l.new) ≡ keeps l.index l.chunk l.old l.new
