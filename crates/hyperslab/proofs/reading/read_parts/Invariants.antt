use Rattle.std.proofs.Common.{◌≡◌, drop}
use Rattle.hyperslab.specs.declared.reading.Phase.TheVariants.{Before}
use Rattle.hyperslab.specs.Selected.{IsRanked}
use Rattle.hyperslab.specs.Steps.{read_on, nothing_kept, IsPhase}
use Rattle.hyperslab.proofs.reading.read_parts.Given as goal

abbrev pub invariant-loop-i : goal.invariant-loop-i
invariant-loop-i l = record {
  read : read_on l.dims l.i l.phase l.kept (drop l.i l.bytes) ≡ read_on l.dims 0 Before nothing_kept l.bytes;
  phase : IsPhase l.phase;
  ranked : IsRanked l.kept.slab;
}
