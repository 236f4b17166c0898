use Rattle.edge_traits.specs.DiskCalls.{Tears}
use Rattle.edge_traits.proofs.mem_disk.tear.Given as goal

abbrev pub invariant-loop-call : goal.invariant-loop-call
invariant-loop-call l = Tears l.fn.image.items l.image.items l.fn.kept l.left l.call-index l.calls
