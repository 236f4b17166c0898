use Rattle.object_acts.proofs.OfArrays.LawLemmas.{slab_back}
use Rattle.object_acts.proofs.arrays.laws.written_reads_back.Goals as goal

pub returns : goal.returns
returns c = slab_back
