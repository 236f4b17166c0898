-- The text spells the parts that make the selection.
use Rattle.hyperslab.proofs.WrittenLemmas.{reads_back}
use Rattle.hyperslab.proofs.reading.written_reads_back.Goals as goal

pub returns : goal.returns
returns c = reads_back
