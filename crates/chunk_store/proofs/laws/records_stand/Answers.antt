use Rattle.chunk_store.proofs.CutLemmas.{cut_reads, reads_back}
use Rattle.chunk_store.proofs.ValueLemmas.{one_array}
use Rattle.chunk_store.proofs.laws.records_stand.Goals as goal

pub returns : goal.returns
returns c = record { reads = reads_back; taken = cut_reads; one = one_array }
