use Rattle.chunk_store.proofs.ValueLemmas.{read_each, read_written}
use Rattle.chunk_store.proofs.laws.reads_of_cells.Goals as goal

pub returns : goal.returns
returns c =
    record {
      each = read_each;
      back = read_written;
    }
