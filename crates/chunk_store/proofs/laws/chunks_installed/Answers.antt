use Rattle.chunk_store.proofs.ValueLemmas.{copy_chunk, copy_installed, standing_chunk, installed_inside, installed_other}
use Rattle.chunk_store.proofs.laws.chunks_installed.Goals as goal

pub returns : goal.returns
returns c =
    record {
      copy = copy_chunk;
      same = copy_installed;
      standing = standing_chunk;
      inside = installed_inside;
      others = installed_other;
    }
