use Rattle.chunk_store.proofs.ValueLemmas.{made_value, last_value, other_value, resized_stays, resized_comes, resized_again}
use Rattle.chunk_store.proofs.laws.cells_after_calls.Goals as goal

pub returns : goal.returns
returns c =
    record {
      made = made_value;
      last = last_value;
      others = other_value;
      stays = resized_stays;
      comes = resized_comes;
      again = resized_again;
    }
