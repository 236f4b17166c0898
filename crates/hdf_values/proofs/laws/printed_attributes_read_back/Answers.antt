use Rattle.hdf_values.proofs.AttributeLemmas.{printed_back}
use Rattle.hdf_values.proofs.laws.printed_attributes_read_back.Goals as goal

pub returns : goal.returns
returns c = printed_back
