use Rattle.http_wire.proofs.Numbers.{length_in_decimal}
use Rattle.http_wire.proofs.laws.lengths_are_read_back.Goals as goal

pub returns : goal.returns
returns c = length_in_decimal
