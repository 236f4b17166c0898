use Rattle.service_core.proofs.OfDescribed.RegisterLemmas.{registers_are_one, registers_stand}
use Rattle.service_core.proofs.described.laws.described_registers_stand.Goals as goal

pub returns : goal.returns
returns c = record { faultless = registers_stand; one = registers_are_one }
