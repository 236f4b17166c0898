use Rattle.register.proofs.Describing.{described}
use Rattle.register.proofs.laws.kept_registers_are_described.Goals as goal

pub returns : goal.returns
returns c = described
