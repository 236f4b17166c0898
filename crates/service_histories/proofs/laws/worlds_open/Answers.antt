use Rattle.service_histories.proofs.OpeningLemmas.{kept_registers_are_since, owners_are_said, worlds_open}
use Rattle.service_histories.proofs.laws.worlds_open.Goals as goal

pub returns : goal.returns
returns c = record { world = worlds_open; owners = owners_are_said; register = kept_registers_are_since }
