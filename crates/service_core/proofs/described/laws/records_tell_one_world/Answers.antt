use Rattle.service_core.proofs.OfDescribed.WorldLemmas.{installs_are_one, worlds_are_one}
use Rattle.service_core.proofs.described.laws.records_tell_one_world.Goals as goal

pub returns : goal.returns
returns c = record { one = worlds_are_one c.records_tell_one.ensures; installed = installs_are_one c.records_tell_one.ensures }
