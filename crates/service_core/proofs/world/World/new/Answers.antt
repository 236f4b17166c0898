use Rattle.service_core.proofs.RecordLemmas.{new_said}
use Rattle.service_core.proofs.WorldLemmas.{new_built}
use Rattle.service_core.proofs.world.World.new.Goals as goal

pub invariant_of-result : goal.invariant_of-result
invariant_of-result c = new_built c.args.register c.in_ok-owners.owners.items c.lanes.result c.lanes.ensures.lanes c.in_ok-owners.ensures

pub returns-clause-says : goal.returns-clause-says
returns-clause-says c = new_said c.args.register c.in_ok-owners.owners.items c.lanes.result c.in_ok-owners.ensures
