use Rattle.std.proofs.Common.{subst}
use Rattle.service_core.specs.Records.{WorldStillSays}
use Rattle.service_core.specs.Worlds.{State}
use Rattle.service_core.proofs.LaterLemmas.{built_domain}
use Rattle.service_core.proofs.RecordLemmas.{both_still}
use Rattle.service_core.proofs.world.World.make_domain.Goals as goal

pub invariant_of-self : goal.invariant_of-self
invariant_of-self c =
    built_domain c.make_domain.result c.self.inside.register c.make_domain.new.self c.self.inside.owners.items c.args.path.now c.args.owner.now c.make_domain.ensures.ok c.make_domain.ensures.err c.self.invariant

pub returns-clause-says : goal.returns-clause-says
returns-clause-says c =
    let left = c.make_domain.new.self in
    let lanes = c.self.inside.owners.items in
    subst (λ (s : State). WorldStillSays s (record { register = left; lanes = lanes })) c.self.view_is (both_still c.self.inside.register left lanes lanes c.make_domain.ensures.says (λ held said. said))
