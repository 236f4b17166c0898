use Rattle.std.proofs.Common.{◌<◌, sym, subst}
use Rattle.chunk_owner.specs.Owners.Joined.{whole}
use Rattle.service_core.specs.Worlds.{State}
use Rattle.service_core.proofs.GivenLemmas.{fresh_is}
use Rattle.service_core.specs.Records.{WorldStillSays}
use Rattle.service_core.proofs.LaterLemmas.{built_fresh}
use Rattle.service_core.proofs.RecordLemmas.{both_still}
use Rattle.service_core.proofs.world.World.fresh.Goals as goal

pub returns-clause-fresh : goal.returns-clause-fresh
returns-clause-fresh c =
    let below = subst (λ (s : State). c.args.number < s.register.catalogue.next) (sym c.self.view_is) c.requires.number in
    fresh_is c.self.inside.register c.fresh.new.self (whole c.self.inside.owners.items) c.args.kind c.args.number c.fresh.result c.self.invariant.given below c.fresh.ensures.given

pub invariant_of-self : goal.invariant_of-self
invariant_of-self c = built_fresh c.self.inside.register c.fresh.new.self c.self.inside.owners.items c.args.kind c.args.number c.fresh.result c.fresh.ensures.given c.self.invariant

pub returns-clause-says : goal.returns-clause-says
returns-clause-says c =
    let left = c.fresh.new.self in
    let lanes = c.self.inside.owners.items in
    subst (λ (s : State). WorldStillSays s (record { register = left; lanes = lanes })) c.self.view_is (both_still c.self.inside.register left lanes lanes c.fresh.ensures.says (λ held said. said))
