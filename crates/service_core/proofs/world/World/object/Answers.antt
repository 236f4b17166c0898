use Rattle.std.proofs.Common.{sym, ap, ◌∙◌}
use Rattle.std.specs.FinMap.{get}
use Rattle.service_core.specs.Worlds.{State, seen}
use Rattle.service_core.proofs.WorldLemmas.{object_in}
use Rattle.service_core.proofs.world.World.object.Goals as goal

pub returns-clause-value : goal.returns-clause-value
returns-clause-value c =
    c.object.ensures.value
    ∙ sym (object_in c.self.inside.register c.self.inside.owners.items c.self.invariant c.args.id.now c.lanes.result c.lane-lane.result c.index.result.now
    c.lanes.ensures.lanes c.lane-lane.ensures.lane c.lane-lane.ensures.below (sym c.index.ensures))
    ∙ ap (λ (s : State). get (seen s).objects c.args.id.now) c.self.view_is
