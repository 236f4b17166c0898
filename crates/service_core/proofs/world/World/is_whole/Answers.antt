use Rattle.std.proofs.Common.{List, subst}
use Rattle.chunk_owner.specs.Lanes.{AreOfKind, AreShown, Lane}
use Rattle.chunk_owner.specs.Owners.Joined.{whole}
use Rattle.service_core.specs.Steps.{IsWorld}
use Rattle.service_core.specs.Worlds.{State, seen}
use Rattle.service_core.proofs.world.World.is_whole.Goals as goal

pub returns-clause-objects : goal.returns-clause-objects
returns-clause-objects c = subst (λ (s : State). IsWorld (seen s)) c.self.view_is (record {
  given = c.self.invariant.given;
  kinds = subst (λ (ls : List Lane). AreOfKind (whole ls)) c.as_slice.ensures.value c.are_whole.ensures.kinds;
  shown = subst (λ (ls : List Lane). AreShown (whole ls)) c.as_slice.ensures.value c.are_whole.ensures.shown;
})
