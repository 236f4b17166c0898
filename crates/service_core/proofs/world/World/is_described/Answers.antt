use Rattle.std.proofs.Common.{◌<◌, List, length, sym, subst}
use Rattle.flush_journal.specs.Records.{Held}
use Rattle.chunk_owner.specs.Lanes.{AreWholeObjects, Lane}
use Rattle.chunk_owner.specs.Owners.Joined.{AreLanes, whole}
use Rattle.chunk_owner.specs.Owners.Records.{AreStillIn, DescribesObjects, LanesSay}
use Rattle.service_core.specs.Described.Told.{AreWhole}
use Rattle.service_core.specs.Records.{DescribesWorld, IsKept, WorldSays}
use Rattle.service_core.specs.Worlds.{State, seen}
use Rattle.service_core.proofs.OfDescribed.WholeLemmas.{whole_of}
use Rattle.service_core.proofs.RecordLemmas.{all_told}
use Rattle.service_core.proofs.world.World.is_described.Goals as goal

pub are_described-requires-clause-some : goal.are_described-requires-clause-some
are_described-requires-clause-some c =
    subst (λ (ls : List Lane). 0 < length ls) (sym c.as_slice.ensures.value) (subst (λ n. 0 < n) (sym c.self.invariant.count) c.is_sound.ensures.register.some_lane)

pub are_described-requires-clause-lanes : goal.are_described-requires-clause-lanes
are_described-requires-clause-lanes c = subst (λ (ls : List Lane). AreLanes (length ls) 0 ls) (sym c.as_slice.ensures.value) c.self.invariant.lanes

pub returns-clause-described : goal.returns-clause-described
returns-clause-described c = subst (λ (s : State). IsKept s → (held : Held) → WorldSays s held → DescribesWorld held s.register.run (seen s)) c.self.view_is
    (all_told c.self.inside.register c.self.inside.owners.items c.self.invariant c.is_described.ensures
    (subst (λ (ls : List Lane). AreStillIn ls → (held : Held) → LanesSay ls held → DescribesObjects held (whole ls)) c.as_slice.ensures.value c.are_described.ensures.described))

pub returns-clause-whole : goal.returns-clause-whole
returns-clause-whole c = subst (λ (s : State). AreWhole (seen s).objects) c.self.view_is
    (whole_of (whole c.self.inside.owners.items) (subst (λ (ls : List Lane). AreWholeObjects (whole ls)) c.as_slice.ensures.value c.are_described.ensures.whole))
