use Rattle.std.proofs.Common.{subst}
use Rattle.chunk_owner.specs.Lanes.{AreShown, IsWhole, Lane}
use Rattle.chunk_owner.proofs.LaneLemmas.{slots_shown, whole_lane}
use Rattle.chunk_owner.proofs.owner.Owner.is_whole.Goals as goal

pub returns-clause-own : goal.returns-clause-own
returns-clause-own c = subst IsWhole c.self.view_is (whole_lane c.self.inside.lane c.self.inside.lanes c.self.inside.slots c.self.invariant.0)

pub returns-clause-shown : goal.returns-clause-shown
returns-clause-shown c = subst (λ (l : Lane). AreShown l.objects) c.self.view_is (slots_shown c.self.inside.slots)
