use Rattle.std.proofs.Common.{◌≡◌, ap, ◌∙◌}
use Rattle.std.specs.FinMap.{empty}
use Rattle.chunk_owner.specs.Slots.Slots.{objects_of}
use Rattle.chunk_owner.proofs.OfSlots.Standing.{objects-empty}
use Rattle.chunk_owner.proofs.LaneLemmas.{owned_none}
use Rattle.chunk_owner.proofs.owner.Owner.new.Goals as goal

pub invariant_of-result : goal.invariant_of-result
invariant_of-result c = owned_none c.args.lane c.args.lanes c.new.result c.new-2.result c.new.ensures c.requires

pub returns : goal.returns
returns c =
    let none : objects_of c.new.result ≡ empty = ap objects_of c.new.ensures ∙ objects-empty in
    λ i. record { lane = c.args.lane; lanes = c.args.lanes; objects = none i; slots = c.new.ensures i }
