use Rattle.std.proofs.Common.{sym, ap, ◌∙◌}
use Rattle.std.specs.FinMap.{get}
use Rattle.chunk_owner.proofs.OfSlots.Standing.{get-objects_of}
use Rattle.chunk_owner.specs.Lanes.{Lane}
use Rattle.chunk_owner.proofs.owner.Owner.object.Goals as goal

pub returns-clause-value : goal.returns-clause-value
returns-clause-value c = c.object.ensures.value ∙ sym (get-objects_of c.self.inside.slots c.args.id.now) ∙ ap (λ (l : Lane). get l.objects c.args.id.now) c.self.view_is

pub returns-clause-kind : goal.returns-clause-kind
returns-clause-kind c = c.object.ensures.kind c.self.invariant.0.kinds
