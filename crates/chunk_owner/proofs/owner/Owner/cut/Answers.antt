use Rattle.std.proofs.Common.{◌≡◌, subst}
use Rattle.std.specs.FinMap.{get}
use Rattle.object_ids.specs.IdValues.{Id}
use Rattle.object_ids.specs.Ids.{InRange}
use Rattle.flush_journal.specs.Batches.{records}
use Rattle.flush_journal.specs.Records.{Held}
use Rattle.flush_journal.specs.Cuts.Cuts.{AppendsEach, IsCut}
use Rattle.chunk_owner.specs.Slots.Bodies.{IsSlotRecord}
use Rattle.chunk_owner.specs.Slots.Slots.{IsMarked, Says, objects_of}
use Rattle.chunk_owner.specs.Lanes.{Lane}
use Rattle.chunk_owner.proofs.OfSlots.Standing.{objects-same}
use Rattle.chunk_owner.proofs.LaneLemmas.{owned_cut}
use Rattle.chunk_owner.proofs.owner.Owner.cut.Goals as goal

pub cut-requires-clause-kinds : goal.cut-requires-clause-kinds
cut-requires-clause-kinds c = c.self.invariant.0.kinds

pub cut-requires-clause-listed : goal.cut-requires-clause-listed
cut-requires-clause-listed c = c.self.invariant.1

pub invariant_of-self : goal.invariant_of-self
invariant_of-self c =
    owned_cut c.self.inside.lane c.self.inside.lanes c.self.inside.slots c.cut.new.slots c.self.inside.changes c.cut.new.changes c.cut.ensures.each c.cut.ensures.kinds c.cut.ensures.listed c.self.invariant.0

pub returns-clause-cut : goal.returns-clause-cut
returns-clause-cut c =
    subst (λ (l : Lane). (base : Held) → IsCut (IsMarked l.slots) base (records c.args.into.now) (records c.cut.new.into)
    (λ held. (id : Id) → InRange id → Says (get l.slots id) id base → Says (get c.cut.new.slots id) id held)) c.self.view_is c.cut.ensures.cut

pub returns-clause-bodies : goal.returns-clause-bodies
returns-clause-bodies c = subst (λ (l : Lane). AppendsEach (IsSlotRecord l.slots) (records c.args.into.now) (records c.cut.new.into)) c.self.view_is c.cut.ensures.bodies

pub returns-clause-objects : goal.returns-clause-objects
returns-clause-objects c =
    subst (λ (l : Lane). objects_of c.cut.new.slots ≡ l.objects) c.self.view_is (objects-same c.self.inside.slots c.cut.new.slots c.cut.ensures.same)
