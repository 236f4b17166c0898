use Rattle.std.proofs.Common.{Option, sym, subst, ◌∙◌}
use Rattle.std.specs.FinMap.{get}
use Rattle.flush_journal.specs.Records.{Held}
use Rattle.object_acts.specs.declared.objects.Object.{Object}
use Rattle.object_ids.specs.IdValues.{Id}
use Rattle.chunk_owner.specs.Installs.Records.{IsWholeObject}
use Rattle.chunk_owner.specs.Slots.Slots.{AreStill, Describes, Says}
use Rattle.chunk_owner.proofs.LaneLemmas.{slot_of}
use Rattle.chunk_owner.proofs.OfSlots.Spelled.{all_described, spelled_is_whole}
use Rattle.chunk_owner.proofs.OfSlots.Standing.{get-objects_of}
use Rattle.chunk_owner.specs.Lanes.{AreWholeObjects, Lane}
use Rattle.chunk_owner.proofs.owner.Owner.is_described.Goals as goal

pub returns-clause-described : goal.returns-clause-described
returns-clause-described c =
    let slots = c.self.inside.slots in
    subst (λ (l : Lane). AreStill l.slots → (id : Id) (held : Held) → Says (get l.slots id) id held → Describes held id (get l.objects id)) c.self.view_is
    (λ still id held said. subst (λ (o : Option Object). Describes held id o) (sym (get-objects_of slots id))
    (all_described slots c.self.invariant.0.kinds c.self.invariant.0.spelled c.records_describe.ensures still id held said))

pub returns-clause-whole : goal.returns-clause-whole
returns-clause-whole c =
    let slots = c.self.inside.slots in
    subst (λ (l : Lane). AreWholeObjects l.objects) c.self.view_is
    (λ id o there.
    let s = slot_of slots id o there in (
      c.self.invariant.0.range id s.0 s.1,
      subst IsWholeObject (sym (get-objects_of slots id) ∙ there) (spelled_is_whole (get slots id) (c.self.invariant.0.spelled id)),
    ))
