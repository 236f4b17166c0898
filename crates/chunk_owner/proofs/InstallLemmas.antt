-- Objects that records describe.
use Rattle.std.proofs.Common.{◌≡◌, ℕ, ◌≤◌, ◌<◌, List, Option, Some, None, option_and_then, refl, sym, subst}
use Rattle.std.specs.FinMap.{get}
use Rattle.flush_journal.specs.Records.{Held}
use Rattle.object_ids.specs.IdValues.{Id}
use Rattle.object_ids.specs.Ids.{InRange, lane_of}
use Rattle.object_acts.specs.declared.objects.Object.{Object}
use Rattle.object_acts.specs.Objects.{kind_of_body}
use Rattle.object_records.specs.Keys.Keys.{object, object_key}
use Rattle.object_records.specs.Entries.{entry_of}
use Rattle.object_records.specs.Objects.{object_of_body}
use Rattle.chunk_owner.specs.declared.slots.slot.Slot.{Slot}
use Rattle.chunk_owner.specs.Slots.Slots.{Describes, Slots, object_of, objects_of}
use Rattle.chunk_owner.proofs.OfSlots.Standing.{get-objects_of}
use Rattle.chunk_owner.specs.Installs.Records.{AreSound}
use Rattle.chunk_owner.proofs.LaneLemmas.{slot_of}

module _ (lanes lane run next : ℕ) (held : Held) (rules : AreSound lanes lane run next held) where
  -- what is described was made in a run and a domain that were given
  made_in : (id : Id) (o : Object) → InRange id → lane_of lanes id ≡ lane → Describes held id (Some o) → (id.run ≤ run) × (id.domain < next)
  made_in id o range at d = by (get held (object_key id)) refl d.1 where
    by : (found : Option (List ℕ)) → get held (object_key id) ≡ found → option_and_then (object_of_body (kind_of_body o.body)) found ≡ Some (entry_of o) → (id.run ≤ run) × (id.domain < next)
    by None is e = absurd (let none : None ≡ Some (entry_of o) = e in cc)
    by (Some body) is e = let r = rules (object id) body range at is in (r.made, r.number)

  module _ (slots : Slots) (described : (id : Id) → InRange id → lane_of lanes id ≡ lane → Describes held id (object_of (get slots id))) where
    pub described_at : (id : Id) → InRange id → lane_of lanes id ≡ lane → Describes held id (get (objects_of slots) id)
    described_at id range at = subst (λ (o : Option Object). Describes held id o) (sym (get-objects_of slots id)) (described id range at)

    pub given_at : ((id : Id) (s : Slot) → get slots id ≡ Some s → InRange id × (lane_of lanes id ≡ lane)) → (id : Id) (o : Object) → get (objects_of slots) id ≡ Some o → InRange id × (id.run ≤ run) × (id.domain < next)
    given_at own id o there =
        let s = slot_of slots id o there in
        let at = own id s.0 s.1 in
        let made = made_in id o at.0 at.1 (subst (λ (w : Option Object). Describes held id w) there (described_at id at.0 at.1)) in
        (at.0, made.0, made.1)
