-- The objects of one domain are noted, kind by kind.
use Rattle.std.proofs.Common.{◌≡◌, ℕ, ◌<◌, ◌≤◌, false, length, Option, Some, None, refl, sym, subst, ◌∙◌, arith}
use Rattle.std.specs.FinMap.{entries, get}
use Rattle.containers.specs.TextMaps.Nexts.{is_behind, left}
use Rattle.object_ids.specs.IdOrder.{id_order}
use Rattle.object_ids.specs.IdValues.{Id}
use Rattle.object_ids.specs.declared.ids.Kind.{Kind}
use Rattle.object_ids.specs.declared.ids.Kind.TheVariants.{Group, Dataset, Datatype}
use Rattle.chunk_owner.specs.declared.slots.changes.Changes.{Changes}
use Rattle.chunk_owner.specs.declared.slots.slot.Slot.{Slot}
use Rattle.chunk_owner.specs.Slots.Forgetting.{IsNextIn}
use Rattle.chunk_owner.specs.Slots.Listed.{IsNoted, KeepsListed}
use Rattle.chunk_owner.specs.Slots.Slots.{Slots}
use Rattle.containers.proofs.Passing.{by_bool}
use Rattle.chunk_owner.proofs.OfSlots.Forgotten.{from_first}
use Rattle.chunk_owner.proofs.OfSlots.LaneCuts.{by_place}
use Rattle.chunk_owner.proofs.OfSlots.Listing.{noted_more}
use Rattle.chunk_owner.proofs.OfSlots.Standing.{fewer_left}

none_noted : (c : Changes) (q : Id) (o : Option Slot) → o ≡ None → IsNoted c q o
none_noted c q o none = subst (λ (w : Option Slot). IsNoted c q w) (sym none) (record { still = λ isnt. tt; spelled = tt })

-- those of a kind up to an id are noted
pub record AreNotedTo (kind : Kind) (number : ℕ) (slots : Slots) (old cur : Changes) (last : Id) : Type 0 where
  pub at : last.kind ≡ kind
  pub noted : (q : Id) → q.kind ≡ kind → q.domain ≡ number → is_behind id_order (Some last) q ≡ false → IsNoted cur q (get slots q)
  pub more : KeepsListed old cur

module _ (kind : Kind) (number : ℕ) (slots : Slots) (old : Changes) where
  pub noted_first : (new : Changes) (first : Id) → first.kind ≡ kind → first.domain ≤ number → first.run ≡ 0 → first.serial ≡ 0 → IsNoted new first (get slots first) → KeepsListed old new
      → AreNotedTo kind number slots old new first
  noted_first new first of below run serial here more = record {
    at = of;
    noted = λ q k d isnt. subst (λ (x : Id). IsNoted new x (get slots x)) (sym (from_first first q (of ∙ sym k) (omega (arith, below, d)) run serial isnt)) here;
    more = more;
  }

  module _ (cur : Changes) (last : Id) (a : AreNotedTo kind number slots old cur last) where
    pub noted_next : (new : Changes) (id : Id) → IsNextIn number slots last (Some id) → IsNoted new id (get slots id) → KeepsListed cur new → AreNotedTo kind number slots old new id
    noted_next new id next here more = record {
      at = next.2 ∙ a.at;
      noted = λ q k d isnt. by_place id q (IsNoted new q (get slots q)) isnt
          (λ same. subst (λ (x : Id). IsNoted new x (get slots x)) (sym same) here)
          (λ other less. noted_more cur new more q (get slots q)
          (by_bool (is_behind id_order (Some last) q) (IsNoted cur q (get slots q)) (λ b. none_noted cur q (get slots q) (next.3 q b less)) (λ b. a.noted q k d b)));
      more = λ q were. more q (a.more q were);
    }

    pub noted_fewer : (id : Id) → IsNextIn number slots last (Some id) → length (left id_order (Some id) (entries slots)) < length (left id_order (Some last) (entries slots))
    noted_fewer id next = fewer_left slots (Some last) id next.0 next.1

    pub noted_kind : IsNextIn number slots last None → (q : Id) → q.kind ≡ kind → q.domain ≡ number → IsNoted cur q (get slots q)
    noted_kind none q k d = by_bool (is_behind id_order (Some last) q) (IsNoted cur q (get slots q)) (λ b. none_noted cur q (get slots q) (none q b (k ∙ sym a.at) d)) (λ b. a.noted q k d b)

-- so are those of all kinds
pub noted_domain : (number : ℕ) (slots : Slots) (a b new : Changes) → ((q : Id) → q.kind ≡ Group → q.domain ≡ number → IsNoted a q (get slots q)) → ((q : Id) → q.kind ≡ Dataset → q.domain ≡ number → IsNoted b q (get slots q))
    → ((q : Id) → q.kind ≡ Datatype → q.domain ≡ number → IsNoted new q (get slots q)) → KeepsListed a b → KeepsListed b new → (q : Id) → q.domain ≡ number → IsNoted new q (get slots q)
noted_domain number slots a b new first second third more most q d = at q.kind refl where
  at : (k : Kind) → q.kind ≡ k → IsNoted new q (get slots q)
  at Group k = noted_more b new most q (get slots q) (noted_more a b more q (get slots q) (first q k d))
  at Dataset k = noted_more b new most q (get slots q) (second q k d)
  at Datatype k = third q k d
