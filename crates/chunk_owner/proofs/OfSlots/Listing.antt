-- The objects that the next cut looks at.
use Rattle.std.proofs.Common.{◌≡◌, ◌≢◌, ℕ, ◌<◌, ◌||◌, Bool, true, false, cond, length, Option, Some, None, is_some, IfSome, refl, sym, ap, subst, ◌∙◌}
use Rattle.std.specs.FinMap.{FinMap, empty, entries, get, insert, get-empty, get-insert}
use Rattle.std.specs.Ordering.{eq_by_cmp}
use Rattle.containers.specs.TextMaps.Nexts.{is_behind, left, IsNext}
use Rattle.object_ids.specs.IdOrder.{id_order}
use Rattle.object_ids.specs.IdValues.{Id}
use Rattle.object_ids.proofs.IdOrders.{id_order_total, itself}
use Rattle.chunk_owner.specs.declared.slots.changes.Changes.{Changes}
use Rattle.chunk_owner.specs.declared.slots.slot.Slot.{Slot}
use Rattle.chunk_owner.specs.Slots.Listed.{AreListed, IsNextLook, IsNoted, KeepsListed, Notes, is_listed, is_looked_at}
use Rattle.chunk_owner.specs.Slots.Slots.{AreStill, IsStillSlot, Slots}
use Rattle.containers.proofs.Passing.{by_bool, contrary}
use Rattle.chunk_owner.proofs.OfSlots.Placed.{everywhere}
use Rattle.chunk_owner.proofs.OfSlots.Standing.{fewer_left}

-- ---- an id is listed

module _ {X : Type 0} (all : Bool) (m n : FinMap id_order X) (id : Id) (x : X) (put : n ≡ insert m id x) where
  pub put_listed : (all || is_some (get n id)) ≡ true
  put_listed = at all where
    at : (b : Bool) → (b || is_some (get n id)) ≡ true
    at true = refl
    at false = ap (λ (w : FinMap id_order X). is_some (get w id)) put ∙ ap is_some (get-insert id_order_total m id x id) ∙ ap (λ b. is_some (cond b (Some x) (get m id))) (itself id)

  pub put_keeps : (q : Id) → (all || is_some (get m q)) ≡ true → (all || is_some (get n q)) ≡ true
  put_keeps q were = at all were where
    found : (b : Bool) → is_some (get m q) ≡ true → is_some (cond b (Some x) (get m q)) ≡ true
    found true there = refl
    found false there = there

    at : (b : Bool) → (b || is_some (get m q)) ≡ true → (b || is_some (get n q)) ≡ true
    at true there = refl
    at false there = ap (λ (w : FinMap id_order X). is_some (get w q)) put ∙ ap is_some (get-insert id_order_total m id x q) ∙ found (eq_by_cmp id_order q id) there

-- none stands in an empty list
module _ {X : Type 0} (m : FinMap id_order X) (none : m ≡ empty) where
  pub none_listed : (q : Id) → (false || is_some (get m q)) ≡ false
  none_listed q = ap (λ (w : FinMap id_order X). is_some (get w q)) none ∙ ap is_some (get-empty id_order q)

-- what is looked at by none was so before
pub unlisted : (old new : Changes) → KeepsListed old new → (q : Id) → is_listed new q ≡ false → is_listed old q ≡ false
unlisted old new more q isnt = by_bool (is_listed old q) (is_listed old q ≡ false) (λ y. contrary (is_listed new q) (is_listed old q ≡ false) (more q y) isnt) (λ n. n)

pub noted_more : (old new : Changes) → KeepsListed old new → (q : Id) (o : Option Slot) → IsNoted old q o → IsNoted new q o
noted_more old new more q o was = record { still = λ isnt. was.still (unlisted old new more q isnt); spelled = was.spelled }

-- ---- nothing changed

pub still_slot : (slots : Slots) → AreStill slots → (q : Id) → IsStillSlot (get slots q)
still_slot slots still q = at (get slots q) refl where
  at : (o : Option Slot) → get slots q ≡ o → IsStillSlot o
  at None here = tt
  at (Some s) here = still q s here

pub still_listed : (c : Changes) (slots : Slots) → AreStill slots → AreListed c slots
still_listed c slots still q isnt = still_slot slots still q

-- ---- one object changed

pub listed_at : (old new : Changes) (m n : Slots) (id : Id) → ((q : Id) → q ≢ id → get n q ≡ get m q) → Notes id n old new → AreListed old m → AreListed new n
listed_at old new m n id others notes were q =
    everywhere (λ q o p. (is_listed old q ≡ false → IsStillSlot o) → is_listed new q ≡ false → IsStillSlot p) m n id others
    (λ was isnt. notes.here.still isnt) (λ q o was isnt. was (unlisted old new notes.more q isnt)) q (were q)

-- ---- a walk

none_still : (o : Option Slot) → o ≡ None → IsStillSlot o
none_still o none = subst IsStillSlot (sym none) tt

pub look_all : (slots : Slots) (last next : Option Id) → IsNext slots last next → IsNextLook slots last next
look_all slots last None none = λ q b. none_still (get slots q) (none q b)
look_all slots last (Some id) next = (next.0, λ q b less. none_still (get slots q) (next.2 q b less))

module _ (c : Changes) (slots : Slots) (last : Option Id) where
  missing : c.all ≡ false → (q : Id) → get c.listed q ≡ None → is_listed c q ≡ false
  missing few q none = ap (λ b. b || is_some (get c.listed q)) few ∙ ap is_some none

  pub look_listed : (next : Option Id) → c.all ≡ false → IsNext c.listed last next → AreListed c slots → IsNextLook slots last next
  look_listed None few none listed = λ q b. listed q (missing few q (none q b))
  look_listed (Some id) few next listed = (next.0, λ q b less. listed q (missing few q (next.2 q b less)))

  pub looked_all : (next : Option Id) → c.all ≡ true → IsNext slots last next → IfSome next (λ id. is_looked_at c slots id ≡ true)
  looked_all None all next = tt
  looked_all (Some id) all next = ap (λ b. cond b (is_some (get slots id)) (is_some (get c.listed id))) all ∙ next.1

  pub looked_listed : (next : Option Id) → c.all ≡ false → IsNext c.listed last next → IfSome next (λ id. is_looked_at c slots id ≡ true)
  looked_listed None few next = tt
  looked_listed (Some id) few next = ap (λ b. cond b (is_some (get slots id)) (is_some (get c.listed id))) few ∙ next.1

-- how many are still to be looked at
abbrev pub looks_left : Changes → Slots → Option Id → ℕ
looks_left c slots last = cond c.all (length (left id_order last (entries slots))) (length (left id_order last (entries c.listed)))

pub fewer_looks : (c : Changes) (slots : Slots) (last : Option Id) (id : Id) → is_behind id_order last id ≡ true → is_looked_at c slots id ≡ true → looks_left c slots (Some id) < looks_left c slots last
fewer_looks c slots last id behind looked = at c.all looked where
  at : (b : Bool) → cond b (is_some (get slots id)) (is_some (get c.listed id)) ≡ true
      → cond b (length (left id_order (Some id) (entries slots))) (length (left id_order (Some id) (entries c.listed)))
      < cond b (length (left id_order last (entries slots))) (length (left id_order last (entries c.listed)))
  at true there = fewer_left slots last id behind there
  at false there = fewer_left c.listed last id behind there
