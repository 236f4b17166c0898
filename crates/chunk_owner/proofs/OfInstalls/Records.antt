-- One record of a lane: what it is to a walk over the lane, and to the slots.
use Rattle.std.proofs.Common.{◌≡◌, ◌≢◌, ℕ, List, ◌∷◌, Result, Ok, Err, OnOk, OnErr, Option, Some, sym, subst, ◌∙◌}
use Rattle.std.specs.FinMap.{get, insert}
use Rattle.std.proofs.lemmas.Option.{same_Some}
use Rattle.flush_journal.specs.Records.{Held, Record}
use Rattle.object_ids.specs.IdValues.{Id}
use Rattle.object_ids.specs.Ids.{InRange, lane_of}
use Rattle.object_acts.specs.Objects.{IsOfKind}
use Rattle.object_records.specs.Objects.{IsKeptBody}
use Rattle.object_records.specs.Keys.Keys.{IsChunk, IsSubject, Subject, chunk_key, key_of, object_key}
use Rattle.object_records.specs.Keys.Keys.{the_run, node, object, chunk, next_number}
use Rattle.object_records.proofs.OfKeys.KeyLaws.{same_subject}
use Rattle.containers.specs.TextMaps.Fronts.{IsLeast}
use Rattle.chunk_owner.specs.declared.slots.slot.Slot.{Slot}
use Rattle.chunk_owner.specs.declared.installs.faults.RecordFault.{RecordFault}
use Rattle.chunk_owner.specs.declared.installs.faults.RecordFault.TheVariants.{BadRecord, NoMemory}
use Rattle.chunk_owner.specs.Slots.Slots.{IsSpelledSlot, IsStill, IsStillSlot, Slots}
use Rattle.chunk_owner.specs.Lanes.{AreSlotsOf}
use Rattle.chunk_owner.specs.Installs.Records.{IsFault, IsOfLane, IsOther}
use Rattle.chunk_owner.specs.Installs.Walks.{Blames, Installs, InstallsObject, IsRefused, IsWalk, KeepsSlot, KeepsStill}
use Rattle.chunk_owner.proofs.OfSlots.KeptSlots.{put_here, put_others}
use Rattle.chunk_owner.proofs.OfInstalls.LaneKeys.{by_id}
use Rattle.chunk_owner.proofs.OfInstalls.Walking.{fault_chunk, fault_object, walk_chunk, walk_object, walk_skip}

-- ---- faults

pub blame_map : (e : RecordFault) (P Q : Type 0) → (P → Q) → Blames e P → Blames e Q
blame_map BadRecord P Q f bad = f bad
blame_map NoMemory P Q f bad = tt

-- ---- of which lane it is

-- the key is of nothing of a lane
abbrev pub IsElsewhere : ℕ → ℕ → List ℕ → Type 0
IsElsewhere lanes lane key = ((id : Id) → InRange id → lane_of lanes id ≡ lane → object_key id ≢ key)
    × ((id : Id) (i : List ℕ) → IsChunk id i → lane_of lanes id ≡ lane → chunk_key id i ≢ key)

pub other_elsewhere : (lanes lane : ℕ) (key : List ℕ) → IsOther key → IsElsewhere lanes lane key
other_elsewhere lanes lane key other = (λ id range own. other.0 id range, λ id i is own. other.1 id i is)

pub elsewhere : (lanes lane : ℕ) (key : List ℕ) (s : Subject) → IsSubject s → key_of s ≡ key → (IsOfLane lanes lane s → ⊥) → IsElsewhere lanes lane key
elsewhere lanes lane key s is of away = (
  λ id range own same. away (subst (λ (x : Subject). IsOfLane lanes lane x) (same_subject (object id) s range is (same ∙ sym of)) own),
  λ id i fine own same. away (subst (λ (x : Subject). IsOfLane lanes lane x) (same_subject (chunk id i) s fine is (same ∙ sym of)) own),
)

-- it is of one lane alone
pub one_lane : (lanes lane n : ℕ) (s : Subject) → IsOfLane lanes lane s → IsOfLane lanes n s → n ≡ lane
one_lane lanes lane n the_run a b = absurd a
one_lane lanes lane n (node path) a b = absurd a
one_lane lanes lane n (object id) a b = sym b ∙ a
one_lane lanes lane n (chunk id i) a b = sym b ∙ a
one_lane lanes lane n next_number a b = absurd a

-- so its key is not one of those of no lane
pub not_other : (lanes lane : ℕ) (key : List ℕ) (s : Subject) → IsSubject s → IsOfLane lanes lane s → key_of s ≡ key → IsOther key → ⊥
not_other lanes lane key the_run is own of other = own
not_other lanes lane key (node path) is own of other = own
not_other lanes lane key (object id) is own of other = other.0 id is of
not_other lanes lane key (chunk id i) is own of other = other.1 id i is of
not_other lanes lane key next_number is own of other = own

-- ---- what it is to a walk

module _ (lanes lane run next : ℕ) (held : Held) (rest : List Record) (e : Record) (slots : Slots) (w : IsWalk lanes lane run next held (e ∷ rest) slots) where
  pub walk_elsewhere : IsElsewhere lanes lane e.0 → IsWalk lanes lane run next held rest slots
  walk_elsewhere away = walk_skip lanes lane run next held rest e slots w away.0 away.1

  pub walk_installed : (s : Subject) → IsSubject s → IsOfLane lanes lane s → key_of s ≡ e.0 → (m : Slots) → Installs run next s e.1 slots m → IsWalk lanes lane run next held rest m
  walk_installed the_run is own of m done = absurd own
  walk_installed (node path) is own of m done = absurd own
  walk_installed (object id) is own of m done = walk_object lanes lane run next held rest e slots w id is own of m done
  walk_installed (chunk id i) is own of m done = walk_chunk lanes lane run next held rest e slots w id i is own of m done
  walk_installed next_number is own of m done = absurd own

  pub walk_refused : (s : Subject) → IsSubject s → IsOfLane lanes lane s → key_of s ≡ e.0 → IsRefused run next s e.1 slots → IsLeast (IsFault lanes lane run next held) e.0
  walk_refused the_run is own of bad = absurd own
  walk_refused (node path) is own of bad = absurd own
  walk_refused (object id) is own of bad = fault_object lanes lane run next held rest e slots w BadRecord id is own of bad
  walk_refused (chunk id i) is own of bad = fault_chunk lanes lane run next held rest e slots w BadRecord id i is own of bad
  walk_refused next_number is own of bad = absurd own

-- ---- what it is to slots

module _ (m : Slots) (id : Id) (t : Slot) where
  each_put : (P : Id → Slot → Type 0) → P id t → ((q : Id) (s : Slot) → get m q ≡ Some s → P q s) → (q : Id) (s : Slot) → get (insert m id t) q ≡ Some s → P q s
  each_put P here were = by_id (λ q. (s : Slot) → get (insert m id t) q ≡ Some s → P q s) id
      (λ s there. subst (λ (x : Slot). P id x) (same_Some t s (sym (put_here m id t) ∙ there)) here)
      (λ q other s there. were q s (sym (put_others m id t q other) ∙ there))

  at_put : (P : Option Slot → Option Slot → Type 0) → P (get m id) (Some t) → ((o : Option Slot) → P o o) → (q : Id) → P (get m q) (get (insert m id t) q)
  at_put P here same = by_id (λ q. P (get m q) (get (insert m id t) q)) id
      (subst (λ (o : Option Slot). P (get m id) o) (sym (put_here m id t)) here)
      (λ q other. subst (λ (o : Option Slot). P (get m q) o) (sym (put_others m id t q other)) (same (get m q)))

  put_slots : (lane lanes : ℕ) → lane_of lanes id ≡ lane → InRange id → IsOfKind id.kind t.object → IsKeptBody t.object.body → AreSlotsOf lane lanes m → AreSlotsOf lane lanes (insert m id t)
  put_slots lane lanes own range kind kept were = record {
    below = were.below;
    home = each_put (λ q s. lane_of lanes q ≡ lane) own were.home;
    range = each_put (λ q s. InRange q) range were.range;
    kinds = each_put (λ q s. IsOfKind q.kind s.object) kind were.kinds;
    spelled = λ q. at_put (λ o p. IsSpelledSlot o → IsSpelledSlot p) (λ was. kept) (λ o was. was) q (were.spelled q);
  }

  put_still : (IsStillSlot (get m id) → IsStill t) → KeepsStill m (insert m id t)
  put_still here = at_put (λ o p. IsStillSlot o → IsStillSlot p) here (λ o was. was)

module _ {E : Type 0} (run next : ℕ) (id : Id) (body : List ℕ) (m n : Slots) where
  pub object_slots : (r : Result (Unit {0}) E) → OnOk r (InstallsObject run next id body m n) → OnErr r (n ≡ m)
      → (lane lanes : ℕ) → InRange id → lane_of lanes id ≡ lane → AreSlotsOf lane lanes m → AreSlotsOf lane lanes n
  object_slots (Ok u) done same lane lanes range own were =
      let new = done.1.installed in
      subst (λ (x : Slots). AreSlotsOf lane lanes x) (sym done.2) (put_slots m id done.0 lane lanes own range new.kind new.whole were)
  object_slots (Err e) done same lane lanes range own were = subst (λ (x : Slots). AreSlotsOf lane lanes x) (sym same) were

  pub object_still : (r : Result (Unit {0}) E) → OnOk r (InstallsObject run next id body m n) → OnErr r (n ≡ m) → KeepsStill m n
  object_still (Ok u) done same =
      let new = done.1.installed in
      subst (λ (x : Slots). KeepsStill m x) (sym done.2) (put_still m id done.0 (λ was. (new.mark, new.still)))
  object_still (Err e) done same = subst (λ (x : Slots). KeepsStill m x) (sym same) (λ q was. was)

module _ (m : Slots) (id : Id) (s t : Slot) (here : get m id ≡ Some s) (keeps : KeepsSlot s t) where
  pub chunk_slots : (lane lanes : ℕ) → AreSlotsOf lane lanes m → AreSlotsOf lane lanes (insert m id t)
  chunk_slots lane lanes were = put_slots m id t lane lanes (were.home id s here) (were.range id s here) changed (keeps.body.whole (subst IsSpelledSlot here (were.spelled id))) were where
    changed : IsOfKind id.kind t.object
    changed = let was = were.kinds id s here in record { kind = keeps.body.kind ∙ was.kind; sound = keeps.body.sound was.sound }

  pub chunk_still : KeepsStill m (insert m id t)
  chunk_still = put_still m id t (λ was. let still : IsStill s = subst IsStillSlot here was in (keeps.mark ∙ still.0, keeps.body.still still.1))
