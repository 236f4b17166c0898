-- What a call marks for the next cut.
use Rattle.std.proofs.Common.{◌≡◌, ◌≢◌, ◌⊎◌, inl, inr, ℕ, Bool, true, false, not, ◌&&◌, List, Option, Some, None, Result, Ok, Err, IfOk, OnOk, OnErr, refl, sym, ap, subst, ◌∙◌}
use Rattle.std.specs.FinMap.{get, insert}
use Rattle.std.proofs.lemmas.Option.{none-some}
use Rattle.object_ids.specs.IdValues.{Id}
use Rattle.object_ids.specs.Ids.{InRange}
use Rattle.object_ops.specs.declared.ops.Op.{Op}
use Rattle.object_ops.specs.declared.ops.Op.TheVariants.{PutShape, PutValue}
use Rattle.object_ops.specs.declared.replies.Reply.{Reply}
use Rattle.chunk_store.specs.Grids.{Grid}
use Rattle.object_acts.specs.Arrays.Marked.{IsDone, is_truncated, is_written}
use Rattle.object_acts.specs.declared.objects.Object.{Object}
use Rattle.object_acts.specs.declared.objects.Body.{Body}
use Rattle.object_acts.specs.declared.objects.Body.TheVariants as body
use Rattle.object_acts.specs.Marked.{MarksAloneIn, in_array, is_changed_by, is_dirty_in}
use Rattle.object_acts.specs.Objects.{unmarked, unmarked_body}
use Rattle.object_records.specs.Keys.Keys.{chunk_key, object_key}
use Rattle.chunk_owner.specs.declared.slots.slot.Mark.{Mark}
use Rattle.chunk_owner.specs.declared.slots.slot.Mark.TheVariants.{Kept, Changed, Dropped}
use Rattle.chunk_owner.specs.declared.slots.slot.Slot.{Slot}
use Rattle.chunk_owner.specs.Slots.Changed.{is_outdated, mark_after, writes_cells}
use Rattle.chunk_owner.specs.Slots.Marking.{AddsMarks, IsOutdated, IsOutdatedAt, IsToDrop}
use Rattle.chunk_owner.specs.Slots.Settled.{Settles}
use Rattle.chunk_owner.specs.Slots.Slots.{IsMarked, IsMarkedIn, IsMeantIn, IsStill, IsStillBody, Slots, is_index, object_of}
use Rattle.containers.proofs.Passing.{contrary}
use Rattle.chunk_owner.proofs.OfSlots.ChangedSlots.{live_object}
use Rattle.chunk_owner.proofs.OfSlots.KeptSlots.{put_here, put_others}
use Rattle.chunk_owner.proofs.OfSlots.LaneCuts.{settled_still}
use Rattle.chunk_owner.proofs.OfSlots.Placed.{everywhere}
use Rattle.object_ops.specs.Replies.{was_done}

-- ---- at one id, and at each

abbrev IsMarkedOf : Id → Option Slot → List ℕ → Type 0
IsMarkedOf id None key = ⊥
IsMarkedOf id (Some s) key = IsMarkedIn id s.mark s.object.body key

abbrev StillMarks : (List ℕ → Type 0) → Id → Option Slot → Option Slot → Type 0
StillMarks P id o p = (key : List ℕ) → IsMarkedOf id p key → IsMarkedOf id o key ⊎ P key

marked_of : (id : Id) (key : List ℕ) (m : Slots) (o : Option Slot) → InRange id → get m id ≡ o → IsMarkedOf id o key → IsMarked m key
marked_of id key m None range here marked = absurd marked
marked_of id key m (Some s) range here marked = record { id = id; range = range; slot = s; here = here; part = marked }

module _ (P : List ℕ → Type 0) (m n : Slots) where
  each_adds : ((q : Id) → StillMarks P q (get m q) (get n q)) → AddsMarks P m n
  each_adds still key marked = at (still marked.id key (subst (λ (o : Option Slot). IsMarkedOf marked.id o key) (sym marked.here) marked.part)) where
    at : IsMarkedOf marked.id (get m marked.id) key ⊎ P key → IsMarked m key ⊎ P key
    at (inl was) = inl (marked_of marked.id key m (get m marked.id) marked.range refl was)
    at (inr new) = inr new

  adds_at : (id : Id) → ((q : Id) → q ≢ id → get n q ≡ get m q) → StillMarks P id (get m id) (get n id) → AddsMarks P m n
  adds_at id others here = each_adds (everywhere (StillMarks P) m n id others here (λ q o key marked. inl marked))

  pub none_added : n ≡ m → AddsMarks P m n
  none_added same key marked = inl (subst (λ (x : Slots). IsMarked x key) same marked)

  pub adds_more : (Q : List ℕ → Type 0) → ((key : List ℕ) → P key → Q key) → AddsMarks P m n → AddsMarks Q m n
  adds_more Q more adds key marked = at (adds key marked) where
    at : IsMarked m key ⊎ P key → IsMarked m key ⊎ Q key
    at (inl was) = inl was
    at (inr new) = inr (more key new)

-- one slot is put in the place of another
slot_adds : (P : List ℕ → Type 0) (m : Slots) (id : Id) (s t : Slot) → get m id ≡ Some s
    → ((key : List ℕ) → IsMarkedIn id t.mark t.object.body key → IsMarkedIn id s.mark s.object.body key ⊎ P key) → AddsMarks P m (insert m id t)
slot_adds P m id s t here adds = adds_at P m (insert m id t) id (put_others m id t)
    (λ key marked. subst (λ (o : Option Slot). IsMarkedOf id o key ⊎ P key) (sym here) (adds key (subst (λ (o : Option Slot). IsMarkedOf id o key) (put_here m id t) marked)))

-- ---- objects that come and go

pub put_alone : {A E : Type 0} (m n : Slots) (id : Id) (o : Object) (r : Result A E) → OnOk r (n ≡ insert m id (record { object = o; mark = Changed })) → OnErr r (n ≡ m)
    → AddsMarks (IsMarkedIn id Changed o.body) m n
put_alone m n id o (Ok a) ok err = let t : Slot = record { object = o; mark = Changed } in
    subst (λ (x : Slots). AddsMarks (IsMarkedIn id Changed o.body) m x) (sym ok)
    (adds_at (IsMarkedIn id Changed o.body) m (insert m id t) id (put_others m id t) (λ key marked. inr (subst (λ (w : Option Slot). IsMarkedOf id w key) (put_here m id t) marked)))
put_alone m n id o (Err e) ok err = none_added (IsMarkedIn id Changed o.body) m n err

drop_marks : (id : Id) (mark : Mark) (b : Body) (key : List ℕ) → IsMarkedIn id Dropped b key → IsMarkedIn id mark b key ⊎ ((mark ≢ Dropped) × IsMarkedIn id Dropped b key)
drop_marks id Kept b key marked = inr ((λ e. absurd (cc)), marked)
drop_marks id Changed b key marked = inr ((λ e. absurd (cc)), marked)
drop_marks id Dropped b key marked = inl marked

pub removed_alone : (m : Slots) (id : Id) (s t : Slot) → get m id ≡ Some s → t.object ≡ s.object → t.mark ≡ Dropped → AddsMarks (IsToDrop id (get m id)) m (insert m id t)
removed_alone m id s t here same gone = subst (λ (o : Option Slot). AddsMarks (IsToDrop id o) m (insert m id t)) (sym here)
    (slot_adds (IsToDrop id (Some s)) m id s t here
    (λ key marked. drop_marks id s.mark s.object.body key
    (subst (λ (o : Object). IsMarkedIn id Dropped o.body key) same (subst (λ (x : Mark). IsMarkedIn id x t.object.body key) gone marked))))

-- ---- a slot that is changed

dirty_by : (mark : Mark) (b : Body) (i : List ℕ) → mark ≢ Dropped → IsMeantIn mark b i → is_dirty_in b i ≡ true
dirty_by mark (body.Group links) i live meant = absurd meant
dirty_by Kept (body.Dataset array) i live meant = meant
dirty_by Changed (body.Dataset array) i live meant = meant
dirty_by Dropped (body.Dataset array) i live meant = absurd (live refl)
dirty_by mark (body.Datatype type) i live meant = absurd meant

meant_by : (mark : Mark) (b : Body) (i : List ℕ) → mark ≢ Dropped → is_dirty_in b i ≡ true → IsMeantIn mark b i
meant_by mark (body.Group links) i live e = contrary false (IsMeantIn mark (body.Group links) i) e refl
meant_by Kept (body.Dataset array) i live e = e
meant_by Changed (body.Dataset array) i live e = e
meant_by Dropped (body.Dataset array) i live e = absurd (live refl)
meant_by mark (body.Datatype type) i live e = contrary false (IsMeantIn mark (body.Datatype type) i) e refl

module _ (P : List ℕ → Type 0) (id : Id) (s t : Slot) (live : s.mark ≢ Dropped) (alive : t.mark ≢ Dropped) (Q : List ℕ → Type 0) (chunks : MarksAloneIn Q s.object.body t.object.body)
    (own : (t.mark ≡ s.mark) ⊎ P (object_key id)) (theirs : (i : List ℕ) → is_index i ≡ true → Q i → P (chunk_key id i)) where
  own_marks : (key : List ℕ) → key ≡ object_key id → t.mark ≢ Kept → (t.mark ≡ s.mark) ⊎ P (object_key id) → IsMarkedIn id s.mark s.object.body key ⊎ P key
  own_marks key is changed (inl same) = inl (inl (is, λ kept. changed (same ∙ kept)))
  own_marks key is changed (inr new) = inr (subst P (sym is) new)

  slot_alone : (key : List ℕ) → IsMarkedIn id t.mark t.object.body key → IsMarkedIn id s.mark s.object.body key ⊎ P key
  slot_alone key (inl marked) = own_marks key marked.0 marked.1 own
  slot_alone key (inr marked) = at (chunks marked.0 (dirty_by t.mark t.object.body marked.0 alive marked.4)) where
    at : (is_dirty_in s.object.body marked.0 ≡ true) ⊎ Q marked.0 → IsMarkedIn id s.mark s.object.body key ⊎ P key
    at (inl dirty) = inl (inr (marked.0, marked.1, marked.2, marked.3, meant_by s.mark s.object.body marked.0 live dirty))
    at (inr new) = inr (subst P (sym marked.1) (theirs marked.0 marked.2 new))

-- the mark of an object after a change
mark_by : (done cells : Bool) (old new : Mark) → new ≡ mark_after old (done && not cells) → (new ≡ old) ⊎ ((done ≡ true) × (cells ≡ false))
mark_by true true old new is = inl is
mark_by true false old new is = inr (refl, refl)
mark_by false cells old new is = inl is

in_unmarked : (f : Grid → Bool) (b : Body) → in_array f (unmarked_body b) ≡ in_array f b
in_unmarked f (body.Group links) = refl
in_unmarked f (body.Dataset array) = refl
in_unmarked f (body.Datatype type) = refl

-- marks don't matter for what an operation changes
changed_unmarked : (op : Op) (b : Body) (i : List ℕ) → is_changed_by op (unmarked_body b) i ≡ is_changed_by op b i
changed_unmarked (PutValue id part value) b i = in_unmarked (λ g. is_written part g i) b
changed_unmarked (PutShape id dims) b i = in_unmarked (λ g. is_truncated dims g i) b
changed_unmarked op b i = refl

module _ (m : Slots) (id : Id) (s t : Slot) (here : get m id ≡ Some s) (live : s.mark ≢ Dropped) (alive : t.mark ≢ Dropped) where
  module _ (op : Op) where
    abbrev Outdates : {E : Type 0} → Result Reply E → List ℕ → Type 0
    Outdates r key = IsDone r × IsOutdatedAt id op (object_of (get m id)) key

    at_object : (key : List ℕ) → IsOutdated id op (unmarked s.object).body key → IsOutdatedAt id op (object_of (get m id)) key
    at_object key outdated = subst (λ (o : Option Object). IsOutdatedAt id op o key) (sym (ap object_of here ∙ live_object s.mark s.object live)) outdated

    own_mark : {E : Type 0} (r : Result Reply E) → IfOk r (λ reply. t.mark ≡ mark_after s.mark (is_outdated op reply)) → OnErr r (t.mark ≡ s.mark) → (t.mark ≡ s.mark) ⊎ Outdates r (object_key id)
    own_mark (Ok reply) after same = at (mark_by (was_done reply) (writes_cells op) s.mark t.mark after) where
      at : (t.mark ≡ s.mark) ⊎ ((was_done reply ≡ true) × (writes_cells op ≡ false)) → (t.mark ≡ s.mark) ⊎ ((was_done reply ≡ true) × IsOutdatedAt id op (object_of (get m id)) (object_key id))
      at (inl is) = inl is
      at (inr done) = inr (done.0, at_object (object_key id) (inl (refl, done.1)))
    own_mark (Err e) after same = inl same

    pub change_alone : {E : Type 0} (r : Result Reply E) → IfOk r (λ reply. t.mark ≡ mark_after s.mark (is_outdated op reply)) → OnErr r (t.mark ≡ s.mark)
        → MarksAloneIn (λ i. IsDone r × (is_changed_by op s.object.body i ≡ true)) s.object.body t.object.body → AddsMarks (λ key. IsDone r × IsOutdatedAt id op (object_of (get m id)) key) m (insert m id t)
    change_alone r after same chunks = slot_adds (Outdates r) m id s t here
        (slot_alone (Outdates r) id s t live alive (λ i. IsDone r × (is_changed_by op s.object.body i ≡ true)) chunks (own_mark r after same)
        (λ i index new. (new.0, at_object (chunk_key id i) (inr (i, refl, index, changed_unmarked op s.object.body i ∙ new.1)))))

  abbrev Links : {E : Type 0} → Result Reply E → List ℕ → Type 0
  Links r key = IsDone r × (key ≡ object_key id)

  link_mark : {E : Type 0} (r : Result Reply E) → IfOk r (λ reply. t.mark ≡ mark_after s.mark (was_done reply)) → OnErr r (t.mark ≡ s.mark) → (t.mark ≡ s.mark) ⊎ Links r (object_key id)
  link_mark (Ok reply) after same = at (was_done reply) refl after where
    at : (b : Bool) → was_done reply ≡ b → t.mark ≡ mark_after s.mark b → (t.mark ≡ s.mark) ⊎ ((was_done reply ≡ true) × (object_key id ≡ object_key id))
    at true done is = inr (done, refl)
    at false done is = inl is
  link_mark (Err e) after same = inl same

  pub link_alone : {E : Type 0} (r : Result Reply E) → IfOk r (λ reply. t.mark ≡ mark_after s.mark (was_done reply)) → OnErr r (t.mark ≡ s.mark)
      → ((i : List ℕ) → is_dirty_in t.object.body i ≡ is_dirty_in s.object.body i) → AddsMarks (λ key. IsDone r × (key ≡ object_key id)) m (insert m id t)
  link_alone r after same chunks = slot_adds (Links r) m id s t here
      (slot_alone (Links r) id s t live alive (λ i. ⊥) (λ i dirty. inl (sym (chunks i) ∙ dirty)) (link_mark r after same) (λ i index never. absurd never))

-- ---- a cut

no_chunk : (mark : Mark) (b : Body) (i : List ℕ) → mark ≡ Kept → IsStillBody b → IsMeantIn mark b i → ⊥
no_chunk mark (body.Group links) i kept still meant = meant
no_chunk mark (body.Dataset array) i kept still meant = contrary (is_dirty_in (body.Dataset array) i) ⊥ (subst (λ (x : Mark). IsMeantIn x (body.Dataset array) i) kept meant) (still i)
no_chunk mark (body.Datatype type) i kept still meant = meant

-- of what is still no key is marked
no_marks : (id : Id) (s : Slot) (key : List ℕ) → IsStill s → IsMarkedIn id s.mark s.object.body key → ⊥
no_marks id s key still (inl marked) = marked.1 still.0
no_marks id s key still (inr marked) = no_chunk s.mark s.object.body marked.0 still.0 still.1 marked.4

settled_slot : (o p : Option Slot) (t : Slot) → Settles o p → p ≡ Some t → IsStill t
settled_slot None p t settles e = absurd (none-some t (sym settles ∙ e))
settled_slot (Some s) p t settles e = settled_still s.mark s t p settles e

pub cut_marks : (m n : Slots) → ((q : Id) → (get n q ≡ get m q) ⊎ Settles (get m q) (get n q)) → (key : List ℕ) → IsMarked n key → IsMarked m key
cut_marks m n each key marked = at (each marked.id) where
  at : (get n marked.id ≡ get m marked.id) ⊎ Settles (get m marked.id) (get n marked.id) → IsMarked m key
  at (inl same) = record { id = marked.id; range = marked.range; slot = marked.slot; here = sym same ∙ marked.here; part = marked.part }
  at (inr settles) = absurd (no_marks marked.id marked.slot key (settled_slot (get m marked.id) (get n marked.id) marked.slot settles marked.here) marked.part)
