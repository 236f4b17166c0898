-- What records say of objects that come and go.
use Rattle.std.proofs.Common.{◌≡◌, ◌≢◌, ℕ, Bool, true, false, List, [], Option, Some, None, is_some, is_eq, OnOk, OnErr, Result, Ok, Err, refl, sym, ap, subst, ◌∙◌}
use Rattle.std.specs.Cmp.{Equal-is}
use Rattle.std.specs.FinMap.{empty, get, insert, get-empty}
use Rattle.std.proofs.lemmas.Cmp.{tied_itself}
use Rattle.std.proofs.lemmas.Option.{same_Some}
use Rattle.object_ids.specs.IdOrder.{id_order}
use Rattle.object_ids.specs.IdValues.{Id}
use Rattle.object_ids.specs.declared.ids.Kind.TheVariants.{Dataset}
use Rattle.object_ids.proofs.IdOrders.{id_order_once, id_order_total}
use Rattle.chunk_store.specs.Marks.{IsTracked, Stands, Stored, is_known, state}
use Rattle.object_acts.specs.declared.objects.Object.{Object}
use Rattle.object_acts.specs.declared.objects.Body.{Body}
use Rattle.object_acts.specs.declared.objects.Body.TheVariants as body
use Rattle.object_acts.specs.Objects.{IsOfKind, IsTrackedBody, kind_of_body, unmarked}
use Rattle.flush_journal.specs.Records.{Held}
use Rattle.chunk_owner.specs.declared.slots.slot.Mark.{Mark}
use Rattle.chunk_owner.specs.declared.slots.slot.Mark.TheVariants.{Kept, Changed, Dropped}
use Rattle.chunk_owner.specs.declared.slots.slot.Slot.{Slot}
use Rattle.object_records.specs.Keys.Keys.{object_key}
use Rattle.chunk_owner.specs.Slots.Bodies.{IsUndropped}
use Rattle.chunk_owner.specs.Slots.Slots.{AreChunksIn, AreChunksOf, AreOfKind, HasNoChunks, HasRecord, HasSameIds, Says, Slots, chunks_at, object_by, object_of}
use Rattle.containers.proofs.Passing.{by_bool, contrary}
use Rattle.chunk_owner.proofs.OfSlots.KeptSlots.{put_here, put_others}

-- ---- a new object

fresh_chunks : (id : Id) (b : Body) (held : Held) → kind_of_body b ≡ id.kind → IsTrackedBody (λ _. []) b → HasNoChunks held id → AreChunksIn Changed (chunks_at held id) b
fresh_chunks id (body.Group links) held kind tracked none = tt
fresh_chunks id (body.Dataset array) held kind tracked none = subst (λ (f : List ℕ → List ℕ). IsTracked f array) (λ k i. sym (none (sym kind) i) k) tracked
fresh_chunks id (body.Datatype type) held kind tracked none = tt

-- no chunk of a dataset's id that has no slot has a record
no_chunks : (id : Id) (old : Option Slot) (held : Held) → (id.kind ≡ Dataset → old ≡ None) → Says old id held → HasNoChunks held id
no_chunks id old held free said = λ dataset. (subst (λ (w : Option Slot). Says w id held) (free dataset) said).1 dataset

new_said : (id : Id) (o : Object) (held : Held) → IsOfKind id.kind o → IsTrackedBody (λ _. []) o.body → HasNoChunks held id → Says (Some (record { object = o; mark = Changed })) id held
new_said id o held kind tracked none = (tt, fresh_chunks id o.body held kind.kind tracked none)

-- ---- a removed object

unknown : (o : Option Bool) (P : Type 0) → is_some o ≡ false → (o ≡ None → P) → P
unknown None P e f = f refl
unknown (Some b) P e f = contrary true P refl e

tracked_gone : (f : List ℕ → List ℕ) (s : Stored) → IsTracked f s → (i : List ℕ) → is_known s i ≡ false → f i ≡ []
unfolding IsTracked
tracked_gone f s tracked i e = unknown (state s i) (f i ≡ []) e (λ none. (subst (λ (o : Option Bool). Stands (f i) o s.grid i) none (tracked i)).0)

chunks_gone : (mark : Mark) (f : List ℕ → List ℕ) (s : Stored) → AreChunksOf mark f s → AreChunksOf Dropped f s
chunks_gone Kept f s said = tracked_gone f s said
chunks_gone Changed f s said = tracked_gone f s said
chunks_gone Dropped f s said = said

body_gone : (mark : Mark) (f : List ℕ → List ℕ) (b : Body) → AreChunksIn mark f b → AreChunksIn Dropped f b
body_gone mark f (body.Group links) said = tt
body_gone mark f (body.Dataset array) said = chunks_gone mark f array said
body_gone mark f (body.Datatype type) said = tt

gone_said : (id : Id) (s t : Slot) (held : Held) → t.object ≡ s.object → t.mark ≡ Dropped → Says (Some s) id held → Says (Some t) id held
gone_said id s t held same gone said =
    subst (λ (o : Object). HasRecord t.mark o (get held (object_key id)) × AreChunksIn t.mark (chunks_at held id) o.body) (sym same)
    (subst (λ (m : Mark). HasRecord m s.object (get held (object_key id)) × AreChunksIn m (chunks_at held id) s.object.body) (sym gone) (tt, body_gone s.mark (chunks_at held id) s.object.body said.1))

-- ---- among others

module _ (P : Id → Option Slot → Option Slot → Type 0) (m n : Slots) (id : Id) (others : (q : Id) → q ≢ id → get n q ≡ get m q) (here : P id (get m id) (get n id)) (stay : (q : Id) (o : Option Slot) → P q o o) where
  -- what holds at one id, and where nothing changes, holds everywhere
  pub everywhere : (q : Id) → P q (get m q) (get n q)
  everywhere q = by_bool (is_eq (id_order q id)) (P q (get m q) (get n q))
      (λ y. subst (λ (x : Id). P x (get m x) (get n x)) (sym (id_order_once q id ((Equal-is (id_order q id)).0 y))) here)
      (λ isnt. subst (λ (o : Option Slot). P q (get m q) o) (sym (others q (apart q isnt))) (stay q (get m q))) where
        apart : (q : Id) → is_eq (id_order q id) ≡ false → q ≢ id
        apart q isnt same = contrary (is_eq (id_order q id)) ⊥ (ap (λ (x : Id). is_eq (id_order x id)) same ∙ ap is_eq (tied_itself id_order_total id)) isnt

-- records say of each id what they said
abbrev pub StillSaid : Id → Option Slot → Option Slot → Type 0
StillSaid q o p = (held : Held) → Says o q held → Says p q held

-- what stands at an id is of its kind
abbrev pub StillKind : Id → Option Slot → Option Slot → Type 0
StillKind q o p = ((s : Slot) → o ≡ Some s → IsOfKind q.kind s.object) → (s : Slot) → p ≡ Some s → IsOfKind q.kind s.object

pub kind_there : (q : Id) (s : Slot) → IsOfKind q.kind s.object → (t : Slot) → Some s ≡ Some t → IsOfKind q.kind t.object
kind_there q s is t e = subst (λ (x : Slot). IsOfKind q.kind x.object) (same_Some s t e) is

-- ---- an object is put

abbrev new_slot : Object → Slot
new_slot o = record { object = o; mark = Changed }

module _ (m : Slots) (id : Id) (o : Object) (free : id.kind ≡ Dataset → get m id ≡ None) (kind : IsOfKind id.kind o) (tracked : IsTrackedBody (λ _. []) o.body) where
  now_there : get (insert m id (new_slot o)) id ≡ Some (new_slot o)
  now_there = put_here m id (new_slot o)

  put_said : (q : Id) → StillSaid q (get m q) (get (insert m id (new_slot o)) q)
  put_said = everywhere StillSaid m (insert m id (new_slot o)) id (put_others m id (new_slot o))
      (λ held said. subst (λ (w : Option Slot). Says w id held) (sym now_there) (new_said id o held kind tracked (no_chunks id (get m id) held free said)))
      (λ q w held said. said)

  put_kind : AreOfKind m → (q : Id) (s : Slot) → get (insert m id (new_slot o)) q ≡ Some s → IsOfKind q.kind s.object
  put_kind kinds q = everywhere StillKind m (insert m id (new_slot o)) id (put_others m id (new_slot o))
      (λ were s e. kind_there id (new_slot o) kind s (sym now_there ∙ e)) (λ x w were. were) q (kinds q)

  module _ {A E : Type 0} (n : Slots) where
    pub put_there : (r : Result A E) → OnOk r (n ≡ insert m id (new_slot o)) → OnOk r (object_of (get n id) ≡ Some (unmarked o))
    put_there (Ok a) ok = ap (λ (x : Slots). object_of (get x id)) ok ∙ ap object_of now_there
    put_there (Err e) ok = tt

    pub put_elsewhere : (r : Result A E) → OnOk r (n ≡ insert m id (new_slot o)) → OnErr r (n ≡ m) → (q : Id) → q ≢ id → get n q ≡ get m q
    put_elsewhere (Ok a) ok err q other = ap (λ (x : Slots). get x q) ok ∙ put_others m id (new_slot o) q other
    put_elsewhere (Err e) ok err q other = ap (λ (x : Slots). get x q) err

    pub put_says : (r : Result A E) → OnOk r (n ≡ insert m id (new_slot o)) → OnErr r (n ≡ m) → (q : Id) (held : Held) → Says (get m q) q held → Says (get n q) q held
    put_says (Ok a) ok err = subst (λ (x : Slots). (q : Id) → StillSaid q (get m q) (get x q)) (sym ok) put_said
    put_says (Err e) ok err = subst (λ (x : Slots). (q : Id) → StillSaid q (get m q) (get x q)) (sym err) (λ q held said. said)

    pub put_kinds : (r : Result A E) → OnOk r (n ≡ insert m id (new_slot o)) → OnErr r (n ≡ m) → AreOfKind m → AreOfKind n
    put_kinds (Ok a) ok err kinds = subst AreOfKind (sym ok) (put_kind kinds)
    put_kinds (Err e) ok err kinds = subst AreOfKind (sym err) kinds

-- no object of another kind stands in the way
pub free_there : {A E : Type 0} (m : Slots) (id : Id) (r : Result A E) → OnErr r (get m id ≡ None) → OnErr r (id.kind ≢ Dataset → get m id ≡ None)
free_there m id (Ok a) none = tt
free_there m id (Err e) none = λ other. none

-- ---- none was removed

stands_undropped : (mark : Mark) (x o : Object) → object_by mark x ≡ Some o → mark ≢ Dropped
stands_undropped Kept x o e = λ is. absurd (cc)
stands_undropped Changed x o e = λ is. absurd (cc)
stands_undropped Dropped x o e = absurd (let both : None ≡ Some o = e in cc)

-- what stands at an id wasn't removed
abbrev StillUndropped : Id → Option Slot → Option Slot → Type 0
StillUndropped q o p = ((s : Slot) → o ≡ Some s → s.mark ≢ Dropped) → (s : Slot) → p ≡ Some s → s.mark ≢ Dropped

pub undropped_put : {A E : Type 0} (r : Result A E) (m n : Slots) (id : Id) (o : Object) → OnOk r (object_of (get n id) ≡ Some o) → ((q : Id) → q ≢ id → get n q ≡ get m q) → OnErr r (n ≡ m)
    → IsUndropped m → IsUndropped n
undropped_put (Ok a) m n id o there others same were = λ q.
    everywhere StillUndropped m n id others (λ was s e. stands_undropped s.mark s.object o (ap object_of (sym e) ∙ there)) (λ x w was. was) q (were q)
undropped_put (Err e) m n id o there others same were = subst IsUndropped (sym same) were

pub undropped_none : (m : Slots) → m ≡ empty → IsUndropped m
undropped_none m none q s there = absurd (let both : None ≡ Some s = sym (ap (λ (x : Slots). get x q) none ∙ get-empty id_order q) ∙ there in cc)

-- ---- an object is removed

module _ (m : Slots) (id : Id) (s t : Slot) (here : get m id ≡ Some s) (same : t.object ≡ s.object) (gone : t.mark ≡ Dropped) where
  removed_there : get (insert m id t) id ≡ Some t
  removed_there = put_here m id t

  pub removed_gone : object_of (get (insert m id t) id) ≡ None
  removed_gone = ap object_of removed_there ∙ ap (λ (x : Mark). object_by x t.object) gone

  pub removed_said : (q : Id) (held : Held) → Says (get m q) q held → Says (get (insert m id t) q) q held
  removed_said = everywhere StillSaid m (insert m id t) id (put_others m id t)
      (λ held said. subst (λ (w : Option Slot). Says w id held) (sym removed_there) (gone_said id s t held same gone (subst (λ (w : Option Slot). Says w id held) here said)))
      (λ q w held said. said)

  pub removed_kind : AreOfKind m → AreOfKind (insert m id t)
  removed_kind kinds q = everywhere StillKind m (insert m id t) id (put_others m id t)
      (λ were x e. kind_there id t (subst (λ (y : Object). IsOfKind id.kind y) (sym same) (were s here)) x (sym removed_there ∙ e)) (λ x w were. were) q (kinds q)

-- no id more has a slot where one is replaced
pub replaced_ids : (m : Slots) (id : Id) (s t : Slot) → get m id ≡ Some s → HasSameIds m (insert m id t)
replaced_ids m id s t here = everywhere (λ q o p. o ≡ None → p ≡ None) m (insert m id t) id (put_others m id t) (λ none. never (sym here ∙ none)) (λ q w none. none) where
  never : {P : Type 0} → Some s ≡ None → P
  never e = absurd (cc)
