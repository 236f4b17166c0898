-- Cuts of slots in turn.
use Rattle.std.proofs.Common.{◌≡◌, ◌≢◌, ℕ, inl, inr, Bool, true, false, cond, List, [], Option, Some, None, Ordering, Less, Equal, Greater, is_eq, refl, sym, ap, subst, ◌∙◌}
use Rattle.std.specs.FinMap.{empty, get, get-empty}
use Rattle.std.specs.List.{AllByRecursion}
use Rattle.std.specs.Option.{option_map_or}
use Rattle.std.specs.Ordering.{is_lt, ordering_reverse}
use Rattle.std.proofs.lemmas.Cmp.{tied_itself}
use Rattle.std.proofs.lemmas.Option.{same_Some, none-some}
use Rattle.containers.specs.TextMaps.Nexts.{is_behind}
use Rattle.object_ids.specs.IdOrder.{id_order}
use Rattle.object_ids.specs.IdValues.{Id}
use Rattle.object_ids.specs.Ids.{InRange}
use Rattle.object_ids.specs.declared.ids.Kind.{Kind}
use Rattle.object_ids.specs.declared.ids.Kind.TheVariants as kinds
use Rattle.object_ids.proofs.IdOrders.{id_order_once, id_order_total}
use Rattle.chunk_store.specs.Grids.{Grid}
use Rattle.chunk_store.specs.Marks.{cleared, flagged, in_grid, state}
use Rattle.object_acts.specs.declared.objects.Object.{Object}
use Rattle.object_acts.specs.declared.objects.Body.{Body}
use Rattle.object_acts.specs.declared.objects.Body.TheVariants as body
use Rattle.object_acts.specs.Objects.{IsOfKind, IsSoundBody, bare, kind_of_body, unmarked, unmarked_body}
use Rattle.flush_journal.specs.Records.{Record, Held, put_all}
use Rattle.flush_journal.proofs.PutLemmas.{put_others}
use Rattle.flush_journal.specs.Cuts.Cuts.{IsCut}
use Rattle.flush_journal.proofs.OfCuts.CutLemmas.{all_more}
use Rattle.object_records.specs.Keys.Keys.{chunk_key, object_key}
use Rattle.chunk_owner.specs.declared.slots.slot.Mark.{Mark}
use Rattle.chunk_owner.specs.declared.slots.slot.Mark.TheVariants.{Kept, Changed, Dropped}
use Rattle.chunk_owner.specs.declared.slots.slot.Slot.{Slot}
use Rattle.chunk_owner.specs.Slots.Slots.{AreChunksIn, AreOfKind, HasRecord, IsMarked, IsMarkedIn, IsStill, IsStillBody, Says, Slots, chunks_at, is_index, object_by, object_of}
use Rattle.chunk_owner.specs.Slots.Settled.{BodySettles, Settles, SettlesBy, SlotSettles}
use Rattle.containers.proofs.Passing.{by_bool, contrary, lt_less}
use Rattle.chunk_owner.proofs.OfSlots.KeyFacts.{chunk_id_once, object_no_chunk}
use Rattle.object_records.proofs.OfKeys.KeyLaws.{objects_once}

-- ---- keys of one id alone

pub same_id : (a b : Id) → InRange a → InRange b → (m n : Mark) (x y : Body) (key : List ℕ) → IsMarkedIn a m x key → IsMarkedIn b n y key → a ≡ b
same_id a b ha hb m n x y key (inl f) (inl g) = objects_once a b ha hb (sym f.0 ∙ g.0)
same_id a b ha hb m n x y key (inl f) (inr g) = absurd (object_no_chunk a b g.0 (sym f.0 ∙ g.1))
same_id a b ha hb m n x y key (inr f) (inl g) = absurd (object_no_chunk b a f.0 (sym g.0 ∙ f.1))
same_id a b ha hb m n x y key (inr f) (inr g) = chunk_id_once a b f.0 g.0 ha hb f.3 g.3 f.2 g.2 (sym f.1 ∙ g.1)

-- a key that is neither that of an id's object nor that of one of its chunks
abbrev pub IsKeyApart : Id → List ℕ → Type 0
IsKeyApart q key = (key ≢ object_key q) × ((i : List ℕ) → is_index i ≡ true → q.kind ≡ kinds.Dataset → key ≢ chunk_key q i)

-- what is marked at one id is apart from each other id
pub marked_apart : (id q : Id) → InRange id → InRange q → q ≢ id → (m : Mark) (b : Body) (key : List ℕ) → IsMarkedIn id m b key → IsKeyApart q key
marked_apart id q range mine other m b key (inl h) = (λ same. other (objects_once q id mine range (sym same ∙ h.0)), λ i index dataset same. object_no_chunk id q i (sym h.0 ∙ same))
marked_apart id q range mine other m b key (inr h) =
    (λ same. object_no_chunk q id h.0 (sym same ∙ h.1), λ i index dataset same. other (chunk_id_once q id i h.0 mine range dataset h.3 index h.2 (sym same ∙ h.1)))

module _ (q : Id) (added : List Record) (apart : AllByRecursion (λ r. IsKeyApart q r.0) added) (held : Held) where
  pub object_stays : get (put_all added held) (object_key q) ≡ get held (object_key q)
  object_stays = put_others held added (object_key q) (all_more (λ r. IsKeyApart q r.0) (λ r. r.0 ≢ object_key q) added (λ r h. h.0) apart)

  pub chunks_stay : q.kind ≡ kinds.Dataset → chunks_at (put_all added held) q ≡ chunks_at held q
  chunks_stay dataset k i = at i k where
    at : (i : List ℕ) → chunks_at (put_all added held) q i ≡ chunks_at held q i
    at i = by_bool (is_index i) (chunks_at (put_all added held) q i ≡ chunks_at held q i)
        (λ index. ap (λ (o : Option (List ℕ)). cond (is_index i) (option_map_or (λ body. body) o []) [])
        (put_others held added (chunk_key q i) (all_more (λ r. IsKeyApart q r.0) (λ r. r.0 ≢ chunk_key q i) added (λ r h. h.1 i index dataset) apart)))
        (λ none. ap (λ b. cond b (option_map_or (λ body. body) (get (put_all added held) (chunk_key q i)) []) []) none
        ∙ sym (ap (λ b. cond b (option_map_or (λ body. body) (get held (chunk_key q i)) []) []) none))

  body_stays : (mark : Mark) (x : Body) → kind_of_body x ≡ q.kind → AreChunksIn mark (chunks_at held q) x → AreChunksIn mark (chunks_at (put_all added held) q) x
  body_stays mark (body.Group links) kind said = tt
  body_stays mark (body.Dataset array) kind said = subst (λ (f : List ℕ → List ℕ). AreChunksIn mark f (body.Dataset array)) (sym (chunks_stay (sym kind))) said
  body_stays mark (body.Datatype type) kind said = tt

  -- what is held says of the id what it said
  pub said_apart : (o : Option Slot) → ((s : Slot) → o ≡ Some s → IsOfKind q.kind s.object) → Says o q held → Says o q (put_all added held)
  said_apart None kind said = (object_stays ∙ said.0, λ dataset i. (λ k. chunks_stay dataset k i) ∙ said.1 dataset i)
  said_apart (Some s) kind said = (
    subst (λ (r : Option (List ℕ)). HasRecord s.mark s.object r) (sym object_stays) said.0,
    body_stays s.mark s.object.body (kind s refl).kind said.1,
  )

-- what was marked at one id says of another what was said
pub others_said : (id q : Id) → InRange id → InRange q → q ≢ id → (m : Mark) (b : Body) (added : List Record) → AllByRecursion (λ r. IsMarkedIn id m b r.0) added → (held : Held)
    → (o : Option Slot) → ((s : Slot) → o ≡ Some s → IsOfKind q.kind s.object) → Says o q held → Says o q (put_all added held)
others_said id q range mine other m b added marked held =
    said_apart q added (all_more (λ r. IsMarkedIn id m b r.0) (λ r. IsKeyApart q r.0) added (λ r h. marked_apart id q range mine other m b r.0 h) marked) held

-- ---- what a settled slot is

body_unmarked : (x y : Body) → BodySettles x y → unmarked_body y ≡ unmarked_body x
body_unmarked (body.Group links) y h = ap unmarked_body h
body_unmarked (body.Dataset array) y h = ap unmarked_body h.1 ∙ ap (λ (g : Grid). body.Dataset (bare g)) h.2.grid
body_unmarked (body.Datatype type) y h = ap unmarked_body h

object_same : (s t : Slot) → SlotSettles s t → unmarked t.object ≡ unmarked s.object
object_same s t h k = record { attributes = h.attributes k; body = body_unmarked s.object.body t.object.body h.body k }

kept_object : (s t : Slot) → SlotSettles s t → object_of (Some t) ≡ Some (unmarked s.object)
kept_object s t h = ap (λ (m : Mark). object_by m t.object) h.mark ∙ ap (λ (o : Object). Some o) (object_same s t h)

object_by_mark : (mark : Mark) (s : Slot) (new : Option Slot) → SettlesBy mark s new → object_of new ≡ object_by mark s.object
object_by_mark Kept s new h = ap object_of h.1 ∙ kept_object s h.0 h.2
object_by_mark Changed s new h = ap object_of h.1 ∙ kept_object s h.0 h.2
object_by_mark Dropped s new h = ap object_of h

pub settled_object : (old new : Option Slot) → Settles old new → object_of new ≡ object_of old
settled_object None new h = ap object_of h
settled_object (Some s) new h = object_by_mark s.mark s new h

clean : (inside : Bool) (o : Option Bool) → flagged (cleared inside o) ≡ false
clean inside None = refl
clean inside (Some false) = refl
clean true (Some true) = refl
clean false (Some true) = refl

still_body : (x y : Body) → BodySettles x y → IsStillBody y
still_body (body.Group links) y h = subst (λ (z : Body). IsStillBody z) (sym h) tt
still_body (body.Dataset array) y h = subst (λ (z : Body). IsStillBody z) (sym h.1) (λ i. ap flagged (h.2.marks i) ∙ clean (in_grid array.grid i) (state array i))
still_body (body.Datatype type) y h = subst (λ (z : Body). IsStillBody z) (sym h) tt

pub settled_still : (mark : Mark) (s t : Slot) (new : Option Slot) → SettlesBy mark s new → new ≡ Some t → IsStill t
settled_still Kept s t new h e = subst IsStill (same_Some h.0 t (sym h.1 ∙ e)) (h.2.mark, still_body s.object.body h.0.object.body h.2.body)
settled_still Changed s t new h e = subst IsStill (same_Some h.0 t (sym h.1 ∙ e)) (h.2.mark, still_body s.object.body h.0.object.body h.2.body)
settled_still Dropped s t new h e = absurd (none-some t (sym h ∙ e))

body_kind : (x y : Body) → BodySettles x y → (kind_of_body y ≡ kind_of_body x) × (IsSoundBody x → IsSoundBody y)
body_kind (body.Group links) y h = (ap kind_of_body h, λ sound. subst (λ (z : Body). IsSoundBody z) (sym h) tt)
body_kind (body.Dataset array) y h = (ap kind_of_body h.1, λ sound. subst (λ (z : Body). IsSoundBody z) (sym h.1) tt)
body_kind (body.Datatype type) y h = (ap kind_of_body h, λ sound. subst (λ (z : Body). IsSoundBody z) (sym h) sound)

kept_kind : (k : Kind) (s t : Slot) → SlotSettles s t → IsOfKind k s.object → IsOfKind k t.object
kept_kind k s t h of = let b = body_kind s.object.body t.object.body h.body in record { kind = b.0 ∙ of.kind; sound = b.1 of.sound }

pub settled_kind : (k : Kind) (mark : Mark) (s t : Slot) (new : Option Slot) → SettlesBy mark s new → new ≡ Some t → IsOfKind k s.object → IsOfKind k t.object
settled_kind k Kept s t new h e of = subst (λ (z : Slot). IsOfKind k z.object) (same_Some h.0 t (sym h.1 ∙ e)) (kept_kind k s h.0 h.2 of)
settled_kind k Changed s t new h e of = subst (λ (z : Slot). IsOfKind k z.object) (same_Some h.0 t (sym h.1 ∙ e)) (kept_kind k s h.0 h.2 of)
settled_kind k Dropped s t new h e of = absurd (none-some t (sym h ∙ e))

-- without a slot each is of its kind
pub none_of_kind : AreOfKind empty
none_of_kind id s e = absurd (none-some s (sym (get-empty id_order id) ∙ e))

-- ---- the walk

pub other_id : (id q : Id) → is_eq (id_order q id) ≡ false → q ≢ id
other_id id q n same = contrary (is_eq (id_order q id)) ⊥ (ap (λ (x : Id). is_eq (id_order x id)) same ∙ ap is_eq (tied_itself id_order_total id)) n

pub weaker_behind : (last : Option Id) (id q : Id) → is_behind id_order last id ≡ true → is_behind id_order (Some id) q ≡ true → is_behind id_order last q ≡ true
weaker_behind None id q h e = refl
weaker_behind (Some a) id q h e = ap is_lt (id_order_total.trans a id q (lt_less (id_order a id) h) (lt_less (id_order id q) e))

pub not_behind : (last : Option Id) (id q : Id) → is_behind id_order last id ≡ true → is_behind id_order last q ≡ false → is_behind id_order (Some id) q ≡ false
not_behind last id q h e = by_bool (is_behind id_order (Some id) q) (is_behind id_order (Some id) q ≡ false) (λ y. contrary (is_behind id_order last q) (is_behind id_order (Some id) q ≡ false) (weaker_behind last id q h y) e) (λ n. n)

pub itself_not : (id : Id) → is_behind id_order (Some id) id ≡ false
itself_not id = ap is_lt (tied_itself id_order_total id)

-- at an id, or before it
pub by_place : (id q : Id) (P : Type 0) → is_behind id_order (Some id) q ≡ false → (q ≡ id → P) → (q ≢ id → id_order q id ≡ Less → P) → P
by_place id q P e same before = at (id_order id q) refl where
  at : (o : Ordering) → id_order id q ≡ o → P
  at Less h = contrary (is_lt (id_order id q)) P (ap is_lt h) e
  at Equal h = same (sym (id_order_once id q h))
  at Greater h = let less : id_order q id ≡ Less = id_order_total.antisymm q id ∙ ap ordering_reverse h in
      before (λ here. let tied : id_order q id ≡ Equal = ap (λ (x : Id). id_order q x) (sym here) ∙ tied_itself id_order_total q in let both : Less ≡ Equal = sym less ∙ tied in absurd (cc)) less

abbrev pub IsMarkedTo : Slots → Option Id → List ℕ → Type 0
IsMarkedTo slots last key = (m : IsMarked slots key) × (is_behind id_order last m.id ≡ false)

pub all_marks : (P Q : List ℕ → Type 0) (base : Held) (old new : List Record) (later : Held → Type 0) → ((key : List ℕ) → P key → Q key) → IsCut P base old new later → IsCut Q base old new later
all_marks P Q base old new later f c = record {
  added = c.added;
  appended = c.appended;
  changed = all_more (λ r. P r.0) (λ r. Q r.0) c.added (λ r h. f r.0 h) c.changed;
  once = c.once;
  stands = c.stands;
}
