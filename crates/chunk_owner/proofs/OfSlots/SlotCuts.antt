-- The cut of one slot.
use Rattle.std.proofs.lemmas.Slice.Eq.{bytes_eq-Decides}
use Rattle.std.proofs.Common.{◌≡◌, ◌≢◌, ℕ, bytes_eq, inl, inr, Bool, true, false, cond, List, [], ◌∷◌, ◌++◌, map, Option, Some, None, option_and_then, refl, sym, ap, subst, ◌∙◌, append_assoc, append-nil}
use Rattle.std.specs.FinMap.{get}
use Rattle.std.specs.List.{AllByRecursion}
use Rattle.std.specs.Option.{option_map_or}
use Rattle.object_ids.specs.IdValues.{Id}
use Rattle.object_ids.specs.Ids.{InRange}
use Rattle.object_ids.specs.declared.ids.Kind.TheVariants as kinds
use Rattle.chunk_store.specs.Grids.{Grid}
use Rattle.chunk_store.specs.Marks.{Stored, IsTracked, cut, is_dirty, is_known, body_of}
use Rattle.object_acts.specs.declared.objects.Object.{Object}
use Rattle.object_acts.specs.declared.objects.Body.{Body}
use Rattle.object_acts.specs.declared.objects.Body.TheVariants as body
use Rattle.object_acts.specs.Objects.{IsOfKind, kind_of_body}
use Rattle.flush_journal.specs.Records.{Record, Held, kept_body, put_all}
use Rattle.flush_journal.proofs.PutLemmas.{put_others, put_last}
use Rattle.flush_journal.proofs.BlockLemmas.{put_both}
use Rattle.flush_journal.specs.Cuts.Cuts.{AreOnce, IsCut, IsWithout}
use Rattle.flush_journal.proofs.OfCuts.CutLemmas.{all_append}
use Rattle.object_records.specs.Keys.Keys.{chunk_key, object_key}
use Rattle.object_records.specs.Entries.{entry_of, kept_of}
use Rattle.object_records.specs.Objects.{object_of_body}
use Rattle.chunk_owner.specs.declared.slots.slot.Mark.{Mark}
use Rattle.chunk_owner.specs.declared.slots.slot.Mark.TheVariants.{Kept, Changed, Dropped}
use Rattle.chunk_owner.specs.declared.slots.slot.Slot.{Slot}
use Rattle.chunk_owner.specs.Slots.Slots.{AreChunksIn, AreChunksOf, HasNoChunks, HasRecord, IsChunkMarked, IsMarkedIn, IsRecordOf, Says, chunks_at, is_index, is_meant}
use Rattle.chunk_owner.specs.Slots.Cutting.{AddsChunks, AddsChunksIn, AddsSlot, AreMeant, IsObjectPart, chunk_body, chunk_record, is_among}
use Rattle.chunk_owner.specs.Slots.Settled.{ArraySettles, BodySettles, Settles, SettlesBy, SlotSettles}
use Rattle.containers.proofs.Passing.{by_bool, contrary, or_either}
use Rattle.chunk_owner.proofs.OfSlots.ChunkRecords.{chunks_written, chunks_once, object_outside}
use Rattle.chunk_owner.proofs.OfSlots.KeyFacts.{object_no_chunk}
use Rattle.containers.specs.ShortLists.OrderLaws.{by_both}

-- ---- some chunks were written

module _ (mark : Mark) (s : Stored) (whole : Bool) (done : List (List ℕ)) (m : AreMeant mark s whole done) where
  pub meant_among : (i : List ℕ) → is_among done i ≡ true → is_meant mark s i ≡ true
  meant_among i there = find_in done m.meant there where
    find_in : (is : List (List ℕ)) → AllByRecursion (λ j. (is_meant mark s j ≡ true) × (is_index j ≡ true)) is → is_among is i ≡ true → is_meant mark s i ≡ true
    find_in [] h e = contrary false (is_meant mark s i ≡ true) e refl
    find_in (k ∷ is) h e = or_either (bytes_eq i k) (is_among is i) (is_meant mark s i ≡ true)
        (λ y. subst (λ (j : List ℕ). is_meant mark s j ≡ true) (sym ((bytes_eq-Decides i k).0 y)) h.0.0) (λ rest. find_in is h.1 rest) e

  pub indexes : AllByRecursion (λ i. is_index i ≡ true) done
  indexes = all_second done m.meant where
    all_second : (is : List (List ℕ)) → AllByRecursion (λ i. (is_meant mark s i ≡ true) × (is_index i ≡ true)) is → AllByRecursion (λ i. is_index i ≡ true) is
    all_second [] h = tt
    all_second (i ∷ is) h = (h.0.1, all_second is h.1)

  pub all_among : whole ≡ true → (i : List ℕ) → is_among done i ≡ is_meant mark s i
  all_among e i = by_both (is_among done i) (is_meant mark s i) (meant_among i) (m.all e i)

-- bodies at chunks, before and after
module _ (s : Stored) (done : List (List ℕ)) (f g : List ℕ → List ℕ) where
  tracked_cut : (t : Stored) → ((i : List ℕ) → is_among done i ≡ is_dirty s i) → ((i : List ℕ) → g i ≡ cond (is_among done i) (body_of s.grid i) (f i)) → ArraySettles s t → IsTracked f s → IsTracked g t
  tracked_cut t all written settles tracked = subst (λ (h : List ℕ → List ℕ). IsTracked h t) (sym same) (settles.tracked f tracked) where
    same : g ≡ cut f s
    same k i = (written i ∙ ap (λ b. cond b (body_of s.grid i) (f i)) (all i)) k

  gone_cut : ((i : List ℕ) → is_among done i ≡ is_known s i) → ((i : List ℕ) → g i ≡ cond (is_among done i) [] (f i)) → ((i : List ℕ) → is_known s i ≡ false → f i ≡ []) → (i : List ℕ) → g i ≡ []
  gone_cut all written none i = by_bool (is_known s i) (g i ≡ [])
      (λ known. written i ∙ ap (λ b. cond b [] (f i)) (all i ∙ known))
      (λ unknown. written i ∙ ap (λ b. cond b [] (f i)) (all i ∙ unknown) ∙ none i unknown)

-- ---- the record of the object

kept_same : (a b : Body) → BodySettles a b → (kept_of b ≡ kept_of a) × (kind_of_body b ≡ kind_of_body a)
kept_same (body.Group links) b h = (ap kept_of h, ap kind_of_body h)
kept_same (body.Dataset array) b h = let g = h.2.grid in
    (ap kept_of h.1 ∙ ap (λ (x : Grid). kept_of (body.Dataset (record { grid = x; marks = array.marks }))) g, ap kind_of_body h.1)
kept_same (body.Datatype type) b h = (ap kept_of h, ap kind_of_body h)

entry_same : (s t : Slot) → SlotSettles s t → entry_of t.object ≡ entry_of s.object
entry_same s t h k = record { attributes = ap (λ a. (entry_of (record { attributes = a; body = t.object.body })).attributes) h.attributes k; kept = (kept_same s.object.body t.object.body h.body).0 k }

record_settled : (s t : Slot) → SlotSettles s t → (o : Option (List ℕ)) → IsRecordOf (Some s.object) o → IsRecordOf (Some t.object) o
record_settled s t h o is = (λ k. option_and_then (object_of_body ((kept_same s.object.body t.object.body h.body).1 k)) o) ∙ is ∙ (λ k. Some (sym (entry_same s t h) k))

-- what is held at the key of the object
object_written : (id : Id) (mark : Mark) (o : Object) (added : List Record) (base : Held) → IsObjectPart (object_key id) mark o added → HasRecord mark o (get base (object_key id))
    → (mark ≢ Dropped) → IsRecordOf (Some o) (get (put_all added base) (object_key id))
object_written id Kept o added base part said kept = subst (λ (rs : List Record). IsRecordOf (Some o) (get (put_all rs base) (object_key id))) (sym part) said
object_written id Changed o added base part said kept =
    subst (λ (rs : List Record). IsRecordOf (Some o) (get (put_all rs base) (object_key id))) (sym part.3)
    (ap (option_and_then (object_of_body (kind_of_body o.body))) (put_last base [] [] (object_key id) part.0 tt ∙ some_body part.0 part.2) ∙ part.1) where
      some_body : (bytes : List ℕ) → bytes ≢ [] → kept_body bytes ≡ Some bytes
      some_body [] h = absurd (h refl)
      some_body (b ∷ bytes) h = refl
object_written id Dropped o added base part said kept = absurd (kept refl)

object_gone : (id : Id) (o : Object) (added : List Record) (base : Held) → IsObjectPart (object_key id) Dropped o added → get (put_all added base) (object_key id) ≡ None
object_gone id o added base part = ap (λ (rs : List Record). get (put_all rs base) (object_key id)) part ∙ put_last base [] [] (object_key id) [] tt

-- the records of an object are no chunk's
object_records_apart : (id : Id) (mark : Mark) (o : Object) (added : List Record) (other : Id) (i : List ℕ) → IsObjectPart (object_key id) mark o added → IsWithout (chunk_key other i) added
object_records_apart id Kept o added other i part = subst (λ (rs : List Record). IsWithout (chunk_key other i) rs) (sym part) tt
object_records_apart id Changed o added other i part = subst (λ (rs : List Record). IsWithout (chunk_key other i) rs) (sym part.3) (object_no_chunk id other i, tt)
object_records_apart id Dropped o added other i part = subst (λ (rs : List Record). IsWithout (chunk_key other i) rs) (sym part) (object_no_chunk id other i, tt)

chunks_beside : (id : Id) (mark : Mark) (o : Object) (added : List Record) (base : Held) (other : Id) (i : List ℕ) → IsObjectPart (object_key id) mark o added → chunks_at (put_all added base) other i ≡ chunks_at base other i
chunks_beside id mark o added base other i part =
    ap (λ (r : Option (List ℕ)). cond (is_index i) (option_map_or (λ body. body) r []) []) (put_others base added (chunk_key other i) (object_records_apart id mark o added other i part))

-- ---- the records of the body

-- records of chunks were added, and with them what was held is as `later` says
record BodyCut (id : Id) (mark : Mark) (b : Body) (base : Held) (old new : List Record) (later : Held → Type 0) : Type 0 where
  added : List Record
  appended : new ≡ old ++ added
  chunks : AllByRecursion (λ r. IsChunkMarked id mark b r.0) added
  once : AreOnce added
  object : get (put_all added base) (object_key id) ≡ get base (object_key id)
  stands : later (put_all added base)

no_chunks : (id : Id) (mark : Mark) (b : Body) (base : Held) (old new : List Record) (later : Held → Type 0) → new ≡ old → later base → BodyCut id mark b base old new later
no_chunks id mark b base old new later same stands = record {
  added = [];
  appended = same ∙ sym (append-nil old);
  chunks = tt;
  once = tt;
  object = refl;
  stands = stands;
}

module _ (id : Id) (range : InRange id) (mark : Mark) (array : Stored) (kind : id.kind ≡ kinds.Dataset) (whole : Bool) (base : Held) (old new : List Record) (adds : AddsChunks id mark array whole old new) where
  chunk_marks : (done : List (List ℕ)) → AllByRecursion (λ i. (is_meant mark array i ≡ true) × (is_index i ≡ true)) done
      → AllByRecursion (λ r. IsChunkMarked id mark (body.Dataset array) r.0) (map (chunk_record id mark array.grid) done)
  chunk_marks [] h = tt
  chunk_marks (i ∷ done) h = ((i, refl, h.0.1, kind, h.0.0), chunk_marks done h.1)

  some_chunks : (later : Held → Type 0)
      → ((held : Held) → ((i : List ℕ) → chunks_at held id i ≡ cond (is_among adds.0 i) (chunk_body mark array.grid i) (chunks_at base id i)) → later held)
      → BodyCut id mark (body.Dataset array) base old new later
  some_chunks later stands = record {
    added = map (chunk_record id mark array.grid) adds.0;
    appended = adds.2;
    chunks = chunk_marks adds.0 adds.1.meant;
    once = chunks_once id range kind mark array.grid adds.0 (indexes mark array whole adds.0 adds.1) adds.1.distinct;
    object = object_outside id range kind mark array.grid id adds.0 base;
    stands = stands (put_all (map (chunk_record id mark array.grid) adds.0) base)
        (λ i. chunks_written id range kind mark array.grid adds.0 base i (indexes mark array whole adds.0 adds.1) adds.1.distinct);
  }

module _ (id : Id) (range : InRange id) (base : Held) (old new : List Record) where
  -- all of a removed object
  body_gone : (b : Body) → kind_of_body b ≡ id.kind → AddsChunksIn id Dropped b true old new
      → BodyCut id Dropped b base old new (λ held. AreChunksIn Dropped (chunks_at base id) b → HasNoChunks held id)
  body_gone (body.Group links) kind adds = no_chunks id Dropped (body.Group links) base old new (λ held. AreChunksIn Dropped (chunks_at base id) (body.Group links) → HasNoChunks held id) adds
      (λ said dataset. let both : kinds.Group ≡ kinds.Dataset = kind ∙ dataset in absurd (cc))
  body_gone (body.Dataset array) kind adds = some_chunks id range Dropped array (sym kind) true base old new adds (λ held. AreChunksOf Dropped (chunks_at base id) array → HasNoChunks held id)
      (λ held written said dataset. gone_cut array adds.0 (chunks_at base id) (chunks_at held id) (all_among Dropped array true adds.0 adds.1 refl) written said)
  body_gone (body.Datatype type) kind adds = no_chunks id Dropped (body.Datatype type) base old new (λ held. AreChunksIn Dropped (chunks_at base id) (body.Datatype type) → HasNoChunks held id) adds
      (λ said dataset. let both : kinds.Datatype ≡ kinds.Dataset = kind ∙ dataset in absurd (cc))

  -- all of an object that stays
  module _ (mark : Mark) (meant : (s : Stored) (i : List ℕ) → is_meant mark s i ≡ is_dirty s i) (bytes : (h : Grid) (i : List ℕ) → chunk_body mark h i ≡ body_of h i)
      (of : (f : List ℕ → List ℕ) (s : Stored) → AreChunksOf mark f s → IsTracked f s) where
    body_stays : (b t : Body) → kind_of_body b ≡ id.kind → BodySettles b t → AddsChunksIn id mark b true old new
        → BodyCut id mark b base old new (λ held. AreChunksIn mark (chunks_at base id) b → AreChunksIn Kept (chunks_at held id) t)
    body_stays (body.Group links) t kind h adds = no_chunks id mark (body.Group links) base old new (λ held. AreChunksIn mark (chunks_at base id) (body.Group links) → AreChunksIn Kept (chunks_at held id) t) adds
        (λ said. subst (λ (x : Body). AreChunksIn Kept (chunks_at base id) x) (sym h) tt)
    body_stays (body.Dataset array) t kind h adds = some_chunks id range mark array (sym kind) true base old new adds (λ held. AreChunksOf mark (chunks_at base id) array → AreChunksIn Kept (chunks_at held id) t)
        (λ held written said. subst (λ (x : Body). AreChunksIn Kept (chunks_at held id) x) (sym h.1)
        (tracked_cut array adds.0 (chunks_at base id) (chunks_at held id) h.0 (λ i. all_among mark array true adds.0 adds.1 refl i ∙ meant array i)
        (λ i. written i ∙ ap (λ x. cond (is_among adds.0 i) x (chunks_at base id i)) (bytes array.grid i)) h.2 (of (chunks_at base id) array said)))
    body_stays (body.Datatype type) t kind h adds = no_chunks id mark (body.Datatype type) base old new (λ held. AreChunksIn mark (chunks_at base id) (body.Datatype type) → AreChunksIn Kept (chunks_at held id) t) adds
        (λ said. subst (λ (x : Body). AreChunksIn Kept (chunks_at base id) x) (sym h) tt)

-- ---- a slot

object_marks : (id : Id) (mark : Mark) (o : Object) (added : List Record) → IsObjectPart (object_key id) mark o added → AllByRecursion (λ r. IsMarkedIn id mark o.body r.0) added
object_marks id Kept o added part = subst (λ (rs : List Record). AllByRecursion (λ r. IsMarkedIn id Kept o.body r.0) rs) (sym part) tt
object_marks id Changed o added part = subst (λ (rs : List Record). AllByRecursion (λ r. IsMarkedIn id Changed o.body r.0) rs) (sym part.3) (inl (refl, λ e. absurd (cc)), tt)
object_marks id Dropped o added part = subst (λ (rs : List Record). AllByRecursion (λ r. IsMarkedIn id Dropped o.body r.0) rs) (sym part) (inl (refl, λ e. absurd (cc)), tt)

chunk_marked : (id : Id) (mark : Mark) (b : Body) (added : List Record) → AllByRecursion (λ r. IsChunkMarked id mark b r.0) added → AllByRecursion (λ r. IsMarkedIn id mark b r.0) added
chunk_marked id mark b [] h = tt
chunk_marked id mark b (r ∷ rs) h = (inr h.0, chunk_marked id mark b rs h.1)

no_object : (id : Id) (mark : Mark) (b : Body) (added : List Record) → AllByRecursion (λ r. IsChunkMarked id mark b r.0) added → IsWithout (object_key id) added
no_object id mark b [] h = tt
no_object id mark b (r ∷ rs) h = ((λ same. object_no_chunk id id h.0.0 (sym same ∙ h.0.1)), no_object id mark b rs h.1)

once_behind : (id : Id) (mark : Mark) (o : Object) (first rest : List Record) → IsObjectPart (object_key id) mark o first → AllByRecursion (λ r. IsChunkMarked id mark o.body r.0) rest → AreOnce rest → AreOnce (first ++ rest)
once_behind id Kept o first rest part chunks once = subst (λ (rs : List Record). AreOnce (rs ++ rest)) (sym part) once
once_behind id Changed o first rest part chunks once = subst (λ (rs : List Record). AreOnce (rs ++ rest)) (sym part.3) (no_object id Changed o.body rest chunks, once)
once_behind id Dropped o first rest part chunks once = subst (λ (rs : List Record). AreOnce (rs ++ rest)) (sym part) (no_object id Dropped o.body rest chunks, once)

module _ (id : Id) (base : Held) (old mid new : List Record) (mark : Mark) (o : Object) (object : (added : List Record) × IsObjectPart (object_key id) mark o added × (mid ≡ old ++ added)) where
  abbrev first : Held
  first = put_all object.0 base

  -- the object's record and then the chunks'
  joined_cut : (between later : Held → Type 0) → BodyCut id mark o.body first mid new between → ((held : Held) → get held (object_key id) ≡ get first (object_key id) → between held → later held)
      → IsCut (IsMarkedIn id mark o.body) base old new later
  joined_cut between later c stands = record {
    added = object.0 ++ c.added;
    appended = c.appended ∙ ap (λ (rs : List Record). rs ++ c.added) object.2 ∙ append_assoc old object.0 c.added;
    changed = all_append (λ r. IsMarkedIn id mark o.body r.0) object.0 c.added (object_marks id mark o object.0 object.1) (chunk_marked id mark o.body c.added c.chunks);
    once = once_behind id mark o object.0 c.added object.1 c.chunks c.once;
    stands = subst later (sym (put_both object.0 c.added base)) (stands (put_all c.added first) c.object c.stands);
  }

  first_chunks : chunks_at first id ≡ chunks_at base id
  first_chunks k i = chunks_beside id mark o object.0 base id i object.1 k

module _ (id : Id) (s : Slot) (t : Option Slot) (base : Held) (old new : List Record) (range : InRange id) (of : IsOfKind id.kind s.object) where
  abbrev later : Mark → Held → Type 0
  later mark held = HasRecord mark s.object (get base (object_key id)) × AreChunksIn mark (chunks_at base id) s.object.body → Says t id held

  stays_cut : (mark : Mark) → (mark ≢ Dropped) → ((x : Stored) (i : List ℕ) → is_meant mark x i ≡ is_dirty x i) → ((h : Grid) (i : List ℕ) → chunk_body mark h i ≡ body_of h i)
      → ((f : List ℕ → List ℕ) (x : Stored) → AreChunksOf mark f x → IsTracked f x) → (mid : List Record)
      → (object : (added : List Record) × IsObjectPart (object_key id) mark s.object added × (mid ≡ old ++ added)) → AddsChunksIn id mark s.object.body true mid new
      → (settled : Slot) → t ≡ Some settled → SlotSettles s settled → IsCut (IsMarkedIn id mark s.object.body) base old new (later mark)
  stays_cut mark live meant bytes tracked mid object chunks settled is h =
      let start = first id base old mid new mark s.object object in
      let f = chunks_at start id in
      joined_cut id base old mid new mark s.object object (λ held. AreChunksIn mark f s.object.body → AreChunksIn Kept (chunks_at held id) settled.object.body) (later mark)
      (body_stays id range start mid new mark meant bytes tracked s.object.body settled.object.body of.kind h.body chunks)
      (λ held same between said. subst (λ (w : Option Slot). Says w id held) (sym is) (
        subst (λ (m : Mark). HasRecord m settled.object (get held (object_key id))) (sym h.mark)
            (record_settled s settled h (get held (object_key id)) (subst (λ (r : Option (List ℕ)). IsRecordOf (Some s.object) r) (sym same) (object_written id mark s.object object.0 base object.1 said.0 live))),
        subst (λ (m : Mark). AreChunksIn m (chunks_at held id) settled.object.body) (sym h.mark)
            (between (subst (λ (g : List ℕ → List ℕ). AreChunksIn mark g s.object.body) (sym (first_chunks id base old mid new mark s.object object)) said.1)),
      ))

  gone_slot : (mid : List Record) → (object : (added : List Record) × IsObjectPart (object_key id) Dropped s.object added × (mid ≡ old ++ added)) → AddsChunksIn id Dropped s.object.body true mid new
      → t ≡ None → IsCut (IsMarkedIn id Dropped s.object.body) base old new (later Dropped)
  gone_slot mid object chunks is =
      let start = first id base old mid new Dropped s.object object in
      let f = chunks_at start id in
      joined_cut id base old mid new Dropped s.object object (λ held. AreChunksIn Dropped f s.object.body → HasNoChunks held id) (later Dropped)
      (body_gone id range start mid new s.object.body of.kind chunks)
      (λ held same between said. subst (λ (w : Option Slot). Says w id held) (sym is) (
        same ∙ object_gone id s.object object.0 base object.1,
        between (subst (λ (g : List ℕ → List ℕ). AreChunksIn Dropped g s.object.body) (sym (first_chunks id base old mid new Dropped s.object object)) said.1),
      ))

  by_mark : (mark : Mark) → (mid : List Record) → (object : (added : List Record) × IsObjectPart (object_key id) mark s.object added × (mid ≡ old ++ added)) → AddsChunksIn id mark s.object.body true mid new
      → SettlesBy mark s t → IsCut (IsMarkedIn id mark s.object.body) base old new (later mark)
  by_mark Kept mid object chunks h = stays_cut Kept (λ e. absurd (cc)) (λ x i. refl) (λ g i. refl) (λ f x said. said) mid object chunks h.0 h.1 h.2
  by_mark Changed mid object chunks h = stays_cut Changed (λ e. absurd (cc)) (λ x i. refl) (λ g i. refl) (λ f x said. said) mid object chunks h.0 h.1 h.2
  by_mark Dropped mid object chunks h = gone_slot mid object chunks h

  -- a whole cut
  pub slot_cut : AddsSlot id s old new → Settles (Some s) t → IsCut (IsMarkedIn id s.mark s.object.body) base old new (λ held. Says (Some s) id base → Says t id held)
  slot_cut adds h = by_mark s.mark adds.0 adds.1 adds.2 h
