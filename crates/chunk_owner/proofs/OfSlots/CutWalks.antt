-- The walks of a cut: one appends the records of what changed, one settles it.
use Rattle.std.proofs.Common.{◌≡◌, ◌≢◌, ℕ, ◌<◌, ◌⊎◌, inl, inr, Bool, true, false, cond, List, [], Option, Some, None, is_some, is_eq, refl, sym, ap, subst, ◌∙◌, append-nil}
use Rattle.std.specs.FinMap.{get}
use Rattle.std.specs.Cmp.{Equal-is}
use Rattle.std.proofs.lemmas.Option.{none-some}
use Rattle.containers.specs.TextMaps.Nexts.{is_behind}
use Rattle.object_ids.specs.IdOrder.{id_order}
use Rattle.object_ids.specs.IdValues.{Id}
use Rattle.object_ids.specs.Ids.{InRange}
use Rattle.object_ids.proofs.IdOrders.{id_order_once}
use Rattle.chunk_store.specs.Marks.{IsTracked, body_of, cleared, cut, flagged, in_grid, state}
use Rattle.object_acts.specs.declared.objects.Body.{Body}
use Rattle.object_acts.specs.declared.objects.Body.TheVariants as body
use Rattle.object_acts.specs.Objects.{IsOfKind}
use Rattle.flush_journal.specs.Records.{Held, Record, put_all}
use Rattle.flush_journal.specs.Cuts.Cuts.{AppendsEach, AreApart, IsCut, IsEither}
use Rattle.flush_journal.proofs.OfCuts.CutLemmas.{all_more, appends_as, appends_more, appends_none, in_turn}
use Rattle.object_records.specs.Keys.Keys.{object_key}
use Rattle.chunk_owner.specs.declared.slots.slot.Mark.{Mark}
use Rattle.chunk_owner.specs.declared.slots.slot.Mark.TheVariants.{Kept}
use Rattle.chunk_owner.specs.declared.slots.slot.Slot.{Slot}
use Rattle.chunk_owner.specs.Slots.Slots.{AreOfKind, AreStill, IsMarked, IsMarkedIn, IsStill, IsStillBody, IsStillSlot, Says, Slots, is_meant, object_of}
use Rattle.chunk_owner.specs.Slots.Bodies.{IsRecordOf, IsSlotRecord}
use Rattle.chunk_owner.specs.Slots.Cutting.{AddsAll, AddsAt, AddsChunksIn, AddsFrontAt, AddsSlot, IsObjectPart}
use Rattle.chunk_owner.specs.Slots.Listed.{AreListed, IsNextLook, is_looked_at}
use Rattle.chunk_owner.specs.declared.slots.changes.Changes.{Changes}
use Rattle.chunk_owner.specs.Slots.Settled.{AreSettled, BodySettles, Settles, SettlesBy}
use Rattle.containers.proofs.Passing.{by_bool, contrary}
use Rattle.chunk_owner.proofs.OfSlots.LaneCuts.{IsKeyApart, IsMarkedTo, by_place, itself_not, marked_apart, not_behind, other_id, said_apart, same_id, settled_kind, settled_object, settled_still, weaker_behind}
use Rattle.chunk_owner.proofs.OfSlots.SlotBodies.{front_each, slot_each}
use Rattle.chunk_owner.proofs.OfSlots.SlotCuts.{slot_cut}
use Rattle.chunk_owner.proofs.OfSlots.Listing.{fewer_looks, looks_left}

-- ---- what is still

-- the same chunks are known of what is still
same_known : (inside : Bool) (o : Option Bool) → flagged o ≡ false → o ≡ cleared inside o
same_known inside None e = refl
same_known inside (Some true) e = contrary true (Some true ≡ cleared inside (Some true)) refl e
same_known inside (Some false) e = refl

body_itself : (b : Body) → IsStillBody b → BodySettles b b
body_itself (body.Group links) still = refl
body_itself (body.Dataset array) still = (
  array,
  refl,
  record {
    grid = refl;
    marks = λ i. same_known (in_grid array.grid i) (state array i) (still i);
    tracked = λ bodies tracked. subst (λ (f : List ℕ → List ℕ). IsTracked f array) (sym (same bodies)) tracked;
  },
) where
  same : (bodies : List ℕ → List ℕ) → cut bodies array ≡ bodies
  same bodies k i = ap (λ b. cond b (body_of array.grid i) (bodies i)) (still i) k
body_itself (body.Datatype type) still = refl

-- it settles as it is
pub still_settles : (o : Option Slot) → IsStillSlot o → Settles o o
still_settles None still = refl
still_settles (Some s) still = subst (λ (m : Mark). SettlesBy m s (Some s)) (sym still.0) (s, refl, record { mark = still.0; attributes = refl; body = body_itself s.object.body still.1 })

no_chunks : (id : Id) (mark : Mark) (b : Body) → mark ≡ Kept → IsStillBody b → AddsChunksIn id mark b true [] []
no_chunks id mark (body.Group links) kept still = refl
no_chunks id mark (body.Dataset array) kept still = (
  [],
  record {
    meant = tt;
    distinct = tt;
    all = λ e i meant. contrary (is_meant Kept array i) (false ≡ true) (subst (λ (m : Mark). is_meant m array i ≡ true) kept meant) (still i);
  },
  refl,
)
no_chunks id mark (body.Datatype type) kept still = refl

-- and no record of it is written
no_records : (id : Id) (s : Slot) → IsStill s → AddsSlot id s [] []
no_records id s still = (
  [],
  ([], subst (λ (m : Mark). IsObjectPart (object_key id) m s.object []) (sym still.0) refl, refl),
  no_chunks id s.mark s.object.body still.0 still.1,
)

-- so what is held says of it what it said
pub still_said : (id : Id) (o t : Option Slot) → InRange id → ((s : Slot) → o ≡ Some s → IsOfKind id.kind s.object) → IsStillSlot o → Settles o t → (held : Held) → Says o id held → Says t id held
still_said id None t range kinds still settles held said = subst (λ (w : Option Slot). Says w id held) (sym settles) said
still_said id (Some s) t range kinds still settles held said =
    let c = slot_cut id s t held [] [] range (kinds s refl) (no_records id s still) settles in
    subst (λ (rs : List Record). Says (Some s) id held → Says t id (put_all rs held)) (sym c.appended) c.stands said

pub settles_still : (o n : Option Slot) → Settles o n → IsStillSlot n
settles_still o None settles = tt
settles_still None (Some t) settles = absurd (none-some t (sym settles))
settles_still (Some s) (Some t) settles = settled_still s.mark s t (Some t) settles refl

-- ---- what stands once all is settled

module _ (old new : Slots) (settled : AreSettled old new) where
  pub each_settled : (q : Id) → (get new q ≡ get old q) ⊎ Settles (get old q) (get new q)
  each_settled q = inr (settled q)

  pub objects_settled : (q : Id) → object_of (get new q) ≡ object_of (get old q)
  objects_settled q = settled_object (get old q) (get new q) (settled q)

  pub kinds_settled : AreOfKind old → AreOfKind new
  kinds_settled kinds q t e = at (get old q) refl (settled q) where
    at : (o : Option Slot) → get old q ≡ o → Settles o (get new q) → IsOfKind q.kind t.object
    at None here s = absurd (none-some t (sym s ∙ e))
    at (Some x) here s = settled_kind q.kind x.mark x t (get new q) s e (kinds q x here)

  pub still_settled : AreStill new
  still_settled q t e = at (get old q) (settled q) where
    at : (o : Option Slot) → Settles o (get new q) → IsStill t
    at None s = absurd (none-some t (sym s ∙ e))
    at (Some x) s = settled_still x.mark x t (get new q) s e

-- ---- records are appended

-- what stands where all up to an id is settled
abbrev settled_to : Slots → Slots → Option Id → Id → Option Slot
settled_to old new last q = cond (is_behind id_order last q) (get old q) (get new q)

-- the records of the ids up to one are appended
pub record IsAppended (old : Slots) (first mid : List Record) (last : Option Id) : Type 0 where
  pub cut : (new : Slots) → AreSettled old new → (base : Held)
      → IsCut (IsMarkedTo old last) base first mid (λ held. (q : Id) → InRange q → Says (get old q) q base → Says (settled_to old new last q) q held)
  pub bodies : AppendsEach (IsSlotRecord old) first mid

pub appended_none : (old : Slots) (records : List Record) → IsAppended old records records None
appended_none old records = record {
  cut = λ new settled base. record { added = []; appended = sym (append-nil records); changed = tt; once = tt; stands = λ q range said. said };
  bodies = appends_none (IsSlotRecord old) records;
}

-- a key that is marked at an id
abbrev IsMarkedAt : Id → Option Slot → List ℕ → Type 0
IsMarkedAt id None key = ⊥
IsMarkedAt id (Some s) key = IsMarkedIn id s.mark s.object.body key

slot_here : (slots : Slots) (id : Id) (o : Option Slot) (key : List ℕ) → InRange id → get slots id ≡ o → IsMarkedAt id o key → IsMarked slots key
slot_here slots id None key range here marked = absurd marked
slot_here slots id (Some s) key range here marked = record { id = id; range = range; slot = s; here = here; part = marked }

apart_at : (id q : Id) (o : Option Slot) → InRange id → InRange q → q ≢ id → (key : List ℕ) → IsMarkedAt id o key → IsKeyApart q key
apart_at id q None range mine other key marked = absurd marked
apart_at id q (Some s) range mine other key marked = marked_apart id q range mine other s.mark s.object.body key marked

same_at : (a id : Id) (o : Option Slot) → InRange a → InRange id → (m : Mark) (b : Body) (key : List ℕ) → IsMarkedIn a m b key → IsMarkedAt id o key → a ≡ id
same_at a id None far range m b key marked mine = absurd mine
same_at a id (Some s) far range m b key marked mine = same_id a id far range m s.mark b s.object.body key marked mine

-- the cut of what stands at one id
cut_here : (id : Id) (o t : Option Slot) → InRange id → ((s : Slot) → o ≡ Some s → IsOfKind id.kind s.object) → Settles o t → (mid new : List Record) → AddsAt id o mid new → (held : Held)
    → IsCut (IsMarkedAt id o) held mid new (λ h. Says o id held → Says t id h)
cut_here id None t range kinds settles mid new adds held = record {
  added = [];
  appended = adds ∙ sym (append-nil mid);
  changed = tt;
  once = tt;
  stands = λ said. subst (λ (w : Option Slot). Says w id held) (sym settles) said;
}
cut_here id (Some s) t range kinds settles mid new adds held = slot_cut id s t held mid new range (kinds s refl) adds settles

each_here : (slots : Slots) (id : Id) (o : Option Slot) → InRange id → get slots id ≡ o → AreOfKind slots → (mid new : List Record) → AddsAt id o mid new → AppendsEach (IsSlotRecord slots) mid new
each_here slots id None range here kinds mid new adds = subst (λ (rs : List Record). AppendsEach (IsSlotRecord slots) mid rs) (sym adds) (appends_none (IsSlotRecord slots) mid)
each_here slots id (Some s) range here kinds mid new adds = appends_as (IsRecordOf id (object_of (Some s))) (IsSlotRecord slots) mid new
    (λ r h. record { id = id; range = range; slot = s; here = here; of = h }) (slot_each id s (kinds id s here).kind mid new adds)

front_here : (slots : Slots) (id : Id) (o : Option Slot) → InRange id → get slots id ≡ o → AreOfKind slots → (mid new : List Record) → AddsFrontAt id o mid new → AppendsEach (IsSlotRecord slots) mid new
front_here slots id None range here kinds mid new adds = subst (λ (rs : List Record). AppendsEach (IsSlotRecord slots) mid rs) (sym adds) (appends_none (IsSlotRecord slots) mid)
front_here slots id (Some s) range here kinds mid new adds = appends_as (IsRecordOf id (object_of (Some s))) (IsSlotRecord slots) mid new
    (λ r h. record { id = id; range = range; slot = s; here = here; of = h }) (front_each id s (kinds id s here).kind mid new adds)

module _ (old : Slots) (first mid : List Record) (last : Option Id) (kinds : AreOfKind old) (a : IsAppended old first mid last) where
  module _ (id : Id) (range : InRange id) (next : IsNextLook old last (Some id)) (after : List Record) where
    abbrev Mine : List ℕ → Type 0
    Mine = IsMarkedAt id (get old id)

    before_apart : AreApart (IsMarkedTo old last) Mine
    before_apart key m mine =
        let same = same_at m.0.id id (get old id) m.0.range range m.0.slot.mark m.0.slot.object.body key m.0.part mine in
        contrary (is_behind id_order last id) ⊥ next.0 (subst (λ (x : Id). is_behind id_order last x ≡ false) same m.1)

    marks_to : (key : List ℕ) → IsEither (IsMarkedTo old last) Mine key → IsMarkedTo old (Some id) key
    marks_to key (inl m) = (m.0, not_behind last id m.0.id next.0 m.1)
    marks_to key (inr mine) = at (get old id) refl mine where
      at : (o : Option Slot) → get old id ≡ o → IsMarkedAt id o key → IsMarkedTo old (Some id) key
      at None here marked = absurd marked
      at (Some s) here marked = (record { id = id; range = range; slot = s; here = here; part = marked }, itself_not id)

    module _ (new : Slots) (settled : AreSettled old new) where
      abbrev Told : Option Id → Held → Held → Type 0
      Told at base held = (q : Id) → InRange q → Says (get old q) q base → Says (settled_to old new at q) q held

      here_told : (held : Held) → Says (settled_to old new last id) id held → Says (get old id) id held
      here_told held said = subst (λ b. Says (cond b (get old id) (get new id)) id held) next.0 said

      kind_to : (q : Id) (b : Bool) (s : Slot) → cond b (get old q) (get new q) ≡ Some s → IsOfKind q.kind s.object
      kind_to q true s e = kinds q s e
      kind_to q false s e = kinds_settled old new settled kinds q s e

      -- what was said of another id, where the records are of this one
      others_told : (held : Held) (q : Id) → InRange q → q ≢ id → Says (settled_to old new last q) q held → Says (settled_to old new (Some id) q) q held
      others_told held q mine other said = at (is_behind id_order last q) refl (is_behind id_order (Some id) q) refl said where
        at : (b : Bool) → is_behind id_order last q ≡ b → (d : Bool) → is_behind id_order (Some id) q ≡ d → Says (cond b (get old q) (get new q)) q held → Says (settled_to old new (Some id) q) q held
        at true b true d was = subst (λ x. Says (cond x (get old q) (get new q)) q held) (sym d) was
        at true b false d was = subst (λ x. Says (cond x (get old q) (get new q)) q held) (sym d)
            (by_place id q (Says (get new q) q held) d (λ same. absurd (other same)) (λ apart less. still_said q (get old q) (get new q) mine (λ s e. kinds q s e) (next.1 q b less) (settled q) held was))
        at false b true d was = contrary (is_behind id_order (Some id) q) (Says (settled_to old new (Some id) q) q held) d (not_behind last id q next.0 b)
        at false b false d was = subst (λ x. Says (cond x (get old q) (get new q)) q held) (sym d) was

      id_told : (held : Held) → Says (get new id) id held → Says (settled_to old new (Some id) id) id held
      id_told held said = subst (λ x. Says (cond x (get old id) (get new id)) id held) (sym (itself_not id)) said

      module _ (held : Held) (c : IsCut Mine held mid after (λ h. Says (get old id) id held → Says (get new id) id h)) where
        all_told : (q : Id) → InRange q → Says (settled_to old new last q) q held → Says (settled_to old new (Some id) q) q (put_all c.added held)
        all_told q mine said = by_bool (is_eq (id_order q id)) (Says (settled_to old new (Some id) q) q (put_all c.added held))
            (λ y. let same = id_order_once q id ((Equal-is (id_order q id)).0 y) in
            subst (λ (x : Id). Says (settled_to old new (Some id) x) x (put_all c.added held)) (sym same)
            (id_told (put_all c.added held) (c.stands (here_told held (subst (λ (x : Id). Says (settled_to old new last x) x held) same said)))))
            (λ n. let other = other_id id q n in others_told (put_all c.added held) q mine other
            (said_apart q c.added (all_more (λ r. Mine r.0) (λ r. IsKeyApart q r.0) c.added (λ r h. apart_at id q (get old id) range mine other r.0 h) c.changed) held (settled_to old new last q)
            (λ s e. kind_to q (is_behind id_order last q) s e) said))

      cut_more : AddsAt id (get old id) mid after → (base : Held) → IsCut (IsEither (IsMarkedTo old last) Mine) base first after (Told (Some id) base)
      cut_more adds base = in_turn (IsMarkedTo old last) Mine before_apart base first mid after (Told last base) (Told (Some id) base) (a.cut new settled base)
          (λ held said. let c = cut_here id (get old id) (get new id) range (λ s e. kinds id s e) (settled id) mid after adds held in record {
            added = c.added;
            appended = c.appended;
            changed = c.changed;
            once = c.once;
            stands = λ q mine was. all_told held c q mine (said q mine was);
          })

      cut_to : AddsAt id (get old id) mid after → (base : Held) → IsCut (IsMarkedTo old (Some id)) base first after (Told (Some id) base)
      cut_to adds base = let c = cut_more adds base in record {
        added = c.added;
        appended = c.appended;
        changed = all_more (λ r. IsEither (IsMarkedTo old last) Mine r.0) (λ r. IsMarkedTo old (Some id) r.0) c.added (λ r h. marks_to r.0 h) c.changed;
        once = c.once;
        stands = c.stands;
      }

    pub appended_more : AddsAt id (get old id) mid after → IsAppended old first after (Some id)
    appended_more adds = record {
      cut = λ new settled base. cut_to new settled adds base;
      bodies = appends_more (IsSlotRecord old) first mid after a.bodies (each_here old id (get old id) range refl kinds mid after adds);
    }

    -- no memory was found for the next one
    pub appended_front : AddsFrontAt id (get old id) mid after → AppendsEach (IsSlotRecord old) first after
    appended_front adds = appends_more (IsSlotRecord old) first mid after a.bodies (front_here old id (get old id) range refl kinds mid after adds)

  -- no more is to be looked at
  pub appended_all : IsNextLook old last None → AddsAll old first mid
  appended_all none new settled base = let c = a.cut new settled base in record {
    added = c.added;
    appended = c.appended;
    changed = all_more (λ r. IsMarkedTo old last r.0) (λ r. IsMarked old r.0) c.added (λ r m. m.0) c.changed;
    once = c.once;
    stands = λ q mine was. last_told (put_all c.added base) q mine (c.stands q mine was);
  } where
    last_told : (held : Held) (q : Id) → InRange q → Says (settled_to old new last q) q held → Says (get new q) q held
    last_told held q mine said = at (is_behind id_order last q) refl said where
      at : (b : Bool) → is_behind id_order last q ≡ b → Says (cond b (get old q) (get new q)) q held → Says (get new q) q held
      at true b was = still_said q (get old q) (get new q) mine (λ s e. kinds q s e) (none q b) (settled q) held was
      at false b was = was

-- ---- and settled

-- the ids up to one are settled
pub record IsSettledTo (old cur : Slots) (last : Option Id) : Type 0 where
  pub ahead : (q : Id) → is_behind id_order last q ≡ true → get cur q ≡ get old q
  pub done : (q : Id) → is_behind id_order last q ≡ false → Settles (get old q) (get cur q)

pub settled_none : (old : Slots) → IsSettledTo old old None
settled_none old = record { ahead = λ q b. refl; done = λ q isnt. contrary true (Settles (get old q) (get old q)) refl isnt }

module _ (old cur : Slots) (last : Option Id) (d : IsSettledTo old cur last) where
  -- what is still has settled
  passed : (q : Id) → is_behind id_order last q ≡ true → IsStillSlot (get cur q) → Settles (get old q) (get cur q)
  passed q b still = subst (λ (o : Option Slot). Settles o (get cur q)) (d.ahead q b) (still_settles (get cur q) still)

  pub settled_more : (new : Slots) (id : Id) → IsNextLook cur last (Some id) → Settles (get cur id) (get new id) → ((q : Id) → q ≢ id → get new q ≡ get cur q) → IsSettledTo old new (Some id)
  settled_more new id next here others = record {
    ahead = λ q b. others q (λ same. contrary (is_behind id_order (Some id) q) ⊥ b (subst (λ (x : Id). is_behind id_order (Some id) x ≡ false) (sym same) (itself_not id))) ∙ d.ahead q (weaker_behind last id q next.0 b);
    done = λ q isnt. by_place id q (Settles (get old q) (get new q)) isnt
        (λ same. subst (λ (x : Id). Settles (get old x) (get new x)) (sym same) (subst (λ (o : Option Slot). Settles o (get new id)) (d.ahead id next.0) here))
        (λ other less. subst (λ (o : Option Slot). Settles (get old q) o) (sym (others q other))
        (by_bool (is_behind id_order last q) (Settles (get old q) (get cur q)) (λ b. passed q b (next.1 q b less)) (λ b. d.done q b)));
  }

  -- what is looked at now was so at the begin
  pub settled_smaller : (c : Changes) (id : Id) → IsNextLook cur last (Some id) → is_looked_at c cur id ≡ true → looks_left c old (Some id) < looks_left c old last
  settled_smaller c id next looked = fewer_looks c old last id next.0 (subst (λ (o : Option Slot). cond c.all (is_some o) (is_some (get c.listed id)) ≡ true) (d.ahead id next.0) looked)

  pub settled_listed : (c : Changes) → AreListed c old → AreListed c cur
  settled_listed c listed q isnt = by_bool (is_behind id_order last q) (IsStillSlot (get cur q))
      (λ b. subst IsStillSlot (sym (d.ahead q b)) (listed q isnt)) (λ b. settles_still (get old q) (get cur q) (d.done q b))

  pub settled_all : IsNextLook cur last None → AreSettled old cur
  settled_all none q = by_bool (is_behind id_order last q) (Settles (get old q) (get cur q)) (λ b. passed q b (none q b)) (λ b. d.done q b)
