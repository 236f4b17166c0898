-- Records of one part beside what is held of the others.
use Rattle.std.proofs.Common.{◌≡◌, ◌≢◌, ◌⊎◌, inl, inr, ⊎_elim, ℕ, Bool, true, false, cond, All, List, [], ◌∷◌, get_or, Option, Some, None, refl, sym, ap, subst, ◌∙◌, arith}
use Rattle.std.specs.FinMap.{get}
use Rattle.std.specs.List.{AllByRecursion}
use Rattle.std.specs.Option.{option_map_or}
use Rattle.std.proofs.lemmas.List.Elements.{All-nil, All-cons}
use Rattle.flush_journal.specs.Records.{Held, Record, put_all}
use Rattle.object_ids.specs.IdValues.{Id}
use Rattle.object_ids.specs.Ids.{InRange, lane_of}
use Rattle.object_ids.specs.declared.ids.Kind.TheVariants.{Dataset}
use Rattle.object_acts.specs.declared.objects.Body.{Body}
use Rattle.object_acts.specs.declared.objects.Body.TheVariants as body
use Rattle.object_acts.specs.declared.objects.Object.{Object}
use Rattle.object_acts.specs.Objects.{kind_of_body}
use Rattle.object_records.specs.Keys.Keys.{IsChunk, IsSubject, Subject, chunk, chunk_key, key_of, next_key, node_key, next_number, object, object_key, run_key, the_run}
use Rattle.chunk_owner.proofs.OfSlots.KeyFacts.{index_numbers}
use Rattle.chunk_owner.specs.Slots.Slots.{AreChunksIn, Describes, HasCells, HasRecord, IsMarked, IsRecordOf, Says, Slots, chunks_at, is_index}
use Rattle.chunk_owner.specs.declared.slots.slot.Mark.{Mark}
use Rattle.chunk_owner.specs.declared.slots.slot.Slot.{Slot}
use Rattle.register.specs.Decided.{RegisterState}
use Rattle.register.specs.Installed.Registers.{is_node_key}
use Rattle.register.specs.Kept.{IsRegisterMarked, a_node, the_next}
use Rattle.register.specs.Kept.{the_run as marks_run}
use Rattle.service_core.specs.Strays.Strays.{HasNoStrays, IsStrayKey}

-- no two records have one key
abbrev pub KeysDiffer : Type 0
KeysDiffer = (a b : Subject) → IsSubject a → IsSubject b → key_of a ≡ key_of b → a ≡ b

-- records leave what is held at each key that is none of theirs
abbrev pub OthersStay : Type 0
OthersStay = (m : Held) (records : List Record) (key : List ℕ) → All (λ r. r.0 ≢ key) records → get (put_all records m) key ≡ get m key

-- the key is of an object of the lane, or of one of its chunks
pub record IsKeyIn (lanes l : ℕ) (key : List ℕ) : Type 0 where
  pub id : Id
  pub range : InRange id
  pub home : lane_of lanes id ≡ l
  pub of : (key ≡ object_key id) ⊎ ((i : List ℕ) × IsChunk id i × (key ≡ chunk_key id i))

-- the key is of the run, of the next number or of a node
pub data IsLowKey (key : List ℕ) : Type 0 where
  of_run : key ≡ run_key → IsLowKey key
  of_next : key ≡ next_key → IsLowKey key
  of_node : (path : List ℕ) → key ≡ node_key path → IsLowKey key

abbrev first_byte : List ℕ → ℕ
first_byte key = get_or key 0 0

pub slots_key : (lanes l : ℕ) (slots : Slots) (key : List ℕ) → ((id : Id) → (m : IsMarked slots key) → m.id ≡ id → lane_of lanes id ≡ l) → IsMarked slots key → IsKeyIn lanes l key
slots_key lanes l slots key home m = record {
  id = m.id;
  range = m.range;
  home = home m.id m refl;
  of = ⊎_elim (λ of. inl of.0) (λ of. inr (of.0, record { kind = of.3; id = m.range; numbers = index_numbers of.0 of.2 }, of.1)) m.part;
}

pub register_key : (d : RegisterState) (key : List ℕ) → IsRegisterMarked d key → IsLowKey key
register_key d key (marks_run on is) = of_run is
register_key d key (the_next on is) = of_next is
register_key d key (a_node path on is) = of_node path is

high_byte : (lanes l : ℕ) (key : List ℕ) → IsKeyIn lanes l key → (first_byte key ≡ 3) ⊎ (first_byte key ≡ 4)
high_byte lanes l key k = ⊎_elim (λ e. inl (ap first_byte e)) (λ e. inr (ap first_byte e.2)) k.of

low_byte : (key : List ℕ) → IsLowKey key → (first_byte key ≡ 3 → ⊥) × (first_byte key ≡ 4 → ⊥)
low_byte key (of_run is) = (λ e. let w = ap first_byte is in omega (arith, e, w), λ e. let w = ap first_byte is in omega (arith, e, w))
low_byte key (of_next is) = (λ e. let w = ap first_byte is in omega (arith, e, w), λ e. let w = ap first_byte is in omega (arith, e, w))
low_byte key (of_node path is) = (λ e. let w = ap first_byte is in omega (arith, e, w), λ e. let w = ap first_byte is in omega (arith, e, w))

apart : (lanes l : ℕ) (key other : List ℕ) → IsKeyIn lanes l key → IsLowKey other → key ≢ other
apart lanes l key other high low e = let b = low_byte other low in ⊎_elim (λ t. b.0 (sym (ap first_byte e) ∙ t)) (λ t. b.1 (sym (ap first_byte e) ∙ t)) (high_byte lanes l key high)

-- ---- keys of no part

high_no_stray : (lanes l : ℕ) (key : List ℕ) → IsKeyIn lanes l key → IsStrayKey key → ⊥
high_no_stray lanes l key k stray = ⊎_elim (λ e. stray.no_subject (object k.id) k.range (sym e)) (λ e. stray.no_subject (chunk k.id e.0) e.1 (sym e.2)) k.of

low_no_stray : (key : List ℕ) → IsLowKey key → IsStrayKey key → ⊥
low_no_stray key (of_run is) stray = stray.no_subject the_run tt (sym is)
low_no_stray key (of_next is) stray = stray.no_subject next_number tt (sym is)
low_no_stray key (of_node path is) stray = let c : true ≡ false = sym (ap is_node_key is) ∙ stray.no_node in cc

-- ---- what is held

module _ (others : OthersStay) where
  each : (P : Record → Type 0) (Q : Record → Type 0) → ((r : Record) → P r → Q r) → (rs : List Record) → AllByRecursion P rs → All Q rs
  each P Q f [] h = All-nil Q
  each P Q f (r ∷ rs) h = All-cons Q r rs (f r h.0) (each P Q f rs h.1)

  pub stays : (P : List ℕ → Type 0) (added : List Record) (base : Held) (key : List ℕ) → AllByRecursion (λ r. P r.0) added → ((k : List ℕ) → P k → k ≢ key)
      → get (put_all added base) key ≡ get base key
  stays P added base key all far = others base added key (each (λ r. P r.0) (λ r. r.0 ≢ key) (λ r h. far r.0 h) added all)

  strays_stay : (P : List ℕ → Type 0) (added : List Record) (base : Held) → AllByRecursion (λ r. P r.0) added → ((k : List ℕ) → P k → IsStrayKey k → ⊥)
      → HasNoStrays base → HasNoStrays (put_all added base)
  strays_stay P added base all none before key s =
      before key (record {
        stray = s.stray;
        body = s.body;
        here = sym (stays P added base key all (λ k p same. none k p (subst IsStrayKey (sym same) s.stray))) ∙ s.here;
      })

  -- ---- objects, where their keys are none of the records'

  module _ (old new : Held) (id : Id) (record_is : get new (object_key id) ≡ get old (object_key id))
      (chunks_are : id.kind ≡ Dataset → (i : List ℕ) → is_index i ≡ true → get new (chunk_key id i) ≡ get old (chunk_key id i)) where
    chunk_is : id.kind ≡ Dataset → (i : List ℕ) (b : Bool) → is_index i ≡ b
        → cond b (option_map_or (λ body. body) (get new (chunk_key id i)) []) [] ≡ cond b (option_map_or (λ body. body) (get old (chunk_key id i)) []) []
    chunk_is dataset i true e = ap (λ (o : Option (List ℕ)). option_map_or (λ body. body) o []) (chunks_are dataset i e)
    chunk_is dataset i false e = refl

    all_chunks : id.kind ≡ Dataset → chunks_at new id ≡ chunks_at old id
    all_chunks dataset = λ j. λ i. (chunk_is dataset i (is_index i) refl) j

    cells : (b : Body) → kind_of_body b ≡ id.kind → HasCells (chunks_at old id) b → HasCells (chunks_at new id) b
    cells (body.Group links) kind h = tt
    cells (body.Dataset array) kind h = subst (λ (f : List ℕ → List ℕ). HasCells f (body.Dataset array)) (sym (all_chunks (sym kind))) h
    cells (body.Datatype type) kind h = tt

    pub described_on : (o : Option Object) → Describes old id o → Describes new id o
    described_on None h = (record_is ∙ h.0, λ dataset i. ap (λ (f : List ℕ → List ℕ). f i) (all_chunks dataset) ∙ h.1 dataset i)
    described_on (Some o) h = (h.0, subst (IsRecordOf (Some o)) (sym record_is) h.1, cells o.body h.0 h.2)

    chunks_in : (mark : Mark) (b : Body) → kind_of_body b ≡ id.kind → AreChunksIn mark (chunks_at old id) b → AreChunksIn mark (chunks_at new id) b
    chunks_in mark (body.Group links) kind h = tt
    chunks_in mark (body.Dataset array) kind h = subst (λ (f : List ℕ → List ℕ). AreChunksIn mark f (body.Dataset array)) (sym (all_chunks (sym kind))) h
    chunks_in mark (body.Datatype type) kind h = tt

    pub said_on : (o : Option Slot) → ((s : Slot) → o ≡ Some s → kind_of_body s.object.body ≡ id.kind) → Says o id old → Says o id new
    said_on None kinds h = described_on None h
    said_on (Some s) kinds h = (subst (HasRecord s.mark s.object) (sym record_is) h.0, chunks_in s.mark s.object.body (kinds s refl) h.1)

  -- records of the register
  module _ (added : List Record) (base : Held) (low : AllByRecursion (λ r. IsLowKey r.0) added) where
    pub high_stays : (lanes l : ℕ) (key : List ℕ) → IsKeyIn lanes l key → get (put_all added base) key ≡ get base key
    high_stays lanes l key k = stays IsLowKey added base key low (λ other m same. apart lanes l key other k m (sym same))

    pub low_strays : HasNoStrays base → HasNoStrays (put_all added base)
    low_strays = strays_stay IsLowKey added base low low_no_stray

    module _ (id : Id) (range : InRange id) where
      same_record : get (put_all added base) (object_key id) ≡ get base (object_key id)
      same_record = high_stays 1 (lane_of 1 id) (object_key id) (record { id = id; range = range; home = refl; of = inl refl })

      same_chunks : id.kind ≡ Dataset → (i : List ℕ) → is_index i ≡ true → get (put_all added base) (chunk_key id i) ≡ get base (chunk_key id i)
      same_chunks dataset i index = high_stays 1 (lane_of 1 id) (chunk_key id i)
          (record { id = id; range = range; home = refl; of = inr (i, record { kind = dataset; id = range; numbers = index_numbers i index }, refl) })

      pub low_describes : (o : Option Object) → Describes base id o → Describes (put_all added base) id o
      low_describes = described_on base (put_all added base) id same_record same_chunks

      pub low_says : (o : Option Slot) → ((s : Slot) → o ≡ Some s → kind_of_body s.object.body ≡ id.kind) → Says o id base → Says o id (put_all added base)
      low_says = said_on base (put_all added base) id same_record same_chunks

  -- records of a lane
  module _ (differ : KeysDiffer) (lanes l : ℕ) (added : List Record) (base : Held) (high : AllByRecursion (λ r. IsKeyIn lanes l r.0) added) where
    pub low_stays : (key : List ℕ) → IsLowKey key → get (put_all added base) key ≡ get base key
    low_stays key low = stays (IsKeyIn lanes l) added base key high (λ other k same. apart lanes l other key k low same)

    pub high_strays : HasNoStrays base → HasNoStrays (put_all added base)
    high_strays = strays_stay (IsKeyIn lanes l) added base high (high_no_stray lanes l)

    module _ (q : Id) (range : InRange q) (far : lane_of lanes q ≢ l) where
      other_id : (id : Id) → lane_of lanes id ≡ l → id ≡ q → ⊥
      other_id id home same = far (sym (ap (lane_of lanes) same) ∙ home)

      no_object : (key : List ℕ) → IsKeyIn lanes l key → key ≢ object_key q
      no_object key k e = ⊎_elim
          (λ of. let s = differ (object k.id) (object q) k.range range (sym of ∙ e) in other_id k.id k.home (let same : k.id ≡ q = cc in same))
          (λ of. let s = differ (chunk k.id of.0) (object q) of.1 range (sym of.2 ∙ e) in absurd (cc))
          k.of

      no_chunk : (i : List ℕ) → IsChunk q i → (key : List ℕ) → IsKeyIn lanes l key → key ≢ chunk_key q i
      no_chunk i is key k e = ⊎_elim
          (λ of. let s = differ (object k.id) (chunk q i) k.range is (sym of ∙ e) in absurd (cc))
          (λ of. let s = differ (chunk k.id of.0) (chunk q i) of.1 is (sym of.2 ∙ e) in other_id k.id k.home (let same : k.id ≡ q = cc in same))
          k.of

      record_stays : get (put_all added base) (object_key q) ≡ get base (object_key q)
      record_stays = stays (IsKeyIn lanes l) added base (object_key q) high no_object

      chunks_stay : q.kind ≡ Dataset → (i : List ℕ) → is_index i ≡ true → get (put_all added base) (chunk_key q i) ≡ get base (chunk_key q i)
      chunks_stay dataset i index = stays (IsKeyIn lanes l) added base (chunk_key q i) high
          (no_chunk i (record { kind = dataset; id = range; numbers = index_numbers i index }))

      pub far_describes : (o : Option Object) → Describes base q o → Describes (put_all added base) q o
      far_describes = described_on base (put_all added base) q record_stays chunks_stay

      pub far_says : (o : Option Slot) → ((s : Slot) → o ≡ Some s → kind_of_body s.object.body ≡ q.kind) → Says o q base → Says o q (put_all added base)
      far_says = said_on base (put_all added base) q record_stays chunks_stay
