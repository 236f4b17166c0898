-- Keys of a lane's objects and chunks, and what records in front of one say of an id.
use Rattle.std.proofs.Common.{◌≡◌, ◌≢◌, ℕ, true, false, cond, bytes_eq, List, [], ◌∷◌, ◌++◌, Option, Some, None, is_eq, Less, refl, sym, ap, subst, ◌∙◌, arith}
use Rattle.std.specs.Cmp.{Equal-is}
use Rattle.std.specs.FinMap.{entries, get}
use Rattle.std.specs.Option.{option_map_or}
use Rattle.std.proofs.lemmas.Cmp.{tied_itself}
use Rattle.std.proofs.lemmas.Slice.Eq.{bytes_eq-Decides}
use Rattle.containers.specs.TextMaps.Keyed.{text_order}
use Rattle.flush_journal.specs.Records.{Held, Record}
use Rattle.object_ids.specs.IdOrder.{id_order, kind_rank}
use Rattle.object_ids.specs.IdValues.{Id}
use Rattle.object_ids.specs.Ids.{InRange, lane_of}
use Rattle.object_ids.specs.declared.ids.Kind.TheVariants as kinds
use Rattle.object_ids.proofs.IdOrders.{id_order_once, id_order_total}
use Rattle.chunk_store.specs.Cells.{put}
use Rattle.object_acts.specs.declared.objects.Body.{Body}
use Rattle.object_acts.specs.declared.objects.Body.TheVariants as body
use Rattle.object_acts.specs.Objects.{kind_of_body}
use Rattle.object_records.specs.Keys.Keys.{IsChunk, chunk, chunk_key, object_key, key_of, Subject, IsSubject}
use Rattle.object_records.specs.Keys.Keys.{the_run, node, object, next_number}
use Rattle.chunk_owner.specs.declared.slots.slot.Mark.{Mark}
use Rattle.chunk_owner.specs.declared.slots.slot.Slot.{Slot}
use Rattle.chunk_owner.specs.Slots.Slots.{AreChunksIn, HasRecord, Says, chunks_at, is_index}
use Rattle.chunk_owner.proofs.OfSlots.KeyFacts.{chunk_id_once, chunk_index_once, numbers_index}
use Rattle.containers.proofs.Passing.{by_bool, contrary}
use Rattle.chunk_owner.specs.Installs.Records.{IsOfLane}
use Rattle.containers.specs.TextMaps.Fronts.{held_by}
use Rattle.containers.proofs.TextMaps.Fronts.{said_here, said_else}

-- ---- keys of another lane

-- a key that is of no object and no chunk of the lane is of nothing of it
pub of_no_lane : (lanes lane : ℕ) (key : List ℕ) → ((id : Id) → InRange id → lane_of lanes id ≡ lane → object_key id ≢ key)
    → ((id : Id) (i : List ℕ) → IsChunk id i → lane_of lanes id ≡ lane → chunk_key id i ≢ key)
    → (s : Subject) → IsSubject s → IsOfLane lanes lane s → key_of s ≢ key
of_no_lane lanes lane key no_object no_chunk the_run is own same = own
of_no_lane lanes lane key no_object no_chunk (node path) is own same = own
of_no_lane lanes lane key no_object no_chunk (object id) is own same = no_object id is own same
of_no_lane lanes lane key no_object no_chunk (chunk id i) is own same = no_chunk id i is own same
of_no_lane lanes lane key no_object no_chunk next_number is own same = own

-- objects' keys come first
pub object_first : (id : Id) (other : Id) (i key : List ℕ) → chunk_key other i ≡ key → text_order (object_key id) key ≡ Less
object_first id other i key is = subst (λ (k : List ℕ). text_order (object_key id) k ≡ Less) is refl

-- ---- ids

pub by_id : (P : Id → Type 0) (id : Id) → P id → ((q : Id) → q ≢ id → P q) → (q : Id) → P q
by_id P id here apart q = by_bool (is_eq (id_order q id)) (P q)
    (λ y. subst P (sym (id_order_once q id ((Equal-is (id_order q id)).0 y))) here)
    (λ isnt. apart q (λ same. contrary (is_eq (id_order q id)) ⊥ (ap (λ (x : Id). is_eq (id_order x id)) same ∙ ap is_eq (tied_itself id_order_total id)) isnt))

pub group_no_dataset : kinds.Group ≡ kinds.Dataset → ⊥
group_no_dataset e = absurd (let s : 0 ≡ 1 = ap kind_rank e in omega arith)

pub datatype_no_dataset : kinds.Datatype ≡ kinds.Dataset → ⊥
datatype_no_dataset e = absurd (let s : 2 ≡ 1 = ap kind_rank e in omega arith)

pub no_group_dataset : kinds.Dataset ≡ kinds.Group → ⊥
no_group_dataset e = group_no_dataset (sym e)

-- ---- what is held of an id, where nothing of it is added

module _ (q : Id) (a b : Held) (record_same : get b (object_key q) ≡ get a (object_key q)) (chunks_same : q.kind ≡ kinds.Dataset → chunks_at b q ≡ chunks_at a q) where
  body_again : (mark : Mark) (x : Body) → kind_of_body x ≡ q.kind → AreChunksIn mark (chunks_at a q) x → AreChunksIn mark (chunks_at b q) x
  body_again mark (body.Group links) kind said = tt
  body_again mark (body.Dataset array) kind said = subst (λ (f : List ℕ → List ℕ). AreChunksIn mark f (body.Dataset array)) (sym (chunks_same (sym kind))) said
  body_again mark (body.Datatype type) kind said = tt

  pub said_again : (o : Option Slot) → ((s : Slot) → o ≡ Some s → kind_of_body s.object.body ≡ q.kind) → Says o q a → Says o q b
  said_again None kind said = (record_same ∙ said.0, λ dataset i. (λ k. chunks_same dataset k i) ∙ said.1 dataset i)
  said_again (Some s) kind said = (
    subst (λ (r : Option (List ℕ)). HasRecord s.mark s.object r) (sym record_same) said.0,
    body_again s.mark s.object.body (kind s refl) said.1,
  )

-- ---- a record more

module _ (held : Held) (front rest : List Record) (e : Record) (split : entries held ≡ front ++ e ∷ rest) where
  -- its key is of no chunk of a dataset
  pub chunks_else : (q : Id) → ((i : List ℕ) → is_index i ≡ true → chunk_key q i ≢ e.0) → chunks_at (held_by (front ++ e ∷ [])) q ≡ chunks_at (held_by front) q
  chunks_else q apart k i = at i k where
    at : (i : List ℕ) → chunks_at (held_by (front ++ e ∷ [])) q i ≡ chunks_at (held_by front) q i
    at i = by_bool (is_index i) (chunks_at (held_by (front ++ e ∷ [])) q i ≡ chunks_at (held_by front) q i)
        (λ index. ap (λ (o : Option (List ℕ)). cond (is_index i) (option_map_or (λ body. body) o []) []) (said_else held front rest e split (chunk_key q i) (apart i index)))
        (λ none. ap (λ b. cond b (option_map_or (λ body. body) (get (held_by (front ++ e ∷ [])) (chunk_key q i)) []) []) none
        ∙ sym (ap (λ b. cond b (option_map_or (λ body. body) (get (held_by front) (chunk_key q i)) []) []) none))

  -- its key is that of a chunk
  module _ (id : Id) (i : List ℕ) (is : IsChunk id i) (key : chunk_key id i ≡ e.0) where
    index : is_index i ≡ true
    index = numbers_index i is.numbers

    pub chunk_more : chunks_at (held_by (front ++ e ∷ [])) id ≡ put (chunks_at (held_by front) id) i e.1
    chunk_more k j = at j k where
      here : chunks_at (held_by (front ++ e ∷ [])) id i ≡ e.1
      here = ap (λ b. cond b (option_map_or (λ body. body) (get (held_by (front ++ e ∷ [])) (chunk_key id i)) []) []) index
          ∙ ap (λ (x : List ℕ). option_map_or (λ body. body) (get (held_by (front ++ e ∷ [])) x) []) key
          ∙ ap (λ (o : Option (List ℕ)). option_map_or (λ body. body) o []) (said_here held front rest e split)

      else_at : (j : List ℕ) → bytes_eq i j ≡ false → chunks_at (held_by (front ++ e ∷ [])) id j ≡ chunks_at (held_by front) id j
      else_at j apart = by_bool (is_index j) (chunks_at (held_by (front ++ e ∷ [])) id j ≡ chunks_at (held_by front) id j)
          (λ there. ap (λ (o : Option (List ℕ)). cond (is_index j) (option_map_or (λ body. body) o []) []) (said_else held front rest e split (chunk_key id j)
          (λ same. contrary (bytes_eq i j) ⊥ ((bytes_eq-Decides i j).1 (chunk_index_once id id i j is.id is.id is.kind is.kind index there (key ∙ sym same))) apart)))
          (λ none. ap (λ b. cond b (option_map_or (λ body. body) (get (held_by (front ++ e ∷ [])) (chunk_key id j)) []) []) none
          ∙ sym (ap (λ b. cond b (option_map_or (λ body. body) (get (held_by front) (chunk_key id j)) []) []) none))

      at : (j : List ℕ) → chunks_at (held_by (front ++ e ∷ [])) id j ≡ put (chunks_at (held_by front) id) i e.1 j
      at j = by_bool (bytes_eq i j) (chunks_at (held_by (front ++ e ∷ [])) id j ≡ put (chunks_at (held_by front) id) i e.1 j)
          (λ y. ap (chunks_at (held_by (front ++ e ∷ [])) id) (sym ((bytes_eq-Decides i j).0 y)) ∙ here ∙ sym (ap (λ b. cond b e.1 (chunks_at (held_by front) id j)) y))
          (λ n. else_at j n ∙ sym (ap (λ b. cond b e.1 (chunks_at (held_by front) id j)) n))

    -- of another dataset
    pub chunk_of_other : (q : Id) → q ≢ id → InRange q → q.kind ≡ kinds.Dataset → (j : List ℕ) → is_index j ≡ true → chunk_key q j ≢ e.0
    chunk_of_other q other range kind j there same = other (chunk_id_once q id j i range is.id kind is.kind there index (same ∙ sym key))
