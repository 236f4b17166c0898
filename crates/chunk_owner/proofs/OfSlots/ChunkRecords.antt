-- What is held once the records of some chunks are written.
use Rattle.std.proofs.Common.{◌≡◌, ◌≢◌, ℕ, ◌≤◌, length, arith, append-nil, append_assoc, ◌||◌, true, false, cond, bytes_eq, List, [], ◌∷◌, ◌++◌, map, Option, Some, None, refl, sym, ap, subst, ◌∙◌}
use Rattle.std.specs.FinMap.{get}
use Rattle.std.specs.List.{AllByRecursion}
use Rattle.std.specs.Option.{option_map_or}
use Rattle.std.proofs.lemmas.Slice.Eq.{bytes_eq-Decides}
use Rattle.std.proofs.lemmas.Bool.{or_right}
use Rattle.std.proofs.lemmas.List.{map_push}
use Rattle.object_ids.specs.IdValues.{Id}
use Rattle.object_ids.specs.Ids.{InRange}
use Rattle.object_ids.specs.declared.ids.Kind.TheVariants.{Dataset}
use Rattle.shapes.specs.declared.TheConstants.{MAX_RANK}
use Rattle.chunk_store.specs.Grids.{Grid, IsWhole}
use Rattle.chunk_store.specs.Indexes.{IsIndex}
use Rattle.chunk_store.specs.Marks.{IsNext, Stored}
use Rattle.flush_journal.specs.Records.{Record, Held, kept_body, put_all, put_record}
use Rattle.flush_journal.proofs.PutLemmas.{put_others, put_last}
use Rattle.flush_journal.specs.Cuts.Cuts.{AddsRecord, AreOnce, IsWithout}
use Rattle.object_records.specs.Keys.Keys.{chunk_key, object_key}
use Rattle.chunk_owner.specs.declared.slots.slot.Mark.{Mark}
use Rattle.chunk_owner.specs.Slots.Slots.{chunks_at, is_index, is_meant}
use Rattle.chunk_owner.specs.Slots.Cutting.{AddsChunks, AreDistinct, chunk_body, chunk_record, is_among}
use Rattle.containers.proofs.Passing.{by_bool, contrary, or_either}
use Rattle.chunk_owner.proofs.OfSlots.ChunkWalks.{IsWalk, walk_begin, walk_more, walk_end}
use Rattle.chunk_owner.proofs.OfSlots.KeyFacts.{chunk_index_once, numbers_index, object_no_chunk}
use Rattle.shapes.proofs.ShapeLemmas.{few_dims}

-- a body, or none for no byte
body_again : (bytes : List ℕ) → option_map_or (λ body. body) (kept_body bytes) [] ≡ bytes
body_again [] = refl
body_again (b ∷ bytes) = refl

module _ (id : Id) (range : InRange id) (kind : id.kind ≡ Dataset) (mark : Mark) (h : Grid) where
  -- each of some chunks has a number for each axis
  abbrev pub AreAll : List (List ℕ) → Type 0
  AreAll done = AllByRecursion (λ i. is_index i ≡ true) done

  others_without : (key : List ℕ) (done : List (List ℕ)) → ((i : List ℕ) → is_among done i ≡ true → chunk_key id i ≢ key) → IsWithout key (map (chunk_record id mark h) done)
  others_without key [] other = tt
  others_without key (i ∷ done) other = (
    other i (in_first i done),
    others_without key done (λ j there. other j (in_rest j i done there)),
  ) where
    in_first : (i : List ℕ) (done : List (List ℕ)) → is_among (i ∷ done) i ≡ true
    in_first i done = ap (λ b. b || is_among done i) ((bytes_eq-Decides i i).1 refl)

    in_rest : (j i : List ℕ) (done : List (List ℕ)) → is_among done j ≡ true → is_among (i ∷ done) j ≡ true
    in_rest j i done there = or_right (bytes_eq j i) (is_among done j) there

  index_of : (done : List (List ℕ)) (i : List ℕ) → AreAll done → is_among done i ≡ true → is_index i ≡ true
  index_of [] i all e = contrary false (is_index i ≡ true) e refl
  index_of (k ∷ done) i all e = or_either (bytes_eq i k) (is_among done i) (is_index i ≡ true)
      (λ y. subst (λ (j : List ℕ). is_index j ≡ true) (sym ((bytes_eq-Decides i k).0 y)) all.0) (λ rest. index_of done i all.1 rest) e

  -- a key of no such chunk
  pub no_chunk_held : (key : List ℕ) (done : List (List ℕ)) (base : Held) → ((i : List ℕ) → is_among done i ≡ true → chunk_key id i ≢ key)
      → get (put_all (map (chunk_record id mark h) done) base) key ≡ get base key
  no_chunk_held key done base other = put_others base (map (chunk_record id mark h) done) key (others_without key done other)

  chunk_apart : (done : List (List ℕ)) (i : List ℕ) → AreAll done → is_index i ≡ true → is_among done i ≡ false → (j : List ℕ) → is_among done j ≡ true → chunk_key id j ≢ chunk_key id i
  chunk_apart done i all index out j there same =
      contrary (is_among done j) ⊥ there (subst (λ (k : List ℕ). is_among done k ≡ false) (sym (chunk_index_once id id j i range range kind kind (index_of done j all there) index same)) out)

  -- a chunk that was written
  pub chunk_held : (done : List (List ℕ)) (i : List ℕ) (base : Held) → AreAll done → AreDistinct done → is_index i ≡ true → is_among done i ≡ true
      → get (put_all (map (chunk_record id mark h) done) base) (chunk_key id i) ≡ kept_body (chunk_body mark h i)
  chunk_held [] i base all distinct index e = contrary false (get base (chunk_key id i) ≡ kept_body (chunk_body mark h i)) e refl
  chunk_held (k ∷ done) i base all distinct index e = by_bool (is_among done i) (get (put_all (map (chunk_record id mark h) (k ∷ done)) base) (chunk_key id i) ≡ kept_body (chunk_body mark h i))
      (λ rest. chunk_held done i (put_record (chunk_record id mark h k) base) all.1 distinct.1 index rest)
      (λ out. or_either (bytes_eq i k) (is_among done i) (get (put_all (map (chunk_record id mark h) (k ∷ done)) base) (chunk_key id i) ≡ kept_body (chunk_body mark h i))
      (λ y. let same = (bytes_eq-Decides i k).0 y in
      subst (λ (j : List ℕ). get (put_all (chunk_record id mark h j ∷ map (chunk_record id mark h) done) base) (chunk_key id i) ≡ kept_body (chunk_body mark h i)) same
      (put_last base [] (map (chunk_record id mark h) done) (chunk_key id i) (chunk_body mark h i) (others_without (chunk_key id i) done (chunk_apart done i all.1 index out))))
      (λ rest. contrary (is_among done i) (get (put_all (map (chunk_record id mark h) (k ∷ done)) base) (chunk_key id i) ≡ kept_body (chunk_body mark h i)) rest out) e)

  -- the chunks of its id, once some were written
  pub chunks_written : (done : List (List ℕ)) (base : Held) (i : List ℕ) → AreAll done → AreDistinct done
      → chunks_at (put_all (map (chunk_record id mark h) done) base) id i ≡ cond (is_among done i) (chunk_body mark h i) (chunks_at base id i)
  chunks_written done base i all distinct = by_bool (is_among done i) (chunks_at (put_all (map (chunk_record id mark h) done) base) id i ≡ cond (is_among done i) (chunk_body mark h i) (chunks_at base id i))
      (λ there. let index = index_of done i all there in
      ap (λ b. cond b (option_map_or (λ body. body) (get (put_all (map (chunk_record id mark h) done) base) (chunk_key id i)) []) []) index
      ∙ ap (λ (o : Option (List ℕ)). option_map_or (λ body. body) o []) (chunk_held done i base all distinct index there)
      ∙ body_again (chunk_body mark h i) ∙ sym (ap (λ b. cond b (chunk_body mark h i) (chunks_at base id i)) there))
      (λ out. outside out ∙ sym (ap (λ b. cond b (chunk_body mark h i) (chunks_at base id i)) out)) where
        outside : is_among done i ≡ false → chunks_at (put_all (map (chunk_record id mark h) done) base) id i ≡ chunks_at base id i
        outside out = by_bool (is_index i) (chunks_at (put_all (map (chunk_record id mark h) done) base) id i ≡ chunks_at base id i)
            (λ index. ap (λ (o : Option (List ℕ)). cond (is_index i) (option_map_or (λ body. body) o []) [])
            (no_chunk_held (chunk_key id i) done base (chunk_apart done i all index out)))
            (λ none. ap (λ b. cond b (option_map_or (λ body. body) (get (put_all (map (chunk_record id mark h) done) base) (chunk_key id i)) []) []) none
            ∙ sym (ap (λ b. cond b (option_map_or (λ body. body) (get base (chunk_key id i)) []) []) none))

  -- no two of the records have one key
  pub chunks_once : (done : List (List ℕ)) → AreAll done → AreDistinct done → AreOnce (map (chunk_record id mark h) done)
  chunks_once [] all distinct = tt
  chunks_once (i ∷ done) all distinct = (others_without (chunk_key id i) done (chunk_apart done i all.1 all.0 distinct.0), chunks_once done all.1 distinct.1)

  pub object_outside : (other : Id) (done : List (List ℕ)) (base : Held) → get (put_all (map (chunk_record id mark h) done) base) (object_key other) ≡ get base (object_key other)
  object_outside other done base = no_chunk_held (object_key other) done base (λ i there same. object_no_chunk other id i (sym same))

-- ---- the walk that writes them

-- the records of the chunks that were met were added
pub record IsCutting (id : Id) (mark : Mark) (s : Stored) (old new : List Record) (after : Option (List ℕ)) : Type 0 where
  pub done : List (List ℕ)
  pub walk : IsWalk (is_meant mark s) done after
  pub meant : AllByRecursion (λ i. (is_meant mark s i ≡ true) × (is_index i ≡ true)) done
  pub added : new ≡ old ++ map (chunk_record id mark s.grid) done

pub cutting_begin : (id : Id) (mark : Mark) (s : Stored) (old : List Record) → IsCutting id mark s old old None
cutting_begin id mark s old = record { done = []; walk = walk_begin (is_meant mark s); meant = tt; added = sym (append-nil old) }

all_last : (P : List ℕ → Type 0) (is : List (List ℕ)) (i : List ℕ) → AllByRecursion P is → P i → AllByRecursion P (is ++ i ∷ [])
all_last P [] i h g = (g, tt)
all_last P (k ∷ is) i h g = (h.0, all_last P is i h.1 g)

module _ (id : Id) (mark : Mark) (s : Stored) (old mid : List Record) (after : Option (List ℕ)) (c : IsCutting id mark s old mid after) where
  pub cutting_more : (new : List Record) (i : List ℕ) → IsNext (is_meant mark s) after (Some i) → is_index i ≡ true → AddsRecord (chunk_record id mark s.grid i) mid new → IsCutting id mark s old new (Some i)
  cutting_more new i next index adds = record {
    done = c.done ++ i ∷ [];
    walk = walk_more (is_meant mark s) c.done after c.walk i next;
    meant = all_last (λ j. (is_meant mark s j ≡ true) × (is_index j ≡ true)) c.done i c.meant (next.0, index);
    added = adds ∙ ap (λ (rs : List Record). rs ++ chunk_record id mark s.grid i ∷ []) c.added ∙ append_assoc old (map (chunk_record id mark s.grid) c.done) (chunk_record id mark s.grid i ∷ [])
        ∙ ap (λ (rs : List Record). old ++ rs) (sym (map_push (chunk_record id mark s.grid) c.done i));
  }

  pub cutting_end : IsNext (is_meant mark s) after None → AddsChunks id mark s true old mid
  cutting_end none = (c.done, record { meant = c.meant; distinct = c.walk.distinct; all = λ e i meant. walk_end (is_meant mark s) c.done after c.walk none i meant }, c.added)

  pub cutting_front : (new : List Record) → new ≡ mid → AddsChunks id mark s false old new
  cutting_front new same = (c.done, record { meant = c.meant; distinct = c.walk.distinct; all = λ e i meant. contrary false (is_among c.done i ≡ true) e refl }, same ∙ c.added)

-- a chunk's index has a number for each axis of an array
pub index_there : (s : Stored) (i : List ℕ) → IsWhole s.grid → IsIndex s.grid.chunk i → is_index i ≡ true
index_there s i whole index = numbers_index i (record { few = few; small = index.small }) where
  few : length i ≤ MAX_RANK
  few = let rank = few_dims s.grid.shape whole.shape in omega (arith, index.rank, whole.rank, rank)
