-- Keys of objects and of chunks.
use Rattle.std.proofs.Common.{◌≡◌, ◌≢◌, ℕ, ◌<◌, ◌^◌, ◌*◌, ◌&&◌, true, nat_le, nat_lt, length, All, List, [], ◌∷◌, refl, ap, ◌∙◌, get_or, arith, length-append}
use Rattle.std.specs.List.{list_all}
use Rattle.std.proofs.lemmas.Bool.{leb-true, le-leb, ltb-true, lt-ltb, and_parts}
use Rattle.std.proofs.lemmas.List.Elements.{All-nil, All-cons, All-head, All-tail}
use Rattle.shapes.specs.declared.TheConstants.{MAX_RANK}
use Rattle.object_ids.specs.IdValues.{Id}
use Rattle.object_ids.specs.Ids.{InRange}
use Rattle.object_ids.specs.declared.ids.Kind.TheVariants.{Dataset}
use Rattle.object_records.specs.Keys.Keys.{IsChunk, Subject, object, chunk, chunk_key, id_bytes, object_key}
use Rattle.object_records.specs.Keys.Numbers.{AreNumbers, number_bytes}
use Rattle.object_records.proofs.OfKeys.IdLaws.{length-id_bytes}
use Rattle.object_records.proofs.OfKeys.KeyLaws.{same_subject}
use Rattle.chunk_owner.specs.Slots.Slots.{is_index}

abbrev subject_id : Id → Subject → Id
subject_id a (object id) = id
subject_id a (chunk id i) = id
subject_id a s = a

abbrev subject_index : Subject → List ℕ
subject_index (chunk id i) = i
subject_index s = []

all_small : (ns : List ℕ) → list_all (λ n. nat_lt n (2 ^ 32)) ns ≡ true → All (λ n. n < 2 ^ 32) ns
all_small [] e = All-nil (λ n. n < 2 ^ 32)
all_small (n ∷ ns) e = let b = and_parts (nat_lt n (2 ^ 32)) (list_all (λ n. nat_lt n (2 ^ 32)) ns) e in
    All-cons (λ n. n < 2 ^ 32) n ns (ltb-true n (2 ^ 32) b.0) (all_small ns b.1)

small_all : (ns : List ℕ) → All (λ n. n < 2 ^ 32) ns → list_all (λ n. nat_lt n (2 ^ 32)) ns ≡ true
small_all [] h = refl
small_all (n ∷ ns) h = ap (λ b. b && list_all (λ n. nat_lt n (2 ^ 32)) ns) (lt-ltb n (2 ^ 32) (All-head (λ n. n < 2 ^ 32) n ns h)) ∙ small_all ns (All-tail (λ n. n < 2 ^ 32) n ns h)

pub index_numbers : (i : List ℕ) → is_index i ≡ true → AreNumbers i
index_numbers i e = let b = and_parts (nat_le (length i) MAX_RANK) (list_all (λ n. nat_lt n (2 ^ 32)) i) e in
    record { few = leb-true (length i) MAX_RANK b.0; small = all_small i b.1 }

pub numbers_index : (i : List ℕ) → AreNumbers i → is_index i ≡ true
numbers_index i h = ap (λ b. b && list_all (λ n. nat_lt n (2 ^ 32)) i) (le-leb (length i) MAX_RANK h.few) ∙ small_all i h.small

is_chunk : (id : Id) (i : List ℕ) → InRange id → id.kind ≡ Dataset → is_index i ≡ true → IsChunk id i
is_chunk id i range kind index = record { kind = kind; id = range; numbers = index_numbers i index }

module _ (a b : Id) (i j : List ℕ) (ha : InRange a) (hb : InRange b) (ka : a.kind ≡ Dataset) (kb : b.kind ≡ Dataset) (ni : is_index i ≡ true) (nj : is_index j ≡ true)
    (e : chunk_key a i ≡ chunk_key b j) where
  same_chunk : chunk a i ≡ chunk b j
  same_chunk = same_subject (chunk a i) (chunk b j) (is_chunk a i ha ka ni) (is_chunk b j hb kb nj) e

  pub chunk_id_once : a ≡ b
  chunk_id_once = ap (subject_id a) same_chunk

  pub chunk_index_once : i ≡ j
  chunk_index_once = ap subject_index same_chunk

pub object_no_chunk : (a b : Id) (i : List ℕ) → object_key a ≢ chunk_key b i
object_no_chunk a b i e = absurd (let s : 3 ≡ 4 = ap (λ (k : List ℕ). get_or k 0 0) e in omega arith)

length-number_bytes : (ns : List ℕ) → length (number_bytes ns) ≡ 4 * length ns
unfolding number_bytes
length-number_bytes [] = refl
length-number_bytes (n ∷ ns) = let rest = length-number_bytes ns in omega (arith, rest)

-- a chunk's key is short enough for a record
pub short_chunk_key : (id : Id) (i : List ℕ) → AreNumbers i → length (chunk_key id i) < 65536
short_chunk_key id i h =
    let id_part = length-id_bytes id in
    let rest = length-number_bytes i in
    let both = length-append (id_bytes id) (number_bytes i) in
    omega (arith, id_part, rest, both, h.few)

pub short_object_key : (id : Id) (key : List ℕ) → key ≡ object_key id → length key < 65536
short_object_key id key is = let id_part = length-id_bytes id in let same = ap (λ (k : List ℕ). length k) is in omega (arith, id_part, same)

pub some_object_key : (id : Id) (key : List ℕ) → key ≡ object_key id → 0 < length key
some_object_key id key is = let same = ap (λ (k : List ℕ). length k) is in omega (arith, same)
