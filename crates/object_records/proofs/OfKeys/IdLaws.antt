-- The bytes of an id tell it, and the bytes of a key lie one after another.
use Rattle.std.proofs.Common.{◌≡◌, ◌≤◌, ℕ, List, [], ◌∷◌, length, take, drop, get_or, refl, sym, ap, ◌∙◌, arith}
use Rattle.std.specs.Int.{from_be_bytes, w128}
use Rattle.object_ids.proofs.IdBits.{from_to_bytes, id_in-bits, small_bits}
use Rattle.object_ids.specs.IdOrder.{kind_rank}
use Rattle.object_ids.specs.IdValues.{Id}
use Rattle.object_ids.specs.Ids.{InRange, bits_of, id_in}
use Rattle.object_records.specs.Keys.Keys.{chunk_key, id_bytes, object_key}
use Rattle.object_records.specs.Keys.Numbers.{number_bytes}

pub length-id_bytes : (id : Id) → length (id_bytes id) ≡ 16
unfolding id_bytes
length-id_bytes id = refl

-- the id in the bytes of an id is that id
pub id_again : (id : Id) → InRange id → id_in id.kind (from_be_bytes w128 (id_bytes id)) ≡ id
unfolding id_bytes
id_again id h = ap (id_in id.kind) (from_to_bytes (bits_of id) (small_bits id.domain id.run id.serial h.domain h.run h.serial)) ∙ id_in-bits id h

-- two numbers, and sixteen bytes one by one
abbrev laid : ℕ → List ℕ → List ℕ
laid r bs =
    3 ∷ r ∷ get_or bs 0 0 ∷ get_or bs 1 0 ∷ get_or bs 2 0 ∷ get_or bs 3 0 ∷ get_or bs 4 0 ∷ get_or bs 5 0 ∷ get_or bs 6 0 ∷ get_or bs 7 0
    ∷ get_or bs 8 0 ∷ get_or bs 9 0 ∷ get_or bs 10 0 ∷ get_or bs 11 0 ∷ get_or bs 12 0 ∷ get_or bs 13 0 ∷ get_or bs 14 0 ∷ get_or bs 15 0 ∷ []

pub laid_key : (r : ℕ) (bs : List ℕ) (id : Id) → r ≡ kind_rank id.kind → bs ≡ id_bytes id → laid r bs ≡ object_key id
unfolding id_bytes
laid_key r bs id is_r is_bs = λ i. laid (is_r i) (is_bs i)

-- what stands behind the first byte of a chunk's key
pub chunk_parts : (dataset : Id) (index key : List ℕ) → chunk_key dataset index ≡ key
    → (take 16 (drop 1 key) ≡ id_bytes dataset) × (drop 16 (drop 1 key) ≡ number_bytes index) × (17 ≤ length key)
unfolding id_bytes
chunk_parts dataset index key e = (
  sym (ap (λ (k : List ℕ). take 16 (drop 1 k)) e),
  sym (ap (λ (k : List ℕ). drop 16 (drop 1 k)) e),
  omega (arith, ap (λ (k : List ℕ). length k) e),
)
