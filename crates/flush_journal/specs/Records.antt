-- Records, and the map that they make.
--     A record is four bytes key length, the key, four bytes body length, the body. Numbers are big-endian.
--     A key has 1 to 65,535 bytes. An empty body takes the key out of the map.
use Rattle.std.specs.Prelude.{◌≡◌, ℕ, zero, suc, ◌^◌, ◌<◌, Bool, List, [], ◌∷◌, ◌++◌, length, slice_index, Option, Some, None, option_and_then, option_map, nat_lt, ◌&&◌, if◌then◌else◌}
use Rattle.std.specs.Int.{w32, w64, from_be_bytes, to_be_bytes}
use Rattle.std.specs.FinMap as map
use Rattle.containers.specs.TextMaps.Keyed.{text_order}

infixl 10 ◌>>=◌
abbrev pub ◌>>=◌ : {A B : Type 0} → Option A → (A → Option B) → Option B
o >>= f = option_and_then f o

-- a key and a body
abbrev pub Record : Type 0
Record = List ℕ × List ℕ

-- what is held: bodies by their keys
abbrev pub Held : Type 0
Held = map.FinMap text_order (List ℕ)

-- the first n elements, and the others; None where there are fewer
unfoldable pub split_front : ℕ → List ℕ → Option (List ℕ × List ℕ)
split_front zero bytes = Some ([], bytes)
split_front (suc n) [] = None
split_front (suc n) (b ∷ bytes) = option_map (λ p. (b ∷ p.0, p.1)) (split_front n bytes)

-- the number that four bytes spell, and what follows
unfoldable pub split_number_4 : List ℕ → Option (ℕ × List ℕ)
split_number_4 bytes = do
  p ← split_front 4 bytes
  Some (from_be_bytes w32 p.0, p.1)

-- the number that eight bytes spell, and what follows
unfoldable pub split_number_8 : List ℕ → Option (ℕ × List ℕ)
split_number_8 bytes = do
  p ← split_front 8 bytes
  Some (from_be_bytes w64 p.0, p.1)

-- whether a key may have this many bytes
abbrev pub is_key_length : ℕ → Bool
is_key_length n = nat_lt 0 n && nat_lt n 65536

-- a key, and what follows
unfoldable pub split_key : List ℕ → Option (List ℕ × List ℕ)
split_key bytes = do
  n ← split_number_4 bytes
  if is_key_length n.0 then split_front n.0 n.1 else None

-- a body, and what follows
unfoldable pub split_body : List ℕ → Option (List ℕ × List ℕ)
split_body bytes = do
  n ← split_number_4 bytes
  split_front n.0 n.1

-- the record at the front, and what follows; None where none stands there
unfoldable pub first_record : List ℕ → Option (Record × List ℕ)
first_record bytes = do
  k ← split_key bytes
  b ← split_body k.1
  Some ((k.0, b.0), b.1)

-- the records that bytes are, of which there are at most as many as steps; None where they are no list of records
unfoldable pub records_in : ℕ → List ℕ → Option (List Record)
records_in steps [] = Some []
records_in zero (b ∷ bytes) = None
records_in (suc steps) (b ∷ bytes) = do
  r ← first_record (b ∷ bytes)
  rs ← records_in steps r.1
  Some (r.0 ∷ rs)

-- the records that a payload is; None where it is no list of records
abbrev pub records_of : List ℕ → Option (List Record)
records_of payload = records_in (length payload) payload

-- a map after a record: the body stands at the key, and an empty one takes the key out
abbrev pub put_record : Record → Held → Held
put_record (key, []) m = map.remove m key
put_record (key, b ∷ body) m = map.insert m key (b ∷ body)

-- a map after these records, in their order: the last of a key wins
abbrev pub put_all : List Record → Held → Held
put_all [] m = m
put_all (r ∷ rs) m = put_all rs (put_record r m)

-- the four bytes of a number
unfoldable pub four_bytes : ℕ → List ℕ
four_bytes n = to_be_bytes w32 n

-- the eight bytes of a number
unfoldable pub eight_bytes : ℕ → List ℕ
eight_bytes n = to_be_bytes w64 n

-- the bytes of a record
abbrev pub encoded : Record → List ℕ
encoded r = four_bytes (length r.0) ++ r.0 ++ four_bytes (length r.1) ++ r.1

-- the bytes of some records, in order
abbrev pub encoded_all : List Record → List ℕ
encoded_all [] = []
encoded_all (r ∷ rs) = encoded r ++ encoded_all rs

-- numbers that are bytes
abbrev pub AreBytes : List ℕ → Type 0
AreBytes bytes = (i : ℕ) → slice_index bytes i < 256

-- a key of 1 to 65,535 bytes, and a body of fewer than 2^32
pub record IsRecord (r : Record) : Type 0 where
  pub some : 0 < length r.0
  pub key : length r.0 < 65536
  pub body : length r.1 < 2 ^ 32

-- a map of records whose bodies aren't empty
abbrev pub IsRecordMap : Held → Type 0
IsRecordMap m = (key body : List ℕ) → map.get m key ≡ Some body → IsRecord (key, body) × (0 < length body)

-- what stands at a key after a record with this body
abbrev pub kept_body : List ℕ → Option (List ℕ)
kept_body [] = None
kept_body (b ∷ body) = Some (b ∷ body)
