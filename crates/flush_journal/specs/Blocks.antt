-- A journal's file as it is laid out: a header, whole blocks one behind the other, a marker that isn't open, and anything.
--     A block is an open marker, eight bytes payload length, and the payload, which is the encoding of its records.
use Rattle.std.specs.Prelude.{◌≡◌, ◌≢◌, ℕ, ◌+◌, ◌^◌, ◌<◌, ◌≤◌, List, [], ◌∷◌, ◌++◌, length, take, All}
use Rattle.std.specs.List.{sum_by, flat_map}
use Rattle.std.specs.FinMap as map
use Rattle.flush_journal.specs.Records.{Record, IsRecord, put_all, four_bytes, eight_bytes, encoded_all}
use Rattle.flush_journal.specs.Files.{magic, Content}

-- a header with this many lanes
abbrev pub header_bytes : ℕ → List ℕ
header_bytes lanes = magic ++ four_bytes lanes ++ (0 ∷ 0 ∷ 0 ∷ 0 ∷ [])

-- a payload with its length in front
abbrev pub payload_bytes : List Record → List ℕ
payload_bytes records = eight_bytes (length (encoded_all records)) ++ encoded_all records

-- blocks, by the records of each
abbrev pub blocks : List (List Record) → List ℕ
blocks [] = []
blocks (records ∷ others) = 1 ∷ (payload_bytes records ++ blocks others)

-- records that a block may have
pub record IsBatch (records : List Record) : Type 0 where
  pub each : All IsRecord records
  pub size : length (encoded_all records) < 2 ^ 64

-- a file with this content
pub record IsJournal (bytes : List ℕ) (c : Content) : Type 0 where
  pub batches : List (List Record)
  pub marker : ℕ
  pub rest : List ℕ
  pub whole : bytes ≡ header_bytes c.lanes ++ blocks batches ++ marker ∷ rest
  pub sound : All IsBatch batches
  pub shut : marker ≢ 1
  pub version : c.version ≡ 1
  pub some_lane : 1 ≤ c.lanes
  pub few_lanes : c.lanes ≤ 16
  pub count : c.batches ≡ length batches
  pub end : c.end ≡ 16 + sum_by (λ records. 9 + length (encoded_all records)) batches
  pub written : c.written ≡ batches
  pub held : c.held ≡ put_all (flat_map (λ records. records) batches) map.empty

-- the first n bytes of a file are those of a header
pub record BeginsHeader (bytes : List ℕ) (n : ℕ) : Type 0 where
  pub lanes : ℕ
  pub some_lane : 1 ≤ lanes
  pub few_lanes : lanes ≤ 16
  pub long : n ≤ length bytes
  pub same : take n bytes ≡ take n (header_bytes lanes)

-- a file is a header, whole blocks, and then these bytes
pub record IsLeft (bytes left : List ℕ) : Type 0 where
  pub lanes : ℕ
  pub batches : List (List Record)
  pub whole : bytes ≡ header_bytes lanes ++ blocks batches ++ left
  pub sound : All IsBatch batches
  pub some_lane : 1 ≤ lanes
  pub few_lanes : lanes ≤ 16

-- no whole payload of records stands at the front of these bytes
abbrev pub HasNoPayload : List ℕ → Type 0
HasNoPayload bytes = (records : List Record) (rest : List ℕ) → IsBatch records → bytes ≢ payload_bytes records ++ rest

-- A file is no journal for what stands at a place: the first byte that differs from a header; or, behind whole blocks, the file's
-- length where a marker is missing, or the place of the length behind an open marker that has no whole payload of records.
pub data IsFault (bytes : List ℕ) (at : ℕ) : Type 0 where
  no_header : at < 16 → BeginsHeader bytes at → (BeginsHeader bytes (at + 1) → ⊥) → IsFault bytes at
  no_marker : IsLeft bytes [] → at ≡ length bytes → IsFault bytes at
  no_payload : (rest : List ℕ) → IsLeft bytes (1 ∷ rest) → HasNoPayload rest → at + length rest ≡ length bytes → IsFault bytes at
