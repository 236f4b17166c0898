-- A batch as it is written: its payload with its length in front and a closed marker behind.
use Rattle.std.specs.Prelude.{◌≡◌, ℕ, ◌+◌, ◌-◌, List, [], ◌∷◌, ◌++◌, length, take, drop, unwrap_or}
use Rattle.flush_journal.specs.Records.{Record, records_of, encoded_all, eight_bytes}

-- how many bytes a record takes: two lengths of four bytes, the key and the body
abbrev pub record_size : Record → ℕ
record_size r = 8 + length r.0 + length r.1

unfoldable pub framed : List ℕ → List ℕ
framed payload = eight_bytes (length payload) ++ payload ++ 0 ∷ []

-- no byte for no record
abbrev pub frame_of : List Record → List ℕ
frame_of [] = []
frame_of (r ∷ rs) = framed (encoded_all (r ∷ rs))

-- how many bytes a batch with these records takes
abbrev pub frame_size : List Record → ℕ
frame_size rs = length (frame_of rs)

-- some first records take so many bytes
abbrev pub HasFront : List Record → ℕ → Type 0
HasFront rs size = (front : List Record) × (back : List Record) × (rs ≡ front ++ back) × (size ≡ frame_size front)

-- the payload of such bytes
abbrev pub payload_of : List ℕ → List ℕ
payload_of frame = take (length frame - 9) (drop 8 frame)

-- the records of such bytes
unfoldable pub framed_records : List ℕ → List Record
framed_records frame = unwrap_or (records_of (payload_of frame)) []

-- how many bytes a batch with these records adds to a journal behind its end, the marker at the end among them
abbrev pub need_of : List Record → ℕ
need_of rs = length (encoded_all rs) + 10
