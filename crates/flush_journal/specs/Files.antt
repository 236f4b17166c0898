-- What the bytes of a journal's file stand for.
--     A header of 16 bytes: the magic, four bytes lanes (1 to 16), four zero bytes. Then batches.
--     A batch is its marker, eight bytes payload length, the payload; behind it stands the next marker. A marker is open exactly
--     where it is 1. The first closed marker is the end, and bytes after it mean nothing.
use Rattle.std.specs.Prelude.{ℕ, zero, suc, ◌+◌, List, [], ◌∷◌, ◌++◌, length, drop, slice_index, Option, Some, None, Result, Ok, Err, option_map, nat_le, ◌&&◌, ◌==◌, if◌then◌else◌}
use Rattle.std.specs.Result.{result_ok}
use Rattle.std.specs.FinMap as map
use Rattle.flush_journal.specs.Records.{◌>>=◌, Record, Held, split_front, split_number_8, records_of, put_all}

-- the first bytes of a journal of version 1
abbrev pub magic : List ℕ
magic = 0x68 ∷ 0x73 ∷ 0x64 ∷ 0x73 ∷ 0x6a ∷ 0x72 ∷ 0x6e ∷ 0x31 ∷ []

-- these bytes and no others
abbrev pub exactly : List ℕ → List (ℕ × ℕ)
exactly [] = []
exactly (b ∷ bytes) = (b, b) ∷ exactly bytes

-- the least and the greatest byte that may stand at each place of the header
abbrev pub header_ranges : List (ℕ × ℕ)
header_ranges = exactly magic ++ ((0, 0) ∷ (0, 0) ∷ (0, 0) ∷ (1, 16) ∷ (0, 0) ∷ (0, 0) ∷ (0, 0) ∷ (0, 0) ∷ [])

-- the place of the first byte that is outside its range or missing, counted from `at`
unfoldable pub first_outside : ℕ → List (ℕ × ℕ) → List ℕ → Option ℕ
first_outside at [] bytes = None
first_outside at (r ∷ ranges) [] = Some at
first_outside at (r ∷ ranges) (b ∷ bytes) = if nat_le r.0 b && nat_le b r.1 then first_outside (at + 1) ranges bytes else Some at

-- what a file holds, and its numbers: `end` is the place of the first closed marker, and `written` has the records of each batch, in order
pub record Content : Type 0 where
  pub version : ℕ
  pub lanes : ℕ
  pub batches : ℕ
  pub end : ℕ
  pub written : List (List Record)
  pub held : Held

-- the batch behind an open marker: its payload's length, its records, and what follows
pub record Framed : Type 0 where
  pub size : ℕ
  pub records : List Record
  pub rest : List ℕ

-- None where the payload isn't whole or is no list of records
unfoldable pub first_batch : List ℕ → Option Framed
first_batch bytes = do
  n ← split_number_8 bytes
  p ← split_front n.0 n.1
  rs ← records_of p.0
  Some (record { size = n.0; records = rs; rest = p.1 })

-- one batch more
abbrev pub grown : Content → ℕ → List Record → Content
grown c size records = record {
  version = c.version;
  lanes = c.lanes;
  batches = c.batches + 1;
  end = c.end + 9 + size;
  written = c.written ++ records ∷ [];
  held = put_all records c.held;
}

-- What stands from the marker at c.end on, where c is what stands before it, in at most as many batches as steps. An error is the
-- place of the length of an open batch whose payload isn't whole or is no list of records, or that of a missing marker.
unfoldable pub read_on : ℕ → Content → List ℕ → Result Content ℕ
read_on steps c [] = Err c.end
read_on zero c (marker ∷ bytes) = if marker == 1 then Err (c.end + 1) else Ok c
read_on (suc steps) c (marker ∷ bytes) =
    if marker == 1
    then elim (first_batch bytes) [ None ↦ Err (c.end + 1) | Some b ↦ read_on steps (grown c b.size b.records) b.rest ]
    else Ok c

-- a file of version 1 with this many lanes, before its first marker
abbrev pub fresh : ℕ → Content
fresh lanes = record { version = 1; lanes = lanes; batches = 0; end = 16; written = []; held = map.empty }

-- What a file stands for. An error is the place of the first byte that differs from the header, or as `read_on` says.
unfoldable pub content : List ℕ → Result Content ℕ
content bytes = elim (first_outside 0 header_ranges bytes) [
  | None ↦ read_on (length bytes) (fresh (slice_index bytes 11)) (drop 16 bytes)
  | Some at ↦ Err at
]

-- the map that a file holds, where it is a journal
abbrev pub held : List ℕ → Option Held
held bytes = option_map (λ c. c.held) (result_ok (content bytes))
