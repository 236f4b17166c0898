-- What a reading of a file shows, and why it may be refused.
use Rattle.std.specs.Prelude.{◌≡◌, ◌≢◌, ℕ, ◌+◌, ◌-◌, ◌<◌, ◌≤◌, Bool, true, false, List, length, take, drop, slice_index, Result, Ok, Err, Option, Some, None, MatchOption}
use Rattle.edge_traits.specs.Causes.{Rose}
use Rattle.flush_journal.specs.Records.{Record, Held, first_record, put_all, put_record, records_of}
use Rattle.flush_journal.specs.Files.{Content, content, first_batch, read_on}
use Rattle.flush_journal.specs.declared.read.Marker.{Marker}
use Rattle.flush_journal.specs.declared.read.Marker.TheVariants.{Missing, Closed, Open}
use Rattle.flush_journal.specs.declared.report.Report.{Report}
use Rattle.flush_journal.specs.declared.why.Why.{Why}
use Rattle.flush_journal.specs.declared.why.Why.TheVariants.{DiskFault, NotAJournal, JournalFull, Exists, NoMemory}

-- these bytes are those of the file from this place on, as far as they go
abbrev pub Shows : List ℕ → ℕ → List ℕ → Type 0
Shows file from bytes = bytes ≡ take (length bytes) (drop from file)

-- A reading may be refused by a fault only where the disk's count rose from `before` to `now`, and with a place only where the file
-- is no journal for what stands there.
abbrev pub MayRefuseReading : Type 0 → List ℕ → (before now : ℕ) → Why → Type 0
MayRefuseReading told file before now DiskFault = Rose before now
MayRefuseReading told file before now (NotAJournal at) = told → content file ≡ Err at
MayRefuseReading told file before now NoMemory = Unit {0}
MayRefuseReading told file before now (JournalFull e n r) = ⊥
MayRefuseReading told file before now Exists = ⊥

-- numbers, batches and a map
abbrev pub content_of : Report → List (List Record) → Held → Content
content_of r written held = record { version = r.version; lanes = r.lanes; batches = r.batches; end = r.end; written = written; held = held }

-- the file has these numbers and this map
abbrev pub IsRead : List ℕ → Report → Held → Type 0
IsRead file r held = (written : List (List Record)) × (content file ≡ Ok (content_of r written held))

-- what is read from a marker on, where c is what stands before it
abbrev pub read_from : Content → List ℕ → Result Content ℕ
read_from c bytes = read_on (length bytes) c bytes

-- the marker at a place
abbrev pub MarkerIs : List ℕ → ℕ → Marker → Type 0
MarkerIs file at Missing = length file ≤ at
MarkerIs file at Closed = (at < length file) × (slice_index file at ≢ 1)
MarkerIs file at Open = (at < length file) × (slice_index file at ≡ 1)

-- the batch behind an open marker, and what a map was and is
abbrev pub PayloadIs : List ℕ → ℕ → Held → Held → Option ℕ → Type 0
PayloadIs file at old new None = first_batch (drop (at + 1) file) ≡ None
PayloadIs file at old new (Some size) = (rs : List Record)
    × (first_batch (drop (at + 1) file) ≡ Some (record { size = size; records = rs; rest = drop (at + 9 + size) file })) × (new ≡ put_all rs old)

-- so many bytes of a file at a place
abbrev pub window : List ℕ → (at size : ℕ) → List ℕ
window file at size = take size (drop at file)

-- the lengths of the key and the body of the record at the front
abbrev pub LengthsAre : List ℕ → Option (ℕ × ℕ) → Type 0
LengthsAre bytes None = first_record bytes ≡ None
LengthsAre bytes (Some n) = first_record bytes
    ≡ Some ((take n.0 (drop 4 bytes), take n.1 (drop (8 + n.0) bytes)), drop (8 + n.0 + n.1) bytes)

-- the record at a place, where so many bytes of its payload are left, its size, and what a map was and is
abbrev pub RecordIs : List ℕ → (at left : ℕ) → Held → Held → Option ℕ → Type 0
RecordIs file at left old new None = first_record (window file at left) ≡ None
RecordIs file at left old new (Some size) = (r : Record)
    × (first_record (window file at left) ≡ Some (r, window file (at + size) (left - size))) × (new ≡ put_record r old)

-- the records of a payload, where it is a list of records, and what a map was and is
abbrev pub RecordsAre : List ℕ → Held → Held → Bool → Type 0
RecordsAre payload old new whole = MatchOption (records_of payload) (whole ≡ false) (λ rs. (whole ≡ true) × (new ≡ put_all rs old))
