-- What a batch shows: its records, and how many more bytes of records it has room for.
use Rattle.std.specs.Prelude.{ℕ, ◌-◌, max, List, length, Option, Some, None, vec_len, vec_capacity}
use Rattle.flush_journal.specs.Records.{Record}
use Rattle.flush_journal.specs.Frames.{frame_of, framed_records}
use Rattle.flush_journal.specs.declared.batch.Batch.{Batch}

abbrev pub records : Batch → List Record
records b = framed_records b.frame.items

abbrev pub spare : Batch → ℕ
spare b = vec_capacity b.frame - max 9 (vec_len b.frame)

-- how many bytes the batch that is pending takes behind its marker
abbrev pub owed_size : Option Batch → ℕ
owed_size None = 0
owed_size (Some b) = length (frame_of (records b))
