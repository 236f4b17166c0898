-- The record of calls that a disk in memory keeps, and what it says of the disk's bytes.
use Rattle.std.specs.Prelude.{◌≡◌, ℕ, ◌+◌, ◌≤◌, max, Bool, true, false, List, [], ◌∷◌, length, take, drop, nat_le, ◌&&◌}
use Rattle.edge_traits.specs.Disks.{overwritten}
use Rattle.edge_traits.specs.MemDisks.{Write, Memory, begun, written, synced, IsImage, torn_writes}
use Rattle.edge_traits.specs.declared.mem_disk.Call.{Call}
use Rattle.edge_traits.specs.declared.mem_disk.Call.TheVariants.{Wrote, Synced}

-- the memory after one call more
abbrev pub step : Memory → Call → Memory
step m (Wrote at bytes) = written (record { at = at; bytes = bytes.items }) m
step m Synced = synced m

-- the memory after these calls
abbrev pub after : Memory → List Call → Memory
after m [] = m
after m (c ∷ calls) = after (step m c) calls

-- the writes among these calls
abbrev pub writes_of : List Call → List Write
writes_of [] = []
writes_of (Wrote at bytes ∷ calls) = record { at = at; bytes = bytes.items } ∷ writes_of calls
writes_of (Synced ∷ calls) = writes_of calls

-- what a disk holds that reads these bytes, with this base and these calls since
abbrev pub holding : List ℕ → List ℕ → List Call → Memory
holding bytes base calls = record { reads = bytes; base = base; unsynced = writes_of calls }

-- each of these writes done, in order
abbrev pub all_done : List Write → List ℕ → List ℕ
all_done [] old = old
all_done (w ∷ writes) old = all_done writes (overwritten w.at w.bytes old)

-- what a crash at call t or later might have left
abbrev pub LeftSince : List ℕ → List Call → ℕ → List ℕ → Type 0
LeftSince first calls t c = (k : ℕ) × (t ≤ k) × (k ≤ length calls) × IsImage (after (begun first) (take k calls)) c

-- the calls are writes, each at a place that the bytes so far reach
abbrev pub writes_fit : ℕ → List Call → Bool
writes_fit size [] = true
writes_fit size (Wrote at bytes ∷ calls) = nat_le at size && writes_fit (max size (at + length bytes.items)) calls
writes_fit size (Synced ∷ calls) = false

-- how many bytes there are after these writes
abbrev pub size_after : ℕ → List Call → ℕ
size_after size [] = size
size_after size (Wrote at bytes ∷ calls) = size_after (max size (at + length bytes.items)) calls
size_after size (Synced ∷ calls) = size_after size calls

-- the calls since the last sync, over a base of this size, make bytes of that size
pub record Unsynced (base_size size : ℕ) (calls : List Call) : Type 0 where
  pub fit : writes_fit base_size calls ≡ true
  pub reach : size_after base_size calls ≡ size

-- The first k of these writes are done on a start, and so many of the bytes to keep are left: the others make the same of it.
pub record Tears (start image : List ℕ) (kept left k : ℕ) (calls : List Call) : Type 0 where
  pub whole : torn_writes left (writes_of (drop k calls)) image ≡ torn_writes kept (writes_of calls) start
  pub fit : writes_fit (length image) (drop k calls) ≡ true
  pub reach : size_after (length image) (drop k calls) ≡ size_after (length start) calls
