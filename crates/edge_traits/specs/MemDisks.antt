-- What a disk in memory holds, and what a crash may leave of it.
use Rattle.std.specs.Prelude.{◌≡◌, ℕ, ◌+◌, ◌-◌, List, [], ◌∷◌, ◌++◌, length, take, drop, replicate}
use Rattle.edge_traits.specs.Disks.{Torn, overwritten}

-- these bytes were written, from this place on
pub record Write : Type 0 where
  pub at : ℕ
  pub bytes : List ℕ

-- what a disk in memory holds
pub record Memory : Type 0 where
  -- what reads give
  pub reads : List ℕ
  -- what they gave at the last sync that answered Ok, or at first
  pub base : List ℕ
  -- the writes since, in order
  pub unsynced : List Write

-- before the first call
abbrev pub begun : List ℕ → Memory
begun bytes = record { reads = bytes; base = bytes; unsynced = [] }

-- after one write more
abbrev pub written : Write → Memory → Memory
written w m = record { reads = overwritten w.at w.bytes m.reads; base = m.base; unsynced = m.unsynced ++ w ∷ [] }

-- after a sync
abbrev pub synced : Memory → Memory
synced m = begun m.reads

-- new is old with each of these writes torn, one after another
abbrev pub TornBy : List Write → List ℕ → List ℕ → Type 0
TornBy [] old new = new ≡ old
TornBy (w ∷ writes) old new = (mid : List ℕ) × Torn w.at (length w.bytes) old mid × TornBy writes mid new

-- what a crash may leave: the base, with each write since torn in any way
abbrev pub IsImage : Memory → List ℕ → Type 0
IsImage m c = TornBy m.unsynced m.base c

-- these bytes, with zeros behind them up to this length
abbrev pub lengthened : ℕ → List ℕ → List ℕ
lengthened n bytes = bytes ++ replicate (n - length bytes) 0

-- a write of which the first n bytes stand; the others are as they were before, or 0 past the old end
abbrev pub torn_write : ℕ → Write → List ℕ → List ℕ
torn_write n w old = take w.at old ++ take n w.bytes
    ++ drop (w.at + length (take n w.bytes)) (lengthened (w.at + length w.bytes) old)

-- these writes, of whose bytes the first n stand, in order of writing
abbrev pub torn_writes : ℕ → List Write → List ℕ → List ℕ
torn_writes n [] old = old
torn_writes n (w ∷ writes) old = torn_writes (n - length w.bytes) writes (torn_write n w old)

-- what is left of a disk by a crash that keeps the first n bytes written since the last sync
abbrev pub crashed : ℕ → Memory → List ℕ
crashed n m = torn_writes n m.unsynced m.base
