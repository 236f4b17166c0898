-- What making a journal with a first batch does to a disk.
use Rattle.std.specs.Prelude.{◌⊎◌, ℕ, ◌≤◌, List}
use Rattle.edge_traits.specs.declared.disk.Disk.{Ghosts}
use Rattle.edge_traits.specs.Disks.{Torn, After}
use Rattle.flush_journal.specs.Records.{Record}
use Rattle.flush_journal.specs.Files.{fresh}
use Rattle.flush_journal.specs.Standing.{with_batch, HasEither}

-- a new journal for so many lanes, without a batch or with this one
abbrev pub HasFirst : ℕ → List Record → List ℕ → Type 0
HasFirst lanes rs = HasEither (fresh lanes) (with_batch (fresh lanes) rs)

-- Of a disk that tells its bytes, whatever is answered: what reads give is what they gave with the first 17 bytes torn, or the new
-- journal, and so is each image, and what a crash at any moment might have left, but for what it might have left before.
pub record MakesFirst {D : Type 0} (met : Ghosts D) (lanes : ℕ) (rs : List Record) (old new : D) : Type 0 where
  pub reads : Torn 0 17 (met.reads old) (met.reads new) ⊎ HasFirst lanes rs (met.reads new)
  pub images : (c : List ℕ) → met.images new c → After (Torn 0 17) (met.images old) c ⊎ HasFirst lanes rs c
  pub later : met.moment old ≤ met.moment new
  pub since : (t : ℕ) (c : List ℕ) → t ≤ met.moment old → met.left_since new t c
      → met.left_since old t c ⊎ After (Torn 0 17) (met.images old) c ⊎ HasFirst lanes rs c
