-- What calls of a disk leave as it was, and what a write at its front may touch.
use Rattle.std.specs.Prelude.{◌≡◌, ◌⊎◌, ℕ, ◌≤◌, List}
use Rattle.edge_traits.specs.declared.disk.Disk.{Ghosts}
use Rattle.edge_traits.specs.Disks.{Torn, LeavesNoMore, After, Follows}

-- of every disk: its room and what lies beside it; its count of faults didn't fall, and where it had stopped it still has. Where it tells
-- its bytes, time didn't go back, and a crash since an earlier moment might have left nothing new beside it.
pub record SameDisk {D : Type 0} (met : Ghosts D) (old new : D) : Type 0 where
  pub most : met.most new ≡ met.most old
  pub beside : met.beside new ≡ met.beside old
  pub faults : met.faults old ≤ met.faults new
  pub stopped : met.stopped old → met.stopped new
  pub goes_on : met.honest → met.moment old ≤ met.moment new
  pub around : met.honest → (t : ℕ) (o : met.Others) → t ≤ met.moment old → met.beside_since new t o → met.beside_since old t o

-- of a disk that tells its bytes: what reads give; time didn't go back, and no image is new, be it of a crash now or of one since
-- an earlier moment
pub record SameBytes {D : Type 0} (met : Ghosts D) (old new : D) : Type 0 where
  pub reads : met.reads new ≡ met.reads old
  pub images : LeavesNoMore (met.images old) (met.images new)
  pub later : met.moment old ≤ met.moment new
  pub since : (t : ℕ) → t ≤ met.moment old → LeavesNoMore (met.left_since old t) (met.left_since new t)

-- Of a disk that tells its bytes: no more than the first n of them were touched. What reads give is what they gave, with those torn,
-- and each image is one of before, so torn. Time didn't go back, and a crash since an earlier moment might have left what it might
-- have left before, or an image of before, so torn.
pub record TornFront {D : Type 0} (met : Ghosts D) (n : ℕ) (old new : D) : Type 0 where
  pub reads : Torn 0 n (met.reads old) (met.reads new)
  pub images : Follows (Torn 0 n) (met.images old) (met.images new)
  pub later : met.moment old ≤ met.moment new
  pub since : (t : ℕ) (c : List ℕ) → t ≤ met.moment old → met.left_since new t c → met.left_since old t c ⊎ After (Torn 0 n) (met.images old) c
