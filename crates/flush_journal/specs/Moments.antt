-- What a crash at each moment of some calls may leave.
use Rattle.std.specs.Prelude.{◌⊎◌, ℕ, ◌≤◌, List}
use Rattle.edge_traits.specs.declared.disk.Disk.{Ghosts}

-- a crash at any moment since `old` leaves bytes that have P; `before` serves a run that began earlier
pub record CrashLeaves {D : Type 0} (met : Ghosts D) (old new : D) (P : List ℕ → Type 0) : Type 0 where
  pub later : met.moment old ≤ met.moment new
  pub each : (c : List ℕ) → met.left_since new (met.moment old) c → P c
  pub before : (t : ℕ) (c : List ℕ) → t ≤ met.moment old → met.left_since new t c → met.left_since old t c ⊎ P c

-- since a disk as it was, whatever a crash leaves is an image of it or has P
abbrev pub CrashLeavesSince : {D : Type 0} → Ghosts D → D → D → (List ℕ → Type 0) → Type 0
CrashLeavesSince met before after P = CrashLeaves met before after (λ file. met.images before file ⊎ P file)
