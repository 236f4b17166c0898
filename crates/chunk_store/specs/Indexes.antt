-- Indexes of chunks.
use Rattle.std.specs.Prelude.{◌≡◌, ℕ, ◌<◌, ◌^◌, List, All, length}

-- a number for each axis of a chunk, as an array's chunks have them
pub record IsIndex (chunk i : List ℕ) : Type 0 where
  pub rank : length i ≡ length chunk
  pub small : All (λ q. q < 2 ^ 32) i
