-- Numbers as bytes, the greatest first.
use Rattle.std.specs.Prelude.{ℕ, ◌<◌, ◌≤◌, ◌^◌, List, All, length}
use Rattle.std.specs.Int.{to_be_bytes, w32, w64}
use Rattle.std.specs.List.{flat_map}
use Rattle.shapes.specs.declared.TheConstants.{MAX_RANK}

-- the body of the run's record, and of the record of the next domain's number
abbrev pub run_bytes : ℕ → List ℕ
run_bytes run = to_be_bytes w32 run

abbrev pub next_bytes : ℕ → List ℕ
next_bytes number = to_be_bytes w64 number

-- four bytes for each number
unfoldable pub number_bytes : List ℕ → List ℕ
number_bytes numbers = flat_map (to_be_bytes w32) numbers

-- a number of 32 bits for each axis of an array
pub record AreNumbers (numbers : List ℕ) : Type 0 where
  pub few : length numbers ≤ MAX_RANK
  pub small : All (λ n. n < 2 ^ 32) numbers
