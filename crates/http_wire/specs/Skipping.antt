-- How bytes of a source are read and dropped.
use Rattle.std.specs.Prelude.{◌≡◌, ℕ, ◌<◌, List, length, Option, Result, MatchResult}
use Rattle.std.specs.Io.KnownBytes.{Keeps, Consumes, IsAtEnd}
use Rattle.http_wire.specs.declared.skipping.Dropped.{Dropped}
use Rattle.http_wire.specs.declared.skipping.Dropped.TheVariants.{Full, Cut, Fault}

-- n bytes came from the source
abbrev pub Passes : Option (List ℕ) → Option (List ℕ) → ℕ → Type 0
Passes old new n = (got : List ℕ) × Consumes old new got × (length got ≡ n)

-- a read gave n bytes, none only at the input's end
abbrev pub IsPiece : {E : Type 0} → Option (List ℕ) → Option (List ℕ) → Result ℕ E → Type 0
IsPiece old new r = MatchResult r (λ n. Passes old new n × (n ≡ 0 → IsAtEnd new)) (λ _. Keeps old new)

abbrev pub IsDropped : Option (List ℕ) → Option (List ℕ) → ℕ → Dropped → Type 0
IsDropped old new count Full = Passes old new count
IsDropped old new count (Cut n) = Passes old new n × (n < count) × IsAtEnd new
IsDropped old new count Fault = (n : ℕ) × Passes old new n × (n < count)
