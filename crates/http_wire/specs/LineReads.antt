-- How a source is read up to a line's end.
use Rattle.std.specs.Prelude.{◌≡◌, ℕ, ◌+◌, ◌<◌, ◌≤◌, List, length, take, drop, false, Option}
use Rattle.std.specs.List.{list_any}
use Rattle.std.specs.Io.KnownBytes.{Keeps, Consumes, IsAtEnd}
use Rattle.http_wire.specs.Heads.{is_feed}
use Rattle.http_wire.specs.declared.line_read.LineRead.{LineRead}
use Rattle.http_wire.specs.declared.line_read.LineRead.TheVariants.{More, End, Fault}

-- n bytes came behind the first at
abbrev pub CameBehind : Option (List ℕ) → Option (List ℕ) → ℕ → List ℕ → ℕ → Type 0
CameBehind old new at bytes n = (at + n ≤ length bytes) × Consumes old new (take n (drop at bytes))

-- no line ends in the n bytes behind the first at
abbrev pub NoFeed : ℕ → List ℕ → ℕ → Type 0
NoFeed at bytes n = list_any is_feed (take n (drop at bytes)) ≡ false

abbrev pub IsLineRead : Option (List ℕ) → Option (List ℕ) → ℕ → List ℕ → LineRead → Type 0
IsLineRead old new at bytes (More n) = (0 < n) × CameBehind old new at bytes n
IsLineRead old new at bytes End = (at ≤ length bytes) × Keeps old new × IsAtEnd new
IsLineRead old new at bytes (Fault n) = CameBehind old new at bytes n × NoFeed at bytes n
