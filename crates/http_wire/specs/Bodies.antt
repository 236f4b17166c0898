-- How a body is read behind what came with its head.
use Rattle.std.specs.Prelude.{◌≡◌, ℕ, ◌<◌, ◌≤◌, ◌-◌, List, ◌++◌, length, take, drop, Option}
use Rattle.std.specs.Io.KnownBytes.{Keeps, Consumes, IsAtEnd}
use Rattle.http_wire.specs.declared.bodies.Filled.{Filled}
use Rattle.http_wire.specs.declared.bodies.Filled.TheVariants as fill
use Rattle.http_wire.specs.declared.bodies.BodyRead.{BodyRead}
use Rattle.http_wire.specs.declared.bodies.BodyRead.TheVariants as read

-- the bytes from a place up to end came from the source
abbrev pub CameTo : Option (List ℕ) → Option (List ℕ) → ℕ → List ℕ → ℕ → Type 0
CameTo old new at bytes end = (at ≤ end) × Consumes old new (take (end - at) (drop at bytes))

abbrev pub IsFilled : Option (List ℕ) → Option (List ℕ) → ℕ → List ℕ → Filled → Type 0
IsFilled old new at bytes fill.Full = CameTo old new at bytes (length bytes)
IsFilled old new at bytes (fill.Cut end) = CameTo old new at bytes end × (end < length bytes) × IsAtEnd new
IsFilled old new at bytes (fill.Fault end) = CameTo old new at bytes end × (end < length bytes)

abbrev pub IsBodyRead : Option (List ℕ) → Option (List ℕ) → List ℕ → ℕ → BodyRead → Type 0
IsBodyRead old new front size (read.Whole body) = (got : List ℕ) × Consumes old new got × (body.items ≡ front ++ got) × (length body.items ≡ size)
IsBodyRead old new front size (read.Cut count) = (got : List ℕ) × Consumes old new got × (count ≡ length (front ++ got)) × (count < size) × IsAtEnd new
IsBodyRead old new front size read.Fault = (got : List ℕ) × Consumes old new got × (length (front ++ got) < size)
IsBodyRead old new front size read.NoMemory = Keeps old new
