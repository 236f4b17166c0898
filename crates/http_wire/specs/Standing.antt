-- What a parse says of the bytes that are there.
use Rattle.std.specs.Prelude.{ℕ, ◌<◌, List, length}
use Rattle.httparse.specs.Grammar.{RequestHead, NeverHasRequest}
use Rattle.httparse.specs.Spans.{IsRequestAt, IsRequestWithin}
use Rattle.httparse.specs.declared.spans.HeaderSpan.{HeaderSpan}
use Rattle.http_wire.specs.Heads.{IsSmall, IsUnfinished, NoSmallHead, IsLong}
use Rattle.http_wire.specs.declared.parse.Standing.{Standing}
use Rattle.http_wire.specs.declared.parse.Standing.TheVariants.{Whole, Unfinished, Bad, Long}

-- a whole small head, no whole head yet, or no small head whatever follows
abbrev pub IsStanding : List ℕ → List HeaderSpan → Standing → Type 0
IsStanding bytes headers (Whole spans) = IsRequestWithin bytes headers spans × ((h : RequestHead) × IsRequestAt bytes headers spans h × IsSmall h)
IsStanding bytes headers Unfinished = IsUnfinished bytes
IsStanding bytes headers Bad = (0 < length bytes) × NeverHasRequest bytes
IsStanding bytes headers Long = (0 < length bytes) × NoSmallHead bytes × IsLong bytes
