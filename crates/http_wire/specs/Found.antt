-- What a reading call found at the front of its input.
use Rattle.std.specs.Prelude.{◌≡◌, ℕ, ◌<◌, List, [], length, Option}
use Rattle.std.specs.Io.KnownBytes.{IsAtEnd}
use Rattle.httparse.specs.Grammar.{RequestHead, HasNoRequest, NeverHasRequest}
use Rattle.httparse.specs.Spans.{IsRequestAt, IsRequestWithin}
use Rattle.httparse.specs.declared.spans.HeaderSpan.{HeaderSpan}
use Rattle.http_wire.specs.Heads.{IsSmall, IsUnfinished, NoSmallHead, IsLong}
use Rattle.http_wire.specs.declared.found.Found.{Found}
use Rattle.http_wire.specs.declared.found.Found.TheVariants.{Head, End, Cut, BadHead, HeadTooLong, Fault}

-- of the bytes that were read and not used, the spans of the fields, and what the source has left
abbrev pub IsFound : List ℕ → List HeaderSpan → Option (List ℕ) → Found → Type 0
IsFound unused headers left (Head spans) = IsRequestWithin unused headers spans × ((h : RequestHead) × IsRequestAt unused headers spans h × IsSmall h)
IsFound unused headers left End = (unused ≡ []) × IsAtEnd left
IsFound unused headers left Cut = (0 < length unused) × IsAtEnd left × IsUnfinished unused
IsFound unused headers left BadHead = (0 < length unused) × NeverHasRequest unused
IsFound unused headers left HeadTooLong = (0 < length unused) × NoSmallHead unused × IsLong unused
IsFound unused headers left Fault = HasNoRequest unused

-- the input ended with that many bytes that were not used
abbrev pub IsEnded : ℕ → Found → Type 0
IsEnded unused (Head spans) = ⊥
IsEnded unused End = unused ≡ 0
IsEnded unused Cut = 0 < unused
IsEnded unused BadHead = ⊥
IsEnded unused HeadTooLong = ⊥
IsEnded unused Fault = ⊥
