-- What an inbox took from the front of its input.
use Rattle.std.specs.Prelude.{◌≡◌, ℕ, ◌<◌, ◌≤◌, ◌⊎◌, List, [], ◌++◌, length, drop, Option, ⊤}
use Rattle.std.specs.Io.KnownBytes.{Keeps, Consumes, IsAtEnd, prepend_known}
use Rattle.httparse.specs.Grammar.{RequestHead, print_request}
use Rattle.httparse.specs.Spans.{IsRequestAt, IsRequestWithin}
use Rattle.httparse.specs.declared.spans.HeaderSpan.{HeaderSpan}
use Rattle.httparse.specs.declared.spans.RequestSpans.{RequestSpans}
use Rattle.http_wire.specs.Buffers.{unused_bytes, header_spans, AreSpansIn, IsHeadIn}
use Rattle.http_wire.specs.Messages.{RequestMessage, IsSpelled, spelling, closes, HasNoMessage, HasNoBadSize, StopsInBody, StopsInside, IsRefusedFor}
use Rattle.http_wire.specs.declared.inbox.Inbox.{Inbox}
use Rattle.http_wire.specs.declared.limits.TheConstants.{HEAD_LIMIT}
use Rattle.http_wire.specs.declared.taken.Taken.{Taken}
use Rattle.http_wire.specs.declared.taken.Taken.TheVariants as taken

-- the bytes that were read and are of no message so far
abbrev pub waiting : Inbox → List ℕ
waiting inbox = drop inbox.used (unused_bytes inbox.buffer)

-- the bytes at whose front the head of the message that was taken last stands
abbrev pub head_bytes : Inbox → List ℕ
head_bytes inbox = unused_bytes inbox.buffer

-- where its fields stand in them
abbrev pub head_spans : Inbox → List HeaderSpan
head_spans inbox = header_spans inbox.buffer

-- the spans lie within them
abbrev pub AreSpansOf : Inbox → RequestSpans → Type 0
AreSpansOf inbox spans = AreSpansIn inbox.buffer spans

-- and cover the parts of this head
abbrev pub IsHeadOf : Inbox → RequestSpans → RequestHead → Type 0
IsHeadOf inbox spans h = IsHeadIn inbox.buffer spans h

-- of the input before, where heads stand, the input after, and what the source has left
abbrev pub IsTaken : Option (List ℕ) → List ℕ → List HeaderSpan → Option (List ℕ) → Option (List ℕ) → Taken → Type 0
IsTaken old bytes headers pending left (taken.Message spans body) =
    IsRequestWithin bytes headers spans
    × ((h : RequestHead) × IsRequestAt bytes headers spans h × IsSpelled (record { head = h; body = body.items })
    × Consumes old pending (print_request h ++ body.items))
IsTaken old bytes headers pending left taken.End = Consumes old left [] × IsAtEnd left
IsTaken old bytes headers pending left (taken.Cut unread) =
    (rest : List ℕ) × Consumes old left rest × (length rest ≡ unread) × (0 < unread) × IsAtEnd left × HasNoMessage rest × HasNoBadSize rest
    × StopsInside rest
IsTaken old bytes headers pending left (taken.Refused fault) =
    (rest : List ℕ) × Consumes old left rest × IsRefusedFor rest fault × (length rest ≤ HEAD_LIMIT)
IsTaken old bytes headers pending left (taken.Skipped close) =
    (m : RequestMessage) × IsSpelled m × Consumes old pending (spelling m) × (close ≡ closes m)
IsTaken old bytes headers pending left taken.Fault = (rest : List ℕ) × Consumes old left rest × HasNoMessage rest × HasNoBadSize rest

-- what was taken of these bytes and then the source: of what the source had left, the inbox after, and what the source has left
abbrev pub Takes : List ℕ → Option (List ℕ) → Inbox → Option (List ℕ) → Taken → Type 0
Takes bytes before inbox left t =
    IsTaken (prepend_known bytes before) (head_bytes inbox) (head_spans inbox) (prepend_known (waiting inbox) left) left t

-- what an inbox holds behind a message that didn't come whole: of what was pending, bytes that still wait, and then those that were dropped,
-- some only of a body whose head stands in front; and no byte that it holds counts as used
pub record LeavesPart (all left : Option (List ℕ)) (inbox : Inbox) (dropped : List ℕ) : Type 0 where
  pub came : Consumes all left (waiting inbox ++ dropped)
  pub why : (dropped ≡ []) ⊎ StopsInBody (waiting inbox ++ dropped)
  pub unused : waiting inbox ≡ head_bytes inbox

-- what an inbox holds after each answer that gives no message; what waits behind a message stands in IsTaken
abbrev pub IsHeldAfter : Option (List ℕ) → Option (List ℕ) → Inbox → Taken → Type 0
IsHeldAfter all left inbox (taken.Message spans body) = ⊤
IsHeldAfter all left inbox taken.End = waiting inbox ≡ []
IsHeldAfter all left inbox (taken.Cut unread) =
    (dropped : List ℕ) × LeavesPart all left inbox dropped × (length (waiting inbox ++ dropped) ≡ unread)
IsHeldAfter all left inbox (taken.Refused fault) = Keeps all (prepend_known (waiting inbox) left) × IsRefusedFor (waiting inbox) fault
IsHeldAfter all left inbox (taken.Skipped close) = ⊤
IsHeldAfter all left inbox taken.Fault = (dropped : List ℕ) × LeavesPart all left inbox dropped

-- of the bytes that were there, and what the source had left
abbrev pub Holds : List ℕ → Option (List ℕ) → Inbox → Option (List ℕ) → Taken → Type 0
Holds bytes before inbox left t = IsHeldAfter (prepend_known bytes before) left inbox t
