-- What a link gave and what was written to it, over any step of a world.
use Rattle.std.proofs.Common.{inl, inr}
use Rattle.std.specs.Prelude.{◌≡◌, ◌⊎◌, ℕ, ◌<◌, ◌≤◌, List, [], ◌∷◌, ◌++◌, length, true, false, Option, Some, None, Result, Ok, Err, ⊤}
use Rattle.std.specs.List.{flat_map}
use Rattle.std.specs.Io.KnownBytes.{IsAtEnd}
use Rattle.edge_traits.specs.Causes.{Rose}
use Rattle.httparse.specs.Grammar.{EndsInTarget}
use Rattle.httparse.specs.Spans.{RequestExceeds}
use Rattle.http_wire.specs.Messages.{RequestMessage, IsSpelled, spelling, closes, HasNoMessage, HasNoBadSize, StopsInside, IsRefusedFor}
use Rattle.http_wire.specs.Replies.{fault_reply, no_memory_reply}
use Rattle.http_wire.specs.declared.limits.TheConstants.{FIELD_LIMIT, HEAD_LIMIT}
use Rattle.http_wire.specs.declared.message_fault.MessageFault.{MessageFault}
use Rattle.http_wire.specs.declared.message_fault.MessageFault.TheVariants.{BadHead, HeadTooLong, BadLength, BodyTooLong, TransferCoding}
use Rattle.rest_session.specs.declared.links.end.LinkEnd.{LinkEnd}
use Rattle.rest_session.specs.declared.links.end.LinkEnd.TheVariants.{Closed, Cut, Ended, ReadFault, WriteFault, Budget, NoMemory}
use Rattle.rest_session.specs.declared.links.end.TheConstants.{BUDGET}

-- of the world before, a message, the whole answer's bytes, and the world after
abbrev pub Step : Type 0 → Type 1
Step W = W → RequestMessage → List ℕ → W → Type 0

-- of the world before, a message at which the link is ended, why, and the world after
abbrev pub Stop : Type 0 → Type 0 → Type 1
Stop W E = W → RequestMessage → E → W → Type 0

-- whole messages, none of which closes
abbrev pub AllOpen : List RequestMessage → Type 0
AllOpen [] = ⊤
AllOpen (m ∷ ms) = IsSpelled m × (closes m ≡ false) × AllOpen ms

-- whole messages
abbrev pub AllSpelled : List RequestMessage → Type 0
AllSpelled [] = ⊤
AllSpelled (m ∷ ms) = IsSpelled m × AllSpelled ms

-- their bytes, one message after another
abbrev pub spellings : List RequestMessage → List ℕ
spellings ms = flat_map spelling ms

-- the bytes answer the message: by a step of the world, or they say that memory was wanting, and the world stays
abbrev pub IsAnswer : {W : Type 0} → Step W → W → RequestMessage → List ℕ → W → Type 0
IsAnswer step w m bytes v = step w m bytes v ⊎ ((bytes ≡ no_memory_reply (closes m)) × (v ≡ w))

-- the replay: each message has one answer, and the bytes are the answers in order
abbrev pub Replays : {W : Type 0} → Step W → W → List RequestMessage → List ℕ → W → Type 0
Replays step w [] bytes v = (bytes ≡ []) × (v ≡ w)
Replays {W} step w (m ∷ ms) bytes v =
    (first : List ℕ) × (others : List ℕ) × (mid : W) × (bytes ≡ first ++ others) × IsAnswer step w m first mid × Replays step mid ms others v

-- the first of some bytes
abbrev pub IsFront : List ℕ → List ℕ → Type 0
IsFront front whole = (others : List ℕ) × (whole ≡ front ++ others)

-- The bytes of answers are those that were written, as far as both go: behind them a link may have the refusal of what is no message, and
-- where a write failed fewer were written.
abbrev pub AreWritten : List ℕ → List ℕ → Type 0
AreWritten answers sent = IsFront answers sent ⊎ IsFront sent answers

-- a message stands at the front of the tail, and the bytes answer it; no more was read ahead than a head may have
pub record IsLastAnswer {W : Type 0} (step : Step W) (w : W) (tail answer : List ℕ) (v : W) : Type 0 where
  pub message : RequestMessage
  pub ahead : List ℕ
  pub spelled : IsSpelled message
  pub bytes : tail ≡ spelling message ++ ahead
  pub room : length ahead ≤ HEAD_LIMIT
  pub is_answer : IsAnswer step w message answer v

-- how a link ends: of the world, the bytes behind the messages that were answered and left it open, what was written for them, what the
-- source has left, and the world after
abbrev pub IsEnd : {W : Type 0} → Step W → W → List ℕ → List ℕ → Option (List ℕ) → W → LinkEnd → Type 0
IsEnd step w tail sent left v Closed =
    ((tail ≡ []) × (sent ≡ []) × IsAtEnd left × (v ≡ w)) ⊎ ((a : IsLastAnswer step w tail sent v) × (closes a.message ≡ true))
IsEnd step w tail sent left v (Cut unread) =
    HasNoMessage tail × HasNoBadSize tail × (length tail ≡ unread) × (0 < unread) × IsAtEnd left × (sent ≡ []) × (v ≡ w)
    × StopsInside tail
IsEnd step w tail sent left v (Ended fault) = IsRefusedFor tail fault × (length tail ≤ HEAD_LIMIT) × (sent ≡ fault_reply fault) × (v ≡ w)
IsEnd step w tail sent left v ReadFault = HasNoMessage tail × HasNoBadSize tail × (sent ≡ []) × (v ≡ w)
IsEnd step w tail sent left v WriteFault =
    ((answer : List ℕ) × IsLastAnswer step w tail answer v × IsFront sent answer)
    ⊎ ((fault : MessageFault) × IsRefusedFor tail fault × (length tail ≤ HEAD_LIMIT) × IsFront sent (fault_reply fault) × (v ≡ w))
IsEnd step w tail sent left v Budget = (length tail ≤ HEAD_LIMIT) × (sent ≡ []) × (v ≡ w)
IsEnd step w tail sent left v NoMemory = (tail ≡ []) × (sent ≡ []) × (v ≡ w)

-- how many messages were answered and left the link open
abbrev pub IsCounted : ℕ → LinkEnd → Type 0
IsCounted n Closed = n < BUDGET
IsCounted n (Cut unread) = n < BUDGET
IsCounted n (Ended fault) = n < BUDGET
IsCounted n ReadFault = n < BUDGET
IsCounted n WriteFault = n < BUDGET
IsCounted n Budget = n ≡ BUDGET
IsCounted n NoMemory = n ≡ 0

-- the messages that a link gave, what was written to it, and how it ended, from the world before to the world after
pub record IsTranscript {W : Type 0} (step : Step W) (w : W) (taken sent : List ℕ) (left : Option (List ℕ)) (v : W) (end : LinkEnd) : Type 0 where
  pub messages : List RequestMessage
  pub answers : List ℕ
  pub mid : W
  pub tail : List ℕ
  pub last : List ℕ
  pub opened : AllOpen messages
  pub counted : IsCounted (length messages) end
  pub replays : Replays step w messages answers mid
  pub ends : IsEnd step mid tail last left v end
  pub bytes : taken ≡ spellings messages ++ tail
  pub written : sent ≡ answers ++ last

-- The messages of a link that its service ended, and what was written to it: behind those that were answered stands the one at which it was ended,
-- and that has no answer.
pub record IsStopped {W E : Type 0} (step : Step W) (stop : Stop W E) (w : W) (taken sent : List ℕ) (v : W) (end : E) : Type 0 where
  pub messages : List RequestMessage
  pub mid : W
  pub message : RequestMessage
  pub ahead : List ℕ
  pub opened : AllOpen messages
  pub few : length messages < BUDGET
  pub replays : Replays step w messages sent mid
  pub spelled : IsSpelled message
  pub room : length ahead ≤ HEAD_LIMIT
  pub stops : stop mid message end v
  pub bytes : taken ≡ spellings messages ++ (spelling message ++ ahead)

-- a link that ended so, or that its service ended
abbrev pub IsLinkServed : {W E : Type 0} → Step W → Stop W E → W → List ℕ → List ℕ → Option (List ℕ) → W → Result LinkEnd E → Type 0
IsLinkServed step stop w taken sent left v (Ok end) = IsTranscript step w taken sent left v end
IsLinkServed step stop w taken sent left v (Err end) = IsStopped step stop w taken sent v end

-- no count of the link fell, and each fault was counted
pub record HasCauses (read_before read_now write_before write_now : ℕ) (end : LinkEnd) : Type 0 where
  pub read_later : read_before ≤ read_now
  pub write_later : write_before ≤ write_now
  pub read_fault : end ≡ ReadFault → Rose read_before read_now
  pub write_fault : end ≡ WriteFault → Rose write_before write_now

-- the same where the service may have ended the link
abbrev pub HasLinkCauses : {E : Type 0} → ℕ → ℕ → ℕ → ℕ → Result LinkEnd E → Type 0
HasLinkCauses read_before read_now write_before write_now (Ok end) = HasCauses read_before read_now write_before write_now end
HasLinkCauses read_before read_now write_before write_now (Err end) = (read_before ≤ read_now) × (write_before ≤ write_now)

-- an end that comes of the input's end, of a fault or of want of memory
abbrev pub IsPeaceful : LinkEnd → Type 0
IsPeaceful Closed = ⊤
IsPeaceful (Cut unread) = ⊥
IsPeaceful (Ended fault) = ⊥
IsPeaceful ReadFault = ⊤
IsPeaceful WriteFault = ⊤
IsPeaceful Budget = ⊥
IsPeaceful NoMemory = ⊤

-- an end that doesn't come of bytes that are no whole message
abbrev pub IsUncut : LinkEnd → Type 0
IsUncut Closed = ⊤
IsUncut (Cut unread) = ⊥
IsUncut (Ended fault) = ⊥
IsUncut ReadFault = ⊤
IsUncut WriteFault = ⊤
IsUncut Budget = ⊤
IsUncut NoMemory = ⊤

-- an end that comes of the bytes alone
abbrev pub IsOfBytes : LinkEnd → Type 0
IsOfBytes Closed = ⊤
IsOfBytes (Cut unread) = ⊤
IsOfBytes (Ended fault) = ⊤
IsOfBytes ReadFault = ⊥
IsOfBytes WriteFault = ⊥
IsOfBytes Budget = ⊤
IsOfBytes NoMemory = ⊥

-- ---- the same bytes in other pieces

-- the message with which a link closed, where it was one
abbrev pub closing_message : {W : Type 0} (step : Step W) (w : W) (tail sent : List ℕ) (left : Option (List ℕ)) (v : W)
    → IsEnd step w tail sent left v Closed → Option RequestMessage
closing_message step w tail sent left v (inl s) = None
closing_message step w tail sent left v (inr s) = Some s.0.message

-- a refusal of a head, not for what it says of its body
abbrev pub IsHeadFault : MessageFault → Type 0
IsHeadFault BadHead = ⊤
IsHeadFault HeadTooLong = ⊤
IsHeadFault BadLength = ⊥
IsHeadFault BodyTooLong = ⊥
IsHeadFault TransferCoding = ⊥

-- bytes of a head that one reading takes for cut short and another refuses: they stop inside a target, or have too many fields
abbrev pub IsUndecided : List ℕ → Type 0
IsUndecided bytes = EndsInTarget bytes ⊎ RequestExceeds FIELD_LIMIT bytes

-- the ends that the same bytes have in whatever pieces they come, where they end by the bytes alone; of the two faults of a head either may come
abbrev pub AreAlike : List ℕ → LinkEnd → LinkEnd → Type 0
AreAlike bytes Closed Closed = ⊤
AreAlike bytes Closed (Cut k) = ⊥
AreAlike bytes Closed (Ended other) = ⊥
AreAlike bytes Closed Budget = ⊥
AreAlike bytes (Cut n) Closed = ⊥
AreAlike bytes (Cut n) (Cut k) = n ≡ k
AreAlike bytes (Cut n) (Ended other) = IsHeadFault other × IsUndecided bytes
AreAlike bytes (Cut n) Budget = ⊥
AreAlike bytes (Ended fault) Closed = ⊥
AreAlike bytes (Ended fault) (Cut k) = IsHeadFault fault × IsUndecided bytes
AreAlike bytes (Ended fault) (Ended other) = (fault ≡ other) ⊎ (IsHeadFault fault × IsHeadFault other)
AreAlike bytes (Ended fault) Budget = ⊥
AreAlike bytes Budget Closed = ⊥
AreAlike bytes Budget (Cut k) = ⊥
AreAlike bytes Budget (Ended other) = ⊥
AreAlike bytes Budget Budget = ⊤
AreAlike bytes end other = ⊥
