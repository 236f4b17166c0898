-- What the serving of one message does.
use Rattle.std.specs.Prelude.{◌≡◌, ℕ, ◌≤◌, List, ◌++◌, length, Bool, true, false, Option, Some, None, Result, Ok, Err, ⊤}
use Rattle.std.specs.Io.KnownBytes.{Consumes, Appends}
use Rattle.http_wire.specs.Messages.{RequestMessage, IsSpelled, spelling, closes}
use Rattle.http_wire.specs.Replies.{fault_reply}
use Rattle.http_wire.specs.declared.limits.TheConstants.{HEAD_LIMIT}
use Rattle.http_wire.specs.declared.message_fault.MessageFault.{MessageFault}
use Rattle.rest_session.specs.Links.Links.{Step, Stop, IsAnswer, IsEnd, IsFront}
use Rattle.rest_session.specs.declared.links.end.LinkEnd.{LinkEnd}
use Rattle.rest_session.specs.declared.links.end.LinkEnd.TheVariants.{Closed, Cut, Ended, ReadFault, WriteFault, Budget, NoMemory}

-- an end that comes after something was read
abbrev pub IsLateEnd : LinkEnd → Type 0
IsLateEnd Closed = ⊤
IsLateEnd (Cut unread) = ⊤
IsLateEnd (Ended fault) = ⊤
IsLateEnd ReadFault = ⊤
IsLateEnd WriteFault = ⊤
IsLateEnd Budget = ⊥
IsLateEnd NoMemory = ⊥

-- of the world before, the input before and after, what the source has left, what the sink held and holds, the world after
abbrev pub IsStep : {W : Type 0} → Step W → W → Option (List ℕ) → Option (List ℕ) → Option (List ℕ) → Option (List ℕ) → Option (List ℕ) → W → Option LinkEnd → Type 0
IsStep step w old pending left held_old held v None =
    (m : RequestMessage) × (answer : List ℕ) × IsSpelled m × (closes m ≡ false) × Consumes old pending (spelling m) × IsAnswer step w m answer v
    × Appends held_old held answer
IsStep step w old pending left held_old held v (Some end) =
    (tail : List ℕ) × (sent : List ℕ) × Consumes old left tail × Appends held_old held sent × IsEnd step w tail sent left v end × IsLateEnd end

-- a step, or a message at which the service ended the link
abbrev pub IsServedStep : {W E : Type 0} → Step W → Stop W E → W → Option (List ℕ) → Option (List ℕ) → Option (List ℕ) → Option (List ℕ) → Option (List ℕ) → W
    → Result (Option LinkEnd) E → Type 0
IsServedStep step stop w old pending left held_old held v (Ok ended) = IsStep step w old pending left held_old held v ended
IsServedStep step stop w old pending left held_old held v (Err end) =
    (m : RequestMessage) × (ahead : List ℕ) × IsSpelled m × (length ahead ≤ HEAD_LIMIT) × Consumes old left (spelling m ++ ahead)
    × (held ≡ held_old) × stop w m end v

-- how much of some bytes was written
abbrev pub IsWritten : {E : Type 0} → List ℕ → List ℕ → Result (Unit {0}) E → Type 0
IsWritten whole sent (Ok done) = sent ≡ whole
IsWritten whole sent (Err failed) = IsFront sent whole

-- how an answer was written that closes or not, and whether the link ended with it
abbrev pub IsAnswerEnd : Bool → List ℕ → List ℕ → Option LinkEnd → Type 0
IsAnswerEnd close answer sent None = (close ≡ false) × (sent ≡ answer)
IsAnswerEnd close answer sent (Some Closed) = (close ≡ true) × (sent ≡ answer)
IsAnswerEnd close answer sent (Some WriteFault) = IsFront sent answer
IsAnswerEnd close answer sent (Some (Cut unread)) = ⊥
IsAnswerEnd close answer sent (Some (Ended fault)) = ⊥
IsAnswerEnd close answer sent (Some ReadFault) = ⊥
IsAnswerEnd close answer sent (Some Budget) = ⊥
IsAnswerEnd close answer sent (Some NoMemory) = ⊥

-- a message was answered, and this was written; or its service ended the link, and nothing was
abbrev pub IsAnswered : {W E : Type 0} → Step W → Stop W E → W → RequestMessage → Option (List ℕ) → Option (List ℕ) → W → Result (Option LinkEnd) E → Type 0
IsAnswered step stop w m held_old held v (Ok ended) =
    (answer : List ℕ) × (sent : List ℕ) × step w m answer v × Appends held_old held sent × IsAnswerEnd (closes m) answer sent ended
IsAnswered step stop w m held_old held v (Err end) = (held ≡ held_old) × stop w m end v

-- how the answer to refused bytes was written
abbrev pub IsRefusalEnd : MessageFault → List ℕ → LinkEnd → Type 0
IsRefusalEnd fault sent (Ended other) = (other ≡ fault) × (sent ≡ fault_reply fault)
IsRefusalEnd fault sent WriteFault = IsFront sent (fault_reply fault)
IsRefusalEnd fault sent Closed = ⊥
IsRefusalEnd fault sent (Cut unread) = ⊥
IsRefusalEnd fault sent ReadFault = ⊥
IsRefusalEnd fault sent Budget = ⊥
IsRefusalEnd fault sent NoMemory = ⊥
