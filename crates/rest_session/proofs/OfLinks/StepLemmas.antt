-- One step of a link.
use Rattle.std.proofs.Common.{◌≡◌, ℕ, ◌≤◌, List, ◌++◌, length, take, drop, Some, None, Result, Ok, Err, OnOk, OnErr, refl, sym, ◌∙◌, subst, inl, inr, take-append-drop}
use Rattle.std.specs.declared.option.Option.{Option}
use Rattle.std.specs.Io.KnownBytes.{Consumes, Appends, prepend_known}
use Rattle.http_wire.specs.Messages.{RequestMessage, IsSpelled, spelling, closes}
use Rattle.http_wire.specs.declared.limits.TheConstants.{HEAD_LIMIT}
use Rattle.rest_session.specs.declared.links.end.LinkEnd.{LinkEnd}
use Rattle.rest_session.specs.declared.links.end.LinkEnd.TheVariants.{Closed, Cut, Ended, ReadFault, WriteFault, Budget, NoMemory}
use Rattle.rest_session.specs.Links.Links.{Step, Stop, IsAnswer}
use Rattle.rest_session.specs.Links.Steps.{IsAnswered, IsServedStep, IsStep, IsWritten, IsAnswerEnd}
use Rattle.rest_session.proofs.OfLinks.Progress.{behind}

-- a whole answer was written, or its first bytes
pub written : {E : Type 0} (old new : Option (List ℕ)) (bytes whole : List ℕ) (result : Result (Unit {0}) E) → bytes ≡ whole
    → OnOk result (Appends old new bytes) → OnErr result ((n : ℕ) × (n ≤ length bytes) × Appends old new (take n bytes))
    → (sent : List ℕ) × Appends old new sent × IsWritten whole sent result
written old new bytes whole (Ok done) e ok err = (bytes, ok, e)
written old new bytes whole (Err failed) e ok err = (take err.0 bytes, err.2, (drop err.0 bytes, sym e ∙ sym (take-append-drop err.0 bytes)))

-- a write leaves the source as it was, and a read the sink
pub same_link : {W : Type 0} (step : Step W) (w v : W) (old left later first before h : Option (List ℕ)) (unused : List ℕ)
    (result : Option LinkEnd) → later ≡ left → before ≡ first → IsStep step w old (prepend_known unused left) left before h v result
    → IsStep step w old (prepend_known unused later) later first h v result
same_link step w v old left later first before h unused result e f s =
    subst (λ (o : Option (List ℕ)). IsStep step w old (prepend_known unused later) later o h v result) f
    (subst (λ (l : Option (List ℕ)). IsStep step w old (prepend_known unused l) l before h v result) (sym e) s)

-- a message was taken and answered
pub message_step : {W : Type 0} (step : Step W) (w v : W) (old left ho h : Option (List ℕ)) (unused : List ℕ) (m : RequestMessage)
    (answer sent : List ℕ) (result : Option LinkEnd) → length unused ≤ HEAD_LIMIT → IsSpelled m → Consumes old (prepend_known unused left) (spelling m) → IsAnswer step w m answer v
    → Appends ho h sent → IsAnswerEnd (closes m) answer sent result → IsStep step w old (prepend_known unused left) left ho h v result
message_step step w v old left ho h unused m answer sent None room spelled used stepped written end =
    (m, answer, spelled, end.0, used, stepped, subst (Appends ho h) end.1 written)
message_step step w v old left ho h unused m answer sent (Some Closed) room spelled used stepped written end = (
  spelling m ++ unused,
  sent,
  behind old left (spelling m) unused used,
  written,
  inr (record { message = m; ahead = unused; spelled = spelled; bytes = refl; room = room; is_answer = subst (λ (l : List ℕ). IsAnswer step w m l v) (sym end.1) stepped }, end.0),
  tt,
)
message_step step w v old left ho h unused m answer sent (Some WriteFault) room spelled used stepped written end = (
  spelling m ++ unused,
  sent,
  behind old left (spelling m) unused used,
  written,
  inl (answer, record { message = m; ahead = unused; spelled = spelled; bytes = refl; room = room; is_answer = stepped }, end),
  tt,
)
message_step step w v old left ho h unused m answer sent (Some (Cut n)) room spelled used stepped written end = absurd end
message_step step w v old left ho h unused m answer sent (Some (Ended r)) room spelled used stepped written end = absurd end
message_step step w v old left ho h unused m answer sent (Some ReadFault) room spelled used stepped written end = absurd end
message_step step w v old left ho h unused m answer sent (Some Budget) room spelled used stepped written end = absurd end
message_step step w v old left ho h unused m answer sent (Some NoMemory) room spelled used stepped written end = absurd end

-- a message was taken, and answered by a service, or the service ended the link with it
pub met_step : {W E : Type 0} (step : Step W) (stop : Stop W E) (w v : W) (old left later ho first h : Option (List ℕ)) (unused : List ℕ) (m : RequestMessage)
    (result : Result (Option LinkEnd) E) → length unused ≤ HEAD_LIMIT → IsSpelled m → Consumes old (prepend_known unused left) (spelling m) → later ≡ left → first ≡ ho
    → IsAnswered step stop w m first h v result → IsServedStep step stop w old (prepend_known unused later) later ho h v result
met_step step stop w v old left later ho first h unused m (Ok ended) room spelled used e f a =
    same_link step w v old left later ho first h unused ended e f
    (message_step step w v old left first h unused m a.0 a.1 ended room spelled used (inl a.2) a.3 a.4)
met_step step stop w v old left later ho first h unused m (Err end) room spelled used e f a =
    (m, unused, spelled, room, subst (λ (l : Option (List ℕ)). Consumes old l (spelling m ++ unused)) (sym e) (behind old left (spelling m) unused used), a.0 ∙ f, a.1)
