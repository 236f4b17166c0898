-- That a hall acknowledges only what is kept.
--     IsKeptBy asked keepings place      an operation with this place is kept, as one that is acknowledged must be
--     AcknowledgedIsKept                 so is each whose answer's bytes say that it was done
use Rattle.std.specs.Prelude.{◌≡◌, ◌≢◌, ℕ, List, Bool, true}
use Rattle.access_lists.specs.declared.people.Caller.{Caller}
use Rattle.object_ops.specs.declared.ops.Op.{Op}
use Rattle.object_ops.specs.declared.ops.Op.TheVariants.{Flush}
use Rattle.object_ops.specs.declared.ops.Request.{Request}
use Rattle.lane_histories.specs.declared.items.Keeping.{Keeping}
use Rattle.service_core.specs.AnswerTrees.Statuses.{IsDoneStatus}
use Rattle.rest_session.specs.Responses.{HasStatus}
use Rattle.rest_session.specs.Sessions.{is_to_keep}
use Rattle.rest_session.specs.Halls.Accounts.{Account}
use Rattle.rest_session.specs.Halls.Asking.{Asks, IsKeptPast}

-- One of these keepings was answered Ok and reaches past the place: of a flush with all that was done to objects, of a change of a folder, a domain or a
-- list with all such changes.
pub record IsKeptBy (asked : Op) (keepings : List Keeping) (place : ℕ) : Type 0 where
  pub flush : asked ≡ Flush → IsKeptPast (λ r. r.c) keepings place
  pub change : is_to_keep asked ≡ true → asked ≢ Flush → IsKeptPast (λ r. r.p) keepings place

-- 200, 201 or 204 comes only once it is kept, by a keeping that the pass has seen
abbrev pub AcknowledgedIsKept : Type 0
AcknowledgedIsKept =
    (s : Account) (caller : Caller) (request : Request) (close : Bool) (bytes : List ℕ) (t : Account) (asks : Asks s caller request close bytes t)
    (status : ℕ) → IsDoneStatus status → HasStatus status bytes → IsKeptBy request.op t.keepings asks.entry.place
