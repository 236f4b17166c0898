-- What a turn of a lane needs of the lane's owner, and what it does.
--     IsReadyFor l g op step     the owner may take the step; to drop a domain it needs nothing
--     Performs task old y new    the objects before and after, by the outcome
use Rattle.std.specs.Prelude.{◌≡◌, Option, Some, None}
use Rattle.chunk_owner.specs.Acts.{IsTouchedIn, touched}
use Rattle.chunk_owner.specs.Lanes.{Lane}
use Rattle.object_acts.specs.Objects.{Objects}
use Rattle.object_ops.specs.declared.grants.Grant.{Grant}
use Rattle.object_ops.specs.declared.grants.Step.{Step}
use Rattle.object_ops.specs.declared.ops.Op.{Op}
use Rattle.object_ops.specs.declared.replies.Reply.{Reply}
use Rattle.lane_histories.specs.declared.items.Outcome.{Outcome}
use Rattle.lane_histories.specs.declared.items.Outcome.TheVariants.{Done, Short, Skipped}
use Rattle.service_histories.specs.ArrayServices.{MayFindNone, done_by}
use Rattle.service_histories.specs.Readies.{IsTakeable}
use Rattle.service_histories.specs.declared.tasks.Task.{Task}

abbrev pub IsReadyFor : Lane → Grant → Op → Option Step → Type 0
IsReadyFor l g op None = Unit {0}
IsReadyFor l g op (Some step) =
    IsTakeable g op step l.objects × IsTouchedIn l.lane l.lanes (touched g op step)

abbrev pub Performs : Task → Objects → Outcome Reply → Objects → Type 0
Performs task old (Done reply) new = (reply, new) ≡ done_by task old
Performs task old Short new = MayFindNone task × (new ≡ old)
Performs task old Skipped new = new ≡ old
