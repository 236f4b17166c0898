-- What the turns of requests find.
--     IsGivenIn lanes d m     what is true of a register, and of objects whose ids it gave out
--     IsTakeable              a step is one of its request's, and what it makes has an id without an object
--     array_readiness lanes   both
use Rattle.std.specs.Prelude.{◌≡◌, ℕ, ◌<◌, List, length}
use Rattle.domains.specs.Contents.{IsDomainAt}
use Rattle.object_ids.specs.IdValues.{Id}
use Rattle.object_ids.specs.declared.ids.Kind.TheVariants.{Group}
use Rattle.object_ops.specs.declared.grants.Grant.{Grant}
use Rattle.object_ops.specs.declared.grants.Step.{Step}
use Rattle.object_ops.specs.declared.ops.Op.{Op}
use Rattle.object_acts.specs.Objects.{Objects}
use Rattle.chunk_owner.specs.Acts.{HasFresh, IsStepOf}
use Rattle.register.specs.Decided.{AreGivenOut, RegisterState}
use Rattle.service_core.specs.Steps.{AreGiven}
use Rattle.lane_histories.specs.Histories.{History, objects_after, part_of}
use Rattle.lane_histories.specs.Legal.{IsLegal, IsNext}
use Rattle.lane_histories.specs.Ready.{Readiness}
use Rattle.lane_histories.specs.Services.{World}
use Rattle.lane_histories.specs.declared.items.Part.{Part}
use Rattle.service_histories.specs.ArrayServices.{array_service}
use Rattle.service_histories.specs.declared.tasks.Task.{Task}
use Rattle.service_histories.specs.declared.tasks.Task.TheVariants.{TakesStep, DropsDomain}

-- each domain's number is below the next, and its root is a group that was given out; and so was each object's id
pub record IsGivenIn (lanes : ℕ) (d : RegisterState) (m : Objects) : Type 0 where
  pub some_lane : 0 < lanes
  pub lanes_are : length d.issued ≡ lanes
  pub roots : AreGivenOut d.catalogue d.run d.serial
  pub numbers : (path : List ℕ) (number : ℕ) (root : Id) → IsDomainAt d.catalogue path number root
      → (number < d.catalogue.next) × (root.domain ≡ number) × (root.kind ≡ Group)
  pub objects : AreGiven d m

-- as an owner needs it
pub record IsTakeable (g : Grant) (op : Op) (s : Step) (m : Objects) : Type 0 where
  pub step : IsStepOf op s
  pub fresh : HasFresh g op m
  pub root : g.root.kind ≡ Group

abbrev pub Needs : Task → Objects → Type 0
Needs (TakesStep g op s) m = IsTakeable g op s m
Needs (DropsDomain number) m = Unit {0}

abbrev pub array_readiness : (lanes : ℕ) → Readiness (array_service lanes)
array_readiness lanes = record { Given = IsGivenIn lanes; Needs = Needs }

-- as long as the objects of the opening were given, the next turn of a lane finds what its task needs
abbrev pub TurnsFindWhatTheyNeed : ℕ → Type 0
TurnsFindWhatTheyNeed lanes =
    (start : World (array_service lanes)) (h : History (array_service lanes)) → IsLegal (array_service lanes) start h
    → ((l : ℕ) → IsGivenIn lanes start.register (start.objects l)) → (l place : ℕ) (part : Part) (task : Task)
    → IsNext (array_service lanes) h l (part_of place part task)
    → Needs task (objects_after (array_service lanes) (start.objects l) (h.lane l))
