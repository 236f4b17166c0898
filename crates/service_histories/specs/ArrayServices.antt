-- The array service, as a service with a register and lanes.
--     Asked                    a request, and who asks, as clauses see them
--     KeptPart                 what a journal keeps of a register
--     task_of, turns_of        what the turns of a verdict do
--     HasDomain c number       a domain of the number stands in a catalogue
--     AreAlike c o p           the same objects; of those of domains that don't stand there some may be gone
--     array_service lanes      the service, over so many lanes
use Rattle.std.specs.Prelude.{◌≡◌, ℕ, Bool, true, false, List, [], ◌∷◌, Option, Some, None, refl}
use Rattle.std.specs.FinMap.{get}
use Rattle.std.specs.declared.snapshot.Snapshot.{Snapshot}
use Rattle.access_lists.specs.declared.people.Caller.{Caller}
use Rattle.domains.specs.Contents.{Contents, IsDomainAt}
use Rattle.object_ids.specs.IdValues.{Id}
use Rattle.object_ops.specs.Replies.{nothing, was_done}
use Rattle.object_ops.specs.declared.grants.Grant.{Grant}
use Rattle.object_ops.specs.declared.grants.Step.{Step}
use Rattle.object_ops.specs.declared.ops.Op.{Op}
use Rattle.object_ops.specs.declared.ops.Op.TheVariants.{DropNode}
use Rattle.object_ops.specs.declared.ops.Request.{Request}
use Rattle.object_ops.specs.declared.replies.Reply.{Reply}
use Rattle.object_ops.specs.declared.replies.Reply.TheVariants as reply
use Rattle.object_acts.specs.Objects.{Objects}
use Rattle.chunk_owner.specs.Acts.{acted}
use Rattle.register.specs.Decided.{Decides, RegisterState, decided, passed}
use Rattle.register.specs.Kept.{all_kept}
use Rattle.register.specs.Tickets.{Issue, all_counted}
use Rattle.register.specs.declared.tickets.Turn.{Turn}
use Rattle.register.specs.declared.verdicts.Verdict.{Verdict}
use Rattle.register.specs.declared.verdicts.Verdict.TheVariants as verdict
use Rattle.service_core.specs.Steps.{without_domain}
use Rattle.lane_histories.specs.Services.{Service, Turns, no_turn, one_turn, two_turns, each_lane}
use Rattle.service_histories.specs.declared.tasks.Task.{Task}
use Rattle.service_histories.specs.declared.tasks.Task.TheVariants.{TakesStep, DropsDomain}

-- ---- the register

-- who asks, and what; as clauses see them, since both are lent
abbrev pub Asked : Type 0
Asked = Snapshot Caller × Snapshot Request

-- the register after a verdict: where memory ran out, the place alone was taken
abbrev pub left_by : RegisterState → Asked → Verdict → RegisterState
left_by d asked verdict.NoMemory = passed d
left_by d asked v = (decided d asked.0.value asked.1.value).1

-- the verdict is the decision at this register; or memory ran out where it may
abbrev pub MayDecide : RegisterState → Asked → Verdict → Type 0
MayDecide d asked v = Decides d asked.0.value asked.1.value v (left_by d asked v)

-- a ticket of each lane is given for a cut
abbrev pub cut_drawn : RegisterState → RegisterState
cut_drawn d = record d { issued = all_counted d.issued }

-- where a cut of the register found memory, all of it is held
abbrev pub cut_recorded : Bool → RegisterState → RegisterState
cut_recorded true d = all_kept d
cut_recorded false d = d

-- what a journal keeps of a register: its folders and domains with the number of the next, and the run
pub record KeptPart : Type 0 where
  pub contents : Contents
  pub run : ℕ

abbrev pub kept_part : RegisterState → KeptPart
kept_part d = record { contents = d.catalogue; run = d.run }

-- ---- the turns of a request

-- a turn without a step drops the objects of the domain
abbrev pub task_of : Grant → Op → Option Step → Task
task_of g op None = DropsDomain g.number
task_of g op (Some step) = TakesStep g op step

-- the steps, in order; a request has two at most
abbrev pub listed : Grant → Op → List Turn → Turns Task
listed g op [] = no_turn
listed g op (t ∷ []) = one_turn t.lane (task_of g op t.step)
listed g op (t ∷ u ∷ ts) = two_turns t.lane (task_of g op t.step) u.lane (task_of g op u.step)

-- of a removed domain each lane drops its objects
abbrev pub turns_for : Op → Issue → Turns Task
turns_for DropNode issue = each_lane (DropsDomain issue.grant.number)
turns_for op issue = listed issue.grant op issue.left

abbrev pub turns_of : Asked → Verdict → Turns Task
turns_of asked (verdict.Granted issue) = turns_for asked.1.value.op issue
turns_of asked v = no_turn

-- ---- a turn

abbrev pub done_by : Task → Objects → Reply × Objects
done_by (TakesStep g op step) m = acted g op step m
done_by (DropsDomain number) m = (reply.Done 200 nothing, without_domain number m)

-- to drop objects takes no memory
abbrev pub MayFindNone : Task → Type 0
MayFindNone (TakesStep g op step) = Unit {0}
MayFindNone (DropsDomain number) = ⊥

-- ---- the same objects

pub record HasDomain (c : Contents) (number : ℕ) : Type 0 where
  pub path : List ℕ
  pub root : Id
  pub here : IsDomainAt c path number root

-- what stands at an id is the same; or its domain doesn't stand in the catalogue, and nothing is left of it
pub data IsSameOrGone (c : Contents) (one other : Objects) (id : Id) : Type 0 where
  same : get one id ≡ get other id → IsSameOrGone c one other id
  gone : (HasDomain c id.domain → ⊥) → get one id ≡ None → IsSameOrGone c one other id

abbrev pub AreAlike : KeptPart → Objects → Objects → Type 0
AreAlike c one other = (id : Id) → IsSameOrGone c.contents one other id

-- ---- the service

abbrev pub array_service : ℕ → Service
array_service lanes = record {
  Register = RegisterState;
  Asked = Asked;
  Verdict = Verdict;
  Task = Task;
  Objects = Objects;
  Reply = Reply;
  Catalogue = KeptPart;
  lanes = lanes;
  MayAnswer = MayDecide;
  decided = left_by;
  turns = turns_of;
  drawn = cut_drawn;
  recorded = cut_recorded;
  acted = done_by;
  went_well = was_done;
  MayBeShort = MayFindNone;
  catalogue = kept_part;
  catalogue_drawn = λ d. refl;
  catalogue_recorded = cut_keeps;
  Alike = AreAlike;
  alike_itself = λ c m id. same refl;
}
  where
    cut_keeps : (found : Bool) (d : RegisterState) → kept_part (cut_recorded found d) ≡ kept_part d
    cut_keeps true d = refl
    cut_keeps false d = refl
