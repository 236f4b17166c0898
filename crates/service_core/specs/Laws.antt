-- What holds of every step, in other words.
use Rattle.std.specs.Prelude.{◌≡◌, ℕ, ◌+◌, ◌<◌, List, ◌∷◌, ◌++◌, length, Option, Some, None, if◌then◌else◌}
use Rattle.std.specs.FinMap.{get}
use Rattle.object_ids.specs.IdValues.{Id}
use Rattle.access_lists.specs.declared.people.Caller.{Caller}
use Rattle.domains.specs.Contents.{IsDomainAt}
use Rattle.object_ops.specs.Replies.{nothing, was_done}
use Rattle.object_ops.specs.Parts.{id_of}
use Rattle.object_ops.specs.declared.grants.Grant.{Grant}
use Rattle.object_ops.specs.declared.grants.Step.TheVariants.{Only, Link, Make as Making}
use Rattle.object_ops.specs.declared.ops.LinkPlace.{LinkPlace}
use Rattle.object_ops.specs.declared.ops.Make.{Make}
use Rattle.object_ops.specs.declared.ops.Op.{Op}
use Rattle.object_ops.specs.declared.ops.Op.TheVariants.{DropNode, MakeObject}
use Rattle.object_ops.specs.declared.ops.Request.{Request}
use Rattle.object_ops.specs.declared.replies.Reply.{Reply}
use Rattle.object_ops.specs.declared.replies.Reply.TheVariants.{Done}
use Rattle.object_acts.specs.declared.objects.Object.{Object}
use Rattle.chunk_owner.specs.Acts.{act, acted}
use Rattle.chunk_owner.specs.Lanes.{Forgets}
use Rattle.register.specs.Decided.{decided}
use Rattle.register.specs.Tickets.{Issue}
use Rattle.register.specs.declared.verdicts.Verdict.TheVariants.{Granted}
use Rattle.service_core.specs.declared.answers.What.TheVariants.{Replied}
use Rattle.service_core.specs.Replays.{AreSteps, Call}
use Rattle.service_core.specs.declared.answers.Answer.{Answer}
use Rattle.service_core.specs.Steps.{Steps, World, replay, step}
use Rattle.object_acts.specs.Objects.{Objects}

-- ---- places, tickets and marks

-- the n-th answer, counted from 0, has the n-th place behind the first
abbrev pub PlacesInOrder : Type 0
PlacesInOrder = (w last : World) (before after : List Call) (c : Call) → AreSteps w (before ++ c ∷ after) last → c.answer.place ≡ w.register.places + length before

-- after an answer one place more was given
abbrev pub PlacesGoOn : Type 0
PlacesGoOn = (w new : World) (caller : Caller) (request : Request) (answer : Answer) → Steps w caller request answer new → new.register.places ≡ w.register.places + 1

-- the same but for the places and the tickets that were given and for what is to be written, over whatever lanes
pub record AreAlike (w v : World) : Type 0 where
  pub catalogue : v.register.catalogue ≡ w.register.catalogue
  pub run : v.register.run ≡ w.register.run
  pub serial : v.register.serial ≡ w.register.serial
  pub objects : v.objects ≡ w.objects

-- such worlds answer alike, and stay alike
abbrev pub StepsAlike : Type 0
StepsAlike = (w v : World) (caller : Caller) (request : Request) → AreAlike w v
    → ((step v caller request).0 ≡ (step w caller request).0) × AreAlike (step w caller request).1 (step v caller request).1

abbrev pub ReplaysAlike : Type 0
ReplaysAlike = (w v : World) (asked : List (Caller × Request)) → AreAlike w v → ((replay v asked).0 ≡ (replay w asked).0) × AreAlike (replay w asked).1 (replay v asked).1

-- ---- granted requests

-- a request that is granted so, over some lanes
pub record IsGranted (w : World) (caller : Caller) (request : Request) (issue : Issue) : Type 0 where
  pub lanes : 0 < length w.register.issued
  pub granted : (decided w.register caller request).0 ≡ Granted issue

-- it is answered so, and leaves these objects
pub record Gives (w : World) (caller : Caller) (request : Request) (p : Reply × Objects) : Type 0 where
  pub reply : (step w caller request).0 ≡ Replied p.0
  pub objects : (step w caller request).1.objects ≡ p.1

-- an object is made where its link was done
abbrev pub then_made : Grant → Op → Reply × Objects → Reply × Objects
then_made g op p = if was_done p.0 then acted g op Making p.1 else p

abbrev pub LinkedThenMade : Type 0
LinkedThenMade = (w : World) (caller : Caller) (request : Request) (issue : Issue) (make : Make) (place : LinkPlace) → IsGranted w caller request issue → request.op ≡ MakeObject make (Some place)
    → Gives w caller request (then_made issue.grant request.op (acted issue.grant request.op Link w.objects))

-- without a link it is just made
abbrev pub MadeAlone : Type 0
MadeAlone = (w : World) (caller : Caller) (request : Request) (issue : Issue) (make : Make) → IsGranted w caller request issue → request.op ≡ MakeObject make None
    → Gives w caller request (acted issue.grant request.op Only w.objects)

-- this is answered and left at one id, and each other object stays
pub record IsDoneAt (w : World) (caller : Caller) (request : Request) (id : Id) (p : Reply × Option Object) : Type 0 where
  pub reply : (step w caller request).0 ≡ Replied p.0
  pub there : get (step w caller request).1.objects id ≡ p.1
  pub others : (other : Id) → (other ≡ id → ⊥) → get (step w caller request).1.objects other ≡ get w.objects other

-- an operation on one object is one act on that object alone
abbrev pub OneObject : Type 0
OneObject = (w : World) (caller : Caller) (request : Request) (issue : Issue) (id : Id) → IsGranted w caller request issue → id_of request.op ≡ Some id
    → IsDoneAt w caller request id (act issue.grant request.op Only id (get w.objects id))

-- once a domain is removed, no id of its number has an object, and all others stay
abbrev pub DomainsAreForgotten : Type 0
DomainsAreForgotten = (w : World) (caller : Caller) (path : List ℕ) (number : ℕ) (root : Id) → IsDomainAt w.register.catalogue path number root
    → (step w caller (record { path = path; op = DropNode })).0 ≡ Replied (Done 200 nothing)
    → Forgets number w.objects (step w caller (record { path = path; op = DropNode })).1.objects
