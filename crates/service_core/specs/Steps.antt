-- What a world is, and what one request answers and leaves of it.
use Rattle.std.specs.Prelude.{◌≡◌, ℕ, ◌⊎◌, ◌==◌, ◌<◌, List, [], ◌∷◌, ◌++◌, true, not, Option, Some, None, IsSome, Result, Ok, Err, if◌then◌else◌}
use Rattle.std.specs.FinMap.{entries, from_entries}
use Rattle.std.specs.List.{filter}
use Rattle.object_ids.specs.IdValues.{Id}
use Rattle.access_lists.specs.declared.people.Caller.{Caller}
use Rattle.object_ops.specs.Replies.{Follows, nothing, was_done}
use Rattle.object_ops.specs.declared.ops.Request.{Request}
use Rattle.object_ops.specs.declared.ops.Op.{Op}
use Rattle.object_ops.specs.declared.ops.Op.TheVariants.{DropNode}
use Rattle.object_ops.specs.declared.grants.Grant.{Grant}
use Rattle.object_ops.specs.declared.grants.Step.{Step}
use Rattle.object_ops.specs.declared.replies.Reply.{Reply}
use Rattle.object_ops.specs.declared.replies.Reply.TheVariants as reply
use Rattle.chunk_owner.specs.Lanes.{AreOfKind, AreShown, Each}
use Rattle.chunk_owner.specs.Acts.{acted}
use Rattle.register.specs.Tickets.{Issue}
use Rattle.register.specs.Decided.{IsDenial, IsGivenOut, RegisterState, decided, is_of_nodes, passed}
use Rattle.register.specs.declared.tickets.Turn.{Turn}
use Rattle.register.specs.declared.verdicts.Verdict.{Verdict}
use Rattle.register.specs.declared.verdicts.Verdict.TheVariants as verdict
use Rattle.service_core.specs.declared.answers.What.{What}
use Rattle.service_core.specs.declared.answers.What.TheVariants.{Replied, Denied, NoMemory}
use Rattle.service_core.specs.declared.answers.Answer.{Answer}
use Rattle.object_acts.specs.Objects.{Objects}

-- the catalogue with what was given out, and the objects of all lanes
pub record World : Type 0 where
  pub register : RegisterState
  pub objects : Objects

-- ---- a granted request

-- what one step answers and leaves
abbrev pub step_taken : Grant → Op → Option Step → Objects → Reply × Objects
step_taken g op None m = (reply.Done 200 nothing, m)
step_taken g op (Some step) m = acted g op step m

-- the steps in order, up to the first that is refused
abbrev pub run_on : Grant → Op → Reply × Objects → List Turn → Reply × Objects
run_on g op p [] = p
run_on g op p (t ∷ ts) = if was_done p.0 then run_on g op (step_taken g op t.step p.1) ts else p

abbrev pub started : Objects → Reply × Objects
started m = (reply.Done 200 nothing, m)

-- the objects without those of a domain
abbrev pub without_domain : ℕ → Objects → Objects
without_domain number m = from_entries (filter (λ e. not (e.0.domain == number)) (entries m))

-- the removal of a domain drops its objects; every other granted request takes its steps
abbrev pub served : Op → Issue → Objects → Reply × Objects
served DropNode issue m = (reply.Done 200 nothing, without_domain issue.grant.number m)
served op issue m = run_on issue.grant op (started m) issue.left

-- ---- a request

abbrev pub by_verdict : Op → Verdict → Objects → What × Objects
by_verdict op (verdict.Granted issue) m = (Replied (served op issue m).0, (served op issue m).1)
by_verdict op (verdict.Answered answer) m = (Replied answer, m)
by_verdict op (verdict.Denied right) m = (Denied right, m)
by_verdict op (verdict.Refused refusal) m = (Replied (reply.Refused refusal), m)
by_verdict op verdict.NoMemory m = (NoMemory, m)

-- what a request is answered, and the world afterwards
abbrev pub step : World → Caller → Request → What × World
step w caller request =
    let p = decided w.register caller request in
    let q = by_verdict request.op p.0 w.objects in
    (q.0, record { register = p.1; objects = q.1 })

-- the requests of some callers, one after another: their answers, and the world afterwards
abbrev pub replay : World → List (Caller × Request) → List What × World
replay w [] = ([], w)
replay w (c ∷ cs) = let p = step w c.0 c.1 in ((p.0 ∷ (replay p.1 cs).0), (replay p.1 cs).1)

-- ---- what a call says

-- memory ran out at a step that was reached; those before it stand, and it left all as it was
pub record StopsIn (g : Grant) (op : Op) (turns : List Turn) (old new : Objects) : Type 0 where
  pub front : List Turn
  pub short : Turn
  pub rest : List Turn
  pub split : turns ≡ front ++ short ∷ rest
  pub step : IsSome short.step
  pub reached : was_done (run_on g op (started old) front).0 ≡ true
  pub stands : new ≡ (run_on g op (started old) front).1

abbrev pub StopsAt : Op → Verdict → Objects → Objects → Type 0
StopsAt op (verdict.Granted issue) old new = StopsIn issue.grant op issue.left old new
StopsAt op verdict old new = ⊥

-- memory ran out before the request was decided, on folders, domains and lists alone; or at one of its steps
abbrev pub FindsNone : World → Caller → Request → World → Type 0
FindsNone w caller request new =
    ((is_of_nodes request.op ≡ true) × (new ≡ record { register = passed w.register; objects = w.objects }))
    ⊎ ((new.register ≡ (decided w.register caller request).1) × StopsAt request.op (decided w.register caller request).0 w.objects new.objects)

-- a denial is never replaced by a want of memory
abbrev pub IsAnswered : World → Caller → Request → What → World → Type 0
IsAnswered w caller request NoMemory new = (IsDenial (decided w.register caller request).0 → ⊥) × FindsNone w caller request new
IsAnswered w caller request what new = (what, new) ≡ step w caller request

-- each call has the next place, and is the step
pub record Steps (old : World) (caller : Caller) (request : Request) (answer : Answer) (new : World) : Type 0 where
  pub place : answer.place ≡ old.register.places
  pub answered : IsAnswered old caller request answer.what new

-- ---- what the parts of a call say

-- one turn is taken; without a step nothing is done, and no memory is wanted
abbrev pub Takes : {E : Type 0} → Grant → Op → Option Step → Objects → Result Reply E → Objects → Type 0
Takes g op None old (Ok r) new = (r, new) ≡ step_taken g op None old
Takes g op None old (Err e) new = ⊥
Takes g op (Some step) old r new = Follows (acted g op step old) old r new

-- the turns are taken in order, or memory ran out at one of them
abbrev pub Runs : {E : Type 0} → Grant → Op → List Turn → Objects → Result Reply E → Objects → Type 0
Runs g op turns old (Ok r) new = (r, new) ≡ run_on g op (started old) turns
Runs g op turns old (Err e) new = StopsIn g op turns old new

abbrev pub Serves : {E : Type 0} → Op → Issue → Objects → Result Reply E → Objects → Type 0
Serves op issue old (Ok r) new = (r, new) ≡ served op issue old
Serves op issue old (Err e) new = StopsIn issue.grant op issue.left old new

-- what is answered once a request is decided
abbrev pub Obeys : Op → Verdict → Objects → What → Objects → Type 0
Obeys op verdict.NoMemory old what new = (what ≡ NoMemory) × (new ≡ old)
Obeys op verdict old NoMemory new = StopsAt op verdict old new
Obeys op verdict old what new = (what, new) ≡ by_verdict op verdict old

-- ---- what is true of every world

-- the number is below the next, and the serial was given out
pub record IsGiven (register : RegisterState) (id : Id) : Type 0 where
  pub number : id.domain < register.catalogue.next
  pub out : IsGivenOut register.run register.serial id

-- the id of each object was given
abbrev pub AreGiven : RegisterState → Objects → Type 0
AreGiven register = Each (λ id o. IsGiven register id)

-- the ids were given, and each object is of its id's kind and as requests see it
pub record IsWorld (w : World) : Type 0 where
  pub given : AreGiven w.register w.objects
  pub kinds : AreOfKind w.objects
  pub shown : AreShown w.objects
