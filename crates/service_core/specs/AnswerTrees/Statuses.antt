-- With which statuses requests are done.
use Rattle.std.specs.Prelude.{◌≡◌, ◌⊎◌, ℕ}
use Rattle.access_lists.specs.declared.people.Caller.{Caller}
use Rattle.object_ops.specs.declared.ops.Request.{Request}
use Rattle.service_core.specs.declared.answers.Answer.{Answer}
use Rattle.service_core.specs.declared.answers.What.{What}
use Rattle.service_core.specs.Steps.{Steps, World}
use Rattle.service_core.specs.AnswerTrees.Bodies.{AnswerHas}

-- done, made, or kept
abbrev pub IsDoneStatus : ℕ → Type 0
IsDoneStatus status = (status ≡ 200) ⊎ ((status ≡ 201) ⊎ (status ≡ 204))

-- so is the status of what is answered, where it was done
abbrev pub HasDoneStatus : What → Type 0
HasDoneStatus = AnswerHas (λ status body. IsDoneStatus status)

-- whatever the world, each request is answered so
abbrev pub AnswersHaveDoneStatuses : Type 0
AnswersHaveDoneStatuses = (w : World) (caller : Caller) (request : Request) (answer : Answer) (v : World) → Steps w caller request answer v
    → HasDoneStatus answer.what
