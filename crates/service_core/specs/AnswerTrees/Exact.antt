-- Answers without a number that has a fraction or an exponent.
use Rattle.std.specs.Prelude.{◌≡◌, ℕ, List, false}
use Rattle.serde_json.specs.Data.{Data}
use Rattle.serde_json.specs.Written.{has_float}
use Rattle.access_lists.specs.declared.people.Caller.{Caller}
use Rattle.object_ops.specs.declared.ops.Op.{Op}
use Rattle.object_ops.specs.declared.ops.Request.{Request}
use Rattle.object_ops.specs.declared.grants.Grant.{Grant}
use Rattle.object_ops.specs.declared.grants.Step.{Step}
use Rattle.object_ops.specs.Refusals.{refusal_tree}
use Rattle.object_ops.specs.declared.refusals.Refusal.{Refusal}
use Rattle.chunk_owner.specs.Acts.{acted}
use Rattle.register.specs.Decided.{RegisterState, decided}
use Rattle.service_core.specs.declared.answers.Answer.{Answer}
use Rattle.service_core.specs.declared.answers.What.{What}
use Rattle.service_core.specs.Steps.{Steps, World}
use Rattle.service_core.specs.AnswerTrees.Bodies.{AnswerHas, ReplyHas, VerdictHas}
use Rattle.object_acts.specs.Objects.{Objects}

-- no number of the tree has a fraction or an exponent
abbrev pub HasNoFloat : Data → Type 0
HasNoFloat body = has_float body ≡ false

-- so is the body of what is answered
abbrev pub IsExact : What → Type 0
IsExact = AnswerHas (λ status. HasNoFloat)

-- whatever the world, each request is answered so
abbrev pub AnswersAreExact : Type 0
AnswersAreExact = (w : World) (caller : Caller) (request : Request) (answer : Answer) (v : World) → Steps w caller request answer v
    → IsExact answer.what

-- ---- the parts

-- whatever the register, it answers so by itself
abbrev pub DecisionsAreExact : Type 0
DecisionsAreExact = (d : RegisterState) (caller : Caller) (request : Request) → VerdictHas (λ status. HasNoFloat) (decided d caller request).0

-- whatever the objects, each step on them answers so
abbrev pub ActsAreExact : Type 0
ActsAreExact = (g : Grant) (op : Op) (step : Step) (m : Objects) → ReplyHas (λ status. HasNoFloat) (acted g op step m).0

-- whatever is refused, and at which path, the refusal's body is so
abbrev pub RefusalsAreExact : Type 0
RefusalsAreExact = (path : List ℕ) (refusal : Refusal) → HasNoFloat (refusal_tree path refusal)
