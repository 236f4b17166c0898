-- Calls one after another.
use Rattle.std.specs.Prelude.{◌≡◌, ◌≢◌, List, [], ◌∷◌, map}
use Rattle.access_lists.specs.declared.people.Caller.{Caller}
use Rattle.object_ops.specs.declared.ops.Request.{Request}
use Rattle.service_core.specs.declared.answers.Answer.{Answer}
use Rattle.service_core.specs.declared.answers.What.{What}
use Rattle.service_core.specs.declared.answers.What.TheVariants.{NoMemory}
use Rattle.service_core.specs.Steps.{Steps, World, replay}

-- who asked what, what was answered, and the world afterwards
pub record Call : Type 0 where
  pub caller : Caller
  pub request : Request
  pub answer : Answer
  pub after : World

-- calls on a world, one after another, whatever they were answered, and the world after the last
abbrev pub AreSteps : World → List Call → World → Type 0
AreSteps w [] last = last ≡ w
AreSteps w (c ∷ cs) last = Steps w c.caller c.request c.answer c.after × AreSteps c.after cs last

-- calls on a world, one after another, which all found memory, and the world after the last
abbrev pub AreCalls : World → List Call → World → Type 0
AreCalls w [] last = last ≡ w
AreCalls w (c ∷ cs) last = Steps w c.caller c.request c.answer c.after × (c.answer.what ≢ NoMemory) × AreCalls c.after cs last

abbrev pub asked : List Call → List (Caller × Request)
asked = map (λ c. (c.caller, c.request))

abbrev pub answers : List Call → List What
answers = map (λ c. c.answer.what)

-- the answers of any calls are those of the replay, and so is the world after them
abbrev pub CallsAreReplays : Type 0
CallsAreReplays = (w last : World) (cs : List Call) → AreCalls w cs last → (answers cs, last) ≡ replay w (asked cs)
