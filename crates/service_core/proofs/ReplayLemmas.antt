-- The replay of many requests, by the steps of each.
use Rattle.std.proofs.Common.{◌≡◌, ◌≢◌, List, [], ◌∷◌, refl, ap, ◌∙◌}
use Rattle.access_lists.specs.declared.people.Caller.{Caller}
use Rattle.object_ops.specs.declared.ops.Request.{Request}
use Rattle.service_core.specs.declared.answers.What.{What}
use Rattle.service_core.specs.declared.answers.What.TheVariants.{Replied, Denied, NoMemory}
use Rattle.service_core.specs.Replays.{AreCalls, Call, answers, asked}
use Rattle.service_core.specs.Steps.{IsAnswered, World, replay, step}

stepped : (w new : World) (caller : Caller) (request : Request) (what : What) → what ≢ NoMemory → IsAnswered w caller request what new → (what, new) ≡ step w caller request
stepped w new caller request (Replied r) found h = h
stepped w new caller request (Denied right) found h = h
stepped w new caller request NoMemory found h = absurd (found refl)

pub replayed : (w last : World) (cs : List Call) → AreCalls w cs last → (answers cs, last) ≡ replay w (asked cs)
replayed w last [] h = ap (λ x. ([], x)) h
replayed w last (c ∷ cs) h =
    let more : List What × World → List What × World = λ z. (c.answer.what ∷ z.0, z.1) in
    let on : What × World → List What × World = λ p. (p.0 ∷ (replay p.1 (asked cs)).0, (replay p.1 (asked cs)).1) in
    ap more (replayed c.after last cs h.2) ∙ ap on (stepped w c.after c.caller c.request c.answer.what h.1 h.0.answered)
