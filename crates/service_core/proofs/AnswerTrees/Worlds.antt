-- What a world answers, and the objects that it then has.
use Rattle.std.specs.FinMap.{get}
use Rattle.std.proofs.Common.{◌≡◌, ℕ, ◌==◌, List, [], ◌∷◌, Option, Some, None, ⊎_elim, sym, subst, ◌∙◌}
use Rattle.serde_json.specs.Data.{Data}
use Rattle.access_lists.specs.declared.people.Caller.{Caller}
use Rattle.object_ops.specs.declared.grants.Grant.{Grant}
use Rattle.object_ops.specs.declared.grants.Step.{Step}
use Rattle.object_ops.specs.declared.ops.Op.{Op}
use Rattle.object_ops.specs.declared.ops.Op.TheVariants.{DropNode}
use Rattle.object_ops.specs.declared.ops.Request.{Request}
use Rattle.chunk_store.specs.Grids.{Grid}
use Rattle.object_ops.specs.declared.replies.Reply.{Reply}
use Rattle.object_acts.specs.declared.objects.Object.{Object}
use Rattle.chunk_owner.proofs.Eaches.{stays}
use Rattle.register.specs.Decided.{decided}
use Rattle.register.specs.Tickets.{Issue}
use Rattle.register.specs.declared.tickets.Turn.{Turn}
use Rattle.register.specs.declared.verdicts.Verdict.{Verdict}
use Rattle.register.specs.declared.verdicts.Verdict.TheVariants as verdict
use Rattle.service_core.specs.declared.answers.What.{What}
use Rattle.service_core.specs.declared.answers.What.TheVariants.{Replied, Denied, NoMemory}
use Rattle.service_core.specs.Steps.{IsAnswered, StopsAt, World, by_verdict, run_on, served, started, step, step_taken, without_domain}
use Rattle.service_core.proofs.ForgetLemmas.{get-without}
use Rattle.service_core.specs.AnswerTrees.Bodies.{AnswerHas, VerdictHas}
use Rattle.service_core.proofs.AnswerTrees.Catalogue.{decisions_have}
use Rattle.service_core.proofs.AnswerTrees.Objects.{AreAll, OutcomeHas, acted_leaves}
use Rattle.service_core.proofs.AnswerTrees.Trees.{Trees, either_way}
use Rattle.object_acts.specs.Objects.{Objects}
use Rattle.object_ops.specs.Replies.{was_done}

module _ {P : ℕ → Data → Type 0} {Q : Object → Type 0} {G : Grid → Type 0} {S : Op → Type 0} (t : Trees P Q G S) where
  taken_leaves : (g : Grant) (op : Op) (s : Option Step) (m : Objects) → S op → AreAll t m → OutcomeHas t (step_taken g op s m)
  taken_leaves g op None m sound h = (t.none, h)
  taken_leaves g op (Some s) m sound h = acted_leaves t g op s m sound h

  run_leaves : (g : Grant) (op : Op) (p : Reply × Objects) (ts : List Turn) → S op → OutcomeHas t p → OutcomeHas t (run_on g op p ts)
  run_leaves g op p [] sound h = h
  run_leaves g op p (u ∷ us) sound h =
      either_way (OutcomeHas t) (was_done p.0) (run_leaves g op (step_taken g op u.step p.1) us sound (taken_leaves g op u.step p.1 sound h.1)) h

  drops : (number : ℕ) (m : Objects) → AreAll t m → AreAll t (without_domain number m)
  drops number m h = λ id o e. h id o (stays (id.domain == number) (get m id) o (sym (get-without number m id) ∙ e))

  served_leaves : (op : Op) (issue : Issue) (m : Objects) → S op → AreAll t m → OutcomeHas t (served op issue m)
  served_leaves DropNode issue m sound h = (t.none, drops issue.grant.number m h)
  served_leaves op issue m sound h = run_leaves issue.grant op (started m) issue.left sound (t.none, h)

  -- what is answered, and the objects afterwards
  abbrev pub Gives : What × Objects → Type 0
  Gives p = AnswerHas P p.0 × AreAll t p.1

  verdict_gives : (op : Op) (v : Verdict) (m : Objects) → VerdictHas P v → S op → AreAll t m → Gives (by_verdict op v m)
  verdict_gives op (verdict.Granted issue) m said sound h = served_leaves op issue m sound h
  verdict_gives op (verdict.Answered reply) m said sound h = (said, h)
  verdict_gives op (verdict.Denied right) m said sound h = (tt, h)
  verdict_gives op (verdict.Refused refusal) m said sound h = (tt, h)
  verdict_gives op verdict.NoMemory m said sound h = (tt, h)

  -- where memory ran out in the midst, the steps before stand
  stopped : (op : Op) (v : Verdict) (old new : Objects) → StopsAt op v old new → S op → AreAll t old → AreAll t new
  stopped op (verdict.Granted issue) old new stops sound h =
      subst (AreAll t) (sym stops.stands) (run_leaves issue.grant op (started old) stops.front sound (t.none, h)).1
  stopped op (verdict.Answered reply) old new stops sound h = absurd stops
  stopped op (verdict.Denied right) old new stops sound h = absurd stops
  stopped op (verdict.Refused refusal) old new stops sound h = absurd stops
  stopped op verdict.NoMemory old new stops sound h = absurd stops

  module _ (w : World) (caller : Caller) (request : Request) (sound : S request.op) (h : AreAll t w.objects) where
    given : Gives ((step w caller request).0, (step w caller request).1.objects)
    given = verdict_gives request.op (decided w.register caller request).0 w.objects (decisions_have t w.register caller request) sound h

    answered : (what : What) (v : World) → (what, v) ≡ step w caller request → Gives (what, v.objects)
    answered what v said = subst (λ (p : What × World). Gives (p.0, p.1.objects)) (sym said) given

    pub answer_gives : (what : What) (v : World) → IsAnswered w caller request what v → Gives (what, v.objects)
    answer_gives (Replied reply) v said = answered (Replied reply) v said
    answer_gives (Denied right) v said = answered (Denied right) v said
    answer_gives NoMemory v said = (
      tt,
      ⊎_elim
          (λ early. subst (λ (x : World). AreAll t x.objects) (sym early.1) h)
          (λ late. stopped request.op (decided w.register caller request).0 w.objects v.objects late.1 sound h)
          said.1,
    )
