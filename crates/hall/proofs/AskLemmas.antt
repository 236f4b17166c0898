-- From the register's turn to the answer of the place.
use Rattle.std.proofs.Common.{◌≡◌, ℕ, List, [], refl, sym, ap, subst, ◌∙◌}
use Rattle.access_lists.specs.declared.people.Caller.{Caller}
use Rattle.object_ops.specs.declared.grants.Grant.{Grant}
use Rattle.object_ops.specs.declared.ops.Op.{Op}
use Rattle.object_ops.specs.declared.ops.Request.{Request}
use Rattle.register.specs.Grants.{turns_of as turns_given}
use Rattle.register.specs.Tickets.{Issue}
use Rattle.register.specs.declared.tickets.Turn.{Turn}
use Rattle.register.specs.declared.verdicts.Verdict.{Verdict}
use Rattle.register.specs.declared.verdicts.Verdict.TheVariants.{Granted}
use Rattle.service_core.specs.declared.answers.Answer.{Answer}
use Rattle.service_core.specs.declared.answers.What.{What}
use Rattle.lane_histories.specs.Histories.{IsIn}
use Rattle.lane_histories.specs.Replies.{by_register}
use Rattle.lane_histories.specs.Services.{no_turn}
use Rattle.lane_histories.specs.declared.items.Entry.{Entry}
use Rattle.lane_histories.specs.declared.items.RegisterItem.{RegisterItem}
use Rattle.lane_histories.specs.declared.items.RegisterItem.TheVariants.{Entered}
use Rattle.hall_rule.specs.AskLaws.{AsksAreAnswered}
use Rattle.hall_rule.specs.WholeTurns.{HasDecided, IsPass, entry_behind}
use Rattle.service_histories.specs.ArrayServices.{Asked, turns_of}
use Rattle.service_histories.specs.PlainSteps.{of_verdict}
use Rattle.hall.specs.Answers.{ArrayStart, ArrayView, GoesThrough, HasAnswered, HasVerdict, IsServed, IsServingJob, IsServingVerdict, asked_by}
use Rattle.hall.specs.ArrayMachines.{lanes_in, machines}
use Rattle.hall.proofs.DenialLemmas.{is_in_list}

-- ---- the register's turn leaves the pass with the tickets of its entry

module _ {D : Type 0} (start : ArrayStart D) (asks : AsksAreAnswered (machines {K = D} (lanes_in start))) where
  pub is_serving : (place : ℕ) (caller : Caller) (request : Request) (w : Verdict) (u v : ArrayView D) → IsPass start u → u.claims ≡ []
      → (d : HasDecided (machines (lanes_in start)) start place (asked_by caller request) w u v)
      → IsServingVerdict start d.before.register (entry_behind d.before.register u.number (asked_by caller request) w) place request.op w v
  unfolding machines
  is_serving place caller request w u v pass idle d = record {
    serving = record { may = asks.may_serve start place (asked_by caller request) w u v pass idle d; decided = d.may; legal = d.legal.register };
    place_is = sym d.place_is;
    op_is = refl;
    verdict_is = refl;
  }

  -- a verdict without turns is the answer
  pub served_by_none : (before : List (RegisterItem Asked Verdict)) (e : Entry Asked Verdict) (place : ℕ) (op : Op) (w : Verdict) (v : ArrayView D)
      → IsServingVerdict start before e place op w v → turns_of e.asked w ≡ no_turn → (answer : What) → answer ≡ of_verdict w → IsServed start e answer v v
  served_by_none before e place op w v s none answer told = record {
    what_is = by_register e.verdict;
    served = (asks.serve start before e v s.serving.may).by_none (ap (turns_of e.asked) s.verdict_is ∙ none);
    told = told ∙ ap of_verdict (sym s.verdict_is);
  }

-- ---- a verdict, as the arm that was taken has it

module _ {D : Type 0} (start : ArrayStart D) (before : List (RegisterItem Asked Verdict)) (e : Entry Asked Verdict) (place : ℕ) (op : Op) (w : ArrayView D) where
  pub serving_as : (v x : Verdict) → v ≡ x → IsServingVerdict start before e place op v w → IsServingVerdict start before e place op x w
  serving_as v x is = subst (λ y. IsServingVerdict start before e place op y w) is

  pub serving_job : (v : Verdict) (issue : Issue) (grant : Grant) → v ≡ Granted issue → grant ≡ issue.grant → IsServingVerdict start before e place op v w
      → IsServingJob start before e place op grant issue w
  serving_job v issue grant is of s = record { serving = serving_as v (Granted issue) is s; grant_is = sym of }

-- ---- the gates that were gone through

module _ {D : Type 0} (start : ArrayStart D) where
  pub verdict_here : (caller : Caller) (request : Request) (answer : Answer) (v w : ArrayView D) (h : HasAnswered start caller request answer v w)
      → HasVerdict w answer.place h.decided_as
  verdict_here caller request answer v w h =
      let a = h.asked in
      let e : Entry Asked Verdict = entry_behind a.before.register v.number (asked_by caller request) h.decided_as in (
        e,
        subst (λ (x : ArrayView D). IsIn x.seen.register (Entered e)) (sym a.is) (is_in_list a.seen.register a.before.register (Entered e) a.entered),
        sym a.place_is,
        refl,
      )

module _ {G : Type 0} (goes : G → ℕ → ℕ → G → Type 0) (place : ℕ) (old new : G) where
  pub gone_as : (v x : Verdict) → v ≡ x → GoesThrough goes place (turns_given x) old new → GoesThrough goes place (turns_given v) old new
  gone_as v x is = subst (λ (y : Verdict). GoesThrough goes place (turns_given y) old new) (sym is)

  pub gone_along : (ts us : List Turn) → ts ≡ us → GoesThrough goes place us old new → GoesThrough goes place ts old new
  gone_along ts us is = subst (λ (xs : List Turn). GoesThrough goes place xs old new) (sym is)
