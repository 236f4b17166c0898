-- Where a place is told that memory was wanting.
use Rattle.std.proofs.Common.{◌≡◌, inl, inr, ⊎_elim, ℕ, List, [], ◌∷◌, refl, ap, sym, ◌∙◌, subst}
use Rattle.object_ops.specs.Replies.{nothing}
use Rattle.object_ops.specs.declared.grants.Grant.{Grant}
use Rattle.object_ops.specs.declared.ops.Op.{Op}
use Rattle.object_ops.specs.declared.ops.Op.TheVariants.{DropNode}
use Rattle.object_ops.specs.declared.replies.Reply.{Reply}
use Rattle.object_ops.specs.declared.replies.Reply.TheVariants as reply
use Rattle.register.specs.Tickets.{Issue}
use Rattle.register.specs.declared.tickets.Turn.{Turn}
use Rattle.register.specs.declared.verdicts.Verdict.{Verdict}
use Rattle.register.specs.declared.verdicts.Verdict.TheVariants as verdict
use Rattle.service_core.specs.declared.answers.What.TheVariants as what
use Rattle.lane_histories.specs.declared.items.Entry.{Entry}
use Rattle.lane_histories.specs.Histories.{History}
use Rattle.lane_histories.specs.Replies.{by_register, by_turn, no_memory}
use Rattle.lane_histories.specs.Replies.{What as LaneWhat}
use Rattle.lane_histories.specs.Services.{Turns, each_lane}
use Rattle.lane_histories.specs.Shorts.{IsToldOf, ShortsAreTold}
use Rattle.service_histories.specs.ArrayServices.{Asked, MayFindNone, array_service, listed, turns_for, turns_of}
use Rattle.service_histories.specs.PlainSteps.{answer_of, of_verdict}
use Rattle.service_histories.specs.Wants.{FindsNone, WantsAreTold}
use Rattle.service_histories.specs.declared.tasks.Task.{Task}
use Rattle.service_histories.specs.declared.tasks.Task.TheVariants.{DropsDomain}

-- ---- turns in each lane

listed_in_two : (g : Grant) (op : Op) (ts : List Turn) (task : Task) → ◌≡◌ {A = Turns Task} (listed g op ts) (each_lane task) → ⊥
listed_in_two g op [] task e = absurd (cc)
listed_in_two g op (t ∷ []) task e = absurd (cc)
listed_in_two g op (t ∷ u ∷ ts) task e = absurd (cc)

-- they drop the objects of a domain, which takes no memory
dropped : (op : Op) (issue : Issue) (task : Task) → ◌≡◌ {A = Turns Task} (turns_for op issue) (each_lane task) → MayFindNone task → ⊥
dropped DropNode issue task e may = subst MayFindNone (sym (let same : DropsDomain issue.grant.number ≡ task = cc in same)) may
dropped op issue task e may = listed_in_two issue.grant op issue.left task e

none_in_each : (asked : Asked) (v : Verdict) (task : Task) → ◌≡◌ {A = Turns Task} (turns_of asked v) (each_lane task) → MayFindNone task → ⊥
none_in_each asked (verdict.Granted issue) task e may = dropped asked.1.value.op issue task e may
none_in_each asked (verdict.Answered answer) task e may = absurd (cc)
none_in_each asked (verdict.Denied right) task e may = absurd (cc)
none_in_each asked (verdict.Refused refusal) task e may = absurd (cc)
none_in_each asked verdict.NoMemory task e may = absurd (cc)

-- ---- answers

verdict_none : (v : Verdict) → of_verdict v ≡ what.NoMemory → v ≡ verdict.NoMemory
verdict_none (verdict.Granted issue) e = absurd (let never : what.Replied (reply.Done 200 nothing) ≡ what.NoMemory = e in cc)
verdict_none (verdict.Answered answer) e = absurd (let never : what.Replied answer ≡ what.NoMemory = e in cc)
verdict_none (verdict.Denied right) e = absurd (let never : what.Denied right ≡ what.NoMemory = e in cc)
verdict_none (verdict.Refused refusal) e = absurd (let never : what.Replied (reply.Refused refusal) ≡ what.NoMemory = e in cc)
verdict_none verdict.NoMemory e = refl

module _ (lanes : ℕ) (h : History (array_service lanes)) (e : Entry Asked Verdict) where
  so : (told : LaneWhat Verdict Reply) → IsToldOf (array_service lanes) h e told → answer_of told ≡ what.NoMemory → FindsNone lanes h e
  so (by_register v) t is = inl (sym (t.by_verdict v refl) ∙ verdict_none v is)
  so (by_turn r) t is = absurd (let never : what.Replied r ≡ what.NoMemory = is in cc)
  so no_memory t is = inr (t.only refl)

  told_so : (told : LaneWhat Verdict Reply) → IsToldOf (array_service lanes) h e told → FindsNone lanes h e → answer_of told ≡ what.NoMemory
  told_so told t found = ⊎_elim
      (λ none. ap answer_of (t.without_turn (ap (turns_of e.asked) none)) ∙ ap of_verdict none)
      (λ short. ⊎_elim
      (λ is. ap answer_of is)
      (λ each. absurd (none_in_each e.asked e.verdict each.0 each.1 each.2))
      (t.short short))
      found

pub wants_are_told : (lanes : ℕ) → ShortsAreTold (array_service lanes) → WantsAreTold lanes
wants_are_told lanes shorts start h e told legal here is =
    let t = shorts start h e told legal here is in
    (so lanes h e told t, told_so lanes h e told t)
