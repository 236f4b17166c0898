use Rattle.std.proofs.Common.{◌≡◌, Option, sym, subst}
use Rattle.object_acts.specs.Objects.{Objects}
use Rattle.object_ops.specs.declared.grants.Step.{Step}
use Rattle.object_ops.specs.declared.replies.Reply.{Reply}
use Rattle.service_histories.specs.ArrayServices.{done_by, task_of}
use Rattle.hall.proofs.acting.perform.Goals as goal

pub returns-in_default-clause-did : goal.returns-in_default-clause-did
returns-in_default-clause-did c =
    let job = c.args.job.now in
    let old = c.args.owner.now.objects in
    let new = c.forget.new.self.objects in
    let drops = c.calls_are_events.ensures.drop job.grant.number old new c.forget.ensures.rest in
    subst (λ (step : Option Step). ◌≡◌ {A = Reply × Objects} (c.done.result, new) (done_by (task_of job.grant job.op.now step) old))
    (sym c.in_default.is) (λ i. (c.done.ensures i, drops i))
