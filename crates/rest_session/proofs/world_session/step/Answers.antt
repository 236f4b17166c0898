use Rattle.std.proofs.Common.{inl, ℕ, List, Bool, Ok, Err, refl, sym, subst, ◌∙◌}
use Rattle.rest_session.specs.Links.Replies.{reply_bytes}
use Rattle.object_ops.specs.Needs.{decided_at}
use Rattle.rest_session.specs.Responses.{IsResponse}
use Rattle.rest_session.specs.Sessions.{IsFinished}
use Rattle.rest_session.proofs.world_session.step.Goals as goal

pub answer_reply-requires : goal.answer_reply-requires
answer_reply-requires g c = c.bodies_have_no_floats.ensures _ _ _ _ _ c.step-answer.ensures.steps

pub returns-then-not-acknowledges : goal.returns-then-not-acknowledges
returns-then-not-acknowledges g c = λ close. inl (record {
  answer = c.step-answer.result;
  mid = c.step-answer.new.self;
  steps = c.step-answer.ensures.steps;
  says = c.step-answer.ensures.says;
  finished = subst (λ (b : Bool). IsFinished {met = g.D.Disk} b (decided_at c.args.request.now) c.step-answer.result.what close c.args.keeping.now c.step-answer.new.self (reply_bytes c.answer_reply.result close)
      (record { tokens = c.args.tokens.now; world = c.step-answer.new.self; keeping = c.args.keeping.now })) (sym c.if-not-acknowledges.true ∙ c.acknowledges.ensures)
      (refl, refl, subst (λ (path : List ℕ). IsResponse path c.step-answer.result.what close (reply_bytes c.answer_reply.result close)) c.on_text.ensures (c.answer_reply.ensures close));
})

pub returns-in-Ok : goal.returns-in-Ok
returns-in-Ok g c = λ close. inl (record {
  answer = c.step-answer.result;
  mid = c.step-answer.new.self;
  steps = c.step-answer.ensures.steps;
  says = c.step-answer.ensures.says;
  finished = subst (λ (b : Bool). IsFinished {met = g.D.Disk} b (decided_at c.args.request.now) c.step-answer.result.what close c.args.keeping.now c.step-answer.new.self (reply_bytes c.answer_reply-in-Ok.result close)
      (record { tokens = c.args.tokens.now; world = c.keep.new.world; keeping = c.keep.new.self })) (sym c.if-not-acknowledges.false ∙ c.acknowledges.ensures) (
        Ok c.in-Ok._places,
        record { keeps = c.in-Ok.ensures.keeps; same = c.in-Ok.ensures.world; number = c.in-Ok.ensures.number; kept = c.in-Ok.ensures.kept; refused = c.in-Ok.ensures.refused; batch = c.in-Ok.ensures.batch; done = c.in-Ok.ensures.done; none = c.in-Ok.ensures.none },
        subst (λ (path : List ℕ). IsResponse path c.step-answer.result.what close (reply_bytes c.answer_reply-in-Ok.result close)) c.on_text-in-Ok.ensures (c.answer_reply-in-Ok.ensures close),
      );
})

pub returns : goal.returns
returns g c = λ close. inl (record {
  answer = c.step-answer.result;
  mid = c.step-answer.new.self;
  steps = c.step-answer.ensures.steps;
  says = c.step-answer.ensures.says;
  finished = subst (λ (b : Bool). IsFinished {met = g.D.Disk} b (decided_at c.args.request.now) c.step-answer.result.what close c.args.keeping.now c.step-answer.new.self (reply_bytes c.unkept_reply.result close)
      (record { tokens = c.args.tokens.now; world = c.keep.new.world; keeping = c.keep.new.self })) (sym c.if-not-acknowledges.false ∙ c.acknowledges.ensures) (
        Err c.in-Err.why,
        record { keeps = c.in-Err.ensures.keeps; same = c.in-Err.ensures.world; number = c.in-Err.ensures.number; kept = c.in-Err.ensures.kept; refused = c.in-Err.ensures.refused; batch = c.in-Err.ensures.batch; done = c.in-Err.ensures.done; none = c.in-Err.ensures.none },
        c.unkept_reply.ensures close,
      );
})
