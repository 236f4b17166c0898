use Rattle.std.proofs.Common.{None, ◌∙◌, arith}
use Rattle.rest_session.proofs.OfLinks.Progress.{answered, ended, stopped, spent}
use Rattle.rest_session.proofs.links.serve.serve_messages.Goals as goal

pub returns-in-Ok-Some-clause-transcript : goal.returns-in-Ok-Some-clause-transcript
returns-in-Ok-Some-clause-transcript g c =
    ended _ _ _ _ _ _ None _ _ _ _ _ _ c.messages.invariant.0 c.messages-test.true (rw c.in-Ok-Some.field-0-is at c.in-Ok-Some.ensures.step)

pub returns-in-Err-clause-transcript : goal.returns-in-Err-clause-transcript
returns-in-Err-clause-transcript g c =
    let s = c.in-Err.ensures.step in
    stopped _ _ _ _ _ _ _ _ _ _ _ _ _ c.messages.invariant.0 c.messages-test.true s.0 s.1 s.2 s.3 s.4 s.5 s.6

pub messages-preserved : goal.messages-preserved
messages-preserved g c = (
  answered _ _ _ _ _ _ _ None _ _ _ _ c.messages.invariant.0 (rw c.in-Ok-None.field-0-is at c.in-Ok-None.ensures.step),
  omega (arith, c.messages.invariant.1, c.in-Ok-None.ensures.read_later),
  omega (arith, c.messages.invariant.2, c.in-Ok-None.ensures.write_later),
  c.in-Ok-None.ensures.fixed ∙ c.messages.invariant.3,
  c.in-Ok-None.ensures.names ∙ c.messages.invariant.4,
  c.in-Ok-None.ensures.room,
  c.in-Ok-None.ensures.ready,
)

pub returns-clause-transcript : goal.returns-clause-transcript
returns-clause-transcript g c = spent _ _ _ _ _ _ _ _ _ c.messages.invariant.0 (omega arith) c.messages.invariant.5
