-- What holds of the statuses and the bodies of answers.
use Rattle.std.specs.Prelude.{ℕ}
use Rattle.serde_json.specs.Data.{Data}
use Rattle.object_ops.specs.declared.replies.Reply.{Reply}
use Rattle.object_ops.specs.declared.replies.Reply.TheVariants.{Done, Refused}
use Rattle.register.specs.declared.verdicts.Verdict.{Verdict}
use Rattle.register.specs.declared.verdicts.Verdict.TheVariants.{Answered}
use Rattle.service_core.specs.declared.answers.What.{What}
use Rattle.service_core.specs.declared.answers.What.TheVariants.{Replied}

-- it holds of the status and the body of what was done; of nothing else is anything said
abbrev pub ReplyHas : (ℕ → Data → Type 0) → Reply → Type 0
ReplyHas P (Done status body) = P status body
ReplyHas P (Refused refusal) = Unit {0}

abbrev pub AnswerHas : (ℕ → Data → Type 0) → What → Type 0
AnswerHas P (Replied reply) = ReplyHas P reply
AnswerHas P what = Unit {0}

-- of what a register answers by itself
abbrev pub VerdictHas : (ℕ → Data → Type 0) → Verdict → Type 0
VerdictHas P (Answered reply) = ReplyHas P reply
VerdictHas P verdict = Unit {0}
