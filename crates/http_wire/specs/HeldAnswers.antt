-- The answer that an inbox holds, beside its input.
use Rattle.std.specs.Prelude.{◌≡◌, ℕ, List}
use Rattle.http_wire.specs.AnswerBuffers.{put_bytes}
use Rattle.http_wire.specs.Taken.{waiting, head_bytes, head_spans}
use Rattle.http_wire.specs.declared.inbox.Inbox.{Inbox}

-- the bytes that were put since it was emptied
abbrev pub answer_in : Inbox → List ℕ
answer_in inbox = put_bytes inbox.answer

-- what was read stays, and so do the parts of the head that was taken last
pub record SameInput (old new : Inbox) : Type 0 where
  pub unread : waiting new ≡ waiting old
  pub bytes : head_bytes new ≡ head_bytes old
  pub spans : head_spans new ≡ head_spans old
