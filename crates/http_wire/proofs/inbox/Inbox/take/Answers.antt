use Rattle.std.proofs.Common.{length, append-nil, refl, ap, sym, ◌∙◌, arith}
use Rattle.std.proofs.KnownBytes.{Keeps-refl}
use Rattle.http_wire.proofs.MessageLemmas.{looked, head_at_front, no_message, no_bad_size, in_head, rest_kept, kept_skipped, held_on, leaves_all}
use Rattle.http_wire.proofs.Pending.{used}
use Rattle.http_wire.specs.Buffers.{unused_bytes}
use Rattle.http_wire.specs.Taken.{waiting}
use Rattle.std.specs.Io.KnownBytes.{prepend_known}
use Rattle.http_wire.proofs.Rooms.{unused_room, waiting_room}
use Rattle.http_wire.proofs.inbox.Inbox.take.Goals as goal

pub returns-in-Head-clause-taken : goal.returns-in-Head-clause-taken
returns-in-Head-clause-taken g c =
    let found = c.in-Head.ensures.found.1 in
    looked _ _ _ _ _ _ _ (kept_skipped _ _ _ _ c.skip.ensures c.in-Head.ensures.kept) (c.take_message.ensures.taken found.0 found.1 found.2)

pub returns-in-Fault-clause-taken : goal.returns-in-Fault-clause-taken
returns-in-Fault-clause-taken g c = (
  _,
  used _ _ _ _ (kept_skipped _ _ _ _ c.skip.ensures c.in-Fault.ensures.kept) (rest_kept _ _ _ (Keeps-refl _)),
  no_message _ c.in-Fault.ensures.found,
  no_bad_size _ c.in-Fault.ensures.found,
)

pub returns-in-Cut-clause-taken : goal.returns-in-Cut-clause-taken
returns-in-Cut-clause-taken g c =
    let found = c.in-Cut.ensures.found in
    let size = ap length (sym c.unused.ensures.value) in (
      _,
      used _ _ _ _ (kept_skipped _ _ _ _ c.skip.ensures c.in-Cut.ensures.kept) (rest_kept _ _ _ (Keeps-refl _)),
      size,
      (let some = found.0 in omega (arith, size, some)),
      found.1,
      no_message _ found.2.0,
      no_bad_size _ found.2.0,
      in_head _ found.0 found.2,
    )

pub returns-in-End-clause-unread : goal.returns-in-End-clause-unread
returns-in-End-clause-unread g c = λ m rest spelled e. (c.in-End.ensures.unread m.head _ (head_at_front _ m rest spelled (c.skip.ensures ∙ e))).0

pub returns-in-Cut-clause-unread : goal.returns-in-Cut-clause-unread
returns-in-Cut-clause-unread g c = λ m rest spelled e. (c.in-Cut.ensures.unread m.head _ (head_at_front _ m rest spelled (c.skip.ensures ∙ e))).0

pub returns-in-BadHead-clause-unread : goal.returns-in-BadHead-clause-unread
returns-in-BadHead-clause-unread g c = λ m rest spelled e. (c.in-BadHead.ensures.unread m.head _ (head_at_front _ m rest spelled (c.skip.ensures ∙ e))).0

pub returns-in-HeadTooLong-clause-unread : goal.returns-in-HeadTooLong-clause-unread
returns-in-HeadTooLong-clause-unread g c = λ m rest spelled e. (c.in-HeadTooLong.ensures.unread m.head _ (head_at_front _ m rest spelled (c.skip.ensures ∙ e))).0

pub returns-in-Fault-clause-unread : goal.returns-in-Fault-clause-unread
returns-in-Fault-clause-unread g c = λ m rest spelled e. (c.in-Fault.ensures.unread m.head _ (head_at_front _ m rest spelled (c.skip.ensures ∙ e))).0

pub returns-in-Head-clause-unread : goal.returns-in-Head-clause-unread
returns-in-Head-clause-unread g c = λ m rest spelled e.
    let found = c.in-Head.ensures.found.1 in
    let both = c.in-Head.ensures.unread m.head _ (head_at_front _ m rest spelled (c.skip.ensures ∙ e)) in
    c.take_message.ensures.unread found.0 found.1 m rest spelled (both.1 ∙ c.skip.ensures ∙ e) ∙ both.0

pub returns-in-BadHead-clause-taken : goal.returns-in-BadHead-clause-taken
returns-in-BadHead-clause-taken g c = (
  _,
  used _ _ _ _ (kept_skipped _ _ _ _ c.skip.ensures c.in-BadHead.ensures.kept) (rest_kept _ _ _ (Keeps-refl _)),
  c.in-BadHead.ensures.found,
  unused_room c.read_head.new.self,
)

pub returns-in-HeadTooLong-clause-taken : goal.returns-in-HeadTooLong-clause-taken
returns-in-HeadTooLong-clause-taken g c = (
  _,
  used _ _ _ _ (kept_skipped _ _ _ _ c.skip.ensures c.in-HeadTooLong.ensures.kept) (rest_kept _ _ _ (Keeps-refl _)),
  c.in-HeadTooLong.ensures.found,
  unused_room c.read_head.new.self,
)

pub returns-in-Head-clause-room : goal.returns-in-Head-clause-room
returns-in-Head-clause-room g c = waiting_room c.take_message.new.self

pub returns-in-End-clause-room : goal.returns-in-End-clause-room
returns-in-End-clause-room g c = unused_room c.read_head.new.self

pub returns-in-Cut-clause-room : goal.returns-in-Cut-clause-room
returns-in-Cut-clause-room g c = unused_room c.read_head.new.self

pub returns-in-BadHead-clause-room : goal.returns-in-BadHead-clause-room
returns-in-BadHead-clause-room g c = unused_room c.read_head.new.self

pub returns-in-HeadTooLong-clause-room : goal.returns-in-HeadTooLong-clause-room
returns-in-HeadTooLong-clause-room g c = unused_room c.read_head.new.self

pub returns-in-Fault-clause-room : goal.returns-in-Fault-clause-room
returns-in-Fault-clause-room g c = unused_room c.read_head.new.self

pub returns-in-Head-clause-held : goal.returns-in-Head-clause-held
returns-in-Head-clause-held g c =
    let found = c.in-Head.ensures.found.1 in
    held_on (prepend_known (waiting c.args.self.now) (g.S.Source.left c.args.source.now))
    (prepend_known (unused_bytes c.read_head.new.self) (g.S.Source.left c.read_head.new.source)) (g.S.Source.left c.take_message.new.source)
    c.take_message.new.self c.take_message.result (kept_skipped _ _ _ _ c.skip.ensures c.in-Head.ensures.kept) (c.take_message.ensures.held found.0 found.1 found.2)

pub returns-in-Cut-clause-held : goal.returns-in-Cut-clause-held
returns-in-Cut-clause-held g c = (
  _,
  leaves_all _ _ _ refl (kept_skipped _ _ _ _ c.skip.ensures c.in-Cut.ensures.kept),
  ap length (append-nil _ ∙ sym c.unused.ensures.value),
)

pub returns-in-BadHead-clause-held : goal.returns-in-BadHead-clause-held
returns-in-BadHead-clause-held g c = (kept_skipped _ _ _ _ c.skip.ensures c.in-BadHead.ensures.kept, c.in-BadHead.ensures.found)

pub returns-in-HeadTooLong-clause-held : goal.returns-in-HeadTooLong-clause-held
returns-in-HeadTooLong-clause-held g c = (kept_skipped _ _ _ _ c.skip.ensures c.in-HeadTooLong.ensures.kept, c.in-HeadTooLong.ensures.found)

pub returns-in-Fault-clause-held : goal.returns-in-Fault-clause-held
returns-in-Fault-clause-held g c = (_, leaves_all _ _ _ refl (kept_skipped _ _ _ _ c.skip.ensures c.in-Fault.ensures.kept))
