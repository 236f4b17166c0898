use Rattle.std.proofs.Common.{refl, ap, length, ◌++◌, sym, arith}
use Rattle.std.proofs.KnownBytes.{Keeps-refl}
use Rattle.http_wire.proofs.MessageLemmas.{looked, not_behind, refused_for_size, rest_kept, whole_here, whole_behind, part_behind, stops_behind, short_here, leaves_front, refused_waits, held_on}
use Rattle.http_wire.proofs.Rooms.{unused_room}
use Rattle.http_wire.specs.Taken.{head_bytes}
use Rattle.std.specs.Io.KnownBytes.{prepend_known}
use Rattle.http_wire.proofs.Windows.{known_same}
use Rattle.http_wire.proofs.inbox.Inbox.take_message.Goals as goal

pub returns-in-Err-clause-taken : goal.returns-in-Err-clause-taken
returns-in-Err-clause-taken g c = λ h at small.
    (_, rest_kept _ _ _ (Keeps-refl _), refused_for_size _ h _ _ c.in-Err.ensures.kind at.reads small (sym (c.in-Err.ensures.size h at)), unused_room c.args.self.now.buffer)

pub returns-in-NoMemory-clause-taken : goal.returns-in-NoMemory-clause-taken
returns-in-NoMemory-clause-taken g c = λ h at small.
    looked _ _ _ _ _ _ _ (known_same _ _ _ c.in-NoMemory.ensures.read) (c.skip_message.ensures.taken h at small (c.in-Ok.ensures.size h at))

pub returns-in-Ok-from_slice-clause-taken : goal.returns-in-Ok-from_slice-clause-taken
returns-in-Ok-from_slice-clause-taken g c = λ h at small.
    let whole = whole_here (g.S.Source.left c.args.source.now) _ _ _ h c.args.spans.len c.in-Ok.size c.unused-unused.ensures.value c.in-Ok-from_slice.ensures.items
    c.if-size-front.true at.reads.0 small (c.in-Ok.ensures.size h at) at.reads.1 in
    (c.requires.spans, (h, at, whole.0, whole.1))

pub returns-in-Err-from_slice-clause-taken : goal.returns-in-Err-from_slice-clause-taken
returns-in-Err-from_slice-clause-taken g c = λ h at small.
    let whole = whole_here (g.S.Source.left c.args.source.now) _ _ _ h c.args.spans.len c.in-Ok.size c.unused-unused.ensures.value refl
    c.if-size-front.true at.reads.0 small (c.in-Ok.ensures.size h at) at.reads.1 in
    (_, whole.0, whole.1, c.closes.ensures h at)

pub overflow_add-result : goal.overflow_add-result
overflow_add-result g c =
    let came = c.in-Cut.ensures.read.3 in
    let bound = c.in-Ok.ensures.bound in
    let within = c.requires.spans.section.len_fits in
    let room = c.unused-unused.ensures.room in
    let same = ap length c.unused-unused.ensures.value in
    omega (arith, came, bound, within, room, same)

pub returns-in-Whole-clause-taken : goal.returns-in-Whole-clause-taken
returns-in-Whole-clause-taken g c = λ h at small.
    let read = c.in-Whole.ensures.read in
    let whole = whole_behind _ _ _ _ _ h c.args.spans.len c.in-Ok.size c.unused-unused.ensures.value read.0 read.1 read.2 read.3
    at.reads.0 small (c.in-Ok.ensures.size h at) at.reads.1 in
    (c.requires.spans, (h, at, whole.0, whole.1))

pub returns-in-Cut-clause-taken : goal.returns-in-Cut-clause-taken
returns-in-Cut-clause-taken g c = λ h at small.
    let read = c.in-Cut.ensures.read in
    let part = part_behind _ _ _ _ h c.args.spans.len c.in-Ok.size c.unused-unused.ensures.value read.0 read.1 (let s = read.3 in let n = read.2 in omega (arith, s, n))
    at.reads.0 small (c.in-Ok.ensures.size h at) at.reads.1 at.len in
    (_, part.0, (let p = part.2 in let n = read.2 in omega (arith, p, n)), (let p = part.3 in omega (arith, p)), read.4, part.1, part.4, part.5)

pub returns-in-Fault-clause-taken : goal.returns-in-Fault-clause-taken
returns-in-Fault-clause-taken g c = λ h at small.
    let read = c.in-Fault.ensures.read in
    let part = part_behind _ _ _ _ h c.args.spans.len c.in-Ok.size c.unused-unused.ensures.value read.0 read.1 read.2
    at.reads.0 small (c.in-Ok.ensures.size h at) at.reads.1 at.len in
    (_, part.0, part.1, part.4)

pub returns-in-Whole-clause-unread : goal.returns-in-Whole-clause-unread
returns-in-Whole-clause-unread g c = λ h at m rest spelled e. absurd (not_behind _ _ h m rest c.args.spans.len c.in-Ok.size c.unused-unused.ensures.value
    c.if-size-front.false at.reads.0 (c.in-Ok.ensures.size h at) at.reads.1 spelled e)

pub returns-in-Cut-clause-unread : goal.returns-in-Cut-clause-unread
returns-in-Cut-clause-unread g c = λ h at m rest spelled e. absurd (not_behind _ _ h m rest c.args.spans.len c.in-Ok.size c.unused-unused.ensures.value
    c.if-size-front.false at.reads.0 (c.in-Ok.ensures.size h at) at.reads.1 spelled e)

pub returns-in-Fault-clause-unread : goal.returns-in-Fault-clause-unread
returns-in-Fault-clause-unread g c = λ h at m rest spelled e. absurd (not_behind _ _ h m rest c.args.spans.len c.in-Ok.size c.unused-unused.ensures.value
    c.if-size-front.false at.reads.0 (c.in-Ok.ensures.size h at) at.reads.1 spelled e)

pub returns-in-NoMemory-clause-unread : goal.returns-in-NoMemory-clause-unread
returns-in-NoMemory-clause-unread g c = λ h at m rest spelled e. absurd (not_behind _ _ h m rest c.args.spans.len c.in-Ok.size c.unused-unused.ensures.value
    c.if-size-front.false at.reads.0 (c.in-Ok.ensures.size h at) at.reads.1 spelled e)

pub returns-in-Err-clause-held : goal.returns-in-Err-clause-held
returns-in-Err-clause-held g c = λ h at small.
    refused_waits _ _ _ _ c.requires.unused (refused_for_size _ h _ _ c.in-Err.ensures.kind at.reads small (sym (c.in-Err.ensures.size h at)))

pub returns-in-NoMemory-clause-held : goal.returns-in-NoMemory-clause-held
returns-in-NoMemory-clause-held g c = λ h at small.
    held_on (prepend_known (head_bytes c.args.self.now) (g.S.Source.left c.args.source.now))
    (prepend_known (head_bytes c.args.self.now) (g.S.Source.left c.read_body.new.source)) (g.S.Source.left c.skip_message.new.source)
    c.skip_message.new.self c.skip_message.result (known_same _ _ _ c.in-NoMemory.ensures.read) (c.skip_message.ensures.held h at small (c.in-Ok.ensures.size h at))

pub returns-in-Cut-clause-held : goal.returns-in-Cut-clause-held
returns-in-Cut-clause-held g c = λ h at small.
    let read = c.in-Cut.ensures.read in
    let sized = c.in-Ok.ensures.size h at in
    let size_is = read.2 in
    let few = read.3 in
    let part = part_behind _ _ _ _ h c.args.spans.len c.in-Ok.size c.unused-unused.ensures.value read.0 read.1 (omega (arith, few, size_is))
    at.reads.0 small sized at.reads.1 at.len in
    let stops = stops_behind _ read.0 h c.args.spans.len c.in-Ok.size at.reads.0 small sized at.reads.1
    (short_here _ _ read.0 c.args.spans.len c.in-Ok.size c.unused-unused.ensures.value (omega (arith, few, size_is))) in
    let count = part.2 in
    let waits = ap (λ l. length (l ++ read.0)) c.requires.unused in
    (read.0, leaves_front _ _ _ _ read.0 c.requires.unused c.requires.unused read.1 stops, omega (arith, count, size_is, waits))

pub returns-in-Fault-clause-held : goal.returns-in-Fault-clause-held
returns-in-Fault-clause-held g c = λ h at small.
    let read = c.in-Fault.ensures.read in
    let stops = stops_behind _ read.0 h c.args.spans.len c.in-Ok.size at.reads.0 small (c.in-Ok.ensures.size h at) at.reads.1
    (short_here _ _ read.0 c.args.spans.len c.in-Ok.size c.unused-unused.ensures.value read.2) in
    (read.0, leaves_front _ _ _ _ read.0 c.requires.unused c.requires.unused read.1 stops)
