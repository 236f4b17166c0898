-- How many bytes are read ahead.
use Rattle.std.proofs.Common.{◌-◌, ◌≤◌, length, length-take, length-drop, drop, arith}
use Rattle.http_wire.specs.Buffers.{unused_bytes}
use Rattle.http_wire.specs.Taken.{waiting}
use Rattle.http_wire.specs.declared.buffer.HeadBuffer.{HeadBuffer}
use Rattle.http_wire.specs.declared.inbox.Inbox.{Inbox}
use Rattle.http_wire.specs.declared.limits.TheConstants.{HEAD_LIMIT}

-- no more than the room for a head
pub unused_room : (b : HeadBuffer) → length (unused_bytes b) ≤ HEAD_LIMIT
unused_room b =
    let room = b.room in
    omega (arith, room, length-take (b.end - b.start) (drop b.start b.bytes.items), length-drop b.start b.bytes.items)

pub waiting_room : (inbox : Inbox) → length (waiting inbox) ≤ HEAD_LIMIT
waiting_room inbox = omega (arith, unused_room inbox.buffer, length-drop inbox.used (unused_bytes inbox.buffer))
