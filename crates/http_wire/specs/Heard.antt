-- The message that was taken.
use Rattle.std.specs.Prelude.{◌≡◌}
use Rattle.http_wire.specs.Messages.{RequestMessage}
use Rattle.http_wire.specs.Taken.{IsHeadOf}
use Rattle.http_wire.specs.declared.message.Message.{Message}

-- it has this head and this body
abbrev pub IsMessage : Message → RequestMessage → Type 0
IsMessage message m =
    IsHeadOf message.inbox.now message.spans m.head × (message.body.now ≡ m.body)
