-- What a buffer for an answer shows of its insides.
use Rattle.std.specs.Prelude.{ℕ, List, take}
use Rattle.http_wire.specs.declared.reply_buffer.ReplyBuffer.{ReplyBuffer}

abbrev pub held_bytes : ReplyBuffer → List ℕ
held_bytes b = take b.len b.bytes
