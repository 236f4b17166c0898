-- What the room for an answer shows of its insides.
use Rattle.std.specs.Prelude.{ℕ, List, take}
use Rattle.http_wire.specs.declared.answer_buffer.AnswerBuffer.{AnswerBuffer}

-- the bytes that were put
abbrev pub put_bytes : AnswerBuffer → List ℕ
put_bytes b = take b.len b.bytes.items
