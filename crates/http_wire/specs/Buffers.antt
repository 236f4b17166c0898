-- What a buffer of heads shows of its insides.
use Rattle.std.specs.Prelude.{ℕ, List, slice_range}
use Rattle.httparse.specs.Grammar.{RequestHead}
use Rattle.httparse.specs.Spans.{IsRequestWithin, IsRequestAt}
use Rattle.httparse.specs.declared.spans.HeaderSpan.{HeaderSpan}
use Rattle.httparse.specs.declared.spans.RequestSpans.{RequestSpans}
use Rattle.http_wire.specs.declared.buffer.HeadBuffer.{HeadBuffer}

-- the bytes that were read and not used yet
abbrev pub unused_bytes : HeadBuffer → List ℕ
unused_bytes b = slice_range b.bytes.items b.start b.end

-- where the names and the values of the fields of the head stand that was found last
abbrev pub header_spans : HeadBuffer → List HeaderSpan
header_spans b = b.headers.items

-- the spans lie within them
abbrev pub AreSpansIn : HeadBuffer → RequestSpans → Type 0
AreSpansIn b spans = IsRequestWithin (unused_bytes b) (header_spans b) spans

-- and cover the parts of this head
abbrev pub IsHeadIn : HeadBuffer → RequestSpans → RequestHead → Type 0
IsHeadIn b spans h = IsRequestAt (unused_bytes b) (header_spans b) spans h
