use Rattle.std.proofs.Common.{◌≡◌, map, drop}
use Rattle.std.specs.List.{list_any}
use Rattle.httparse.specs.Spans.{header_bytes}
use Rattle.http_wire.specs.Heads.{values_of}
use Rattle.http_wire.specs.Messages.{says_close}
use Rattle.http_wire.proofs.closing.has_close.Given as goal

-- the fields before this one don't say it
abbrev pub invariant-fields : goal.invariant-fields
invariant-fields l =
    list_any says_close (values_of l.name (map (header_bytes l.buf) l.headers))
    ≡ list_any says_close (values_of l.name (map (header_bytes l.buf) (drop l.header-index l.headers)))
