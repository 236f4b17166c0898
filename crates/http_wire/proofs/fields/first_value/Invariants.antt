use Rattle.std.proofs.Common.{◌≡◌, map, drop}
use Rattle.httparse.specs.Spans.{header_bytes}
use Rattle.http_wire.specs.Heads.{first_value}
use Rattle.http_wire.proofs.fields.first_value.Given as goal

-- the fields before this one have another name
abbrev pub invariant-fields : goal.invariant-fields
invariant-fields l = first_value l.name (map (header_bytes l.buf) l.headers) ≡ first_value l.name (map (header_bytes l.buf) (drop l.header-index l.headers))
