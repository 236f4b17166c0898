use Rattle.std.proofs.Common.{◌≡◌, map, drop}
use Rattle.std.specs.Option.{option_copied}
use Rattle.httparse.specs.Spans.{header_bytes}
use Rattle.http_wire.specs.Heads.{values_of}
use Rattle.http_wire.specs.Messages.{only_one}
use Rattle.http_wire.specs.Sizes.{before}
use Rattle.http_wire.proofs.sizes.only_value.Given as goal

-- what was found stands in front of the values that are left
abbrev pub invariant-fields : goal.invariant-fields
invariant-fields l =
    only_one (values_of l.name (map (header_bytes l.buf) l.headers))
    ≡ only_one (before (option_copied l.found) (values_of l.name (map (header_bytes l.buf) (drop l.header-index l.headers))))
