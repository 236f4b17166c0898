use Rattle.std.proofs.Common.{ap, ◌∙◌}
use Rattle.std.specs.Int.{to_be_bytes, w128}
use Rattle.object_records.specs.Keys.Keys.{id_bytes}
use Rattle.object_records.proofs.keys.ids.id_bytes.Goals as goal

pub returns-clause-bytes : goal.returns-clause-bytes
unfolding id_bytes
returns-clause-bytes c = c.to_be_bytes.ensures ∙ ap (to_be_bytes w128) c.bits_of.ensures.bits
