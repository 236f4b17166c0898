-- The bytes in front of the eight.
use Rattle.std.proofs.Common.{take, ap, ◌∙◌}
use Rattle.std.specs.Int.{w128}
use Rattle.std.proofs.lemmas.Int.{to_z-of_z}
use Rattle.hdf_types.specs.Reading.{int_size}
use Rattle.hdf_values.specs.Integers.{int_bytes}
use Rattle.hdf_values.proofs.integers.write_int.Goals as goal

pub returns : goal.returns
returns c =
    let t = c.args.int.now in
    c.copy_from_slice.ensures.after ∙ c.split_at.ensures.front ∙ ap (take (int_size t.bits)) c.as_slice.ensures ∙ c.eight_bytes-bytes.ensures ∙ ap (int_bytes t) (to_z-of_z w128 c.args.value c.ranges.value)
