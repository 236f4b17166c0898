use Rattle.std.proofs.Common.{ap, ◌∙◌}
use Rattle.std.specs.Int.{w32, cast_unsigned, to_le_bytes}
use Rattle.std.proofs.lemmas.Int.{to_z-of_z}
use Rattle.hdf_values.proofs.OfKept.NumberLemmas.{appended, narrow_bytes}
use Rattle.hdf_values.proofs.kept.numbers.push_narrow.Goals as goal

pub returns : goal.returns
returns c =
    let z = c.args.number in
    appended c.extend_from_slice.result _ _ _ _
    (c.to_le_bytes.ensures ∙ ap (λ y. to_le_bytes w32 (cast_unsigned w32 y)) (to_z-of_z w32 z c.ranges.number) ∙ narrow_bytes z)
    c.extend_from_slice.ensures.items
