use Rattle.std.proofs.Common.{ap, ◌∙◌}
use Rattle.std.specs.Int.{w64}
use Rattle.std.proofs.lemmas.Int.{to_z-of_z}
use Rattle.hdf_types.specs.declared.IntType.{IntType}
use Rattle.hdf_values.specs.Integers.{in_order, int_value, number_of, signed_of}
use Rattle.hdf_values.proofs.kept.numbers.narrow.Goals as goal

pub returns : goal.returns
unfolding int_value
returns c =
    to_z-of_z w64 c.signed.result (record { sfits = c.signed.type_inv }) ∙ c.signed.ensures
    ∙ ap (signed_of 32) (c.plain_number.ensures.value ∙ ap (λ (t : IntType). number_of (in_order t.big c.args.bytes.now)) c.plain.ensures)
