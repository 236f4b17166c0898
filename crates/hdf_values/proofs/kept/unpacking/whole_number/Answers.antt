-- The number that the bytes are, signed or not.
use Rattle.std.proofs.Common.{◌∙◌, true, false, refl, FitsSigned}
use Rattle.std.specs.Int.{w64, w128}
use Rattle.std.proofs.lemmas.Int.{to_z-of_z}
use Rattle.hdf_values.proofs.IntegerLemmas.{value_told}
use Rattle.hdf_values.proofs.kept.unpacking.whole_number.Goals as goal

pub returns-then-int : goal.returns-then-int
returns-then-int c =
    let t = c.args.int.now in
    let fits : FitsSigned w64 c.signed.result = record { sfits = c.signed.type_inv } in
    let wide : FitsSigned w128 c.from.result = record { sfits = c.from.type_inv } in
    to_z-of_z w128 c.from.result wide ∙ c.from.ensures ∙ to_z-of_z w64 c.signed.result fits ∙ c.signed.ensures
    ∙ value_told t c.args.bytes.now c.plain_number-found.result true t.big c.if-int.true refl c.plain_number-found.ensures.value

pub returns-else-int : goal.returns-else-int
returns-else-int c =
    let t = c.args.int.now in
    let wide : FitsSigned w128 c.from-else-int.result = record { sfits = c.from-else-int.type_inv } in
    to_z-of_z w128 c.from-else-int.result wide ∙ c.from-else-int.ensures
    ∙ value_told t c.args.bytes.now c.plain_number-found.result false t.big c.if-int.false refl c.plain_number-found.ensures.value
