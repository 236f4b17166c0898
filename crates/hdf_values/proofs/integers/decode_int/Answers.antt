-- The number that the bytes are, signed or not.
use Rattle.std.proofs.Common.{ap, ◌∙◌, true, false, refl, FitsSigned}
use Rattle.std.specs.Int.{w64}
use Rattle.std.proofs.lemmas.Int.{to_z-of_z}
use Rattle.serde_json.specs.Data.{number}
use Rattle.serde_json.specs.Find.{of_integer}
use Rattle.hdf_values.proofs.IntegerLemmas.{value_told}
use Rattle.hdf_values.proofs.integers.decode_int.Goals as goal

pub returns-then-int : goal.returns-then-int
returns-then-int c =
    let t = c.args.int.now in
    let fits : FitsSigned w64 c.signed.result = record { sfits = c.signed.type_inv } in
    c.from.ensures
    ∙ ap (λ z. number (of_integer z)) (to_z-of_z w64 c.signed.result fits ∙ c.signed.ensures ∙ value_told t c.args.bytes.now c.plain_number-found.result true t.big c.if-int.true refl c.plain_number-found.ensures.value)

pub returns-else-int : goal.returns-else-int
returns-else-int c =
    let t = c.args.int.now in
    c.from-else-int.ensures ∙ ap (λ z. number (of_integer z)) (value_told t c.args.bytes.now c.plain_number-found.result false t.big c.if-int.false refl c.plain_number-found.ensures.value)
