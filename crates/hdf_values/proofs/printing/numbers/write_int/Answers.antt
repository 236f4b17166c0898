-- The number that the bytes are, signed or not.
use Rattle.std.proofs.Common.{ap, ◌∙◌, true, false, refl, FitsSigned}
use Rattle.std.specs.Int.{w64}
use Rattle.std.proofs.lemmas.Int.{to_z-of_z}
use Rattle.json.specs.Token.{number as number_token}
use Rattle.serde_json.specs.Find.{of_integer}
use Rattle.serde_json.specs.Written.{number_text}
use Rattle.hdf_values.proofs.IntegerLemmas.{value_told}
use Rattle.hdf_values.proofs.PrintLemmas.{signed_text, token_added}
use Rattle.hdf_values.proofs.printing.numbers.write_int.Goals as goal

pub returns-then-int : goal.returns-then-int
returns-then-int c =
    let t = c.args.int.now in
    let fits : FitsSigned w64 c.signed.result = record { sfits = c.signed.type_inv } in
    let same = to_z-of_z w64 c.signed.result fits ∙ c.signed.ensures in
    token_added _ _ _ _ _ (ap number_token (signed_text _ ∙ ap (λ z. number_text (of_integer z)) (same ∙ value_told t c.args.bytes.now c.plain_number-found.result true t.big c.if-int.true refl c.plain_number-found.ensures.value))) c.i64.ensures

pub returns-else-int : goal.returns-else-int
returns-else-int c =
    let t = c.args.int.now in
    token_added _ _ _ _ _ (ap (λ z. number_token (number_text (of_integer z))) (value_told t c.args.bytes.now c.plain_number-found.result false t.big c.if-int.false refl c.plain_number-found.ensures.value)) c.u64.ensures
