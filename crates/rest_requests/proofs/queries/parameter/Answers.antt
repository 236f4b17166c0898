use Rattle.std.proofs.Common.{◌≡◌, ◌∙◌, ap, sym, Some}
use Rattle.percent_encoding.specs.Percent.{percent_decode}
use Rattle.percent_encoding.specs.declared.DecodeError.TheVariants.{OutOfMemory, Utf8}
use Rattle.rest_requests.specs.Queries.Targets.{if_text}
use Rattle.rest_requests.proofs.OfQueries.TextLemmas.{if_text-IsUtf8, if_text-other}
use Rattle.rest_requests.proofs.queries.parameter.Goals as goal

pub returns-in-Ok : goal.returns-in-Ok
returns-in-Ok c =
    ap Some c.in-Ok.ensures.value
    ∙ sym (if_text-IsUtf8 _ c.in-Ok.ensures.ok_only_if_utf8)
    ∙ ap if_text (c.percent_decode.ensures.bytes ∙ ap percent_decode c.as_bytes.ensures.value)

pub returns-in-Err-Utf8 : goal.returns-in-Err-Utf8
returns-in-Err-Utf8 c =
    sym (if_text-other _ (λ utf8. let same : Utf8 c.in-Err-Utf8.field-0-0 ≡ OutOfMemory = sym c.in-Err-Utf8.field-0-is ∙ c.in-Err-Utf8.ensures.utf8 utf8 in cc))
    ∙ ap if_text (c.percent_decode.ensures.bytes ∙ ap percent_decode c.as_bytes.ensures.value)
