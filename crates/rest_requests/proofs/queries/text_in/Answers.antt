use Rattle.std.proofs.Common.{◌∙◌, ap, sym, Some}
use Rattle.rest_requests.proofs.OfQueries.TextLemmas.{if_text-IsUtf8, if_text-other}
use Rattle.rest_requests.proofs.queries.text_in.Goals as goal

pub returns-in-Ok : goal.returns-in-Ok
returns-in-Ok c =
    let is = c.in-Ok.ensures.cases in
    ap Some is.0 ∙ sym (if_text-IsUtf8 c.args.bytes.now is.1)

pub returns-in-Err : goal.returns-in-Err
returns-in-Err c = sym (if_text-other c.args.bytes.now c.in-Err.ensures.cases.0)
