-- The length, the tests and UTF-8 are what some text's bytes have.
use Rattle.std.proofs.Common.{◌≡◌, take, ap, ◌∙◌}
use Rattle.hdf_values.specs.Texts.{without_end, fill as fill_of}
use Rattle.hdf_values.proofs.TextLemmas.{encoded_where, not_encoded}
use Rattle.hdf_values.proofs.texts.is_encoded_text.Goals as goal

pub returns-in-Ok : goal.returns-in-Ok
returns-in-Ok c =
    let bytes = c.args.bytes.now in
    let kept : take c.kept_len.result bytes ≡ without_end (fill_of c.args.kind.now.pad) bytes = c.kept_len.ensures.front ∙ ap (λ f. without_end f bytes) c.fill.ensures in
    encoded_where c.args.kind.now bytes (take c.kept_len.result bytes) c.misfit.result c.is_none.result c.if-bytes-kind.false kept c.in-Ok.ensures.cases.1 c.misfit.ensures c.is_none.ensures

pub returns-in-Err : goal.returns-in-Err
returns-in-Err c =
    let bytes = c.args.bytes.now in
    let kept : take c.kept_len.result bytes ≡ without_end (fill_of c.args.kind.now.pad) bytes = c.kept_len.ensures.front ∙ ap (λ f. without_end f bytes) c.fill.ensures in
    not_encoded c.args.kind.now bytes (take c.kept_len.result bytes) kept c.in-Err.ensures.cases.0
