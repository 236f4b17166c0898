-- The text stands behind what was there, filled up.
use Rattle.std.proofs.Common.{◌≡◌, ◌++◌, None, sym, ap, ◌∙◌, arith}
use Rattle.hdf_values.specs.Elements.{misfit_or}
use Rattle.hdf_values.specs.Texts.{padded, text_misfit}
use Rattle.hdf_values.proofs.TextLemmas.{text_behind}
use Rattle.hdf_values.proofs.texts.push_text.Goals as goal

pub returns : goal.returns
returns c =
    let t = c.args.kind.now in
    let given = c.args.given.now in
    let old = c.args.out.now.items in
    let mid = c.extend_from_slice.new.self.items in
    let is = c.as_bytes-bytes.ensures.value in
    let none : text_misfit t given ≡ None = ap (text_misfit t) (sym is) ∙ sym c.in_default.ensures in
    let put : mid ≡ old ++ given = c.in_ok-extend_from_slice.ensures.items ∙ ap (λ x. old ++ x) is in
    (padded t given, ap (λ m. misfit_or m (padded t given)) none, text_behind t old given mid _ c.len.result _ c.fill.result none (omega arith) (omega arith) c.fill.ensures put c.in_ok-resize.ensures.items)
