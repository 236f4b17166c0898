-- The bytes of some text are UTF-8 without what fills up.
use Rattle.std.proofs.Common.{◌≡◌, IsUtf8, take, sym, ap, ◌∙◌, subst}
use Rattle.hdf_values.specs.Texts.{without_end, fill as fill_of}
use Rattle.hdf_values.proofs.TextLemmas.{encoded_told}
use Rattle.hdf_values.proofs.printing.elements.write_text.Goals as goal

pub unreachable-requires : goal.unreachable-requires
unreachable-requires c =
    let bytes = c.args.bytes.now in
    let kept : take c.kept_len.result bytes ≡ without_end (fill_of c.args.kind.now.pad) bytes = c.kept_len.ensures.front ∙ ap (λ f. without_end f bytes) c.fill.ensures in
    c.in-Err.ensures.cases.0 (subst IsUtf8 (sym kept) (encoded_told c.args.kind.now bytes c.requires).utf8)
