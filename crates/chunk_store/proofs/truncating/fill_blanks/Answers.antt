use Rattle.std.proofs.Common.{◌+◌, ◌*◌, ap, ◌∙◌}
use Rattle.hdf_values.specs.Nested.{piece_at}
use Rattle.chunk_store.proofs.TruncationLemmas.{blank_copied}
use Rattle.chunk_store.proofs.truncating.fill_blanks.Goals as goal

pub returns-clause-here : goal.returns-clause-here
returns-clause-here c = λ j low.
    blank_copied c.args.first j c.args.frame.now.size c.args.frame.now.blank.items c.copy_strided.new.out c.requires.frame.blank
    (c.copy_strided.ensures.copied j low ∙ ap (piece_at c.args.frame.now.size (0 + j * 0)) c.as_slice.ensures.value)
