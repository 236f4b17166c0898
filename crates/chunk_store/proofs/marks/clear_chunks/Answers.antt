use Rattle.std.proofs.Common.{◌∙◌}
use Rattle.chunk_store.proofs.ChangeLemmas.{cleaned_all}
use Rattle.chunk_store.proofs.marks.clear_chunks.Goals as goal

pub returns-else-changes : goal.returns-else-changes
returns-else-changes c = λ i.
    c.clear_listed.ensures i ∙ cleaned_all c.args.shape.now c.args.frame.now c.args.chunks.now c.args.changes.now c.if-changes.false c.requires.listed i
