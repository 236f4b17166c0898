use Rattle.std.proofs.Common.{true, false, cond, rules, ◌∙◌}
use Rattle.chunk_store.specs.Buffers.{has_cell}
use Rattle.chunk_store.specs.Cells.{find_in}
use Rattle.chunk_store.proofs.MarkLemmas.{retained, dirty_cleared}
use Rattle.chunk_store.proofs.marks.clear_all.Goals as goal

pub returns : goal.returns
returns c = λ q.
    let chunk = c.args.layout.now.chunk in
    let s = c.args.shape.now in
    retained _ (λ k v. cond v.dirty (has_cell chunk s k) true) (λ k v. record { bytes = v.bytes; dirty = false }) _ (λ k v b w f' t. search rules) c.args.chunks.now.entries c.retain.new.self.entries c.retain.ensures.was_ordered c.retain.ensures.filtered q
    ∙ dirty_cleared chunk s q (find_in c.args.chunks.now q)
