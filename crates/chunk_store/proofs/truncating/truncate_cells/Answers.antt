use Rattle.std.proofs.Common.{◌+◌, ◌-◌, refl, ◌∙◌, arith}
use Rattle.chunk_store.proofs.ChunkRowLemmas.{truncated_row}
use Rattle.chunk_store.proofs.truncating.truncate_cells.Goals as goal

pub loop-done-preserved : goal.loop-done-preserved
loop-done-preserved c =
    let r = c.row_from-row.result in
    record {
      few = omega (arith, c.row_from-row.ensures.room, c.cell_number-many.ensures);
      partly = truncated_row c.args.frame.now c.args.new.now c.args.index.now c.args.bytes.now c.loop-done.bytes c.fill_blanks.new.bytes c.loop-done.done (c.loop-done.done + r.inside) (r.len - r.inside) r c.row_from-row.ensures refl refl c.loop-done.invariant.partly (c.fill_blanks.ensures.len ∙ c.loop-done.invariant.partly.full) c.fill_blanks.ensures.here c.fill_blanks.ensures.others;
    }
