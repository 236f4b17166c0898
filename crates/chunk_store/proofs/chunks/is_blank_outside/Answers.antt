use Rattle.std.proofs.Common.{◌≡◌, ◌+◌, ◌-◌, true, false, refl, sym, ◌∙◌, arith}
use Rattle.chunk_store.proofs.ChunkRowLemmas.{blank_row, row_blank}
use Rattle.chunk_store.proofs.chunks.is_blank_outside.Goals as goal

pub loop-done-preserved : goal.loop-done-preserved
loop-done-preserved c =
    let r = c.row_from-row.result in
    record {
      few = omega (arith, c.row_from-row.ensures.room, c.cell_number-many.ensures);
      before = blank_row c.args.shape.now c.args.layout.now.chunk c.args.index.now c.args.bytes.now c.args.blank.now c.loop-done.done (c.loop-done.done + r.inside) (r.len - r.inside) r c.requires.chunk.dims c.row_from-row.ensures refl refl (c.are_blanks.ensures.0 c.if-not-are_blanks.false) c.loop-done.invariant.before;
    }

pub returns-then-not-are_blanks : goal.returns-then-not-are_blanks
returns-then-not-are_blanks c =
    let r = c.row_from-row.result in (
      λ said. let both : false ≡ true = said in absurd (cc),
      λ all. sym c.if-not-are_blanks.true ∙ c.are_blanks.ensures.1 (row_blank c.args.shape.now c.args.layout.now.chunk c.args.index.now c.args.bytes.now c.args.blank.now c.loop-done.done (c.loop-done.done + r.inside) (r.len - r.inside) r c.requires.chunk.dims c.row_from-row.ensures refl refl all),
    )
