use Rattle.std.proofs.Common.{◌≡◌, true, false, length, cond, sym, ap, ◌∙◌, arith}
use Rattle.std.proofs.lemmas.List.{with_items_is}
use Rattle.hdf_values.specs.Nested.{piece_at}
use Rattle.chunk_layout.specs.Grids.{LiesInGrid}
use Rattle.chunk_store.proofs.TruncationLemmas.{none_inside}
use Rattle.chunk_store.proofs.truncating.truncate_bytes.Goals as goal

pub returns-else-is_in_grid-clause-cells : goal.returns-else-is_in_grid-clause-cells
returns-else-is_in_grid-clause-cells c = λ k low.
    let f = c.args.frame.now in
    let out : LiesInGrid c.args.index.now c.args.frame.now.layout.chunk c.args.new.now → ⊥ = λ on. let both : true ≡ false = sym (c.is_in_grid.ensures.1 on) ∙ c.if-is_in_grid.false in cc in
    let off = none_inside c.args.new.now f.layout.chunk c.args.index.now k c.requires.frame.chunk.dims c.requires.ranks c.requires.index.rank out low in
    let size : length c.fill_blanks.new.bytes ≡ c.args.bytes.now.len = omega (arith, c.fill_blanks.ensures.len, ap length c.as_mut_slice-else-is_in_grid.ensures.value, c.args.bytes.now.ok.0) in
    ap (piece_at f.size k) (with_items_is c.args.bytes.now c.fill_blanks.new.bytes size)
    ∙ ap (λ n. piece_at f.size n c.fill_blanks.new.bytes) (omega arith)
    ∙ c.fill_blanks.ensures.here k (omega (arith, low, c.cell_number.ensures))
    ∙ sym (ap (λ b. cond b (piece_at f.size k c.args.bytes.now.items) f.blank.items) off)
