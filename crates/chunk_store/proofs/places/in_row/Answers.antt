use Rattle.std.proofs.Common.{◌≡◌, ◌-◌, true, false, length, sym, ◌∙◌, arith}
use Rattle.chunk_store.proofs.RowLemmas.{row_read}
use Rattle.chunk_store.proofs.places.in_row.Goals as goal

pub returns : goal.returns
returns c =
    let some : length c.args.at.now ≡ 0 → ⊥ = λ e. let both : true ≡ false = sym (c.is_empty.ensures.1 e) ∙ c.if-is_empty.false in cc in
    c.min.ensures
    ∙ row_read c.args.at.now c.args.dims.now c.args.chunk.now (c.len-last.result - 1) c.get-x.result c.get.result c.get-n.result c.requires.inside c.requires.rank (omega (arith, c.len-last.ensures.count))
    c.get-x.ensures c.get.ensures c.get-n.ensures
