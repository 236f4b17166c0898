use Rattle.std.proofs.Common.{◌≡◌, ◌-◌, true, false, length, sym, ◌∙◌, arith}
use Rattle.chunk_store.proofs.ChunkRowLemmas.{left_below_read}
use Rattle.chunk_store.proofs.rows.left_in_shape.Goals as goal

pub returns : goal.returns
returns c =
    let some : length c.args.at.now ≡ 0 → ⊥ = λ e. let both : true ≡ false = sym (c.is_empty.ensures.1 e) ∙ c.if-is_empty.false in cc in
    left_below_read c.args.at.now c.args.dims.now (c.len-last.result - 1) c.get-2.result c.get.result (omega (arith, c.len-last.ensures.count)) c.requires.inside c.get-2.ensures c.get.ensures
