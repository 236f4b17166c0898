use Rattle.std.proofs.Common.{◌≡◌, ◌-◌, true, false, length, sym, ◌∙◌, arith}
use Rattle.chunk_store.proofs.ChunkRowLemmas.{left_in_read}
use Rattle.chunk_store.proofs.rows.left_in_chunk.Goals as goal

pub returns : goal.returns
returns c =
    let some : length c.args.at.now ≡ 0 → ⊥ = λ e. let both : true ≡ false = sym (c.is_empty.ensures.1 e) ∙ c.if-is_empty.false in cc in
    left_in_read c.args.at.now c.args.chunk.now (c.len-last.result - 1) c.get.result c.get-n.result (omega (arith, c.len-last.ensures.count)) c.requires.rank c.get.ensures c.get-n.ensures
