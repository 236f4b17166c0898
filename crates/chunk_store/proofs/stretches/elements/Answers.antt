use Rattle.std.proofs.Common.{◌+◌, arith}
use Rattle.std.proofs.lemmas.Nat.{mul-le}
use Rattle.shapes.specs.RowMajor.{cell_count}
use Rattle.chunk_store.proofs.stretches.elements.Goals as goal

pub slice_bounds-result-end : goal.slice_bounds-result-end
slice_bounds-result-end c =
    let t = c.args.stretch.now in
    let room = mul-le (t.offset + t.len) c.args.frame.now.size (cell_count c.args.frame.now.layout.chunk) c.args.frame.now.size c.requires.room (omega arith) in
    omega (arith, room, c.requires.full)
