-- The chunk is where halving ends.
use Rattle.std.proofs.Common.{ℕ, List, subst}
use Rattle.chunk_layout.specs.Defaults.{IsHalvedDown}
use Rattle.chunk_layout.proofs.DefaultLemmas.{down_small, down_fits, fits_chunk}
use Rattle.chunk_layout.proofs.defaults.default_layout.Goals as goal

pub returns-clause-small : goal.returns-clause-small
returns-clause-small c =
    let P = λ (start : List ℕ). IsHalvedDown c.args.size start c.halved_down.result in
    down_small c.args.size c.args.shape.now c.halved_down.result c.requires (subst P c.first_chunk.ensures c.halved_down.ensures)

pub returns-clause-fits : goal.returns-clause-fits
returns-clause-fits c =
    let P = λ (start : List ℕ). IsHalvedDown c.args.size start c.halved_down.result in
    down_fits c.args.size c.args.shape.now c.halved_down.result c.requires (subst P c.first_chunk.ensures c.halved_down.ensures)

pub returns-clause-chunk : goal.returns-clause-chunk
returns-clause-chunk c = λ some.
    let P = λ (start : List ℕ). IsHalvedDown c.args.size start c.halved_down.result in
    fits_chunk c.args.size c.args.shape.now c.halved_down.result c.requires (down_fits c.args.size c.args.shape.now c.halved_down.result c.requires (subst P c.first_chunk.ensures c.halved_down.ensures)) some
