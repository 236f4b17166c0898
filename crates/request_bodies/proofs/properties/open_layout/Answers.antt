use Rattle.shapes.specs.Shapes.{dims_of}
use Rattle.chunk_layout.specs.DefaultChunks.Halving.{default_chunk}
use Rattle.chunk_layout.proofs.DefaultChunks.HalvingLemmas.{default_is}
use Rattle.request_bodies.proofs.properties.open_layout.Goals as goal

pub returns-clause-chunk : goal.returns-clause-chunk
returns-clause-chunk c =
    let dims = dims_of c.args.shape.now in
    c.default_layout.ensures.only (default_chunk c.args.size dims) (default_is c.args.size dims)
