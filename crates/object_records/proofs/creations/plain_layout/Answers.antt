use Rattle.std.proofs.Common.{ℕ, sym, subst}
use Rattle.hdf_types.specs.Reading.{size_of}
use Rattle.hdf_types.specs.Views.{elem}
use Rattle.shapes.specs.Shapes.{dims_of}
use Rattle.chunk_layout.specs.Defaults.{IsDefault}
use Rattle.chunk_layout.specs.DefaultChunks.Halving.{default_chunk}
use Rattle.chunk_layout.proofs.DefaultChunks.HalvingLemmas.{default_is}
use Rattle.object_records.proofs.creations.plain_layout.Goals as goal

pub returns-clause-chunk : goal.returns-clause-chunk
returns-clause-chunk c =
    let size = size_of (elem c.args.elem.now) in
    let dims = dims_of c.args.shape.now in
    c.default_layout.ensures.only (default_chunk size dims) (subst (λ (n : ℕ). IsDefault n dims (default_chunk size dims)) (sym c.size.ensures) (default_is size dims))
