use Rattle.object_acts.proofs.OfArrays.SlabLemmas.{encoded_by_extents}
use Rattle.object_acts.proofs.arrays.reads.cells_reply.Goals as goal

pub cells-requires-clause-encoded : goal.cells-requires-clause-encoded
cells-requires-clause-encoded c =
    rw (c.in_ok-kind.ensures, c.elem.ensures) (encoded_by_extents _ _ _ _ _ c.requires.slab c.requires.inside c.extents.ensures.divided c.in_ok-bytes.ensures.encoded)
