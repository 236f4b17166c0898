use Rattle.std.proofs.Common.{◌∙◌}
use Rattle.hdf_types.specs.Views.{elem as kind_of}
use Rattle.chunk_store.proofs.PartLemmas.{frame_sound, same_size}
use Rattle.chunk_store.proofs.array.Array.chunk_size.Goals as goal

pub chunk_size-requires : goal.chunk_size-requires
chunk_size-requires c =
    let a = c.self.inside in
    frame_sound (kind_of a.elem) a.shape a.given a.frame a.chunks c.self.invariant.0

pub returns : goal.returns
returns c =
    let a = c.self.inside in
    c.chunk_size.ensures ∙ same_size (kind_of a.elem) a.shape a.given a.frame a.chunks c.self.invariant.0 c.args.self.now c.self.view_is
