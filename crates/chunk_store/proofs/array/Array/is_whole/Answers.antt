use Rattle.hdf_types.specs.Views.{elem as kind_of}
use Rattle.chunk_store.proofs.PartLemmas.{grid_whole, same_indexes}
use Rattle.chunk_store.proofs.array.Array.is_whole.Goals as goal

pub returns-clause-grid : goal.returns-clause-grid
returns-clause-grid c =
    let a = c.self.inside in
    grid_whole (kind_of a.elem) a.shape a.given a.frame a.chunks c.self.invariant.0 c.args.self.now c.self.view_is

pub returns-clause-indexes : goal.returns-clause-indexes
returns-clause-indexes c =
    let a = c.self.inside in
    same_indexes (kind_of a.elem) a.shape a.given a.frame a.chunks c.self.invariant.0 c.args.self.now c.self.view_is
