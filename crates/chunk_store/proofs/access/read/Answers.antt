use Rattle.chunk_store.proofs.AccessLemmas.{points_picked}
use Rattle.chunk_store.proofs.access.read.Goals as goal

pub read_points-requires-clause-ranks : goal.read_points-requires-clause-ranks
read_points-requires-clause-ranks c = points_picked c.args.picks.now c.in-Points.points c.args.shape.now _ c.in-Points.is c.requires.picks c.requires.rank
