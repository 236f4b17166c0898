use Rattle.request_bodies.proofs.BodyLemmas.{tree_gives}
use Rattle.request_bodies.proofs.bodies.parsed.Goals as goal

pub returns : goal.returns
returns c = tree_gives c.args.bytes.now c.from_slice.result c.map_err.result c.from_slice.ensures.ok c.from_slice.ensures.err c.map_err.ensures.cases
