use Rattle.request_bodies.proofs.MakeLemmas.{answered}
use Rattle.request_bodies.proofs.properties.layout_of.Goals as goal

pub returns-clause-exact : goal.returns-clause-exact
returns-clause-exact c = answered c.args.size _ _ _ c.in_ok-read_layout.ensures.first
