use Rattle.request_bodies.proofs.LinkLemmas.{titled}
use Rattle.request_bodies.proofs.links.title_of.Goals as goal

pub returns-then-good_title-clause-exact : goal.returns-then-good_title-clause-exact
returns-then-good_title-clause-exact c = titled c.args.text.now c.in_ok-title.title c.in_ok-title.ensures.exact (c.good_title.ensures.0 c.if-good_title.true)
