use Rattle.object_acts.proofs.OfExact.Floats.{link_exact, links_exact}
use Rattle.object_acts.proofs.exact.links_are_exact.Goals as goal

pub returns : goal.returns
returns c = record { one = link_exact; list = links_exact }
