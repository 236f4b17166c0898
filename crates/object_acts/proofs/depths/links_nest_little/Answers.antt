use Rattle.object_acts.proofs.OfDepths.Depths.{link_deep, links_deep}
use Rattle.object_acts.proofs.depths.links_nest_little.Goals as goal

pub returns : goal.returns
returns c = record { one = link_deep; list = links_deep }
