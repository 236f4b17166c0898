use Rattle.std.proofs.Common.{subst, sym}
use Rattle.groups_links.specs.GroupLinks.{AreLinks}
use Rattle.groups_links.proofs.GroupLemmas.{no_links}
use Rattle.groups_links.proofs.group.Links.new.Goals as goal

pub invariant_of-result : goal.invariant_of-result
invariant_of-result c = subst AreLinks (sym c.new.ensures) no_links
