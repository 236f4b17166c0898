use Rattle.std.proofs.Common.{subst, sym, ◌∙◌}
use Rattle.groups_links.specs.GroupLinks.{AreLinks}
use Rattle.groups_links.proofs.GroupLemmas.{remove_links, remove_none}
use Rattle.groups_links.proofs.group.Links.remove.Goals as goal

pub invariant_of-self : goal.invariant_of-self
invariant_of-self c = subst AreLinks (sym c.remove.ensures.rest) (remove_links _ _ c.self.invariant)

pub invariant_of-self-2 : goal.invariant_of-self-2
invariant_of-self-2 c = subst AreLinks (sym c.remove.ensures.rest) (remove_links _ _ c.self.invariant)

pub returns-in_default-clause-err : goal.returns-in_default-clause-err
returns-in_default-clause-err c = c.remove.ensures.rest ∙ remove_none c.self.inside.by_title c.text.result.now (sym c.in_default.ensures.value) ∙ c.self.view_is
