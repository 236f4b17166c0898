use Rattle.std.proofs.Common.{sym, subst, ◌∙◌}
use Rattle.attributes.specs.AttributeMaps.{AreAttributes}
use Rattle.attributes.proofs.AttributeLemmas.{left_whole}
use Rattle.attributes.proofs.MapLemmas.{remove_same}
use Rattle.attributes.proofs.attribute_map.Attributes.remove.Goals as goal

pub invariant_of-self : goal.invariant_of-self
invariant_of-self c = subst AreAttributes (sym c.remove.ensures.rest) (left_whole c.self.inside.entries _ c.self.invariant)

pub returns-in_default-clause-err : goal.returns-in_default-clause-err
returns-in_default-clause-err c =
    c.remove.ensures.rest ∙ remove_same c.self.inside.entries _ (sym c.remove.ensures.value ∙ c.in_default.is) ∙ c.self.view_is

pub invariant_of-self-2 : goal.invariant_of-self-2
invariant_of-self-2 c = subst AreAttributes (sym c.remove.ensures.rest) (left_whole c.self.inside.entries _ c.self.invariant)
