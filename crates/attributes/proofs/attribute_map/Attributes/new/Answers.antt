use Rattle.std.proofs.Common.{sym, subst}
use Rattle.attributes.specs.AttributeMaps.{AreAttributes}
use Rattle.attributes.proofs.AttributeLemmas.{none_whole}
use Rattle.attributes.proofs.attribute_map.Attributes.new.Goals as goal

pub invariant_of-result : goal.invariant_of-result
invariant_of-result c = subst AreAttributes (sym c.new.ensures) none_whole
