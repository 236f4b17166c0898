use Rattle.std.proofs.Common.{subst, sym}
use Rattle.documents.specs.Parts.TitleMaps.{AreTargets}
use Rattle.documents.proofs.OfParts.TargetLemmas.{no_targets}
use Rattle.documents.proofs.parts.title_maps.Targets.new.Goals as goal

pub invariant_of-result : goal.invariant_of-result
invariant_of-result c = subst AreTargets (sym c.new.ensures) no_targets
