use Rattle.std.proofs.Common.{◌≤◌, sym, subst}
use Rattle.attributes.proofs.MapLemmas.{each_of_none}
use Rattle.attributes.specs.AttributeMaps.{AttributeMap}
use Rattle.documents.specs.Parts.AttributeLists.{HaveFewCells, most_cells, room}
use Rattle.documents.proofs.parts.attribute_lists.read_attributes.Goals as goal

pub returns-in_default-clause-few : goal.returns-in_default-clause-few
returns-in_default-clause-few c = subst (λ (m : AttributeMap). HaveFewCells m) (sym c.new.ensures) (each_of_none (λ name a. room a.shape ≤ most_cells))
