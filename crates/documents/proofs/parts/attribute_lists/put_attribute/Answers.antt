use Rattle.std.proofs.Common.{◌+◌, ◌≤◌, sym, subst, arith}
use Rattle.std.specs.FinMap.{len}
use Rattle.object_ids.proofs.PutLemmas.{insert_most}
use Rattle.attributes.proofs.MapLemmas.{each_inserted}
use Rattle.attributes.specs.AttributeMaps.{AttributeMap}
use Rattle.documents.specs.Parts.AttributeLists.{HaveFewCells, most_cells, room}
use Rattle.documents.proofs.parts.attribute_lists.put_attribute.Goals as goal

pub returns-in-Ok-clause-few : goal.returns-in-Ok-clause-few
returns-in-Ok-clause-few c =
    subst (λ (m : AttributeMap). HaveFewCells m) (sym c.in-Ok.ensures.ok)
    (each_inserted (λ name a. room a.shape ≤ most_cells) c.args.attributes.now c.in_ok-name.name c.in_ok-attribute.attribute c.in_ok-attribute.ensures.few c.requires.few)

pub returns-in-Ok-clause-many : goal.returns-in-Ok-clause-many
returns-in-Ok-clause-many c =
    let old = c.args.attributes.now in
    subst (λ (m : AttributeMap). len m ≤ len old + 1) (sym c.in-Ok.ensures.ok) (insert_most (len old + 1) old c.in_ok-name.name c.in_ok-attribute.attribute (omega arith))
