use Rattle.std.proofs.Common.{◌≤◌, ◌+◌, ◌∷◌, drop, map, ap, sym, subst, ◌∙◌, arith}
use Rattle.std.proofs.lemmas.List.{drop_more}
use Rattle.std.specs.FinMap.{len, len-empty}
use Rattle.containers.specs.TextMaps.Keyed.{text_order}
use Rattle.hdf_values.specs.declared.attributes.Attribute.{Attribute}
use Rattle.serde_json.specs.View.{view}
use Rattle.attributes.proofs.MapLemmas.{each_of_none}
use Rattle.attributes.specs.AttributeMaps.{AttributeMap}
use Rattle.documents.specs.Parts.AttributeLists.{HasManyCells, HaveFewCells, OneHasManyCells, attribute_step, most_cells, room}
use Rattle.documents.specs.Parts.Items.{each_item}
use Rattle.documents.proofs.OfParts.CellLemmas.{handed_on, one_of}
use Rattle.documents.proofs.parts.attribute_lists.listed.Goals as goal

pub loop-index-init : goal.loop-index-init
loop-index-init c = record {
  listed = ap (λ m. each_item (attribute_step c.args.path.now) m 0 (map view c.args.items.now)) c.new-attributes.ensures;
  few = subst (λ (m : AttributeMap). HaveFewCells m) (sym c.new-attributes.ensures) (each_of_none (λ name a. room a.shape ≤ most_cells));
  many = omega (arith, ap len c.new-attributes.ensures, len-empty text_order Attribute);
}

pub returns-in_err-put_item-clause-exact : goal.returns-in_err-put_item-clause-exact
returns-in_err-put_item-clause-exact c =
    let path = c.args.path.now in
    let items = c.args.items.now in
    let i = c.loop-index.index in
    let item = c.index-items-index.result in
    let rest = drop (i + 1) items in
    let here = drop_more items i item c.loop-index-test.true ∙ ap (λ x. x ∷ rest) (sym c.index-items-index.is) in
    handed_on (HasManyCells (view item)) (OneHasManyCells (map view items)) c.from_residual.result c.in_err-put_item.field-0.0
    (attribute_step path i c.loop-index.attributes (view item)) (λ (m : AttributeMap). each_item (attribute_step path) m (i + 1) (map view rest)) _
    c.from_residual.ensures.1 (one_of view i items item rest here) c.in_err-put_item.ensures.exact
    (ap (λ ds. each_item (attribute_step path) c.loop-index.attributes i (map view ds)) (sym here) ∙ c.loop-index.invariant.listed)
