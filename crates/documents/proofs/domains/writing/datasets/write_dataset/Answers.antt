use Rattle.std.proofs.Common.{codes, ap, subst, ◌∙◌}
use Rattle.serde_json.specs.View.{view}
use Rattle.serde_json.specs.Written.{has_float}
use Rattle.hdf_types.specs.Printed.{type_tree}
use Rattle.hdf_types.specs.Views.{elem}
use Rattle.shapes.specs.Printed.{shape_tree}
use Rattle.shapes.specs.declared.printing.Form.TheVariants.{Document}
use Rattle.object_acts.specs.Arrays.Creation.{creation_tree}
use Rattle.object_acts.proofs.OfExact.Floats.{creation_exact, shape_exact, type_exact}
use Rattle.documents.specs.Domains.Entries.{cells_tree}
use Rattle.documents.specs.Domains.Writing.{PrintsMember}
use Rattle.documents.proofs.OfDomains.WritingLemmas.{dataset_read, five_written}
use Rattle.documents.proofs.domains.writing.datasets.write_dataset.Goals as goal

pub write_member-requires-2 : goal.write_member-requires-2
write_member-requires-2 c = ap has_float c.in_ok-properties.ensures ∙ creation_exact c.args.array.now.grid

pub write_member-requires-3 : goal.write_member-requires-3
write_member-requires-3 c = ap has_float c.in_ok-shape.ensures.tree ∙ shape_exact c.shape.result.now Document

pub write_member-requires-4 : goal.write_member-requires-4
write_member-requires-4 c = ap has_float c.in_ok-kind.ensures.tree ∙ type_exact (elem c.elem.result.now)

pub returns : goal.returns
returns c =
    let grid = c.args.array.now.grid in
    let w₁ = c.write_member.new.writer in
    let w₂ = c.write_member-2.new.writer in
    let w₃ = c.write_member-3.new.writer in
    let w₄ = c.write_member-4.new.writer in
    let attributes = c.in_ok-write_member.ensures in
    let creation = subst (λ d. PrintsMember (codes "creationProperties") d w₁ w₂) c.in_ok-properties.ensures c.in_ok-write_member-2.ensures in
    let shape = subst (λ d. PrintsMember (codes "shape") d w₂ w₃) (c.in_ok-shape.ensures.tree ∙ ap (λ s. shape_tree s Document) c.shape.ensures) c.in_ok-write_member-3.ensures in
    let type = subst (λ d. PrintsMember (codes "type") d w₃ w₄) (c.in_ok-kind.ensures.tree ∙ ap type_tree c.elem.ensures) c.in_ok-write_member-4.ensures in
    let value = c.in_ok-write_cells.ensures in
    five_written c.end_object.result (codes "attributes") (codes "creationProperties") (codes "shape") (codes "type") (codes "value")
    (view c.args.attributes.now) (creation_tree grid) (shape_tree grid.shape Document) (type_tree grid.kind) (cells_tree grid)
    c.args.writer.now c.begin_object.new.self w₁ w₂ w₃ w₄ c.write_cells.new.writer c.end_object.new.self
    c.in_ok-begin_object.ensures.ok c.begin_object.ensures.room.0 attributes creation shape type value c.end_object.ensures
    (dataset_read (view c.args.attributes.now) (creation_tree grid) (shape_tree grid.shape Document) (type_tree grid.kind) (cells_tree grid) attributes.exact creation.exact shape.exact type.exact value.exact)
