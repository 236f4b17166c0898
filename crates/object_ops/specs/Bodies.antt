-- The trees that bodies of answers are seen as.
use Rattle.std.specs.Prelude.{codes}
use Rattle.serde_json.specs.Data.{Data}
use Rattle.serde_json.specs.View.{view}
use Rattle.hdf_types.specs.Types.{IsSoundType}
use Rattle.hdf_types.specs.Views.{elem}
use Rattle.shapes.specs.RowMajor.{cell_count}
use Rattle.hdf_values.specs.Nested.{AreEncoded, nested_decoded}
use Rattle.hdf_values.specs.Printed.{keyed}
use Rattle.object_ops.specs.declared.body.Cells.{Cells}
use Rattle.object_ops.specs.declared.body.Form.{Form}
use Rattle.object_ops.specs.declared.body.Form.TheVariants as form

-- the elements at the key `value`
abbrev pub cells_tree : Cells → Data
cells_tree c = keyed (codes "value") (nested_decoded (elem c.kind) c.extents c.bytes.items)

-- the bytes are those of as many elements as the extents have cells
pub record IsCells (c : Cells) : Type 0 where
  pub sound : IsSoundType (elem c.kind)
  pub encoded : AreEncoded (elem c.kind) (cell_count c.extents) c.bytes.items

abbrev pub form_tree : Form → Data
form_tree (form.Tree tree) = view tree
form_tree (form.Cells cells) = cells_tree cells

abbrev pub IsForm : Form → Type 0
IsForm (form.Tree tree) = Unit {0}
IsForm (form.Cells cells) = IsCells cells
