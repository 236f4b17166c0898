-- The creation properties of a dataset.
use Rattle.std.specs.Prelude.{ℕ, List, Option, Some, None, codes}
use Rattle.serde_json.specs.Data.{Data, Members, object, string, member, no_members}
use Rattle.hdf_types.specs.Elems.{Elem}
use Rattle.hdf_values.specs.Elements.{decoded}
use Rattle.shapes.specs.declared.Shape.{Shape}
use Rattle.shapes.specs.declared.Shape.TheVariants.{Null, Scalar, Simple}
use Rattle.shapes.specs.declared.printing.Form.TheVariants.{Rest}
use Rattle.shapes.specs.Printed.{numbers_tree}
use Rattle.chunk_store.specs.Grids.{Grid}

abbrev pub layout_tree : List ℕ → Data
layout_tree chunk = object (member (codes "class") (string (codes "H5D_CHUNKED")) (member (codes "dims") (numbers_tree Rest chunk) no_members))

-- an array without axes has no chunks
abbrev pub layout_members : Shape → List ℕ → Members
layout_members Null chunk = no_members
layout_members Scalar chunk = no_members
layout_members (Simple dims limits) chunk = member (codes "layout") (layout_tree chunk) no_members

abbrev pub with_fill_members : Data → Members → Members
with_fill_members tree rest = member (codes "fillValue") tree rest

abbrev pub fill_members : Elem → Option (List ℕ) → Members → Members
fill_members e None rest = rest
fill_members e (Some bs) rest = with_fill_members (decoded e bs) rest

-- the fill where one was given, and the layout where there are chunks
abbrev pub creation_tree : Grid → Data
creation_tree g = object (fill_members g.kind g.fill (layout_members g.shape g.chunk))
