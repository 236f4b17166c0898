-- The tree that spells a shape.
use Rattle.std.specs.Prelude.{ℕ, zero, suc, List, map, codes}
use Rattle.serde_json.specs.Data.{Data, number, unsigned, string, array, object, no_members, member}
use Rattle.serde_json.specs.View.{items_of}
use Rattle.shapes.specs.declared.Shape.{Shape}
use Rattle.shapes.specs.declared.Shape.TheVariants.{Null, Scalar, Simple}
use Rattle.shapes.specs.declared.printing.Form.{Form}
use Rattle.shapes.specs.declared.printing.Form.TheVariants.{Rest, Document}

-- a limit; the document has a word for none
abbrev pub limit_tree : Form → ℕ → Data
limit_tree Rest n = number (unsigned n)
limit_tree Document zero = string (codes "H5S_UNLIMITED")
limit_tree Document (suc n) = number (unsigned (suc n))

abbrev pub numbers_tree : Form → List ℕ → Data
numbers_tree form ns = array (items_of (map (limit_tree form) ns))

abbrev pub shape_tree : Shape → Form → Data
shape_tree Null form = object (member (codes "class") (string (codes "H5S_NULL")) no_members)
shape_tree Scalar form = object (member (codes "class") (string (codes "H5S_SCALAR")) no_members)
shape_tree (Simple dims maxdims) form =
    object (member (codes "class") (string (codes "H5S_SIMPLE")) (member (codes "dims") (numbers_tree Rest dims) (member (codes "maxdims") (numbers_tree form maxdims) no_members)))
