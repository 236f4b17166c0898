-- Values of a type and a shape: null where there is no cell, one element where there is no axis, lists nested by the dims where there are axes.
use Rattle.std.specs.Prelude.{◌≡◌, ℕ, List, [], Result, Ok, Err}
use Rattle.serde_json.specs.Data.{Data, null, boolean, number, string, array, object}
use Rattle.hdf_types.specs.Elems.{Elem}
use Rattle.shapes.specs.declared.Shape.{Shape}
use Rattle.shapes.specs.declared.Shape.TheVariants.{Null, Scalar, Simple}
use Rattle.hdf_values.specs.declared.faults.ValueFault.{ValueFault}
use Rattle.hdf_values.specs.declared.faults.ValueFault.TheVariants.{NotOfType}
use Rattle.hdf_values.specs.Elements.{Fits, bytes_of, normal, decoded, encoded}
use Rattle.hdf_values.specs.Nested.{FitsNested, nested_bytes, nested_normal, nested_decoded, nested_from, placed}

-- the tree is a value of the type and the shape, and these are its bytes
abbrev pub IsValue : Elem → Shape → Data → List ℕ → Type 0
IsValue e Null d bs = (d ≡ null) × (bs ≡ [])
IsValue e Scalar d bs = Fits e d × (bs ≡ bytes_of e d)
IsValue e (Simple dims limits) d bs = FitsNested e dims d × (bs ≡ nested_bytes e dims d)

-- the tree that bytes stand for
abbrev pub value_tree : Elem → Shape → List ℕ → Data
value_tree e Null bs = null
value_tree e Scalar bs = decoded e bs
value_tree e (Simple dims limits) bs = nested_decoded e dims bs

-- a value without the filling of its texts
abbrev pub value_normal : Elem → Shape → Data → Data
value_normal e Null d = null
value_normal e Scalar d = normal e d
value_normal e (Simple dims limits) d = nested_normal e dims d

-- ---- the tests: the first that fails decides

-- the bytes of null, which are none
abbrev pub null_from : Data → Result (List ℕ) ValueFault
null_from null = Ok []
null_from (boolean b) = Err (NotOfType 0)
null_from (number n) = Err (NotOfType 0)
null_from (string s) = Err (NotOfType 0)
null_from (array ds) = Err (NotOfType 0)
null_from (object ms) = Err (NotOfType 0)

-- the bytes of a tree, or its first fault, where its texts are UTF-8
abbrev pub value_from : Elem → Shape → Data → Result (List ℕ) ValueFault
value_from e Null d = null_from d
value_from e Scalar d = placed 0 (encoded e d)
value_from e (Simple dims limits) d = nested_from e dims 0 d
