-- Types and shapes within their limits.
use Rattle.std.specs.Prelude.{◌≡◌, ◌≤◌, ℕ, List, length, Some}
use Rattle.std.specs.FinMap.{FinMap, get}
use Rattle.containers.specs.TextMaps.Keyed.{text_order}
use Rattle.hdf_types.specs.Elems.{Elem, depth}
use Rattle.hdf_types.specs.Views.{elem}
use Rattle.hdf_types.specs.declared.TheConstants.{MAX_NESTING}
use Rattle.shapes.specs.declared.Shape.{Shape}
use Rattle.shapes.specs.declared.TheConstants.{MAX_RANK}
use Rattle.shapes.specs.Shapes.{dims_of}
use Rattle.hdf_values.specs.declared.attributes.Attribute.{Attribute}

-- the compounds of a type nest no deeper than they may, and a shape has no more axes than it may
pub record IsShallow (e : Elem) (s : Shape) : Type 0 where
  pub nested : depth e ≤ MAX_NESTING
  pub few_axes : length (dims_of s) ≤ MAX_RANK

-- so are all attributes
abbrev pub AreShallowAttributes : FinMap text_order Attribute → Type 0
AreShallowAttributes m = (name : List ℕ) (a : Attribute) → get m name ≡ Some a → IsShallow (elem a.elem) a.shape
