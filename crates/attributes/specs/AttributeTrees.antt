-- The tree of an attribute with its name, and the trees of many.
--     attribute_tree name c form with_value      the tree of one, with its value where it is asked for
--     attributes_list m form with_value      the trees of all, in byte order of their names
use Rattle.std.specs.Prelude.{ℕ, Bool, List, map, codes}
use Rattle.std.specs.FinMap.{FinMap, entries}
use Rattle.serde_json.specs.Data.{Data, null, boolean, number, string, array, object, member}
use Rattle.serde_json.specs.View.{items_of}
use Rattle.shapes.specs.declared.printing.Form.{Form}
use Rattle.containers.specs.TextMaps.Keyed.{text_order}
use Rattle.hdf_values.specs.Attributes.{Content, content, content_tree}
use Rattle.hdf_values.specs.declared.attributes.Attribute.{Attribute}

-- an object with a name in front of its members
abbrev pub with_name : List ℕ → Data → Data
with_name name null = null
with_name name (boolean b) = boolean b
with_name name (number n) = number n
with_name name (string s) = string s
with_name name (array ds) = array ds
with_name name (object ms) = object (member (codes "name") (string name) ms)

-- its name, its shape and its type, and its value where it is asked for
abbrev pub attribute_tree : List ℕ → Content → Form → Bool → Data
attribute_tree name c form with_value = with_name name (content_tree c form with_value)

-- the tree of a name and the attribute at it
abbrev pub entry_tree : Form → Bool → List ℕ × Attribute → Data
entry_tree form with_value e = attribute_tree e.0 (content e.1) form with_value

abbrev pub attributes_list : FinMap text_order Attribute → Form → Bool → Data
attributes_list m form with_value = array (items_of (map (entry_tree form with_value) (entries m)))
