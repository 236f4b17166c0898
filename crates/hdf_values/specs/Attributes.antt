-- Attributes: a type, a shape and the bytes of a value, as one tree spells them.
use Rattle.std.specs.Prelude.{ℕ, ◌*◌, ◌≤◌, Bool, true, false, List, [], Option, Some, None, Result, Ok, Err, nat_le, if◌then◌else◌, codes}
use Rattle.serde_json.specs.Data.{Data, object, no_members, member}
use Rattle.serde_json.specs.Find.{get}
use Rattle.json_trees.specs.Faults.{◌>>=◌}
use Rattle.hdf_types.specs.declared.faults.Cause.TheVariants.{NotAType}
use Rattle.hdf_types.specs.declared.faults.TypeFault.{TypeFault}
use Rattle.hdf_types.specs.declared.faults.TypeFault.TheVariants as types
use Rattle.hdf_types.specs.declared.faults.TypeFault.TheVariants.{Refused}
use Rattle.hdf_types.specs.Elems.{Elem}
use Rattle.hdf_types.specs.Views.{elem, elem_type}
use Rattle.hdf_types.specs.Faults.{Fault}
use Rattle.hdf_types.specs.Reading.{size_of, type_of}
use Rattle.hdf_types.specs.Types.{IsType, IsSoundType}
use Rattle.shapes.specs.declared.Shape.{Shape}
use Rattle.shapes.specs.declared.printing.Form.{Form}
use Rattle.shapes.specs.Printed.{shape_tree}
use Rattle.hdf_types.specs.Printed.{type_tree}
use Rattle.shapes.specs.declared.ShapeFault.{ShapeFault}
use Rattle.shapes.specs.Shapes.{IsShape, IsSound, shape_of, count_of}
use Rattle.hdf_values.specs.declared.faults.ValueFault.{ValueFault}
use Rattle.hdf_values.specs.declared.faults.ValueFault.TheVariants as values
use Rattle.hdf_values.specs.declared.faults.ValueFault.TheVariants.{NotOfType}
use Rattle.hdf_values.specs.declared.attributes.Attribute.{Attribute}
use Rattle.hdf_values.specs.declared.attributes.AttributeFault.{AttributeFault}
use Rattle.hdf_values.specs.declared.attributes.AttributeFault.TheVariants.{NoMemory, BadType, BadShape, TooLarge, BadValue}
use Rattle.hdf_values.specs.Nested.{AreEncoded}
use Rattle.hdf_values.specs.Shaped.{IsValue, value_from, value_tree}

-- the most bytes of an attribute's value
abbrev pub most_bytes : ℕ
most_bytes = 65536

-- ---- which trees spell an attribute

-- the tree that stands at a key is a type, or a value: without a tree there is none
abbrev pub IsTypeAt : Option Data → Elem → Type 0
IsTypeAt None e = ⊥
IsTypeAt (Some d) e = IsType d e

abbrev pub IsValueAt : Elem → Shape → Option Data → List ℕ → Type 0
IsValueAt e s None bs = ⊥
IsValueAt e s (Some d) bs = IsValue e s d bs

-- what an attribute is, with its type as plain data
pub record Content : Type 0 where
  pub kind : Elem
  pub shape : Shape
  pub bytes : List ℕ

abbrev pub content : Attribute → Content
content a = record { kind = elem a.elem; shape = a.shape; bytes = a.bytes }

-- the same, as what holds it
abbrev pub attribute : Content → Attribute
attribute c = record { elem = elem_type c.kind; shape = c.shape; bytes = c.bytes }

-- the tree spells this attribute
pub record IsAttribute (d : Data) (c : Content) : Type 0 where
  pub typed : IsTypeAt (get (codes "type") d) c.kind
  pub shaped : IsShape (get (codes "shape") d) None c.shape
  pub small : count_of c.shape * size_of c.kind ≤ most_bytes
  pub valued : IsValueAt c.kind c.shape (get (codes "value") d) c.bytes

-- an attribute that some tree can spell
pub record IsSoundAttribute (c : Content) : Type 0 where
  pub kind : IsSoundType c.kind
  pub shape : IsSound c.shape
  pub small : count_of c.shape * size_of c.kind ≤ most_bytes
  pub encoded : AreEncoded c.kind (count_of c.shape) c.bytes

-- ---- the tree of an attribute

-- its shape and its type, and its value where it is asked for
abbrev pub content_tree : Content → Form → Bool → Data
content_tree c form true =
    object (member (codes "shape") (shape_tree c.shape form) (member (codes "type") (type_tree c.kind)
    (member (codes "value") (value_tree c.kind c.shape c.bytes) no_members)))
content_tree c form false =
    object (member (codes "shape") (shape_tree c.shape form) (member (codes "type") (type_tree c.kind) no_members))

-- ---- the tests in order: the first that fails decides

-- the fault of a type, a shape or a value as an attribute's

abbrev pub type_fault : TypeFault → AttributeFault
type_fault types.NoMemory = NoMemory
type_fault f = BadType f

abbrev pub value_fault : ValueFault → AttributeFault
value_fault values.NoMemory = NoMemory
value_fault f = BadValue f

abbrev pub type_or : Result Elem Fault → Result Elem AttributeFault
type_or (Ok e) = Ok e
type_or (Err f) = Err (BadType (Refused f.path f.cause))

abbrev pub typed_at : Option Data → Result Elem AttributeFault
typed_at None = Err (BadType (Refused [] NotAType))
typed_at (Some d) = type_or (type_of d)

abbrev pub shape_or : Result Shape ShapeFault → Result Shape AttributeFault
shape_or (Ok s) = Ok s
shape_or (Err f) = Err (BadShape f)

abbrev pub value_or : Result (List ℕ) ValueFault → Result (List ℕ) AttributeFault
value_or (Ok bs) = Ok bs
value_or (Err f) = Err (BadValue f)

abbrev pub valued_at : Elem → Shape → Option Data → Result (List ℕ) ValueFault
valued_at e s None = Err (NotOfType 0)
valued_at e s (Some d) = value_from e s d

abbrev pub sized_at : Elem → Shape → Result (List ℕ) AttributeFault → Result (List ℕ) AttributeFault
sized_at e s value = if nat_le (count_of s * size_of e) most_bytes then value else Err TooLarge

-- the attribute that a tree spells, or its first fault
unfoldable pub attribute_of : Data → Result Content AttributeFault
attribute_of d =
    typed_at (get (codes "type") d) >>= λ e.
    shape_or (shape_of (get (codes "shape") d) None) >>= λ s.
    sized_at e s (value_or (valued_at e s (get (codes "value") d))) >>= λ bs.
    Ok (record { kind = e; shape = s; bytes = bs })
