-- The refusals of a body, each found by a test of its own.
use Rattle.std.specs.Prelude.{ℕ, ◌*◌, List, [], ◌∷◌, Option, Some, None, Result, Ok, Err, nat_le, if◌then◌else◌, codes}
use Rattle.serde_json.specs.Data.{Data}
use Rattle.serde_json.specs.Find.{get}
use Rattle.object_ids.specs.declared.ids.Kind.{Kind}
use Rattle.object_ids.specs.declared.ids.Kind.TheVariants.{Group, Dataset, Datatype}
use Rattle.hdf_types.specs.Elems.{Elem}
use Rattle.hdf_types.specs.Reading.{size_of}
use Rattle.hdf_types.specs.Views.{elem}
use Rattle.hdf_types.specs.declared.types.ElemType.{ElemType}
use Rattle.hdf_values.specs.Attributes.{most_bytes, valued_at}
use Rattle.hdf_values.specs.declared.faults.ValueFault.{ValueFault}
use Rattle.shapes.specs.declared.Shape.{Shape}
use Rattle.shapes.specs.Shapes.{count_of, shape_of}
use Rattle.object_ops.specs.declared.refusals.Refusal.{Refusal}
use Rattle.object_ops.specs.declared.refusals.Refusal.TheVariants.{BadField}
use Rattle.object_ops.specs.declared.words.FieldWord.TheVariants as field
use Rattle.request_bodies.specs.Bodies.{title_in}
use Rattle.request_bodies.specs.Makes.{group_in, shape_in, shape_or, title_text, type_in}
use Rattle.request_bodies.specs.Properties.{properties_in}

-- the refusal, where there is one
abbrev pub fault : {A : Type 0} → Result A Refusal → Option Refusal
fault (Ok x) = None
fault (Err refusal) = Some refusal

-- of the refusals that tests find the first
abbrev pub first_of : List (Option Refusal) → Option Refusal
first_of [] = None
first_of (None ∷ rest) = first_of rest
first_of (Some refusal ∷ rest) = Some refusal

-- ---- the type and the shape

-- the type, if it is one; inside, if its class is supported
abbrev pub type_at : Data → Result (Result ElemType Refusal) Refusal
type_at d = type_in (get (codes "type") d)

-- the class of a type, where it isn't supported
abbrev pub class_of : Result (Result ElemType Refusal) Refusal → Option Refusal
class_of (Ok kind) = fault kind
class_of (Err refusal) = None

-- a test where both are accepted; else it finds nothing
abbrev pub if_accepted : Result (Result ElemType Refusal) Refusal → Result Shape Refusal → (ElemType → Shape → Option Refusal) → Option Refusal
if_accepted (Ok (Ok kind)) (Ok shape) test = test kind shape
if_accepted (Ok (Ok kind)) (Err refusal) test = None
if_accepted (Ok (Err refusal)) shape test = None
if_accepted (Err refusal) shape test = None

-- ---- what a POST makes

abbrev pub bad_type : Kind → Data → Option Refusal
bad_type Group d = None
bad_type Dataset d = fault (type_at d)
bad_type Datatype d = fault (type_at d)

abbrev pub bad_creation : Kind → Data → Option Refusal
bad_creation Group d = None
bad_creation Dataset d = if_accepted (type_at d) (shape_in d) (λ kind shape. fault (properties_in (elem kind) shape (get (codes "creationProperties") d)))
bad_creation Datatype d = None

-- a link wants the id of a group, and a name that is a text
abbrev pub bad_place : Option Data → Option Refusal
bad_place None = None
bad_place (Some link) = first_of (fault (group_in link) ∷ fault (title_text link) ∷ [])

abbrev pub bad_class : Kind → Data → Option Refusal
bad_class Group d = None
bad_class Dataset d = class_of (type_at d)
bad_class Datatype d = class_of (type_at d)

abbrev pub bad_shape : Kind → Data → Option Refusal
bad_shape Group d = None
bad_shape Dataset d = fault (shape_in d)
bad_shape Datatype d = None

abbrev pub no_title : Result (List ℕ) Refusal → Option Refusal
no_title (Ok text) = fault (title_in text)
no_title (Err refusal) = None

-- the name is no title
abbrev pub bad_title : Option Data → Option Refusal
bad_title None = None
bad_title (Some link) = no_title (title_text link)

-- the tests of a POST in their order
abbrev pub make_tests : Kind → Data → List (Option Refusal)
make_tests kind d =
    bad_type kind d ∷ bad_creation kind d ∷ bad_place (get (codes "link") d) ∷ bad_class kind d ∷ bad_shape kind d ∷ bad_title (get (codes "link") d) ∷ []

-- ---- attributes

abbrev pub attribute_shape : Data → Result Shape Refusal
attribute_shape d = shape_or (shape_of (get (codes "shape") d) None)

-- a value of this type and shape has more bytes than it may
abbrev pub bad_size : Elem → Shape → Option Refusal
bad_size e s = if nat_le (count_of s * size_of e) most_bytes then None else Some (BadField field.Value)

-- what stands at the key is none of the type and the shape
abbrev pub no_value : Result (List ℕ) ValueFault → Option Refusal
no_value (Ok bytes) = None
no_value (Err fault) = Some (BadField field.Value)

-- the value has too many bytes, is missing, or is none of the type and the shape
abbrev pub bad_value : Data → Option Refusal
bad_value d = if_accepted (type_at d) (attribute_shape d)
    (λ kind shape. first_of (bad_size (elem kind) shape ∷ no_value (valued_at (elem kind) shape (get (codes "value") d)) ∷ []))

-- the tests of an attribute in their order
abbrev pub attribute_tests : Data → List (Option Refusal)
attribute_tests d = fault (type_at d) ∷ bad_value d ∷ class_of (type_at d) ∷ fault (attribute_shape d) ∷ []
