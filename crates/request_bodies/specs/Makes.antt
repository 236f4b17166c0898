-- What a POST makes, and where it is linked.
use Rattle.std.specs.Prelude.{ℕ, List, Option, Some, None, Result, Ok, Err, option_and_then, codes}
use Rattle.serde_json.specs.Data.{Data}
use Rattle.serde_json.specs.Find.{get}
use Rattle.json_trees.specs.Faults.{◌>>=◌}
use Rattle.json_trees.specs.Trees.{text_at}
use Rattle.object_ids.specs.IdValues.{Id}
use Rattle.object_ids.specs.declared.ids.Kind.{Kind}
use Rattle.object_ids.specs.declared.ids.Kind.TheVariants as kind
use Rattle.hdf_types.specs.declared.faults.Cause.{Cause}
use Rattle.hdf_types.specs.declared.faults.Cause.TheVariants.{Unsupported}
use Rattle.hdf_types.specs.declared.faults.TypeFault.{TypeFault}
use Rattle.hdf_types.specs.declared.faults.TypeFault.TheVariants as types
use Rattle.hdf_types.specs.declared.types.ElemType.{ElemType}
use Rattle.hdf_types.specs.Elems.{Elem}
use Rattle.hdf_types.specs.Views.{elem, elem_type}
use Rattle.hdf_types.specs.Faults.{Fault}
use Rattle.hdf_types.specs.Reading.{type_of}
use Rattle.shapes.specs.declared.Shape.{Shape}
use Rattle.shapes.specs.declared.ShapeFault.{ShapeFault}
use Rattle.shapes.specs.Shapes.{shape_of}
use Rattle.object_ops.specs.declared.ops.Make.{Make}
use Rattle.object_ops.specs.declared.ops.Make.TheVariants as make
use Rattle.object_ops.specs.declared.ops.LinkPlace.{LinkPlace}
use Rattle.object_ops.specs.declared.refusals.Refusal.{Refusal}
use Rattle.object_ops.specs.declared.refusals.Refusal.TheVariants.{BadField, UnsupportedType}
use Rattle.object_ops.specs.declared.words.FieldWord.TheVariants as field
use Rattle.request_bodies.specs.declared.faults.BodyFault.{BodyFault}
use Rattle.request_bodies.specs.declared.faults.BodyFault.TheVariants as bodies
use Rattle.request_bodies.specs.Refusing.{or_refuse}
use Rattle.request_bodies.specs.Bodies.{id_in, shape_refusal, title_in}
use Rattle.request_bodies.specs.Properties.{properties_in}
use Rattle.request_bodies.specs.declared.properties.Properties.{Properties}

-- What is refused only behind a bad link, a class or a shape, is kept: an `Ok` that holds an `Err`.

-- the type at a key; a class that isn't supported is refused behind a bad link
abbrev pub class_or : Cause → Result (Result ElemType Refusal) Refusal
class_or (Unsupported class) = Ok (Err (UnsupportedType class))
class_or cause = Err (BadField field.Type)

-- the same of what `read_type` answers
abbrev pub class_given : TypeFault → Result (Result ElemType Refusal) BodyFault
class_given types.NoMemory = Err bodies.NoMemory
class_given (types.Refused path (Unsupported class)) = Ok (Err (UnsupportedType class))
class_given (types.Refused path cause) = Err (bodies.Refused (BadField field.Type))

abbrev pub type_or : Result Elem Fault → Result (Result ElemType Refusal) Refusal
type_or (Ok e) = Ok (Ok (elem_type e))
type_or (Err fault) = class_or fault.cause

abbrev pub type_in : Option Data → Result (Result ElemType Refusal) Refusal
type_in None = Err (BadField field.Type)
type_in (Some d) = type_or (type_of d)

abbrev pub shape_or : Result Shape ShapeFault → Result Shape Refusal
shape_or (Ok s) = Ok s
shape_or (Err fault) = Err (shape_refusal fault)

abbrev pub shape_in : Data → Result Shape Refusal
shape_in d = shape_or (shape_of (get (codes "shape") d) (get (codes "maxdims") d))

-- a type and a shape that are both accepted, or what is refused of them: the class before the shape
abbrev pub grid_in : Result ElemType Refusal → Result Shape Refusal → Result (ElemType × Shape) Refusal
grid_in kind shape = kind >>= λ k. shape >>= λ s. Ok (k, s)

abbrev pub dataset_of : ElemType → Shape → Properties → Make
dataset_of k s p = make.Dataset k s p.layout p.fill

-- the creation properties are judged only where the type and the shape are accepted
abbrev pub with_properties : Result (ElemType × Shape) Refusal → Option Data → Result (Result Make Refusal) Refusal
with_properties (Err late) d = Ok (Err late)
with_properties (Ok grid) d = properties_in (elem grid.0) grid.1 d >>= λ p. Ok (Ok (dataset_of grid.0 grid.1 p))

abbrev pub datatype_of : Result ElemType Refusal → Result Make Refusal
datatype_of kind = kind >>= λ k. Ok (make.Datatype k)

abbrev pub dataset_in : Data → Result (Result Make Refusal) Refusal
dataset_in d = type_in (get (codes "type") d) >>= λ k. with_properties (grid_in k (shape_in d)) (get (codes "creationProperties") d)

-- what a POST of this kind makes
abbrev pub made_in : Kind → Data → Result (Result Make Refusal) Refusal
made_in kind.Group d = Ok (Ok make.Group)
made_in kind.Datatype d = type_in (get (codes "type") d) >>= λ k. Ok (datatype_of k)
made_in kind.Dataset d = dataset_in d

-- the group that gets the link, and the text of its title
abbrev pub group_in : Data → Result Id Refusal
group_in link = or_refuse (BadField field.Link) (option_and_then (id_in kind.Group) (text_at (codes "id") link))

abbrev pub title_text : Data → Result (List ℕ) Refusal
title_text link = or_refuse (BadField field.Link) (text_at (codes "name") link)

abbrev pub place : Id → List ℕ → LinkPlace
place group title = record { group = group; title = title }

-- the form of the link, then what was kept of the type and the shape, then the title
abbrev pub linked : Result Make Refusal → Option Data → Result (Make × Option LinkPlace) Refusal
linked made None = made >>= λ m. Ok (m, None)
linked made (Some link) =
    group_in link >>= λ group. title_text link >>= λ text. made >>= λ m. title_in text >>= λ title. Ok (m, Some (place group title))

-- what a POST of this kind makes, and where it is linked
abbrev pub make_in : Kind → Data → Result (Make × Option LinkPlace) Refusal
make_in kind d = made_in kind d >>= λ made. linked made (get (codes "link") d)
