-- The arrays of datasets of a document: the first fault in the stated order.
use Rattle.std.specs.Prelude.{◌≡◌, ℕ, List, Option, Some, None, Result, Ok, Err, codes}
use Rattle.serde_json.specs.Data.{Data}
use Rattle.serde_json.specs.Find.{get}
use Rattle.json_trees.specs.Faults.{◌>>=◌}
use Rattle.hdf_types.specs.Elems.{Elem}
use Rattle.shapes.specs.declared.Shape.{Shape}
use Rattle.shapes.specs.declared.ShapeFault.{ShapeFault}
use Rattle.shapes.specs.Shapes.{count_of, shape_of}
use Rattle.hdf_values.specs.Shaped.{value_from}
use Rattle.hdf_values.specs.declared.faults.ValueFault.{ValueFault}
use Rattle.hdf_values.specs.declared.faults.ValueFault.TheVariants as values
use Rattle.chunk_store.specs.Grids.{Grid, all_fill, writes}
use Rattle.chunk_store.specs.Picked.{cells_from}
use Rattle.object_ops.specs.Creation.Creations.{creation_of}
use Rattle.object_ops.specs.declared.creation.faults.CreationFault.{CreationFault}
use Rattle.object_ops.specs.declared.creation.faults.CreationFault.TheVariants as creations
use Rattle.documents.specs.Parts.Faults.{Fault, Tells, fault}
use Rattle.documents.specs.Parts.Paths.{under}
use Rattle.documents.specs.Parts.Types.{kind_at}
use Rattle.documents.specs.declared.parts.faults.DocCause.TheVariants.{BadShape, BadValue, BadLayout}
use Rattle.documents.specs.declared.parts.faults.DocFault.{DocFault}
use Rattle.documents.specs.declared.parts.faults.DocFault.TheVariants.{NoMemory}

-- ---- the shape

abbrev pub shaped : List ℕ → Result Shape ShapeFault → Result Shape Fault
shaped path (Ok s) = Ok s
shaped path (Err f) = Err (fault (under path (codes "shape")) BadShape)

abbrev pub shape_at : List ℕ → Option Data → Result Shape Fault
shape_at path o = shaped path (shape_of o None)

-- ---- the creation properties

-- the key at which they are wrong
abbrev pub creation_key : CreationFault → List ℕ
creation_key creations.NoMemory = codes "creationProperties"
creation_key creations.NotAnObject = codes "creationProperties"
creation_key creations.BadLayout = codes "creationProperties/layout"
creation_key creations.HasFilters = codes "creationProperties/filters"
creation_key creations.BadFill = codes "creationProperties/fillValue"

abbrev pub creation_fault : List ℕ → CreationFault → Fault
creation_fault path f = fault (under path (creation_key f)) BadLayout

-- what is told of the fault of a call
abbrev pub IsCreationTold : List ℕ → CreationFault → DocFault → Type 0
IsCreationTold path creations.NoMemory e = e ≡ NoMemory
IsCreationTold path f e = Tells e (creation_fault path f)

abbrev pub created : List ℕ → Result (List ℕ × Option (List ℕ)) CreationFault → Result (List ℕ × Option (List ℕ)) Fault
created path (Ok p) = Ok p
created path (Err f) = Err (creation_fault path f)

-- the chunk and the fill
abbrev pub creation_at : List ℕ → Elem → Shape → Option Data → Result (List ℕ × Option (List ℕ)) Fault
creation_at path e s o = created path (creation_of e s o)

-- ---- the value

abbrev pub value_fault : List ℕ → Fault
value_fault path = fault (under path (codes "value")) BadValue

abbrev pub IsValueTold : List ℕ → ValueFault → DocFault → Type 0
IsValueTold path values.NoMemory e = e ≡ NoMemory
IsValueTold path f e = Tells e (value_fault path)

abbrev pub valued : List ℕ → Result (List ℕ) ValueFault → Result (List ℕ) Fault
valued path (Ok bs) = Ok bs
valued path (Err f) = Err (value_fault path)

-- the bytes of all cells
abbrev pub value_at : List ℕ → Elem → Shape → Data → Result (List ℕ) Fault
value_at path e s d = valued path (value_from e s d)

-- a value that is kept apart, else the one that stands in a tree
abbrev pub or_else : Option Data → Option Data → Option Data
or_else None o = o
or_else (Some d) o = Some d

-- ---- the array

-- an array of this type and shape, of which no cell was written
abbrev pub blank : Elem → Shape → List ℕ × Option (List ℕ) → Grid
blank e s p = all_fill e s p.0 p.1

-- the same array with these bytes in its cells, one element after another
abbrev pub with_bytes : Grid → List ℕ → Grid
with_bytes g bs = writes g (cells_from 0 (count_of g.shape) g.shape) bs

-- an absent value is all fill
abbrev pub filled_at : List ℕ → Elem → Shape → List ℕ × Option (List ℕ) → Option Data → Result Grid Fault
filled_at path e s p None = Ok (blank e s p)
filled_at path e s p (Some d) = value_at path e s d >>= λ (bs : List ℕ). Ok (with_bytes (blank e s p) bs)

-- the array of a dataset
unfoldable pub array_at : List ℕ → Data → Result Grid Fault
array_at path d =
    kind_at path (get (codes "type") d) >>= λ (e : Elem).
    shape_at path (get (codes "shape") d) >>= λ (s : Shape).
    creation_at path e s (get (codes "creationProperties") d) >>= λ (p : List ℕ × Option (List ℕ)).
    filled_at path e s p (get (codes "value") d)

-- the same, where the value may be kept apart from the dataset
unfoldable pub array_with : List ℕ → Option Data → Data → Result Grid Fault
array_with path value d =
    kind_at path (get (codes "type") d) >>= λ (e : Elem).
    shape_at path (get (codes "shape") d) >>= λ (s : Shape).
    creation_at path e s (get (codes "creationProperties") d) >>= λ (p : List ℕ × Option (List ℕ)).
    filled_at path e s p (or_else value (get (codes "value") d))
