-- The types of the objects of a document.
use Rattle.std.specs.Prelude.{ℕ, List, Option, Some, None, Result, Ok, Err, codes}
use Rattle.serde_json.specs.Data.{Data}
use Rattle.hdf_types.specs.Elems.{Elem}
use Rattle.hdf_types.specs.Reading.{type_of}
use Rattle.hdf_types.specs.Faults as types
use Rattle.documents.specs.Parts.Faults.{Fault, fault}
use Rattle.documents.specs.Parts.Paths.{under}
use Rattle.documents.specs.declared.parts.faults.DocCause.TheVariants.{BadType}

abbrev pub typed : List ℕ → Result Elem types.Fault → Result Elem Fault
typed path (Ok e) = Ok e
typed path (Err f) = Err (fault (under path (codes "type")) BadType)

-- the type at the key `type`; an absent one is none
abbrev pub kind_at : List ℕ → Option Data → Result Elem Fault
kind_at path None = Err (fault (under path (codes "type")) BadType)
kind_at path (Some d) = typed path (type_of d)
