-- The creation properties of a dataset, as a tree spells them: a chunk, and the bytes of a fill where one is given. Of several
-- faults the first is told.
use Rattle.std.specs.Prelude.{ℕ, List, [], ◌∷◌, Option, Some, None, is_some, option_map, Result, Ok, Err, if◌then◌else◌, codes, ⊤}
use Rattle.serde_json.specs.Data.{Data}
use Rattle.serde_json.specs.Find.{get, as_object}
use Rattle.json_trees.specs.Faults.{◌>>=◌}
use Rattle.json_trees.specs.Trees.{list_in}
use Rattle.hdf_types.specs.Elems.{Elem}
use Rattle.hdf_types.specs.Reading.{size_of}
use Rattle.shapes.specs.declared.Shape.{Shape}
use Rattle.shapes.specs.Shapes.{dims_of}
use Rattle.hdf_values.specs.Elements.{encoded}
use Rattle.hdf_values.specs.declared.faults.Misfit.{Misfit}
use Rattle.hdf_values.specs.declared.faults.ValueFault.{ValueFault}
use Rattle.hdf_values.specs.declared.faults.ValueFault.TheVariants as values
use Rattle.chunk_layout.specs.Asked.{asked_of}
use Rattle.chunk_layout.specs.declared.LayoutFault.{LayoutFault}
use Rattle.chunk_layout.specs.DefaultChunks.Halving.{default_chunk}
use Rattle.object_ops.specs.declared.creation.faults.CreationFault.{CreationFault}
use Rattle.object_ops.specs.declared.creation.faults.CreationFault.TheVariants.{NoMemory, NotAnObject, BadLayout, HasFilters, BadFill}
use Rattle.object_ops.specs.declared.creation.reading.Creation.{Creation}

-- what a call gives, seen so
abbrev pub shown_creation : Creation → List ℕ × Option (List ℕ)
shown_creation c = (c.layout.chunk, option_map (λ v. v.items) c.fill)

abbrev pub fill_fault : ValueFault → CreationFault
fill_fault values.NoMemory = NoMemory
fill_fault fault = BadFill

-- the chunk that is asked for, or the default
abbrev pub chunk_or : ℕ → List ℕ → Result (Option (List ℕ)) LayoutFault → Result (List ℕ) CreationFault
chunk_or size dims (Ok (Some chunk)) = Ok chunk
chunk_or size dims (Ok None) = Ok (default_chunk size dims)
chunk_or size dims (Err fault) = Err BadLayout

abbrev pub no_filters : Option (List Data) → Result ⊤ CreationFault
no_filters (Some []) = Ok tt
no_filters (Some (d ∷ ds)) = Err HasFilters
no_filters None = Err HasFilters

abbrev pub filters_of : Option Data → Result ⊤ CreationFault
filters_of None = Ok tt
filters_of (Some d) = no_filters (list_in d)

abbrev pub element_or : Result (List ℕ) Misfit → Result (List ℕ) CreationFault
element_or (Ok bytes) = Ok bytes
element_or (Err misfit) = Err BadFill

abbrev pub fill_of : Elem → Option Data → Result (Option (List ℕ)) CreationFault
fill_of e None = Ok None
fill_of e (Some d) = element_or (encoded e d) >>= λ (bytes : List ℕ). Ok (Some bytes)

abbrev pub properties_of : Elem → Shape → Data → Result (List ℕ × Option (List ℕ)) CreationFault
properties_of e s d =
    chunk_or (size_of e) (dims_of s) (asked_of d (dims_of s) (size_of e)) >>= λ (chunk : List ℕ).
    filters_of (get (codes "filters") d) >>= λ (u : ⊤).
    fill_of e (get (codes "fillValue") d) >>= λ (fill : Option (List ℕ)).
    Ok (chunk, fill)

-- the chunk and the fill of creation properties, or their first fault
unfoldable pub creation_of : Elem → Shape → Option Data → Result (List ℕ × Option (List ℕ)) CreationFault
creation_of e s None = Ok (default_chunk (size_of e) (dims_of s), None)
creation_of e s (Some d) = if is_some (as_object d) then properties_of e s d else Err NotAnObject
