-- Creation properties: the chunks and the fill of a new dataset.
use Rattle.std.specs.Prelude.{ℕ, List, [], Option, Some, None, Result, Ok, Err, codes}
use Rattle.serde_json.specs.Data.{Data}
use Rattle.serde_json.specs.Find.{get}
use Rattle.json_trees.specs.Faults.{◌>>=◌}
use Rattle.json_trees.specs.Trees.{list_in}
use Rattle.hdf_types.specs.Elems.{Elem}
use Rattle.hdf_types.specs.Reading.{size_of}
use Rattle.hdf_values.specs.Elements.{encoded}
use Rattle.hdf_values.specs.declared.faults.Misfit.{Misfit}
use Rattle.shapes.specs.declared.Shape.{Shape}
use Rattle.shapes.specs.Shapes.{dims_of}
use Rattle.chunk_layout.specs.Asked.{asked_of}
use Rattle.chunk_layout.specs.declared.Layout.{Layout}
use Rattle.chunk_layout.specs.declared.LayoutFault.{LayoutFault}
use Rattle.object_ops.specs.declared.refusals.Refusal.{Refusal}
use Rattle.object_ops.specs.declared.refusals.Refusal.TheVariants.{BadField}
use Rattle.object_ops.specs.declared.words.FieldWord.TheVariants as field
use Rattle.chunk_layout.specs.DefaultChunks.Halving.{default_chunk}
use Rattle.request_bodies.specs.declared.properties.Properties.{Properties}

abbrev pub bad_properties : Refusal
bad_properties = BadField field.CreationProperties

-- the chunk that is asked for, or the default one
abbrev pub chunk_or : ℕ → List ℕ → Result (Option (List ℕ)) LayoutFault → Result Layout Refusal
chunk_or size dims (Ok (Some chunk)) = Ok (record { chunk = chunk })
chunk_or size dims (Ok None) = Ok (record { chunk = default_chunk size dims })
chunk_or size dims (Err fault) = Err bad_properties

-- no filters, or an empty list of them
abbrev pub no_filters : Option (List Data) → Result (Unit {0}) Refusal
no_filters (Some []) = Ok tt
no_filters filters = Err bad_properties

abbrev pub filters_in : Option Data → Result (Unit {0}) Refusal
filters_in None = Ok tt
filters_in (Some d) = no_filters (list_in d)

abbrev pub fill_or : Result (List ℕ) Misfit → Result (Option (List ℕ)) Refusal
fill_or (Ok bytes) = Ok (Some bytes)
fill_or (Err misfit) = Err bad_properties

-- the bytes of one element, where a value for it is given
abbrev pub fill_in : Elem → Option Data → Result (Option (List ℕ)) Refusal
fill_in e None = Ok None
fill_in e (Some d) = fill_or (encoded e d)

-- what stands at the key `creationProperties` of a dataset of this type and shape
abbrev pub properties_in : Elem → Shape → Option Data → Result Properties Refusal
properties_in e s None = Ok (record { layout = record { chunk = default_chunk (size_of e) (dims_of s) }; fill = None })
properties_in e s (Some d) =
    chunk_or (size_of e) (dims_of s) (asked_of d (dims_of s) (size_of e)) >>= λ layout.
    filters_in (get (codes "filters") d) >>= λ none.
    fill_in e (get (codes "fillValue") d) >>= λ fill.
    Ok (record { layout = layout; fill = fill })
