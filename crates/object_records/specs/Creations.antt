-- The creation properties of a dataset, as a tree spells them.
use Rattle.std.specs.Prelude.{ℕ, List, [], ◌∷◌, Option, Some, None, option_map, option_and_then, Result, Ok, Err, Bool, true, false, if◌then◌else◌, codes}
use Rattle.serde_json.specs.Data.{Data}
use Rattle.serde_json.specs.Find.{get}
use Rattle.json_trees.specs.Trees.{list_in}
use Rattle.hdf_types.specs.Elems.{Elem}
use Rattle.hdf_types.specs.Reading.{size_of}
use Rattle.shapes.specs.declared.Shape.{Shape}
use Rattle.shapes.specs.Shapes.{dims_of}
use Rattle.hdf_values.specs.Elements.{encoded}
use Rattle.chunk_layout.specs.Asked.{asked_of}
use Rattle.chunk_layout.specs.declared.LayoutFault.{LayoutFault}
use Rattle.chunk_layout.specs.DefaultChunks.Halving.{default_chunk}
use Rattle.object_records.specs.declared.creations.Creation.{Creation}
use Rattle.object_records.specs.Lists.{no_fault}

-- the chunk that is asked for, or the default
abbrev pub chunk_or : ℕ → List ℕ → Result (Option (List ℕ)) LayoutFault → Option (List ℕ)
chunk_or size dims (Ok (Some chunk)) = Some chunk
chunk_or size dims (Ok None) = Some (default_chunk size dims)
chunk_or size dims (Err fault) = None

-- there are no filters, or an empty list of them
abbrev pub is_empty_list : Option (List Data) → Bool
is_empty_list (Some []) = true
is_empty_list (Some (d ∷ ds)) = false
is_empty_list None = false

abbrev pub has_no_filter : Option Data → Bool
has_no_filter None = true
has_no_filter (Some d) = is_empty_list (list_in d)

-- a fill, where one is given, is an element
abbrev pub fill_in : Elem → Option Data → Option (Option (List ℕ))
fill_in e None = Some None
fill_in e (Some d) = option_map Some (no_fault (encoded e d))

-- the chunk and the fill
abbrev pub creation_in : Elem → Shape → Option Data → Option (List ℕ × Option (List ℕ))
creation_in e s None = Some (default_chunk (size_of e) (dims_of s), None)
creation_in e s (Some d) =
    if has_no_filter (get (codes "filters") d) then
    option_and_then (λ chunk. option_map (λ fill. (chunk, fill)) (fill_in e (get (codes "fillValue") d))) (chunk_or (size_of e) (dims_of s) (asked_of d (dims_of s) (size_of e)))
    else None

-- what a call gives, seen so
abbrev pub shown_creation : Creation → List ℕ × Option (List ℕ)
shown_creation c = (c.layout.chunk, option_map (λ v. v.items) c.fill)
