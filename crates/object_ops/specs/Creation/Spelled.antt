-- Which trees spell a chunk and a fill: without an order of tests.
use Rattle.std.specs.Prelude.{◌≡◌, ℕ, List, [], Option, Some, None, Ok, codes}
use Rattle.serde_json.specs.Data.{Data}
use Rattle.serde_json.specs.Find.{get}
use Rattle.json_trees.specs.Trees.{list_in}
use Rattle.hdf_types.specs.Elems.{Elem}
use Rattle.hdf_types.specs.Reading.{size_of}
use Rattle.shapes.specs.declared.Shape.{Shape}
use Rattle.shapes.specs.Shapes.{dims_of}
use Rattle.hdf_values.specs.Elements.{encoded}
use Rattle.chunk_layout.specs.Layouts.{SpellsChunk}
use Rattle.chunk_layout.specs.DefaultChunks.Halving.{default_chunk}

-- there are no filters, or an empty list of them
abbrev pub IsNoFilter : Option Data → Type 0
IsNoFilter None = Unit {0}
IsNoFilter (Some d) = list_in d ≡ Some []

-- a fill that is given is an element
abbrev pub IsFill : Elem → Option Data → Option (List ℕ) → Type 0
IsFill e None fill = fill ≡ None
IsFill e (Some d) fill = (bytes : List ℕ) × (encoded e d ≡ Ok bytes) × (fill ≡ Some bytes)

pub record AreProperties (e : Elem) (s : Shape) (d : Data) (p : List ℕ × Option (List ℕ)) : Type 0 where
  pub chunk : SpellsChunk d (dims_of s) (size_of e) p.0
  pub filters : IsNoFilter (get (codes "filters") d)
  pub fill : IsFill e (get (codes "fillValue") d) p.1

-- absent properties ask for nothing
abbrev pub IsCreation : Elem → Shape → Option Data → List ℕ × Option (List ℕ) → Type 0
IsCreation e s None p = p ≡ (default_chunk (size_of e) (dims_of s), None)
IsCreation e s (Some d) p = AreProperties e s d p
