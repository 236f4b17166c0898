-- The parts of an array: what is true of them, and what callers see.
use Rattle.std.specs.Prelude.{◌≡◌, ℕ, List, Bool, true, false, length}
use Rattle.std.specs.BTreeMap.{BTreeMap}
use Rattle.hdf_types.specs.Elems.{Elem}
use Rattle.hdf_types.specs.Reading.{size_of}
use Rattle.hdf_types.specs.Types.{IsSoundType}
use Rattle.hdf_values.specs.Elements.{IsEncoded, bytes_of, zero_of}
use Rattle.shapes.specs.declared.Shape.{Shape}
use Rattle.shapes.specs.Shapes.{IsSound, lies_in, dims_of}
use Rattle.chunk_layout.specs.Layouts.{Fits}
use Rattle.chunk_store.specs.Buffers.{AreFull, bytes_at, flags_of}
use Rattle.chunk_store.specs.Cells.{has}
use Rattle.chunk_store.specs.Grids.{tabulated}
use Rattle.chunk_store.specs.Indexes.{IsIndex}
use Rattle.chunk_store.specs.Kept.{given_fill}
use Rattle.chunk_store.specs.Marks.{Stored}
use Rattle.chunk_store.specs.declared.buffers.Frame.{Frame}
use Rattle.chunk_store.specs.declared.buffers.Held.{Held}

-- the array that callers see
abbrev pub stored_in : Elem → Shape → Bool → Frame → BTreeMap (List ℕ) Held → Stored
stored_in e s given f m = record { grid = tabulated e s f.layout.chunk (given_fill given f.blank.items) (bytes_at m f); marks = flags_of m.entries }

-- what is true of the parts of every array
pub record IsBuffered (e : Elem) (s : Shape) (given : Bool) (f : Frame) (m : BTreeMap (List ℕ) Held) : Type 0 where
  pub kind : IsSoundType e
  pub shape : IsSound s
  pub layout : Fits (size_of e) (dims_of s) f.layout.chunk
  pub sized : f.size ≡ size_of e
  pub unwritten : given ≡ false → f.blank.items ≡ bytes_of e (zero_of e)
  pub blank_encoded : IsEncoded e f.blank.items
  pub encoded : (q : List ℕ) → length q ≡ length f.layout.chunk → IsEncoded e (bytes_at m f q)
  pub outside : (q : List ℕ) → length q ≡ length f.layout.chunk → lies_in q s ≡ false → bytes_at m f q ≡ f.blank.items
  pub full : AreFull m f
  pub indexes : (i : List ℕ) → has m i ≡ true → IsIndex f.layout.chunk i
