-- Arrays: their parts, and the bytes of each cell.
use Rattle.std.specs.Prelude.{◌≡◌, ℕ, List, [], ◌∷◌, map, take, drop, length, All, slice_index_or, cond, Option, Some, None, refl}
use Rattle.std.specs.List.{flat_map}
use Rattle.std.specs.Coded.{Coded, code_by, coded×, coded_ℕ, coded_list, coded_option}
use Rattle.hdf_types.specs.Elems.{Elem, coded_elem}
use Rattle.hdf_types.specs.Reading.{size_of}
use Rattle.hdf_types.specs.Types.{IsSoundType}
use Rattle.hdf_values.specs.Elements.{IsEncoded, bytes_of, zero_of}
use Rattle.chunk_layout.specs.Chunks.{IsChunkDim}
use Rattle.shapes.specs.declared.Shape.{Shape}
use Rattle.shapes.specs.declared.Shape.TheVariants.{Null, Scalar, Simple}
use Rattle.shapes.specs.RowMajor.{linear_index}
use Rattle.shapes.specs.Shapes.{IsSound, LiesIn, lies_in, cells_of, count_of, dims_of}
use Rattle.chunk_store.specs.Cells.{put}

-- an array: the last part has the bytes of each cell, in row-major order
pub record Grid : Type 0 where
  pub kind : Elem
  pub shape : Shape
  pub chunk : List ℕ
  pub fill : Option (List ℕ)
  pub values : List (List ℕ)

-- the array in which each cell has the bytes that a function gives
abbrev pub tabulated : Elem → Shape → List ℕ → Option (List ℕ) → (List ℕ → List ℕ) → Grid
tabulated e s c fill value = record { kind = e; shape = s; chunk = c; fill = fill; values = map value (cells_of s) }

-- the bytes of a cell
abbrev pub value_at : Grid → List ℕ → List ℕ
value_at h at = slice_index_or h.values (linear_index at (dims_of h.shape)) []

-- the bytes of a cell that was never written
abbrev pub blank_of : Elem → Option (List ℕ) → List ℕ
blank_of e None = bytes_of e (zero_of e)
blank_of e (Some bs) = bs

-- an array with no cell written
abbrev pub all_fill : Elem → Shape → List ℕ → Option (List ℕ) → Grid
all_fill e s c fill = tabulated e s c fill (λ at. blank_of e fill)

-- the same array with other values
abbrev pub with_values : Grid → (List ℕ → List ℕ) → Grid
with_values h value = tabulated h.kind h.shape h.chunk h.fill value

-- the bytes of cells, one after another
abbrev pub reads : Grid → List (List ℕ) → List ℕ
reads h ats = flat_map (value_at h) ats

-- the function after pieces of `size` bytes are written at these cells in turn: of a repeated cell the last counts
abbrev pub written : (List ℕ → List ℕ) → ℕ → List (List ℕ) → List ℕ → List ℕ → List ℕ
written f size [] bs = f
written f size (at ∷ ats) bs = written (put f at (take size bs)) size ats (drop size bs)

abbrev pub writes : Grid → List (List ℕ) → List ℕ → Grid
writes h ats bs = with_values h (written (value_at h) (size_of h.kind) ats bs)

-- the shape with other dims
abbrev pub with_dims : Shape → List ℕ → Shape
with_dims Null dims = Null
with_dims Scalar dims = Scalar
with_dims (Simple old limits) dims = Simple dims limits

-- a cell that the old dims have too keeps its bytes, and any other has the fill
abbrev pub resized_to : Grid → List ℕ → Grid
resized_to h dims = tabulated h.kind (with_dims h.shape dims) h.chunk h.fill (λ at. cond (lies_in at h.shape) (value_at h at) (blank_of h.kind h.fill))

-- what is true of every array
pub record IsWhole (h : Grid) : Type 0 where
  pub kind : IsSoundType h.kind
  pub shape : IsSound h.shape
  pub rank : length h.chunk ≡ length (dims_of h.shape)
  pub dims : All IsChunkDim h.chunk
  pub values : (at : List ℕ) → LiesIn at h.shape → IsEncoded h.kind (value_at h at)
  pub blank : IsEncoded h.kind (blank_of h.kind h.fill)
  pub table : length h.values ≡ count_of h.shape

-- ---- a code

abbrev pub shape_parts : Shape → Option (Option (List ℕ × List ℕ))
shape_parts Null = None
shape_parts Scalar = Some None
shape_parts (Simple dims limits) = Some (Some (dims, limits))

abbrev pub shape_from : Option (Option (List ℕ × List ℕ)) → Shape
shape_from None = Null
shape_from (Some None) = Scalar
shape_from (Some (Some p)) = Simple p.0 p.1

pub shape_same : (s : Shape) → shape_from (shape_parts s) ≡ s
shape_same Null = refl
shape_same Scalar = refl
shape_same (Simple dims limits) = refl

abbrev pub coded_dims : Coded (List ℕ)
coded_dims = coded_list coded_ℕ

abbrev pub coded_shape : Coded Shape
coded_shape = code_by (Option (Option (List ℕ × List ℕ))) (coded_option (coded_option (coded× coded_dims coded_dims))) shape_parts shape_from shape_same

abbrev pub coded_grid : Coded Grid
coded_grid =
    code_by (Elem × (Shape × (List ℕ × (Option (List ℕ) × List (List ℕ)))))
    (coded× coded_elem (coded× coded_shape (coded× coded_dims (coded× (coded_option coded_dims) (coded_list coded_dims)))))
    (λ h. (h.kind, (h.shape, (h.chunk, (h.fill, h.values)))))
    (λ p. record { kind = p.0; shape = p.1.0; chunk = p.1.1.0; fill = p.1.1.1.0; values = p.1.1.1.1 })
    (λ h. refl)
