-- The array of the document's dataset has the elements in its cells.
use Rattle.std.proofs.Common.{◌≡◌, ℕ, ◌+◌, ◌*◌, ◌^◌, ◌<◌, List, [], ◌∷◌, codes, Result, Some, None, Ok, inl, inr, refl, sym, ap, subst, ◌∙◌, arith}
use Rattle.std.proofs.lemmas.Option.{same_Some}
use Rattle.serde_json.specs.Data.{string}
use Rattle.serde_json.specs.View.{items_of}
use Rattle.hdf_types.specs.Elems.{Elem}
use Rattle.hdf_types.specs.Reading.{int_named, size_of, type_of}
use Rattle.hdf_types.specs.Types.{IsType}
use Rattle.hdf_types.proofs.TypeLemmas.{one_of, type_read}
use Rattle.hdf_values.specs.Elements.{bytes_of}
use Rattle.hdf_values.specs.Nested.{nested_bytes, piece_at}
use Rattle.hdf_values.specs.Shaped.{value_from}
use Rattle.hdf_values.specs.declared.faults.ValueFault.{ValueFault}
use Rattle.hdf_values.proofs.NestedLemmas.{nested_read}
use Rattle.hdf_values.proofs.RowLemmas.{row_bytes}
use Rattle.shapes.specs.RowMajor.{IsInside, linear_index}
use Rattle.shapes.specs.Shapes.{IsShape, LiesIn, dims_of, shape_of}
use Rattle.shapes.specs.declared.Shape.{Shape}
use Rattle.shapes.specs.declared.Shape.TheVariants.{Simple}
use Rattle.shapes.proofs.ShapeLemmas.{same_ok, shape_read}
use Rattle.chunk_store.specs.Grids.{Grid, value_at}
use Rattle.samples.specs.Values.Samples.{element}
use Rattle.samples.specs.Trees.{IsSample, i32, listed, shape_tree, value_tree, whole}
use Rattle.samples.proofs.ReadLemmas.{i32_sound}
use Rattle.samples.proofs.ValueLemmas.{value_at_cell, value_fits}

-- ---- the type and the shape

i32_named : IsType (string (codes "H5T_STD_I32LE")) i32
unfolding int_named
i32_named = (inl (codes "H5T_STD_I32LE", refl, refl), omega arith, omega arith)

kind_is : (e : Elem) → IsType (string (codes "H5T_STD_I32LE")) e → e ≡ i32
kind_is e h =
    let d = string (codes "H5T_STD_I32LE") in
    one_of e i32 (type_of d) (type_read d e h) (type_read d i32 i32_named)

square : IsShape (Some shape_tree) None (Simple (1000 ∷ 1000 ∷ []) (1000 ∷ 1000 ∷ []))
square = (
  (shape_tree, refl, inr (refl, (listed (whole 1000 ∷ whole 1000 ∷ []), refl, (items_of (whole 1000 ∷ whole 1000 ∷ []), refl, ((refl, omega arith), ((refl, omega arith), tt)))))),
  refl,
  record { some_axis = omega arith; few_axes = omega arith; within = (inr (omega arith), (inr (omega arith), tt)); room = omega arith },
)

shape_is : (s : Shape) → IsShape (Some shape_tree) None s → s ≡ Simple (1000 ∷ 1000 ∷ []) (1000 ∷ 1000 ∷ [])
shape_is s h =
    let t = Simple (1000 ∷ 1000 ∷ []) (1000 ∷ 1000 ∷ []) in
    same_ok s t (shape_of (Some shape_tree) None) (shape_read (Some shape_tree) None s h) (shape_read (Some shape_tree) None t square)

-- ---- the cells

same_bytes : (a b : List ℕ) (r : Result (List ℕ) ValueFault) → r ≡ Ok a → r ≡ Ok b → a ≡ b
same_bytes a b r h k = cc

-- the bytes of the dataset's value are those of its elements
value_bytes : (n : ℕ) (e : Elem) (s : Shape) (bs : List ℕ) (limits : List ℕ) → n < 2 ^ 64 → e ≡ i32 → s ≡ Simple (1000 ∷ 1000 ∷ []) limits → value_from e s (value_tree n 1000 1000) ≡ Ok bs
    → bs ≡ nested_bytes i32 (1000 ∷ 1000 ∷ []) (value_tree n 1000 1000)
value_bytes n e s bs limits small kind shape read =
    let v = value_tree n 1000 1000 in
    let dims = 1000 ∷ 1000 ∷ [] in
    let told = nested_read i32 dims 0 v (value_fits n 1000 1000 small) in
    same_bytes bs (nested_bytes i32 dims v) (value_from e s v) read (ap (λ k. value_from k s v) kind ∙ ap (λ t. value_from i32 t v) shape ∙ told)

pub sample_is : (n : ℕ) (g : Grid) (bs : List ℕ) → n < 2 ^ 64 → IsType (string (codes "H5T_STD_I32LE")) g.kind → IsShape (Some shape_tree) None g.shape
    → value_from g.kind g.shape (value_tree n 1000 1000) ≡ Ok bs
    → ((at : List ℕ) → LiesIn at g.shape → value_at g at ≡ piece_at (size_of g.kind) (linear_index at (dims_of g.shape)) bs)
    → IsSample n g
sample_is n g bs small type shape read cells =
    let kind = kind_is g.kind type in
    let dims = 1000 ∷ 1000 ∷ [] in
    let square = shape_is g.shape shape in
    let v = value_tree n 1000 1000 in
    let bytes = value_bytes n g.kind g.shape bs dims small kind square read in
    record {
      kind = kind;
      limits = dims;
      shape = square;
      cells = λ row column h k.
          let at = row ∷ column ∷ [] in
          let inside : IsInside (row ∷ column ∷ []) (1000 ∷ 1000 ∷ []) = (h, (k, tt)) in
          let lies = subst (λ (s : Shape). LiesIn at s) (sym square) inside in
          let found = row_bytes i32 dims at v i32_sound (value_fits n 1000 1000 small) inside in
          let is = same_Some found.0 (whole (element n (row * 1000 + column))) (sym found.1 ∙ value_at_cell n 1000 1000 row column h k) in
          cells at lies
          ∙ ap (λ e. piece_at (size_of e) (linear_index at (dims_of g.shape)) bs) kind
          ∙ ap (λ (s : Shape). piece_at 4 (linear_index at (dims_of s)) bs) square
          ∙ ap (piece_at 4 (linear_index at dims)) bytes
          ∙ found.3
          ∙ ap (bytes_of i32) is;
    }
