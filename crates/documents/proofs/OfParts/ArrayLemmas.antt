-- Arrays that are filled.
use Rattle.std.proofs.Common.{◌≡◌, ℕ, List, Option, Some, Result, Ok, sym, ap, subst, ◌∙◌}
use Rattle.serde_json.specs.Data.{Data}
use Rattle.json_trees.specs.Faults.{◌>>=◌}
use Rattle.hdf_types.specs.Elems.{Elem}
use Rattle.shapes.specs.declared.Shape.{Shape}
use Rattle.shapes.specs.Shapes.{count_of}
use Rattle.hdf_values.specs.Nested.{AreEncoded}
use Rattle.chunk_store.specs.Grids.{Grid}
use Rattle.documents.specs.Parts.Arrays.{blank, filled_at, value_at, with_bytes}
use Rattle.documents.specs.Parts.Faults.{Fault}

-- the elements of a value fit the array that is made for it
pub encoded_in : (e : Elem) (s : Shape) (p : List ℕ × Option (List ℕ)) (g : Grid) (bs : List ℕ) → g ≡ blank e s p → AreEncoded e (count_of s) bs → AreEncoded g.kind (count_of g.shape) bs
encoded_in e s p g bs made h = subst (λ (k : Grid). AreEncoded k.kind (count_of k.shape) bs) (sym made) h

-- the array with a value in its cells
pub filled_told : (path : List ℕ) (e : Elem) (s : Shape) (p : List ℕ × Option (List ℕ)) (d : Data) (bs : List ℕ) (g h : Grid)
    → value_at path e s d ≡ Ok bs → g ≡ blank e s p → h ≡ with_bytes g bs → filled_at path e s p (Some d) ≡ Ok h
filled_told path e s p d bs g h is made written =
    ap (λ (r : Result (List ℕ) Fault). r >>= λ (xs : List ℕ). Ok (with_bytes (blank e s p) xs)) is
    ∙ ap (λ (k : Grid). Ok (with_bytes k bs)) (sym made) ∙ ap Ok (sym written)
