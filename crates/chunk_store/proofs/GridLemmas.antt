-- Arrays as functions of the cell.
use Rattle.std.proofs.Common.{◌≡◌, ℕ, ◌<◌, List, [], ◌∷◌, ◌++◌, map, length, Option, refl, ap, ◌∙◌}
use Rattle.std.specs.List.{AllByRecursion, flat_map}
use Rattle.std.proofs.lemmas.List.{get_or-map}
use Rattle.hdf_types.specs.Elems.{Elem}
use Rattle.shapes.specs.declared.Shape.{Shape}
use Rattle.shapes.specs.RowMajor.{linear_index}
use Rattle.shapes.specs.Shapes.{LiesIn, cells_of, dims_of}
use Rattle.shapes.proofs.CellLemmas.{cells_length, cell-index, index_counted}
use Rattle.chunk_store.specs.Grids.{tabulated, value_at}
use Rattle.chunk_store.proofs.PickLemmas.{cells_inside}

-- a cell has the bytes that the function gives
pub value-tabulated : (e : Elem) (s : Shape) (c : List ℕ) (fill : Option (List ℕ)) (f : List ℕ → List ℕ) (at : List ℕ) → LiesIn at s → value_at (tabulated e s c fill f) at ≡ f at
value-tabulated e s c fill f at h =
    let low : linear_index at (dims_of s) < length (cells_of s) = rw (cells_length s) (index_counted s at h) in
    get_or-map f (cells_of s) (linear_index at (dims_of s)) [] [] low ∙ ap f (cell-index s at h)

map_same : {A B : Type 0} (P : A → Type 0) (f g : A → B) → ((x : A) → P x → f x ≡ g x) → (xs : List A) → AllByRecursion P xs → map f xs ≡ map g xs
map_same P f g h [] each = refl
map_same P f g h (x ∷ xs) each = ap (λ y. y ∷ map f xs) (h x each.0) ∙ ap (λ ys. g x ∷ ys) (map_same P f g h xs each.1)

pub reads_same : (P : List ℕ → Type 0) (f g : List ℕ → List ℕ) → ((x : List ℕ) → P x → f x ≡ g x) → (xs : List (List ℕ)) → AllByRecursion P xs → flat_map f xs ≡ flat_map g xs
reads_same P f g h [] each = refl
reads_same P f g h (x ∷ xs) each = ap (λ y. y ++ flat_map f xs) (h x each.0) ∙ ap (λ ys. g x ++ ys) (reads_same P f g h xs each.1)

-- two functions that agree on the cells give one array
pub tabulated_same : (e : Elem) (s : Shape) (c : List ℕ) (fill : Option (List ℕ)) (f g : List ℕ → List ℕ) → ((at : List ℕ) → LiesIn at s → f at ≡ g at) → tabulated e s c fill f ≡ tabulated e s c fill g
tabulated_same e s c fill f g h = ap (λ vs. record { kind = e; shape = s; chunk = c; fill = fill; values = vs }) (map_same (λ at. LiesIn at s) f g h (cells_of s) (cells_inside s))
