-- Arrays with the same bytes in each cell are equal.
use Rattle.std.proofs.Common.{◌≡◌, ℕ, suc, ◌<◌, List, [], ◌∷◌, length, get_or, refl, sym, ap, ◌∙◌, arith}
use Rattle.shapes.specs.declared.Shape.{Shape}
use Rattle.shapes.specs.RowMajor.{linear_index}
use Rattle.shapes.specs.Shapes.{LiesIn, cells_of, count_of, dims_of}
use Rattle.shapes.proofs.CellLemmas.{cells_length, index-cell}
use Rattle.chunk_store.specs.Grids.{Grid, value_at}
use Rattle.chunk_store.proofs.PickLemmas.{cells_inside}
use Rattle.json_trees.proofs.ListLemmas.{all_at}

same_list : (xs ys : List (List ℕ)) → length xs ≡ length ys → ((k : ℕ) → k < length xs → get_or xs k [] ≡ get_or ys k []) → xs ≡ ys
same_list [] [] e h = refl
same_list [] (y ∷ ys) e h = absurd (omega (arith, e))
same_list (x ∷ xs) [] e h = absurd (omega (arith, e))
same_list (x ∷ xs) (y ∷ ys) e h = ap (λ z. z ∷ xs) (h 0 (omega arith)) ∙ ap (λ zs. y ∷ zs) (same_list xs ys (omega (arith, e)) (λ k l. h (suc k) (omega (arith, l))))

same_values : (s : Shape) (xs ys : List (List ℕ)) → length xs ≡ count_of s → length ys ≡ count_of s → ((at : List ℕ) → LiesIn at s → get_or ys (linear_index at (dims_of s)) [] ≡ get_or xs (linear_index at (dims_of s)) []) → ys ≡ xs
same_values s xs ys e l h = same_list ys xs (l ∙ sym e) (λ k low.
    let within : k < count_of s = omega (arith, low, l) in
    let at = get_or (cells_of s) k [] in
    let lies = all_at (λ x. LiesIn x s) (cells_of s) k [] (omega (arith, within, cells_length s)) (cells_inside s) in
    let here = index-cell s k within in
    ap (λ j. get_or ys j []) (sym here) ∙ h at lies ∙ ap (λ j. get_or xs j []) here)

pub same_grids : (h k : Grid) → k.kind ≡ h.kind → k.shape ≡ h.shape → k.chunk ≡ h.chunk → k.fill ≡ h.fill → length h.values ≡ count_of h.shape → length k.values ≡ count_of h.shape
    → ((at : List ℕ) → LiesIn at h.shape → value_at k at ≡ value_at h at) → k ≡ h
same_grids h k kind shape chunk fill e l each =
    let values = same_values h.shape h.values k.values e l (λ at lies. ap (λ s. get_or k.values (linear_index at (dims_of s)) []) (sym shape) ∙ each at lies) in
    ap (λ x. record k { kind = x }) kind ∙ ap (λ x. record k { kind = h.kind; shape = x }) shape ∙ ap (λ x. record k { kind = h.kind; shape = h.shape; chunk = x }) chunk
    ∙ ap (λ x. record k { kind = h.kind; shape = h.shape; chunk = h.chunk; fill = x }) fill ∙ ap (λ x. record h { values = x }) values
