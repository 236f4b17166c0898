-- Trees over one axis: the elements in order are the pieces in order.
use Rattle.std.proofs.Common.{◌≡◌, ℕ, ◌*◌, ◌<◌, List, [], ◌∷◌, length, map, get_or, Option, Some, sym, ap, subst, ◌∙◌, arith}
use Rattle.std.proofs.lemmas.List.{length-map}
use Rattle.std.specs.Prelude.{option_and_then}
use Rattle.serde_json.specs.Data.{Data, null}
use Rattle.json_trees.specs.Trees.{list_in}
use Rattle.hdf_types.specs.Elems.{Elem}
use Rattle.hdf_types.specs.Reading.{size_of}
use Rattle.hdf_types.specs.Types.{IsSoundType}
use Rattle.shapes.specs.RowMajor.{linear_index}
use Rattle.hdf_values.specs.Elements.{Fits, bytes_of, decoded}
use Rattle.hdf_values.specs.Nested.{FitsNested, nested_bytes, nested_decoded, tree_at, pieces, piece_at}
use Rattle.hdf_values.proofs.ElementLemmas.{list_of-items_of}
use Rattle.hdf_values.proofs.PieceLemmas.{length-pieces}
use Rattle.hdf_values.proofs.RowLemmas.{tree_of_piece, row_bytes}
use Rattle.hdf_values.proofs.FirstLemmas.{member_found}

pub list_decoded : (e : Elem) (n : ℕ) (bs : List ℕ)
    → (ds : List Data) × (list_in (nested_decoded e (n ∷ []) bs) ≡ Some ds) × (length ds ≡ n) × ((i : ℕ) → i < n → get_or ds i null ≡ decoded e (piece_at (size_of e) i bs))
list_decoded e n bs =
    let trees = map (decoded e) (pieces n (1 * size_of e) bs) in
    let one : 1 * size_of e ≡ size_of e = omega arith in (
      trees,
      ap Some (list_of-items_of trees),
      length-map (pieces n (1 * size_of e) bs) (decoded e) ∙ length-pieces n (1 * size_of e) bs,
      λ i h. tree_of_piece (decoded e) n (1 * size_of e) i bs h ∙ ap (λ k. decoded e (piece_at k i bs)) one,
    )

only_some : (o : Option Data) (x y : Data) → o ≡ Some x → o ≡ Some y → x ≡ y
only_some o x y h k = cc

pub list_read : (e : Elem) (n i : ℕ) (d : Data) (ds : List Data) → IsSoundType e → FitsNested e (n ∷ []) d → list_in d ≡ Some ds → i < n
    → Fits e (get_or ds i null) × (piece_at (size_of e) i (nested_bytes e (n ∷ []) d) ≡ bytes_of e (get_or ds i null))
list_read e n i d ds s h is within =
    let row = row_bytes e (n ∷ []) (i ∷ []) d s h (within, tt) in
    let many : length ds ≡ n = listed_length e n d ds h is in
    let found = member_found d ds i is (omega (arith, within, many)) in
    let same = only_some (tree_at (i ∷ []) d) row.0 (get_or ds i null) row.1 (ap (λ o. option_and_then (tree_at []) o) found) in
    let here : linear_index (i ∷ []) (n ∷ []) ≡ i = omega arith in (
      subst (Fits e) same row.2,
      ap (λ k. piece_at (size_of e) k (nested_bytes e (n ∷ []) d)) (sym here) ∙ row.3 ∙ ap (bytes_of e) same,
    )
  where
    listed_length : (e : Elem) (n : ℕ) (d : Data) (ds : List Data) → FitsNested e (n ∷ []) d → list_in d ≡ Some ds → length ds ≡ n
    listed_length e n d ds h is = cc (ap list_in h.1, h.2, is)
