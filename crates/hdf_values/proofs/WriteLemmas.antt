-- The trees of pieces, one after another.
use Rattle.std.proofs.Common.{◌≡◌, ℕ, suc, ◌*◌, ◌/◌, ◌≤◌, max, List, [], ◌∷◌, ◌++◌, length, map, take, drop, get_or, ap, ◌∙◌, arith, mul_assoc}
use Rattle.std.proofs.Math.Nat.{mul-div_cancel_left}
use Rattle.std.proofs.lemmas.List.{append_assoc, map_push}
use Rattle.serde_json.specs.Data.{Data, array}
use Rattle.serde_json.specs.View.{view, items_of}
use Rattle.serde_json.specs.declared.value.Value.{Value}
use Rattle.hdf_types.specs.Elems.{Elem}
use Rattle.hdf_types.specs.Reading.{size_of}
use Rattle.shapes.specs.RowMajor.{cell_count}
use Rattle.hdf_values.specs.Nested.{nested_decoded, pieces, AreEncoded}
use Rattle.hdf_values.proofs.PieceLemmas.{encoded_parts}

pub piece_size : (n c s len : ℕ) → 1 ≤ n → len ≡ (n * c) * s → len / max n 1 ≡ c * s
piece_size n c s len h e =
    let most : max n 1 ≡ n = omega arith in
    rw (most, e, mul_assoc n c s) (mul-div_cancel_left (c * s) h)

pub piece_within : (m c s len : ℕ) → len ≡ (suc m * c) * s → c * s ≤ len
piece_within m c s len e = omega (arith, e)

-- the first piece, and the others
pub piece_encoded : (e : Elem) (c m : ℕ) (bs : List ℕ) → AreEncoded e (suc m * c) bs → AreEncoded e c (take (c * size_of e) bs) × AreEncoded e (m * c) (drop (c * size_of e) bs)
piece_encoded e c m bs h = encoded_parts e c (m * c) (suc m * c) bs (omega arith) h

pub tree_pushed : (dec : List ℕ → Data) (vs : List Value) (v : Value) (m k : ℕ) (left : List ℕ) (out : List Data) → view v ≡ dec (take k left)
    → map view vs ++ map dec (pieces (suc m) k left) ≡ out → map view (vs ++ v ∷ []) ++ map dec (pieces m k (drop k left)) ≡ out
tree_pushed dec vs v m k left out h e =
    let behind = map dec (pieces m k (drop k left)) in
    ap (λ ds. ds ++ behind) (map_push view vs v) ∙ append_assoc (map view vs) (view v ∷ []) behind ∙ ap (λ d. map view vs ++ d ∷ behind) h ∙ e

-- the whole list, with the first extent and the others apart
pub list_decoded : (e : Elem) (dims rest : List ℕ) (bs : List ℕ) (ds : List Data) → 1 ≤ length dims → rest ≡ drop 1 dims
    → ds ≡ map (nested_decoded e rest) (pieces (get_or dims 0 0) (cell_count rest * size_of e) bs) → array (items_of ds) ≡ nested_decoded e dims bs
list_decoded e [] rest bs ds h r k = absurd (omega arith)
list_decoded e (n ∷ ns) rest bs ds h r k = rw (k, r)
