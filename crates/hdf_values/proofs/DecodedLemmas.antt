-- One field's bytes after another, and the values that they stand for.
use Rattle.std.proofs.Common.{◌≡◌, ℕ, ◌+◌, ◌≤◌, ◌<◌, List, [], ◌∷◌, ◌++◌, map, length, get_or, take, drop, Result, Ok, Err, IfOk, refl, sym, ap, subst, ◌∙◌, arith}
use Rattle.std.proofs.lemmas.List.{drop_more}
use Rattle.serde_json.specs.Data.{Data}
use Rattle.serde_json.specs.View.{view}
use Rattle.serde_json.specs.declared.value.Value.{Value}
use Rattle.hdf_types.specs.declared.TheConstants.{MAX_SIZE}
use Rattle.hdf_types.specs.declared.types.Field.{Field}
use Rattle.hdf_types.specs.Elems.{Elem}
use Rattle.hdf_types.specs.Reading.{size_of, fields_size}
use Rattle.hdf_types.specs.Types.{IsFormed, AreFormed}
use Rattle.hdf_types.specs.Views.{elem, field_list}
use Rattle.hdf_values.specs.Elements.{Fits, bytes_of, normal, IsEncoded, AreEncodedFields, decoded, fields_decoded}
use Rattle.hdf_values.proofs.ElementLemmas.{decoded-bytes_of}
use Rattle.hdf_values.proofs.EncodedLemmas.{first_encoded}

-- the field at `i`, whose bytes are the first of those that are left, and the fields behind it
pub record IsNext (fs : List Field) (i : ℕ) (e : Elem) (left : List ℕ) : Type 0 where
  pub formed : IsFormed e
  pub small : size_of e ≤ MAX_SIZE
  pub long : size_of e ≤ length left
  pub encoded : IsEncoded e (take (size_of e) left)
  pub later_formed : AreFormed (field_list (drop (i + 1) fs))
  pub later_small : fields_size (field_list (drop (i + 1) fs)) ≤ MAX_SIZE
  pub later_encoded : AreEncodedFields (field_list (drop (i + 1) fs)) (drop (size_of e) left)
  pub values : fields_decoded (field_list (drop i fs)) left ≡ decoded e (take (size_of e) left) ∷ fields_decoded (field_list (drop (i + 1) fs)) (drop (size_of e) left)

pub next_field : (fs : List Field) (i : ℕ) (f : Field) (left : List ℕ) → i < length fs → f ≡ get_or fs i f → AreFormed (field_list (drop i fs)) → fields_size (field_list (drop i fs)) ≤ MAX_SIZE
    → AreEncodedFields (field_list (drop i fs)) left → IsNext fs i (elem f.elem) left
next_field fs i f left h at formed small encoded =
    let is = ap field_list (drop_more fs i f h ∙ ap (λ (g : Field). g ∷ drop (i + 1) fs) (sym at)) in
    let first = first_encoded (field_list (drop i fs)) f.name (elem f.elem) (field_list (drop (i + 1) fs)) left is formed encoded in
    let parts = subst AreFormed is formed in
    record {
      formed = parts.2;
      small = omega (arith, ap fields_size is);
      long = first.long;
      encoded = first.first;
      later_formed = parts.3;
      later_small = omega (arith, ap fields_size is);
      later_encoded = first.later;
      values = ap (λ gs. fields_decoded gs left) is;
    }

shown_more : (list : List Value) (v : Value) (ds : List Data) → map view (list ++ v ∷ []) ++ ds ≡ map view list ++ (view v ∷ ds)
shown_more [] v ds = refl
shown_more (w ∷ list) v ds = ap (λ xs. view w ∷ xs) (shown_more list v ds)

-- one more value, in front of what is left
pub values_more : (list now : List Value) (v : Value) (d : Data) (ds left whole : List Data) → now ≡ list ++ v ∷ [] → view v ≡ d → left ≡ d ∷ ds → map view list ++ left ≡ whole → map view now ++ ds ≡ whole
values_more list now v d ds left whole pushed shown is e =
    ap (λ (xs : List Value). map view xs ++ ds) pushed ∙ shown_more list v ds ∙ ap (λ x. map view list ++ (x ∷ ds)) shown ∙ ap (λ xs. map view list ++ xs) (sym is) ∙ e

pub decoded_normal : {E : Type 0} (r : Result Value E) (e : Elem) (d : Data) (bs : List ℕ) → IsFormed e → Fits e d → bytes_of e d ≡ bs → IfOk r (λ v. view v ≡ decoded e bs) → IfOk r (λ v. view v ≡ normal e d)
decoded_normal (Ok v) e d bs w h same is = is ∙ ap (decoded e) (sym same) ∙ decoded-bytes_of e d w h
decoded_normal (Err x) e d bs w h same is = tt
