-- A value and its bytes.
use Rattle.std.proofs.Common.{◌≡◌, ℕ, ◌≤◌, ℤ, pos, negsuc, List, [], ◌∷◌, ◌++◌, length, drop, cond, Option, Some, Ok, Err, refl, sym, ap, subst, ◌∙◌, arith, length-append}
use Rattle.std.specs.Option.{option_map_or}
use Rattle.std.proofs.lemmas.List.{take_at, drop_at}
use Rattle.std.proofs.lemmas.Str.{IsUtf8-nil}
use Rattle.serde_json.specs.Data.{Data, number, string, array}
use Rattle.serde_json.specs.Find.{of_integer}
use Rattle.serde_json.specs.View.{items_of}
use Rattle.json_trees.specs.Trees.{list_of}
use Rattle.hdf_types.specs.Elems.{Elem, int, text, compound, FieldList, no_fields, field}
use Rattle.hdf_types.specs.Reading.{size_of, fields_size}
use Rattle.hdf_types.specs.Types.{IsFormed, AreFormed}
use Rattle.hdf_values.specs.declared.faults.Misfit.{Misfit}
use Rattle.hdf_values.specs.declared.faults.Misfit.TheVariants.{OutOfRange}
use Rattle.hdf_values.specs.Integers.{integer_in, int_bytes, int_value}
use Rattle.hdf_values.specs.Texts.{padded, without_end, fill}
use Rattle.hdf_values.specs.Elements.{Fits, FitFields, bytes_of, fields_bytes, normal, fields_normal, decoded, fields_decoded, zero_of, zeros_of, encoded, fields_encoded, int_encoded, misfit_or, joined}
use Rattle.hdf_values.proofs.IntegerLemmas.{range_read, length-int_bytes, value-bytes, zero_in_range}
use Rattle.hdf_values.proofs.TextLemmas.{text_read, length-padded, kept-padded, fits_kept, utf8_kept, padded_again, empty_fits, most_short}

-- ---- words

pub list_of-items_of : (ds : List Data) → list_of (items_of ds) ≡ ds
list_of-items_of [] = refl
list_of-items_of (d ∷ ds) = ap (λ xs. d ∷ xs) (list_of-items_of ds)

pub integer_in-number : (z : ℤ) → integer_in (number (of_integer z)) ≡ Some z
integer_in-number (pos n) = refl
integer_in-number (negsuc n) = refl

-- ---- a value has the size of its type

mutual
  pub length-bytes_of : (e : Elem) (d : Data) → IsFormed e → Fits e d → length (bytes_of e d) ≡ size_of e
  length-bytes_of (int t) d w h = ap (λ z. length (option_map_or (int_bytes t) z [])) h.1 ∙ length-int_bytes t h.0
  length-bytes_of (text t) d w h = ap (λ x. length (bytes_of (text t) x)) h.1 ∙ length-padded t h.0 h.3
  length-bytes_of (compound fs) d w h = ap (λ x. length (bytes_of (compound fs) x)) h.1 ∙ length-fields_bytes fs (list_of h.0) w.3 h.2

  pub length-fields_bytes : (fs : FieldList) (ds : List Data) → AreFormed fs → FitFields fs ds → length (fields_bytes fs ds) ≡ fields_size fs
  length-fields_bytes no_fields ds w h = refl
  length-fields_bytes (field n e rest) [] w h = absurd h
  length-fields_bytes (field n e rest) (d ∷ ds) w h =
      omega (arith, length-append (bytes_of e d) (fields_bytes rest ds), length-bytes_of e d w.2 h.0, length-fields_bytes rest ds w.3 h.1)

-- ---- what is written reads back

mutual
  pub decoded-bytes_of : (e : Elem) (d : Data) → IsFormed e → Fits e d → decoded e (bytes_of e d) ≡ normal e d
  decoded-bytes_of (int t) d w h =
      let P = λ (o : Option ℤ). number (of_integer (int_value t (option_map_or (int_bytes t) o []))) ≡ option_map_or (λ z. number (of_integer z)) o d in
      subst P (sym h.1) (ap (λ z. number (of_integer z)) (value-bytes t h.0 w h.2))
  decoded-bytes_of (text t) d w h =
      let P = λ (x : Data). decoded (text t) (bytes_of (text t) x) ≡ normal (text t) x in
      subst P (sym h.1) (ap string (kept-padded t h.0))
  decoded-bytes_of (compound fs) d w h =
      let P = λ (x : Data). decoded (compound fs) (bytes_of (compound fs) x) ≡ normal (compound fs) x in
      subst P (sym h.1) (ap (λ ds. array (items_of ds)) (decoded-fields_bytes fs (list_of h.0) w.3 h.2))

  pub decoded-fields_bytes : (fs : FieldList) (ds : List Data) → AreFormed fs → FitFields fs ds → fields_decoded fs (fields_bytes fs ds) ≡ fields_normal fs ds
  decoded-fields_bytes no_fields ds w h = refl
  decoded-fields_bytes (field n e rest) [] w h = absurd h
  decoded-fields_bytes (field n e rest) (d ∷ ds) w h =
      let size = length-bytes_of e d w.2 h.0 in
      let front = take_at (bytes_of e d) (fields_bytes rest ds) (size_of e) size in
      let back = drop_at (bytes_of e d) (fields_bytes rest ds) (size_of e) size in
      ap (λ bs. decoded e bs ∷ fields_decoded rest (drop (size_of e) (bytes_of e d ++ fields_bytes rest ds))) front
      ∙ ap (λ bs. decoded e (bytes_of e d) ∷ fields_decoded rest bs) back
      ∙ ap (λ x. x ∷ fields_decoded rest (fields_bytes rest ds)) (decoded-bytes_of e d w.2 h.0)
      ∙ ap (λ xs. normal e d ∷ xs) (decoded-fields_bytes rest ds w.3 h.1)

-- ---- what is read back is a value with the same bytes

mutual
  pub normal_fits : (e : Elem) (d : Data) → Fits e d → Fits e (normal e d)
  normal_fits (int t) d h =
      let P = λ (o : Option ℤ). Fits (int t) (option_map_or (λ z. number (of_integer z)) o d) in
      subst P (sym h.1) (h.0, integer_in-number h.0, h.2)
  normal_fits (text t) d h =
      let P = λ (x : Data). Fits (text t) (normal (text t) x) in
      subst P (sym h.1) (without_end (fill t.pad) h.0, refl, utf8_kept t.pad h.0 h.2, fits_kept t h.0 h.3)
  normal_fits (compound fs) d h =
      let P = λ (x : Data). Fits (compound fs) (normal (compound fs) x) in
      let ds = fields_normal fs (list_of h.0) in
      subst P (sym h.1) (items_of ds, refl, subst (FitFields fs) (sym (list_of-items_of ds)) (normals_fit fs (list_of h.0) h.2))

  pub normals_fit : (fs : FieldList) (ds : List Data) → FitFields fs ds → FitFields fs (fields_normal fs ds)
  normals_fit no_fields [] h = tt
  normals_fit no_fields (d ∷ ds) h = absurd h
  normals_fit (field n e rest) [] h = absurd h
  normals_fit (field n e rest) (d ∷ ds) h = (normal_fits e d h.0, normals_fit rest ds h.1)

mutual
  pub bytes_of-normal : (e : Elem) (d : Data) → Fits e d → bytes_of e (normal e d) ≡ bytes_of e d
  bytes_of-normal (int t) d h =
      let P = λ (o : Option ℤ). bytes_of (int t) (option_map_or (λ z. number (of_integer z)) o d) ≡ option_map_or (int_bytes t) o [] in
      subst P (sym h.1) (ap (λ o. option_map_or (int_bytes t) o []) (integer_in-number h.0))
  bytes_of-normal (text t) d h =
      let P = λ (x : Data). bytes_of (text t) (normal (text t) x) ≡ bytes_of (text t) x in
      let short : length h.0 ≤ t.len = omega (arith, h.3.short, most_short t.pad t.len) in
      subst P (sym h.1) (padded_again t h.0 short)
  bytes_of-normal (compound fs) d h =
      let P = λ (x : Data). bytes_of (compound fs) (normal (compound fs) x) ≡ bytes_of (compound fs) x in
      let ds = fields_normal fs (list_of h.0) in
      subst P (sym h.1) (ap (fields_bytes fs) (list_of-items_of ds) ∙ fields_bytes-normal fs (list_of h.0) h.2)

  pub fields_bytes-normal : (fs : FieldList) (ds : List Data) → FitFields fs ds → fields_bytes fs (fields_normal fs ds) ≡ fields_bytes fs ds
  fields_bytes-normal no_fields ds h = refl
  fields_bytes-normal (field n e rest) [] h = absurd h
  fields_bytes-normal (field n e rest) (d ∷ ds) h =
      ap (λ bs. bs ++ fields_bytes rest (fields_normal rest ds)) (bytes_of-normal e d h.0) ∙ ap (λ bs. bytes_of e d ++ bs) (fields_bytes-normal rest ds h.1)

-- ---- a value passes the tests

mutual
  pub encoded-fits : (e : Elem) (d : Data) → Fits e d → encoded e d ≡ Ok (bytes_of e d)
  encoded-fits (int t) d h =
      let P = λ (o : Option ℤ). int_encoded t o ≡ Ok (option_map_or (int_bytes t) o []) in
      subst P (sym h.1) (ap (λ b. cond b (Ok (int_bytes t h.0)) (Err OutOfRange)) (range_read t h.0 h.2))
  encoded-fits (text t) d h =
      let P = λ (x : Data). encoded (text t) x ≡ Ok (bytes_of (text t) x) in
      subst P (sym h.1) (ap (λ m. misfit_or m (padded t h.0)) (text_read t h.0 h.3))
  encoded-fits (compound fs) d h =
      let P = λ (x : Data). encoded (compound fs) x ≡ Ok (bytes_of (compound fs) x) in
      subst P (sym h.1) (encoded-fit_fields fs (list_of h.0) h.2)

  pub encoded-fit_fields : (fs : FieldList) (ds : List Data) → FitFields fs ds → fields_encoded fs ds ≡ Ok (fields_bytes fs ds)
  encoded-fit_fields no_fields [] h = refl
  encoded-fit_fields no_fields (d ∷ ds) h = absurd h
  encoded-fit_fields (field n e rest) [] h = absurd h
  encoded-fit_fields (field n e rest) (d ∷ ds) h =
      ap (λ r. joined r (fields_encoded rest ds)) (encoded-fits e d h.0) ∙ ap (λ r. joined (Ok (bytes_of e d)) r) (encoded-fit_fields rest ds h.1)

pub no_fault : (e : Elem) (d : Data) (m : Misfit) → encoded e d ≡ Err m → Fits e d → ⊥
no_fault e d m fault h = let value = encoded-fits e d h in cc

pub bytes_written : (e : Elem) (d : Data) (bs : List ℕ) → Fits e d → Ok bs ≡ encoded e d → bs ≡ bytes_of e d
bytes_written e d bs h is = let value = encoded-fits e d h in cc

-- ---- 0 and the empty text

mutual
  pub zero_fits : (e : Elem) → IsFormed e → Fits e (zero_of e)
  zero_fits (int t) w = (pos 0, refl, zero_in_range t w)
  zero_fits (text t) w = ([], refl, IsUtf8-nil, empty_fits t)
  zero_fits (compound fs) w = (items_of (zeros_of fs), refl, subst (FitFields fs) (sym (list_of-items_of (zeros_of fs))) (zeros_fit fs w.3))

  pub zeros_fit : (fs : FieldList) → AreFormed fs → FitFields fs (zeros_of fs)
  zeros_fit no_fields w = tt
  zeros_fit (field n e rest) w = (zero_fits e w.2, zeros_fit rest w.3)
