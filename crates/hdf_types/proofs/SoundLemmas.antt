-- What a tree spells is a type within all limits.
use Rattle.std.proofs.Common.{◌≡◌, ℕ, ◌≤◌, List, [], ◌∷◌, inl, inr, Option, Some, Bool, true, false, cond, Result, Ok, Err, refl, subst, arith}
use Rattle.std.specs.Prelude.{IfOk}
use Rattle.std.specs.List.{AllByRecursion}
use Rattle.std.specs.Str.{bytes_eq}
use Rattle.serde_json.specs.Data.{Data}
use Rattle.json_trees.specs.Tables.{look_up}
use Rattle.hdf_types.specs.declared.IntType.{IntType}
use Rattle.hdf_types.specs.declared.types.ElemType.{ElemType}
use Rattle.hdf_types.specs.declared.faults.TypeFault.{TypeFault}
use Rattle.hdf_types.specs.Elems.{Elem, int, text, compound, FieldList, no_fields, field}
use Rattle.hdf_types.specs.Views.{elem}
use Rattle.hdf_types.specs.Reading.{int_names, int_named, int_size, size_of}
use Rattle.hdf_types.specs.Types.{IsWidth, IsTypeOf, AreFields, IsType, IsFormed, AreFormed, IsSoundType}

found_or : {A : Type 0} (b : Bool) (x y : A) (rest : Option A) (P : A → Type 0) → cond b (Some x) rest ≡ Some y → P x → (rest ≡ Some y → P y) → P y
found_or true x y rest P e here there = let same : x ≡ y = cc in subst P same here
found_or false x y rest P e here there = there e

-- what is true of each entry of a table is true of what is found
found : {A : Type 0} (P : A → Type 0) (name : List ℕ) (table : List (List ℕ × A)) (x : A) → AllByRecursion (λ entry. P entry.1) table → look_up name table ≡ Some x → P x
found P name [] x each e = cc
found P name (entry ∷ rest) x each e = found_or (bytes_eq name entry.0) entry.1 x (look_up name rest) P e each.0 (found P name rest x each.1)

named_width : (name : List ℕ) (t : IntType) → int_named name ≡ Some t → IsWidth t.bits
unfolding int_named
named_width name t e =
    found (λ u. IsWidth u.bits) name int_names t
    (inl refl, (inl refl, (inr (inl refl), (inr (inl refl), (inr (inr (inl refl)), (inr (inr (inl refl)), (inr (inr (inr refl)), (inr (inr (inr refl)), (inl refl, (inl refl, (inr (inl refl), (inr (inl refl), (inr (inr (inl refl)), (inr (inr (inl refl)), (inr (inr (inr refl)), (inr (inr (inr refl)), tt)))))))))))))))) e

mutual
  formed : (e : Elem) (d : Data) → IsTypeOf d e → IsFormed e
  formed (int t) d (inl h) = named_width h.0 t h.2
  formed (int t) d (inr h) = named_width h.1.2.0 t h.1.2.2
  formed (text t) d h = (h.some_length, h.short)
  formed (compound fs) d h = (h.2, h.3, h.4, fields_formed fs _ h.1.2)

  fields_formed : (fs : FieldList) (ds : List Data) → AreFields ds fs → AreFormed fs
  fields_formed no_fields ds h = tt
  fields_formed (field n e rest) [] h = absurd h
  fields_formed (field n e rest) (d ∷ ds) h = (h.1, h.2, formed e h.3.0 h.3.2, fields_formed rest ds h.4)

pub sound_type : (d : Data) (e : Elem) → IsType d e → IsSoundType e
sound_type d e h = record { formed = formed e d h.0; nested = h.1; small = h.2 }

pub gives_sound : (r : Result ElemType TypeFault) (d : Data) → IfOk r (λ e. IsType d (elem e)) → IfOk r (λ e. IsSoundType (elem e))
gives_sound (Ok e) d h = sound_type d (elem e) h
gives_sound (Err f) d h = tt

-- ---- an element has a byte

some_width : (bits : ℕ) → IsWidth bits → 1 ≤ int_size bits
some_width bits (inl e) = omega arith
some_width bits (inr (inl e)) = omega arith
some_width bits (inr (inr (inl e))) = omega arith
some_width bits (inr (inr (inr e))) = omega arith

pub some_size : (e : Elem) → IsFormed e → 1 ≤ size_of e
some_size (int t) h = some_width t.bits h
some_size (text t) h = h.0
some_size (compound no_fields) h = absurd (omega (arith, h.0))
some_size (compound (field n e rest)) h = omega (arith, some_size e h.3.2)
