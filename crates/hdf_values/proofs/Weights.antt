-- How many nodes a type has: the measure of a walk over its fields.
use Rattle.std.proofs.Common.{◌≡◌, ℕ, zero, suc, ◌+◌, ◌<◌, List, [], ◌∷◌, length, get_or, ap, arith}
use Rattle.hdf_types.specs.declared.types.Field.{Field}
use Rattle.hdf_types.specs.Elems.{Elem, int, text, compound, FieldList, no_fields, field}
use Rattle.hdf_types.specs.Views.{elem, field_list}

abbrev mutual
  pub weight : Elem → ℕ
  weight (int t) = 0
  weight (text t) = 0
  weight (compound fs) = fields_weight fs + 1

  pub fields_weight : FieldList → ℕ
  fields_weight no_fields = 0
  fields_weight (field n e rest) = weight e + fields_weight rest + 1

pub lighter : (fs : List Field) (i : ℕ) (f : Field) → i < length fs → f ≡ get_or fs i f → weight (elem f.elem) < fields_weight (field_list fs)
lighter [] i f h is = absurd (omega arith)
lighter (g ∷ fs) zero f h is =
    let same : weight (elem f.elem) ≡ weight (elem g.elem) = ap (λ (x : Field). weight (elem x.elem)) is in
    omega (arith, same)
lighter (g ∷ fs) (suc i) f h is = omega (arith, lighter fs i f (omega arith) is)
