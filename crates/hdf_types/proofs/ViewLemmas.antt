-- A type, and the same as plain data.
use Rattle.std.proofs.Common.{◌≡◌, refl}
use Rattle.hdf_types.specs.Elems.{Elem, int, text, compound}
use Rattle.hdf_types.specs.Views.{elem, elem_type}
use Rattle.hdf_types.specs.declared.types.ElemType.{ElemType}
use Rattle.hdf_types.specs.declared.types.ElemType.TheVariants.{Int, Text, Compound}

pub elem-elem_type : (e : Elem) → elem (elem_type e) ≡ e
elem-elem_type (int t) = refl
elem-elem_type (text t) = refl
elem-elem_type (compound fs) = refl

pub elem_type-elem : (t : ElemType) → elem_type (elem t) ≡ t
elem_type-elem (Int t) = refl
elem_type-elem (Text t) = refl
elem_type-elem (Compound fs) = refl
