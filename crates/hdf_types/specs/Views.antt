-- Types of elements, seen as plain data.
use Rattle.std.specs.Prelude.{ℕ, List, [], ◌∷◌}
use Rattle.hdf_types.specs.declared.types.ElemType.{ElemType}
use Rattle.hdf_types.specs.declared.types.ElemType.TheVariants.{Int, Text, Compound}
use Rattle.hdf_types.specs.declared.types.Field.{Field}
use Rattle.hdf_types.specs.Elems.{Elem, int, text, compound, FieldList, no_fields, field}

abbrev pub elem : ElemType → Elem
elem (Int t) = int t
elem (Text t) = text t
elem (Compound fs) = compound fs

-- a type as plain data, as what holds it
abbrev pub elem_type : Elem → ElemType
elem_type (int t) = Int t
elem_type (text t) = Text t
elem_type (compound fs) = Compound fs

abbrev pub field_list : List Field → FieldList
field_list [] = no_fields
field_list (f ∷ fs) = field f.name (elem f.elem) (field_list fs)

-- the names in order
abbrev pub field_names : List Field → List (List ℕ)
field_names [] = []
field_names (f ∷ fs) = f.name ∷ field_names fs
