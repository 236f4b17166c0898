-- Elements: which trees are values of a type, their bytes, and the values that bytes stand for.
use Rattle.std.specs.Prelude.{◌≡◌, ℕ, ℤ, true, List, [], ◌∷◌, ◌++◌, take, drop, Option, Some, None, Result, Ok, Err, IsUtf8, ⊤, if◌then◌else◌}
use Rattle.std.specs.Option.{option_map_or}
use Rattle.serde_json.specs.Data.{Data, Items, number, unsigned, string, array}
use Rattle.serde_json.specs.Find.{of_integer, as_str}
use Rattle.serde_json.specs.View.{items_of}
use Rattle.json_trees.specs.Trees.{list_of, list_in}
use Rattle.hdf_types.specs.declared.IntType.{IntType}
use Rattle.hdf_types.specs.declared.TextType.{TextType}
use Rattle.hdf_types.specs.Elems.{Elem, int, text, compound, FieldList, no_fields, field}
use Rattle.hdf_types.specs.Reading.{size_of}
use Rattle.hdf_values.specs.declared.faults.Misfit.{Misfit}
use Rattle.hdf_values.specs.declared.faults.Misfit.TheVariants.{NotOfType, OutOfRange}
use Rattle.hdf_values.specs.Faults.{lower}
use Rattle.hdf_values.specs.Integers.{integer_in, IsInRange, in_range, int_bytes, int_value}
use Rattle.hdf_values.specs.Texts.{FitsText, text_misfit, padded, without_end, fill}

-- ---- values and their bytes

abbrev mutual
  -- the tree is a value of the type
  pub Fits : Elem → Data → Type 0
  Fits (int t) d = (z : ℤ) × (integer_in d ≡ Some z) × IsInRange t z
  Fits (text t) d = (s : List ℕ) × (d ≡ string s) × IsUtf8 s × FitsText t s
  Fits (compound fs) d = (items : Items) × (d ≡ array items) × FitFields fs (list_of items)

  -- a value for each field, in order
  pub FitFields : FieldList → List Data → Type 0
  FitFields no_fields [] = Unit {0}
  FitFields no_fields (d ∷ ds) = ⊥
  FitFields (field n e rest) [] = ⊥
  FitFields (field n e rest) (d ∷ ds) = Fits e d × FitFields rest ds

abbrev mutual
  -- the bytes of a value: those of its parts, one after another
  pub bytes_of : Elem → Data → List ℕ
  bytes_of (int t) d = option_map_or (int_bytes t) (integer_in d) []
  bytes_of (text t) d = option_map_or (padded t) (as_str d) []
  bytes_of (compound fs) d = option_map_or (fields_bytes fs) (list_in d) []

  pub fields_bytes : FieldList → List Data → List ℕ
  fields_bytes no_fields ds = []
  fields_bytes (field n e rest) [] = []
  fields_bytes (field n e rest) (d ∷ ds) = bytes_of e d ++ fields_bytes rest ds

abbrev mutual
  -- a value without the filling of its texts
  pub normal : Elem → Data → Data
  normal (int t) d = option_map_or (λ z. number (of_integer z)) (integer_in d) d
  normal (text t) d = option_map_or (λ s. string (without_end (fill t.pad) s)) (as_str d) d
  normal (compound fs) d = option_map_or (λ ds. array (items_of (fields_normal fs ds))) (list_in d) d

  pub fields_normal : FieldList → List Data → List Data
  fields_normal no_fields ds = []
  fields_normal (field n e rest) [] = []
  fields_normal (field n e rest) (d ∷ ds) = normal e d ∷ fields_normal rest ds

-- some value has these bytes
abbrev pub IsEncoded : Elem → List ℕ → Type 0
IsEncoded e bs = (d : Data) × Fits e d × (bytes_of e d ≡ bs)

-- the fields' bytes one after another, each some value's
abbrev pub AreEncodedFields : FieldList → List ℕ → Type 0
AreEncodedFields no_fields bs = bs ≡ []
AreEncodedFields (field n e rest) bs = (front : List ℕ) × (back : List ℕ) × (bs ≡ front ++ back) × IsEncoded e front × AreEncodedFields rest back

abbrev mutual
  -- the value that bytes stand for
  pub decoded : Elem → List ℕ → Data
  decoded (int t) bs = number (of_integer (int_value t bs))
  decoded (text t) bs = string (without_end (fill t.pad) bs)
  decoded (compound fs) bs = array (items_of (fields_decoded fs bs))

  pub fields_decoded : FieldList → List ℕ → List Data
  fields_decoded no_fields bs = []
  fields_decoded (field n e rest) bs = decoded e (take (size_of e) bs) ∷ fields_decoded rest (drop (size_of e) bs)

abbrev mutual
  -- 0 and the empty text in each part
  pub zero_of : Elem → Data
  zero_of (int t) = number (unsigned 0)
  zero_of (text t) = string []
  zero_of (compound fs) = array (items_of (zeros_of fs))

  pub zeros_of : FieldList → List Data
  zeros_of no_fields = []
  zeros_of (field n e rest) = zero_of e ∷ zeros_of rest

-- ---- the tests: of all that the parts fail, the lowest

abbrev pub int_encoded : IntType → Option ℤ → Result (List ℕ) Misfit
int_encoded t None = Err NotOfType
int_encoded t (Some z) = if in_range t z then Ok (int_bytes t z) else Err OutOfRange

-- the number of the type that a tree is, where it is this whole number or none
abbrev pub IsNumberIn : IntType → Option ℤ → Result ℤ Misfit → Type 0
IsNumberIn t o (Ok z) = (o ≡ Some z) × (in_range t z ≡ true)
IsNumberIn t o (Err m) = int_encoded t o ≡ Err m

abbrev pub misfit_or : Option Misfit → List ℕ → Result (List ℕ) Misfit
misfit_or (Some m) bs = Err m
misfit_or None bs = Ok bs

abbrev pub text_encoded : TextType → Option (List ℕ) → Result (List ℕ) Misfit
text_encoded t None = Err NotOfType
text_encoded t (Some s) = misfit_or (text_misfit t s) (padded t s)

-- one part after another; of two faults the lower
abbrev pub joined : Result (List ℕ) Misfit → Result (List ℕ) Misfit → Result (List ℕ) Misfit
joined (Ok a) (Ok b) = Ok (a ++ b)
joined (Ok a) (Err n) = Err n
joined (Err m) (Ok b) = Err m
joined (Err m) (Err n) = Err (lower m n)

abbrev pub listed_or : (List Data → Result (List ℕ) Misfit) → Option (List Data) → Result (List ℕ) Misfit
listed_or read None = Err NotOfType
listed_or read (Some ds) = read ds

-- the bytes of a tree, or why it is no value: of a tree whose texts are UTF-8 (`AreTexts`), since no test asks that
abbrev mutual
  pub encoded : Elem → Data → Result (List ℕ) Misfit
  encoded (int t) d = int_encoded t (integer_in d)
  encoded (text t) d = text_encoded t (as_str d)
  encoded (compound fs) d = listed_or (fields_encoded fs) (list_in d)

  pub fields_encoded : FieldList → List Data → Result (List ℕ) Misfit
  fields_encoded no_fields [] = Ok []
  fields_encoded no_fields (d ∷ ds) = Err NotOfType
  fields_encoded (field n e rest) [] = Err NotOfType
  fields_encoded (field n e rest) (d ∷ ds) = joined (encoded e d) (fields_encoded rest ds)

-- what a call wrote, where it was Ok
abbrev pub outcome : {E : Type 0} → Result ⊤ E → List ℕ → Result (List ℕ) E
outcome (Ok u) bs = Ok bs
outcome (Err f) bs = Err f
