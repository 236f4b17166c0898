-- The tests of a tree in order: a node's own faults before its fields, the fields in order, a name
-- that stands twice after them, and the size last.
use Rattle.std.specs.Prelude.{ℕ, zero, suc, ◌+◌, ◌/◌, ◌&&◌, Bool, true, false, List, [], ◌∷◌, ◌++◌, length, Option, Some, None, is_some, option_and_then, Result, Ok, Err, nat_le, nat_eq, if◌then◌else◌, codes}
use Rattle.std.specs.Option.{option_map_or, ok_or}
use Rattle.std.specs.List.{starts_with, list_any}
use Rattle.std.specs.Str.{bytes_eq}
use Rattle.serde_json.specs.Data.{Data}
use Rattle.serde_json.specs.Find.{get, as_str}
use Rattle.json_trees.specs.Trees.{list_in, whole_in, text_at}
use Rattle.json_trees.specs.Faults.{◌>>=◌}
use Rattle.json_trees.specs.Tables.{look_up}
use Rattle.hdf_types.specs.declared.IntType.{IntType}
use Rattle.hdf_types.specs.declared.Pad.{Pad}
use Rattle.hdf_types.specs.declared.Pad.TheVariants.{NullTerm, NullPad, SpacePad}
use Rattle.hdf_types.specs.declared.faults.Class.{Class}
use Rattle.hdf_types.specs.declared.faults.Class.TheVariants as classes
use Rattle.hdf_types.specs.declared.faults.Cause.{Cause}
use Rattle.hdf_types.specs.declared.faults.Cause.TheVariants.{NotAType, Unsupported, TooDeep, TooMany, BadLength, DupField, TooLarge}
use Rattle.hdf_types.specs.declared.TheConstants.{MAX_NESTING, MAX_FIELDS, MAX_TEXT, MAX_NAME, MAX_SIZE}
use Rattle.hdf_types.specs.Elems.{Elem, int, text, compound, FieldList, no_fields, field}
use Rattle.hdf_types.specs.Faults.{Fault, fault}

-- ---- integers

abbrev pub int_type : Bool → ℕ → Bool → IntType
int_type signed bits big = record { signed = signed; bits = bits; big = big }

abbrev pub int_names : List (List ℕ × IntType)
int_names =
    (codes "H5T_STD_I8LE", int_type true 8 false) ∷ (codes "H5T_STD_I8BE", int_type true 8 true)
    ∷ (codes "H5T_STD_I16LE", int_type true 16 false) ∷ (codes "H5T_STD_I16BE", int_type true 16 true)
    ∷ (codes "H5T_STD_I32LE", int_type true 32 false) ∷ (codes "H5T_STD_I32BE", int_type true 32 true)
    ∷ (codes "H5T_STD_I64LE", int_type true 64 false) ∷ (codes "H5T_STD_I64BE", int_type true 64 true)
    ∷ (codes "H5T_STD_U8LE", int_type false 8 false) ∷ (codes "H5T_STD_U8BE", int_type false 8 true)
    ∷ (codes "H5T_STD_U16LE", int_type false 16 false) ∷ (codes "H5T_STD_U16BE", int_type false 16 true)
    ∷ (codes "H5T_STD_U32LE", int_type false 32 false) ∷ (codes "H5T_STD_U32BE", int_type false 32 true)
    ∷ (codes "H5T_STD_U64LE", int_type false 64 false) ∷ (codes "H5T_STD_U64BE", int_type false 64 true)
    ∷ []

unfoldable pub int_named : List ℕ → Option IntType
int_named name = look_up name int_names

abbrev pub is_ieee : List ℕ → Bool
is_ieee name = starts_with nat_eq name (codes "H5T_IEEE_")

abbrev pub name_cause : List ℕ → Cause
name_cause name = if is_ieee name then Unsupported classes.Float else NotAType

abbrev pub int_or : Option IntType → List ℕ → List ℕ → Result Elem Fault
int_or (Some t) path name = Ok (int t)
int_or None path name = Err (fault path (name_cause name))

unfoldable pub named_at : List ℕ → List ℕ → Result Elem Fault
named_at path name = int_or (int_named name) path name

abbrev pub based_at : List ℕ → Option (List ℕ) → Result Elem Fault
based_at path None = Err (fault path NotAType)
based_at path (Some name) = named_at path name

unfoldable pub integer_at : List ℕ → Data → Result Elem Fault
integer_at path d = based_at path (text_at (codes "base") d)

-- ---- texts

abbrev pub sets : List (List ℕ × Bool)
sets = (codes "H5T_CSET_ASCII", false) ∷ (codes "H5T_CSET_UTF8", true) ∷ []

abbrev pub pads : List (List ℕ × Pad)
pads = (codes "H5T_STR_NULLTERM", NullTerm) ∷ (codes "H5T_STR_NULLPAD", NullPad) ∷ (codes "H5T_STR_SPACEPAD", SpacePad) ∷ []

-- what a word stands for, with a default where there is none
abbrev pub word_or : {A : Type 0} → A → List (List ℕ × A) → Option Data → Option A
word_or a table None = Some a
word_or a table (Some d) = option_and_then (λ s. look_up s table) (as_str d)

abbrev pub is_variable : Data → Bool
is_variable d = option_map_or (λ s. bytes_eq s (codes "H5T_VARIABLE")) (text_at (codes "length") d) false

abbrev pub is_good_length : ℕ → Bool
is_good_length n = nat_le 1 n && nat_le n MAX_TEXT

unfoldable pub sized_at : List ℕ → Bool → Pad → ℕ → Result Elem Fault
sized_at path utf8 pad n = if is_good_length n then Ok (text (record { utf8 = utf8; pad = pad; len = n })) else Err (fault path BadLength)

unfoldable pub string_at : List ℕ → Data → Result Elem Fault
string_at path d =
    if is_variable d then Err (fault path (Unsupported classes.String))
    else (ok_or (word_or false sets (get (codes "charSet") d)) (fault path NotAType) >>= λ utf8.
    ok_or (word_or NullTerm pads (get (codes "strPad") d)) (fault path NotAType) >>= λ pad.
    ok_or (option_and_then whole_in (get (codes "length") d)) (fault path NotAType) >>= λ n. sized_at path utf8 pad n)

-- ---- compounds

abbrev pub is_good_name : List ℕ → Bool
is_good_name name = nat_le 1 (length name) && nat_le (length name) MAX_NAME

-- a member of `fields` has a good name and a type
abbrev pub name_in : Data → Option (List ℕ)
name_in d = option_and_then (λ name. if is_good_name name then Some name else None) (text_at (codes "name") d)

abbrev pub is_member : Data → Bool
is_member d = is_some (name_in d) && is_some (get (codes "type") d)

abbrev pub list_pass : List Data → Bool
list_pass [] = true
list_pass (d ∷ ds) = is_member d && list_pass ds

abbrev pub some_members : List Data → Option (List Data)
some_members ds = if nat_le 1 (length ds) && list_pass ds then Some ds else None

unfoldable pub members_in : Data → Option (List Data)
members_in d = option_and_then some_members (option_and_then list_in (get (codes "fields") d))

-- the names in order
abbrev pub names_of : FieldList → List (List ℕ)
names_of no_fields = []
names_of (field n e rest) = n ∷ names_of rest

-- the first name, from `k` on, that stands among those before it
abbrev pub first_again : ℕ → List (List ℕ) → List (List ℕ) → Option ℕ
first_again k earlier [] = None
first_again k earlier (n ∷ ns) = if list_any (λ m. bytes_eq m n) earlier then Some k else first_again (suc k) (earlier ++ n ∷ []) ns

abbrev pub again_or : Option ℕ → List ℕ → FieldList → Result FieldList Fault
again_or (Some k) path fs = Err (fault path (DupField k))
again_or None path fs = Ok fs

unfoldable pub distinct_at : List ℕ → FieldList → Result FieldList Fault
distinct_at path fs = again_or (first_again 0 [] (names_of fs)) path fs

-- a member with its name and type
pub record Member : Type 0 where
  pub name : List ℕ
  pub elem : Elem

abbrev pub named_member : List ℕ → Elem → Result Member Fault
named_member n e = Ok (record { name = n; elem = e })

unfoldable pub member_at : (List ℕ → Data → Result Elem Fault) → List ℕ → ℕ → Data → Result Member Fault
member_at read path k d =
    ok_or (name_in d) (fault path NotAType) >>= λ name.
    ok_or (get (codes "type") d) (fault path NotAType) >>= λ inner.
    read (path ++ k ∷ []) inner >>= named_member name

abbrev pub add_member : Member → FieldList → Result FieldList Fault
add_member m rest = Ok (field m.name m.elem rest)

-- the members from `k` on
abbrev pub each_at : (List ℕ → Data → Result Elem Fault) → List ℕ → ℕ → List Data → Result FieldList Fault
each_at read path k [] = Ok no_fields
each_at read path k (d ∷ ds) = member_at read path k d >>= λ m. each_at read path (suc k) ds >>= add_member m

unfoldable pub listed_at : (List ℕ → Data → Result Elem Fault) → List ℕ → List Data → Result FieldList Fault
listed_at read path ds = if nat_le (length ds) MAX_FIELDS then each_at read path 0 ds >>= distinct_at path else Err (fault path TooMany)

-- ---- a node, given how the fields of a compound are read

abbrev pub class_names : List (List ℕ × Class)
class_names =
    (codes "H5T_FLOAT", classes.Float) ∷ (codes "H5T_REFERENCE", classes.Reference) ∷ (codes "H5T_VLEN", classes.Vlen) ∷ (codes "H5T_OPAQUE", classes.Opaque)
    ∷ (codes "H5T_BITFIELD", classes.Bitfield) ∷ (codes "H5T_ARRAY", classes.Array) ∷ (codes "H5T_ENUM", classes.Enum) ∷ (codes "H5T_TIME", classes.Time) ∷ []

abbrev pub cause_or : Option Class → Cause
cause_or (Some c) = Unsupported c
cause_or None = NotAType

unfoldable pub class_cause : List ℕ → Cause
class_cause name = cause_or (look_up name class_names)

abbrev pub classed_by : (List ℕ → Data → Result FieldList Fault) → List ℕ → Option (List ℕ) → Data → Result Elem Fault
classed_by fields path None d = Err (fault path NotAType)
classed_by fields path (Some class) d =
    if bytes_eq class (codes "H5T_INTEGER") then integer_at path d
    else (if bytes_eq class (codes "H5T_STRING") then string_at path d
    else (if bytes_eq class (codes "H5T_COMPOUND") then (fields path d >>= λ fs. Ok (compound fs)) else Err (fault path (class_cause class))))

abbrev pub worded_by : (List ℕ → Data → Result FieldList Fault) → List ℕ → Option (List ℕ) → Data → Result Elem Fault
worded_by fields path (Some name) d = named_at path name
worded_by fields path None d = classed_by fields path (text_at (codes "class") d) d

unfoldable pub node_by : (List ℕ → Data → Result FieldList Fault) → List ℕ → Data → Result Elem Fault
node_by fields path d = worded_by fields path (as_str d) d

unfoldable pub compound_by : (List ℕ → List Data → Result FieldList Fault) → List ℕ → Data → Result FieldList Fault
compound_by fields path d = ok_or (members_in d) (fault path NotAType) >>= fields path

-- the fields of a compound, in which compounds nest less than `levels` deep
unfoldable pub fields_at : ℕ → List ℕ → List Data → Result FieldList Fault
fields_at zero path ds = Err (fault path TooDeep)
fields_at (suc levels) path ds = listed_at (node_by (compound_by (fields_at levels))) path ds

abbrev pub node_at : ℕ → List ℕ → Data → Result Elem Fault
node_at levels path d = node_by (compound_by (fields_at levels)) path d

-- ---- the bytes of one element

abbrev pub int_size : ℕ → ℕ
int_size bits = bits / 8

abbrev mutual
  pub size_of : Elem → ℕ
  size_of (int t) = int_size t.bits
  size_of (text t) = t.len
  size_of (compound fs) = fields_size fs

  pub fields_size : FieldList → ℕ
  fields_size no_fields = 0
  fields_size (field n e rest) = size_of e + fields_size rest

abbrev pub within_at : Elem → Result Elem Fault
within_at e = if nat_le (size_of e) MAX_SIZE then Ok e else Err (fault [] TooLarge)

-- the type that a tree spells, or its first fault
unfoldable pub type_of : Data → Result Elem Fault
type_of d = node_at MAX_NESTING [] d >>= within_at
