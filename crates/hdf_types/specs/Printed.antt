-- The tree that spells a type, in its full form.
use Rattle.std.specs.Prelude.{ℕ, Bool, List, [], ◌∷◌, nat_eq, if◌then◌else◌, codes}
use Rattle.serde_json.specs.Data.{Data, number, unsigned, string, array, object, no_members, member}
use Rattle.serde_json.specs.View.{items_of}
use Rattle.hdf_types.specs.declared.IntType.{IntType}
use Rattle.hdf_types.specs.declared.TextType.{TextType}
use Rattle.hdf_types.specs.declared.Pad.{Pad}
use Rattle.hdf_types.specs.declared.Pad.TheVariants.{NullTerm, NullPad, SpacePad}
use Rattle.hdf_types.specs.Elems.{Elem, int, text, compound, FieldList, no_fields, field}

-- one of four names: signed or not, low byte first or high byte first
abbrev pub pick_of : IntType → List ℕ → List ℕ → List ℕ → List ℕ → List ℕ
pick_of t signed_low signed_high low high = if t.signed then (if t.big then signed_high else signed_low) else (if t.big then high else low)

unfoldable pub int_name : IntType → List ℕ
int_name t =
    if nat_eq t.bits 8 then pick_of t (codes "H5T_STD_I8LE") (codes "H5T_STD_I8BE") (codes "H5T_STD_U8LE") (codes "H5T_STD_U8BE")
    else (if nat_eq t.bits 16 then pick_of t (codes "H5T_STD_I16LE") (codes "H5T_STD_I16BE") (codes "H5T_STD_U16LE") (codes "H5T_STD_U16BE")
    else (if nat_eq t.bits 32 then pick_of t (codes "H5T_STD_I32LE") (codes "H5T_STD_I32BE") (codes "H5T_STD_U32LE") (codes "H5T_STD_U32BE")
    else pick_of t (codes "H5T_STD_I64LE") (codes "H5T_STD_I64BE") (codes "H5T_STD_U64LE") (codes "H5T_STD_U64BE")))

abbrev pub set_name : Bool → List ℕ
set_name utf8 = if utf8 then codes "H5T_CSET_UTF8" else codes "H5T_CSET_ASCII"

abbrev pub pad_name : Pad → List ℕ
pad_name NullTerm = codes "H5T_STR_NULLTERM"
pad_name NullPad = codes "H5T_STR_NULLPAD"
pad_name SpacePad = codes "H5T_STR_SPACEPAD"

abbrev pub int_tree : IntType → Data
int_tree t = object (member (codes "base") (string (int_name t)) (member (codes "class") (string (codes "H5T_INTEGER")) no_members))

abbrev pub text_tree : TextType → Data
text_tree t =
    object (member (codes "charSet") (string (set_name t.utf8)) (member (codes "class") (string (codes "H5T_STRING"))
    (member (codes "length") (number (unsigned t.len)) (member (codes "strPad") (string (pad_name t.pad)) no_members))))

abbrev pub field_tree : List ℕ → Data → Data
field_tree name inner = object (member (codes "name") (string name) (member (codes "type") inner no_members))

abbrev pub compound_tree : List Data → Data
compound_tree fields = object (member (codes "class") (string (codes "H5T_COMPOUND")) (member (codes "fields") (array (items_of fields)) no_members))

abbrev mutual
  pub type_tree : Elem → Data
  type_tree (int t) = int_tree t
  type_tree (text t) = text_tree t
  type_tree (compound fs) = compound_tree (fields_trees fs)

  pub fields_trees : FieldList → List Data
  fields_trees no_fields = []
  fields_trees (field n e rest) = field_tree n (type_tree e) ∷ fields_trees rest
