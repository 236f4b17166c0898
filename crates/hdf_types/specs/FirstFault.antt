-- The first fault of a tree in other words: where it stands, what stands before it, and why it is one.
use Rattle.std.specs.Prelude.{◌≡◌, ℕ, suc, ◌-◌, ◌<◌, ◌≤◌, ◌⊎◌, false, true, Bool, List, [], ◌∷◌, length, take, slice_index_or, Some, codes}
use Rattle.std.specs.List.{AllByRecursion}
use Rattle.serde_json.specs.Data.{Data, Items, null, number, unsigned, string, array}
use Rattle.serde_json.specs.Find.{get}
use Rattle.json_trees.specs.Trees.{list_of, HasClass}
use Rattle.json_trees.specs.Tables.{look_up}
use Rattle.hdf_types.specs.declared.Pad.{Pad}
use Rattle.hdf_types.specs.declared.Pad.TheVariants.{NullTerm}
use Rattle.hdf_types.specs.declared.faults.Class.{Class}
use Rattle.hdf_types.specs.declared.faults.Class.TheVariants as classes
use Rattle.hdf_types.specs.declared.faults.Cause.{Cause}
use Rattle.hdf_types.specs.declared.faults.Cause.TheVariants.{NotAType, Unsupported, TooDeep, TooMany, BadLength, DupField, TooLarge}
use Rattle.hdf_types.specs.Elems.{Elem, FieldList, depth, fields_depth}
use Rattle.hdf_types.specs.Reading.{is_ieee, sets, pads, class_names, names_of, size_of}
use Rattle.hdf_types.specs.Types.{SpellsWord, IsDistinct, IsName, IsTypeOf, AreFields}

-- ---- the forms of a node

-- a name of IEEE's floats
abbrev pub IsFloatText : Data → Type 0
IsFloatText d = (name : List ℕ) × (d ≡ string name) × (is_ieee name ≡ true)

-- a class that arrays don't hold
abbrev pub NamesClass : Data → Class → Type 0
NamesClass d c =
    (IsFloatText d × (c ≡ classes.Float))
    ⊎ ((HasClass (codes "H5T_INTEGER") d × ((base : Data) × (get (codes "base") d ≡ Some base) × IsFloatText base) × (c ≡ classes.Float))
    ⊎ ((HasClass (codes "H5T_STRING") d × (get (codes "length") d ≡ Some (string (codes "H5T_VARIABLE"))) × (c ≡ classes.String))
    ⊎ ((word : List ℕ) × HasClass word d × (look_up word class_names ≡ Some c))))

-- a text of a fixed length, whatever this is
pub record IsSizedText (d : Data) (n : ℕ) : Type 0 where
  pub class : HasClass (codes "H5T_STRING") d
  pub char_set : (utf8 : Bool) × SpellsWord false sets (get (codes "charSet") d) utf8
  pub padding : (pad : Pad) × SpellsWord NullTerm pads (get (codes "strPad") d) pad
  pub length_given : get (codes "length") d ≡ Some (number (unsigned n))

-- a member of a compound has a name and a type
abbrev pub IsMember : Data → Type 0
IsMember d = ((name : List ℕ) × (get (codes "name") d ≡ Some (string name)) × IsName name) × ((inner : Data) × (get (codes "type") d ≡ Some inner))

-- a compound of these members, whatever their types are
pub record IsCompound (d : Data) (ds : List Data) : Type 0 where
  pub class : HasClass (codes "H5T_COMPOUND") d
  pub list : (items : Items) × (get (codes "fields") d ≡ Some (array items)) × (list_of items ≡ ds)
  pub some_field : 1 ≤ length ds
  pub members : AllByRecursion IsMember ds

-- none of these, and no type in which compounds nest at most `levels` deep
pub record IsOutside (levels : ℕ) (d : Data) : Type 0 where
  pub no_type : (e : Elem) → IsTypeOf d e → depth e ≤ levels → ⊥
  pub no_class : (c : Class) → NamesClass d c → ⊥
  pub no_text : (n : ℕ) → IsSizedText d n → ⊥
  pub no_compound : (ds : List Data) → IsCompound d ds → ⊥

-- ---- the fault of a node

-- members that spell types in which compounds nest at most `levels` deep
abbrev pub AreTypes : ℕ → List Data → FieldList → Type 0
AreTypes levels ds fs = AreFields ds fs × (fields_depth fs ≤ levels)

-- the names up to `k` stand once, and with the one at `k` they don't
abbrev pub IsFirstAgain : ℕ → List (List ℕ) → Type 0
IsFirstAgain k names = (k < length names) × IsDistinct (take k names) × (IsDistinct (take (suc k) names) → ⊥)

-- a compound that may have fields: it isn't too deep, and has no more than 64 members
abbrev pub IsOpen : ℕ → Data → List Data → Type 0
IsOpen levels d ds = IsCompound d ds × (1 ≤ levels) × (length ds ≤ 64)

-- the node has this cause, and none that is tried before it
abbrev pub HasCause : ℕ → Data → Cause → Type 0
HasCause levels d NotAType = IsOutside levels d
HasCause levels d (Unsupported c) = NamesClass d c
HasCause levels d TooDeep = (ds : List Data) × IsCompound d ds × (levels ≡ 0)
HasCause levels d TooMany = (ds : List Data) × IsCompound d ds × (1 ≤ levels) × (64 < length ds)
HasCause levels d BadLength = (n : ℕ) × IsSizedText d n × ((n ≡ 0) ⊎ (65535 < n))
HasCause levels d (DupField k) = (ds : List Data) × IsOpen levels d ds × ((fs : FieldList) × AreTypes (levels - 1) ds fs × IsFirstAgain k (names_of fs))
HasCause levels d TooLarge = ⊥

-- the node at this path has the cause; around it stand compounds that may have fields, and the fields before it are types
abbrev pub IsFault : ℕ → Data → List ℕ → Cause → Type 0
IsFault levels d [] c = HasCause levels d c
IsFault levels d (k ∷ path) c =
    (ds : List Data) × IsOpen levels d ds × (k < length ds) × ((fs : FieldList) × AreTypes (levels - 1) (take k ds) fs)
    × ((inner : Data) × (get (codes "type") (slice_index_or ds k null) ≡ Some inner) × IsFault (levels - 1) inner path c)

-- the first fault of a whole tree; where a node has one, or the tree is a type but for its size
abbrev pub IsFirstFault : Data → List ℕ → Cause → Type 0
IsFirstFault d path c = IsFault 4 d path c ⊎ ((path ≡ []) × (c ≡ TooLarge) × ((e : Elem) × IsTypeOf d e × (depth e ≤ 4) × (1048576 < size_of e)))
