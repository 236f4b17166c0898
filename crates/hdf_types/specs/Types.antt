-- Which trees spell which types: the grammar, in no order.
use Rattle.std.specs.Prelude.{◌≡◌, ℕ, ◌≤◌, ◌⊎◌, false, List, [], ◌∷◌, length, ◌≢◌, Option, Some, MatchOption, codes}
use Rattle.std.specs.List.{AllByRecursion}
use Rattle.serde_json.specs.Data.{Data, Items, number, unsigned, string, array}
use Rattle.serde_json.specs.Find.{get}
use Rattle.json_trees.specs.Trees.{list_of, HasClass}
use Rattle.json_trees.specs.Tables.{look_up}
use Rattle.hdf_types.specs.declared.IntType.{IntType}
use Rattle.hdf_types.specs.declared.TextType.{TextType}
use Rattle.hdf_types.specs.declared.Pad.TheVariants.{NullTerm}
use Rattle.hdf_types.specs.declared.TheConstants.{MAX_NESTING, MAX_FIELDS, MAX_TEXT, MAX_NAME, MAX_SIZE}
use Rattle.hdf_types.specs.Elems.{Elem, int, text, compound, FieldList, no_fields, field, depth}
use Rattle.hdf_types.specs.Reading.{int_named, sets, pads, names_of, size_of}

-- the text is one of the sixteen names
abbrev pub IsIntText : Data → IntType → Type 0
IsIntText d t = (name : List ℕ) × (d ≡ string name) × (int_named name ≡ Some t)

abbrev pub IsIntObject : Data → IntType → Type 0
IsIntObject d t = HasClass (codes "H5T_INTEGER") d × ((e : Data) × (get (codes "base") d ≡ Some e) × IsIntText e t)

-- a word of the table, or the default where there is none
abbrev pub SpellsWord : {A : Type 0} → A → List (List ℕ × A) → Option Data → A → Type 0
SpellsWord a table o x = MatchOption o (x ≡ a) (λ d. (word : List ℕ) × (d ≡ string word) × (look_up word table ≡ Some x))

pub record IsTextObject (d : Data) (t : TextType) : Type 0 where
  pub class : HasClass (codes "H5T_STRING") d
  pub char_set : SpellsWord false sets (get (codes "charSet") d) t.utf8
  pub padding : SpellsWord NullTerm pads (get (codes "strPad") d) t.pad
  pub length_given : get (codes "length") d ≡ Some (number (unsigned t.len))
  pub some_length : 1 ≤ t.len
  pub short : t.len ≤ MAX_TEXT

-- no name stands twice
abbrev pub IsDistinct : List (List ℕ) → Type 0
IsDistinct [] = Unit {0}
IsDistinct (n ∷ ns) = AllByRecursion (λ m. m ≢ n) ns × IsDistinct ns

-- the names of a compound's fields
abbrev pub AreNames : List (List ℕ) → Type 0
AreNames names = (1 ≤ length names) × (length names ≤ MAX_FIELDS) × IsDistinct names

-- the bytes of a field's name
abbrev pub IsName : List ℕ → Type 0
IsName name = (1 ≤ length name) × (length name ≤ MAX_NAME)

abbrev mutual
  pub IsTypeOf : Data → Elem → Type 0
  IsTypeOf d (int t) = IsIntText d t ⊎ IsIntObject d t
  IsTypeOf d (text t) = IsTextObject d t
  IsTypeOf d (compound fs) =
      HasClass (codes "H5T_COMPOUND") d × ((items : Items) × (get (codes "fields") d ≡ Some (array items)) × AreFields (list_of items) fs)
      × (1 ≤ length (names_of fs)) × (length (names_of fs) ≤ MAX_FIELDS) × IsDistinct (names_of fs)

  -- each member has its field's name and type
  pub AreFields : List Data → FieldList → Type 0
  AreFields [] no_fields = Unit {0}
  AreFields [] (field n e rest) = ⊥
  AreFields (d ∷ ds) no_fields = ⊥
  AreFields (d ∷ ds) (field n e rest) =
      (get (codes "name") d ≡ Some (string n)) × (1 ≤ length n) × (length n ≤ MAX_NAME) × ((inner : Data) × (get (codes "type") d ≡ Some inner) × IsTypeOf inner e) × AreFields ds rest

-- the tree spells this type, within the limits of depth and size
abbrev pub IsType : Data → Elem → Type 0
IsType d e = IsTypeOf d e × (depth e ≤ MAX_NESTING) × (size_of e ≤ MAX_SIZE)

-- ---- the types that trees can spell

-- an integer of 1, 2, 4 or 8 bytes
abbrev pub IsWidth : ℕ → Type 0
IsWidth bits = (bits ≡ 8) ⊎ ((bits ≡ 16) ⊎ ((bits ≡ 32) ⊎ (bits ≡ 64)))

abbrev mutual
  -- a type within the limits of its nodes
  pub IsFormed : Elem → Type 0
  IsFormed (int t) = IsWidth t.bits
  IsFormed (text t) = (1 ≤ t.len) × (t.len ≤ MAX_TEXT)
  IsFormed (compound fs) = (1 ≤ length (names_of fs)) × (length (names_of fs) ≤ MAX_FIELDS) × IsDistinct (names_of fs) × AreFormed fs

  pub AreFormed : FieldList → Type 0
  AreFormed no_fields = Unit {0}
  AreFormed (field n e rest) = (1 ≤ length n) × (length n ≤ MAX_NAME) × IsFormed e × AreFormed rest

-- a type within all limits
pub record IsSoundType (e : Elem) : Type 0 where
  pub formed : IsFormed e
  pub nested : depth e ≤ MAX_NESTING
  pub small : size_of e ≤ MAX_SIZE
