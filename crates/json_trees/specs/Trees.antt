-- Trees of JSON: what stands in them, with lists as lists.
use Rattle.std.specs.Prelude.{ℕ, Bool, false, List, [], ◌∷◌, Option, Some, option_map, option_and_then, ◌≡◌, None, IsUtf8, codes, if◌then◌else◌}
use Rattle.std.specs.Option.{option_map_or}
use Rattle.std.specs.Str.{bytes_eq, is_utf8}
use Rattle.serde_json.specs.Data.{Data, Items, no_items, item, null, boolean, number, string, array, object, Members, no_members, member}
use Rattle.serde_json.specs.Find.{get, as_number, as_u64, as_array, as_str}
use Rattle.serde_json.specs.Read.{read}

-- the items in order
abbrev pub list_of : Items → List Data
list_of no_items = []
list_of (item d ds) = d ∷ list_of ds

-- the items of a list
abbrev pub list_in : Data → Option (List Data)
list_in d = option_map list_of (as_array d)

-- a whole number that is not negative
abbrev pub whole_in : Data → Option ℕ
whole_in d = option_and_then as_u64 (as_number d)

-- a text
abbrev pub text_in : Data → Option (List ℕ)
text_in d = as_str d

-- the text at a key of an object
abbrev pub text_at : List ℕ → Data → Option (List ℕ)
text_at key d = option_and_then as_str (get key d)

-- whether the tree is this text
abbrev pub is_text : List ℕ → Data → Bool
is_text text d = option_map_or (λ s. bytes_eq s text) (as_str d) false

-- what each member of a list is read as; none where one member can't be read
abbrev pub all_in : {A B : Type 0} → (A → Option B) → List A → Option (List B)
all_in f [] = Some []
all_in f (x ∷ xs) = option_and_then (λ y. option_map (λ ys. y ∷ ys) (all_in f xs)) (f x)

-- what `serde_json` reads of bytes, where they are UTF-8
abbrev pub tree_in : List ℕ → Option Data
tree_in bytes = if is_utf8 bytes then read bytes else None

-- an object of this class
abbrev pub HasClass : List ℕ → Data → Type 0
HasClass class d = get (codes "class") d ≡ Some (string class)

-- the keys of an object, each with what stands there
abbrev pub pairs_of : Members → List (List ℕ × Data)
pairs_of no_members = []
pairs_of (member key d rest) = (key, d) ∷ pairs_of rest

-- ---- the texts of trees

abbrev mutual
  -- each text is UTF-8: the tree itself, or in its lists; an object is a value of no type, so that nothing is asked of it
  pub AreTexts : Data → Type 0
  AreTexts null = Unit {0}
  AreTexts (boolean b) = Unit {0}
  AreTexts (number n) = Unit {0}
  AreTexts (string s) = IsUtf8 s
  AreTexts (array ds) = AreItemTexts ds
  AreTexts (object ms) = Unit {0}

  pub AreItemTexts : Items → Type 0
  AreItemTexts no_items = Unit {0}
  AreItemTexts (item d ds) = AreTexts d × AreItemTexts ds
