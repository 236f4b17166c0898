-- Whole numbers that are kept packed: the bytes of elements of one type, one after another.
use Rattle.std.specs.Prelude.{◌≡◌, ℕ, ◌≤◌, ◌/◌, ℤ, Bool, true, false, List, [], ◌∷◌, ◌++◌, length, map, if◌then◌else◌}
use Rattle.std.specs.List.{AllByRecursion, flat_map}
use Rattle.json.specs.Token.{Token}
use Rattle.serde_json.specs.Data.{Data, Items, number, array}
use Rattle.serde_json.specs.Find.{of_integer}
use Rattle.json_trees.specs.Copied.{Reads, ReadsItems}
use Rattle.json_trees.specs.Trees.{list_of}
use Rattle.hdf_types.specs.declared.IntType.{IntType}
use Rattle.hdf_types.specs.Reading.{int_size}
use Rattle.hdf_types.specs.Types.{IsWidth}
use Rattle.hdf_values.specs.Integers.{IsInRange, int_bytes, int_value}
use Rattle.hdf_values.specs.Nested.{pieces}

-- ---- numbers and their bytes

-- the type of 64 bits or of 32, with a sign and the lowest byte first
abbrev pub plain : Bool → IntType
plain wide = record { signed = true; bits = if wide then 64 else 32; big = false }

-- the numbers that the bytes are
abbrev pub numbers_in : IntType → List ℕ → List ℤ
numbers_in t bs = map (int_value t) (pieces (length bs / int_size t.bits) (int_size t.bits) bs)

-- the bytes are those of these numbers
pub record ArePacked (t : IntType) (bs : List ℕ) (zs : List ℤ) : Type 0 where
  pub width : IsWidth t.bits
  pub bytes : bs ≡ flat_map (int_bytes t) zs
  pub fit : AllByRecursion (IsInRange t) zs

-- ---- lists of lists of numbers

-- each tree has some of the numbers, one after another
abbrev pub HaveNumbers : (Data → List ℤ → Type 0) → List Data → List ℤ → Type 0
HaveNumbers has [] zs = zs ≡ []
HaveNumbers has (d ∷ ds) zs = (front : List ℤ) × (back : List ℤ) × (zs ≡ front ++ back) × has d front × HaveNumbers has ds back

-- a tree that nests by the extents, with these numbers in row-major order
abbrev pub HasNumbers : List ℕ → Data → List ℤ → Type 0
HasNumbers [] d zs = (z : ℤ) × (d ≡ number (of_integer z)) × (zs ≡ z ∷ [])
HasNumbers (n ∷ ns) d zs = (items : Items) × (d ≡ array items) × (length (list_of items) ≡ n) × HaveNumbers (HasNumbers ns) (list_of items) zs

-- no list is without an item
abbrev pub AreSome : List ℕ → Type 0
AreSome dims = AllByRecursion (λ n. 1 ≤ n) dims

-- ---- what is read

-- the tokens begin with those of such a tree, whose numbers are behind the old ones
pub record Packs (most : ℕ) (from : List Token) (dims : List ℕ) (old new : List ℤ) (rest : List Token) : Type 0 where
  pub tree : Data
  pub numbers : List ℤ
  pub read : Reads most from tree rest
  pub has : HasNumbers dims tree numbers
  pub some : AreSome dims
  pub added : new ≡ old ++ numbers

-- with those of so many such trees, and the bracket that closes their list
pub record PacksItems (most : ℕ) (from : List Token) (dims : List ℕ) (count : ℕ) (old new : List ℤ) (rest : List Token) : Type 0 where
  pub trees : Items
  pub numbers : List ℤ
  pub read : ReadsItems most from trees rest
  pub many : length (list_of trees) ≡ count
  pub have : HaveNumbers (HasNumbers dims) (list_of trees) numbers
  pub added : new ≡ old ++ numbers
