-- Lists of elements, nested by the extents of an array in row-major order.
use Rattle.std.specs.Prelude.{◌≡◌, ℕ, zero, suc, ◌+◌, ◌*◌, ◌<◌, List, [], ◌∷◌, ◌++◌, length, map, take, drop, Option, Some, None, option_and_then, Result, Ok, Err, nat_eq, if◌then◌else◌}
use Rattle.std.specs.List.{AllByRecursion, flat_map}
use Rattle.std.specs.Option.{option_map_or}
use Rattle.serde_json.specs.Data.{Data, Items, array}
use Rattle.serde_json.specs.Find.{at}
use Rattle.serde_json.specs.View.{items_of}
use Rattle.json_trees.specs.Trees.{list_of, list_in}
use Rattle.json_trees.specs.Faults.{◌>>=◌, Fails}
use Rattle.hdf_types.specs.Elems.{Elem}
use Rattle.hdf_types.specs.Reading.{size_of}
use Rattle.shapes.specs.RowMajor.{cell_count}
use Rattle.hdf_values.specs.declared.faults.Misfit.{Misfit}
use Rattle.hdf_values.specs.declared.faults.ValueFault.{ValueFault}
use Rattle.hdf_values.specs.declared.faults.ValueFault.TheVariants.{NoMemory, NotOfType, WrongCount}
use Rattle.hdf_values.specs.Faults.{at_place}
use Rattle.hdf_values.specs.Elements.{Fits, bytes_of, normal, decoded, encoded, IsEncoded}

-- ---- which trees nest by the extents, and the bytes of their elements

-- a list of as many members as the first extent, each nested by the others; without an extent, one element
abbrev pub FitsNested : Elem → List ℕ → Data → Type 0
FitsNested e [] d = Fits e d
FitsNested e (n ∷ ns) d = (items : Items) × (d ≡ array items) × (length (list_of items) ≡ n) × AllByRecursion (FitsNested e ns) (list_of items)

-- the elements in row-major order
abbrev pub elements : List ℕ → Data → List Data
elements [] d = d ∷ []
elements (n ∷ ns) d = option_map_or (flat_map (elements ns)) (list_in d) []

-- their bytes, one element after another
abbrev pub nested_bytes : Elem → List ℕ → Data → List ℕ
nested_bytes e dims d = flat_map (bytes_of e) (elements dims d)

-- the tree, without the filling of its texts
abbrev pub nested_normal : Elem → List ℕ → Data → Data
nested_normal e [] d = normal e d
nested_normal e (n ∷ ns) d = option_map_or (λ ds. array (items_of (map (nested_normal e ns) ds))) (list_in d) d

-- the member at the first coordinate, in it that at the next, and so on
abbrev pub tree_at : List ℕ → Data → Option Data
tree_at [] d = Some d
tree_at (x ∷ xs) d = option_and_then (tree_at xs) (at x d)

-- ---- bytes of several elements: pieces of one size, one after another

-- `n` pieces of `k` bytes
abbrev pub pieces : ℕ → ℕ → List ℕ → List (List ℕ)
pieces zero k bs = []
pieces (suc n) k bs = take k bs ∷ pieces n k (drop k bs)

-- the bytes of the `i`-th piece of `k` bytes, from 0
abbrev pub piece_at : ℕ → ℕ → List ℕ → List ℕ
piece_at k i bs = take k (drop (i * k) bs)

-- the bytes of `n` pieces of `k` bytes, from the `i`-th on
abbrev pub pieces_at : ℕ → ℕ → ℕ → List ℕ → List ℕ
pieces_at k i n bs = take (n * k) (drop (i * k) bs)

-- the bytes with `xs` in place of as many, from the `i`-th piece of `k` bytes on
abbrev pub with_pieces : ℕ → ℕ → List ℕ → List ℕ → List ℕ
with_pieces k i xs bs = take (i * k) bs ++ xs ++ drop (i * k + length xs) bs

-- the bytes of `n` elements
pub record AreEncoded (e : Elem) (n : ℕ) (bs : List ℕ) : Type 0 where
  pub whole : length bs ≡ n * size_of e
  pub each : AllByRecursion (IsEncoded e) (pieces n (size_of e) bs)

-- the bytes from the `i`-th piece on are there and begin with no element, and all pieces before it are elements;
-- fewer bytes than an element has are none
pub record IsFirstUnencoded (e : Elem) (bs : List ℕ) (i : ℕ) : Type 0 where
  pub there : i * size_of e < length bs
  pub wrong : IsEncoded e (piece_at (size_of e) i bs) → ⊥
  pub before : (j : ℕ) → j < i → IsEncoded e (piece_at (size_of e) j bs)

-- the tree whose elements these bytes are
abbrev pub nested_decoded : Elem → List ℕ → List ℕ → Data
nested_decoded e [] bs = decoded e bs
nested_decoded e (n ∷ ns) bs = array (items_of (map (nested_decoded e ns) (pieces n (cell_count ns * size_of e) bs)))

-- ---- the tests in row-major order: the first that fails decides

-- the fault of an element is that of its place
abbrev pub placed : ℕ → Result (List ℕ) Misfit → Result (List ℕ) ValueFault
placed p (Ok bs) = Ok bs
placed p (Err m) = Err (at_place p m)

-- the members one after another, of which each has `step` elements
abbrev pub each_nested : (ℕ → Data → Result (List ℕ) ValueFault) → ℕ → ℕ → List Data → Result (List ℕ) ValueFault
each_nested read step p [] = Ok []
each_nested read step p (d ∷ ds) = read p d >>= λ bs. each_nested read step (p + step) ds >>= λ rest. Ok (bs ++ rest)

-- a list of another length is at fault before its members
abbrev pub counted : ℕ → ℕ → (List Data → Result (List ℕ) ValueFault) → Option (List Data) → Result (List ℕ) ValueFault
counted n p read None = Err (NotOfType p)
counted n p read (Some ds) = if nat_eq (length ds) n then read ds else Err (WrongCount n (length ds))

-- the bytes of a tree whose first element has place `p`, or its first fault, where its texts are UTF-8
abbrev pub nested_from : Elem → List ℕ → ℕ → Data → Result (List ℕ) ValueFault
nested_from e [] p d = placed p (encoded e d)
nested_from e (n ∷ ns) p d = counted n p (each_nested (nested_from e ns) (cell_count ns) p) (list_in d)

-- ---- what a call appends

-- the bytes of the tree behind the old ones, and the place behind its last element
abbrev pub AppendsTo : Result ℕ ValueFault → List ℕ → List ℕ → ℕ → Result (List ℕ) ValueFault → Type 0
AppendsTo (Ok next) old new behind r = (bs : List ℕ) × (r ≡ Ok bs) × (new ≡ old ++ bs) × (next ≡ behind)
AppendsTo (Err f) old new behind r = Fails NoMemory f r

abbrev pub Appends : Elem → List ℕ → Data → ℕ → List ℕ → List ℕ → Result ℕ ValueFault → Type 0
Appends e dims d p old new result = AppendsTo result old new (p + cell_count dims) (nested_from e dims p d)

abbrev pub AppendsEach : Elem → List ℕ → List Data → ℕ → List ℕ → List ℕ → Result ℕ ValueFault → Type 0
AppendsEach e dims ds p old new result = AppendsTo result old new (p + length ds * cell_count dims) (each_nested (nested_from e dims) (cell_count dims) p ds)
