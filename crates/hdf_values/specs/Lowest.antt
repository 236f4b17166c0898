-- The faults of a tree that is no value: all that its parts have, of which the lowest is told, and of nested values the first.
use Rattle.std.specs.Prelude.{◌≡◌, ◌≢◌, ◌⊎◌, ℕ, ◌+◌, ◌*◌, ◌<◌, ◌≤◌, false, List, [], ◌∷◌, length, slice_index_or, take, drop, ℤ, Option, Some, None}
use Rattle.std.specs.List.{AllByRecursion}
use Rattle.std.specs.Option.{MatchOption}
use Rattle.serde_json.specs.Data.{Data, null}
use Rattle.serde_json.specs.Find.{as_str}
use Rattle.json_trees.specs.Trees.{list_in}
use Rattle.hdf_types.specs.declared.IntType.{IntType}
use Rattle.hdf_types.specs.declared.TextType.{TextType}
use Rattle.hdf_types.specs.Elems.{Elem, int, text, compound, FieldList, no_fields, field}
use Rattle.shapes.specs.RowMajor.{cell_count, IsInside, linear_index}
use Rattle.hdf_values.specs.declared.faults.Misfit.{Misfit}
use Rattle.hdf_values.specs.declared.faults.Misfit.TheVariants as misfits
use Rattle.hdf_values.specs.declared.faults.ValueFault.{ValueFault}
use Rattle.hdf_values.specs.declared.faults.ValueFault.TheVariants.{NotOfType, WrongCount}
use Rattle.hdf_values.specs.Faults.{rank, at_place}
use Rattle.hdf_values.specs.Integers.{integer_in, IsInRange}
use Rattle.hdf_values.specs.Texts.{most_of, IsNoNul}
use Rattle.hdf_values.specs.Nested.{tree_at}

-- ---- the faults of one element, in no order

-- of a leaf that wants a whole number, where the tree is this one or none
abbrev pub HasIntFault : IntType → Option ℤ → Misfit → Type 0
HasIntFault t None m = m ≡ misfits.NotOfType
HasIntFault t (Some z) m = (m ≡ misfits.OutOfRange) × ¬ IsInRange t z

-- of a leaf that wants a text, where the tree is this one or none
abbrev pub HasTextFault : TextType → Option (List ℕ) → Misfit → Type 0
HasTextFault t None m = m ≡ misfits.NotOfType
HasTextFault t (Some s) m =
    ((m ≡ misfits.TooLong) × ¬ (length s ≤ most_of t.pad t.len))
    ⊎ (((m ≡ misfits.NotAscii) × ((t.utf8 ≡ false) × ¬ AllByRecursion (λ b. b < 128) s))
    ⊎ ((m ≡ misfits.Nul) × ¬ IsNoNul s))

abbrev pub field_count : FieldList → ℕ
field_count no_fields = 0
field_count (field n e rest) = field_count rest + 1

abbrev mutual
  -- some part has this fault: a leaf, or a list that has not as many members as there are fields
  pub HasFault : Elem → Data → Misfit → Type 0
  HasFault (int t) d m = HasIntFault t (integer_in d) m
  HasFault (text t) d m = HasTextFault t (as_str d) m
  HasFault (compound fs) d m = MatchOption (list_in d) (m ≡ misfits.NotOfType) (λ ds. ((m ≡ misfits.NotOfType) × (length ds ≢ field_count fs)) ⊎ SomeFieldHas fs ds m)

  -- the member of some field has it
  pub SomeFieldHas : FieldList → List Data → Misfit → Type 0
  SomeFieldHas no_fields ds m = ⊥
  SomeFieldHas (field n e rest) [] m = ⊥
  SomeFieldHas (field n e rest) (d ∷ ds) m = HasFault e d m ⊎ SomeFieldHas rest ds m

-- some part has it, and none has a lower one
pub record IsLowest (e : Elem) (d : Data) (m : Misfit) : Type 0 where
  pub has : HasFault e d m
  pub lowest : (n : Misfit) → HasFault e d n → rank m ≤ rank n

-- ---- the first fault of nested values

-- a member has the fault, and those before it have none; `F` are the faults of a member whose first element has a place, and each has `c` elements
pub record IsFirstMember (F : ℕ → Data → ValueFault → Type 0) (c p : ℕ) (ds : List Data) (f : ValueFault) : Type 0 where
  pub index : ℕ
  pub within : index < length ds
  pub fault : F (p + index * c) (slice_index_or ds index null) f
  pub before : (j : ℕ) (g : ValueFault) → j < index → ¬ F (p + j * c) (slice_index_or ds j null) g

-- of an element the lowest fault; else that of the list itself, where it is none or has another length, and of a list of this length that of its first member with a fault
abbrev pub IsFirstFault : Elem → List ℕ → ℕ → Data → ValueFault → Type 0
IsFirstFault e [] p d f = (m : Misfit) × IsLowest e d m × (f ≡ at_place p m)
IsFirstFault e (n ∷ ns) p d f = MatchOption (list_in d) (f ≡ NotOfType p) (λ ds.
    ((length ds ≢ n) × (f ≡ WrongCount n (length ds)))
    ⊎ ((length ds ≡ n) × IsFirstMember (IsFirstFault e ns) (cell_count ns) p ds f))

-- ---- where it stands

-- the fault of what stands where these extents are left, with the place of its first element: of a list, or of an element
abbrev pub IsFaultOf : Elem → List ℕ → ℕ → Data → ValueFault → Type 0
IsFaultOf e [] p d f = (m : Misfit) × IsLowest e d m × (f ≡ at_place p m)
IsFaultOf e (n ∷ ns) p d f = MatchOption (list_in d) (f ≡ NotOfType p) (λ ds. (length ds ≢ n) × (f ≡ WrongCount n (length ds)))

-- an element stands at the coordinates, and no part of it has a fault
abbrev pub IsFaultlessAt : Elem → List ℕ → Data → Type 0
IsFaultlessAt e at d = (x : Data) × (tree_at at d ≡ Some x) × ((m : Misfit) → ¬ HasFault e x m)

-- what stands at the first coordinates `path` has the fault, and all elements before it have none
pub record IsFaultBehind (e : Elem) (dims : List ℕ) (p : ℕ) (d : Data) (f : ValueFault) : Type 0 where
  pub path : List ℕ
  pub tree : Data
  pub inside : IsInside path (take (length path) dims)
  pub found : tree_at path d ≡ Some tree
  pub fault : IsFaultOf e (drop (length path) dims) (p + linear_index path dims) tree f
  pub before : (at : List ℕ) → IsInside at dims → linear_index at dims < linear_index path dims → IsFaultlessAt e at d
