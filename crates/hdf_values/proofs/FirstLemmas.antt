-- The fault of nested values that is told stands before all others.
use Rattle.std.proofs.Common.{◌≡◌, ◌≢◌, ◌⊎◌, ℕ, zero, suc, ◌+◌, ◌*◌, ◌<◌, ◌≤◌, nat_eq, if◌then◌else◌, List, [], ◌∷◌, ◌++◌, length, take, drop, get_or, Option, Some, None, Result, Ok, Err, inl, inr, refl, sym, ap, subst, ◌∙◌, arith}
use Rattle.std.proofs.lemmas.Bool.{cases_lt, cases_Bool, eqb-true, eqb-false}
use Rattle.std.proofs.lemmas.Nat.{mul-le}
use Rattle.serde_json.specs.Data.{Data, null}
use Rattle.serde_json.specs.Find.{at}
use Rattle.json_trees.specs.Trees.{list_in}
use Rattle.json_trees.specs.Faults.{◌>>=◌}
use Rattle.json_trees.proofs.TreeLemmas.{list_in_array}
use Rattle.hdf_types.specs.Elems.{Elem}
use Rattle.shapes.specs.RowMajor.{cell_count, IsInside, linear_index}
use Rattle.hdf_values.specs.declared.faults.Misfit.{Misfit}
use Rattle.hdf_values.specs.declared.faults.ValueFault.{ValueFault}
use Rattle.hdf_values.specs.declared.faults.ValueFault.TheVariants.{NotOfType, WrongCount}
use Rattle.hdf_values.specs.Faults.{at_place}
use Rattle.hdf_values.specs.Elements.{encoded}
use Rattle.hdf_values.specs.Nested.{placed, each_nested, counted, nested_from}
use Rattle.hdf_values.specs.Lowest.{IsFaultOf, IsFaultlessAt, IsFaultBehind}
use Rattle.hdf_values.proofs.LowestLemmas.{lowest_where, faultless}
use Rattle.hdf_values.proofs.RowLemmas.{item_at}

-- ---- the tests of a list

abbrev pub Read : Type 0
Read = ℕ → Data → Result (List ℕ) ValueFault

-- a member that is read, from its place on
abbrev pub IsRead : Read → ℕ → ℕ → List Data → ℕ → Type 0
IsRead read c p ds j = (bs : List ℕ) × (read (p + j * c) (get_or ds j null) ≡ Ok bs)

-- the first member that is not read
pub record FailsAt (read : Read) (c p : ℕ) (ds : List Data) (f : ValueFault) : Type 0 where
  pub i : ℕ
  pub within : i < length ds
  pub fails : read (p + i * c) (get_or ds i null) ≡ Err f
  pub before : (j : ℕ) → j < i → IsRead read c p ds j

-- a member of what is behind the first is one of all, one further
shift : (read : Read) (c p j : ℕ) (d : Data) (ds : List Data) (r : Result (List ℕ) ValueFault) → read (p + c + j * c) (get_or ds j null) ≡ r → read (p + suc j * c) (get_or (d ∷ ds) (suc j) null) ≡ r
shift read c p j d ds r h =
    let same : p + suc j * c ≡ p + c + j * c = omega arith in
    ap (λ q. read q (get_or ds j null)) same ∙ h

here : (read : Read) (c p : ℕ) (d : Data) (ds : List Data) (r : Result (List ℕ) ValueFault) → read p d ≡ r → read (p + 0 * c) (get_or (d ∷ ds) 0 null) ≡ r
here read c p d ds r h =
    let same : p + 0 * c ≡ p = omega arith in
    ap (λ q. read q d) same ∙ h

before_one : (read : Read) (c p : ℕ) (d : Data) (ds : List Data) (bs : List ℕ) (i : ℕ) → read p d ≡ Ok bs → ((j : ℕ) → j < i → IsRead read c (p + c) ds j) → (j : ℕ) → j < suc i → IsRead read c p (d ∷ ds) j
before_one read c p d ds bs i is next zero h = (bs, here read c p d ds (Ok bs) is)
before_one read c p d ds bs i is next (suc j) h =
    let one = next j (omega arith) in
    (one.0, shift read c p j d ds (Ok one.0) one.1)

-- what the first member gives decides, or what is behind it
first_or_later : (read : Read) (c p : ℕ) (d : Data) (ds : List Data) (f : ValueFault) (r later : Result (List ℕ) ValueFault) → read p d ≡ r → (later ≡ Err f → FailsAt read c (p + c) ds f)
    → (r >>= λ bs. later >>= λ rest. Ok (bs ++ rest)) ≡ Err f → FailsAt read c p (d ∷ ds) f
first_or_later read c p d ds f (Err g) later is next e =
    let same : read p d ≡ Err f = is ∙ e in
    record { i = 0; within = omega arith; fails = here read c p d ds (Err f) same; before = λ j h. absurd (omega arith) }
first_or_later read c p d ds f (Ok bs) (Ok rest) is next e = absurd cc
first_or_later read c p d ds f (Ok bs) (Err g) is next e =
    let found = next e in
    record {
      i = suc found.i;
      within = omega (arith, found.within);
      fails = shift read c p found.i d ds (Err f) found.fails;
      before = before_one read c p d ds bs found.i is found.before;
    }

pub fails_at : (read : Read) (c p : ℕ) (ds : List Data) (f : ValueFault) → each_nested read c p ds ≡ Err f → FailsAt read c p ds f
fails_at read c p [] f e = absurd cc
fails_at read c p (d ∷ ds) f e = first_or_later read c p d ds f (read p d) (each_nested read c (p + c) ds) refl (fails_at read c (p + c) ds f) e

both_read : (read : Read) (c p : ℕ) (d : Data) (ds : List Data) (bs : List ℕ) (r later : Result (List ℕ) ValueFault) → read p d ≡ r → ((j : ℕ) (xs : List ℕ) → later ≡ Ok xs → j < length ds → IsRead read c (p + c) ds j)
    → (r >>= λ xs. later >>= λ rest. Ok (xs ++ rest)) ≡ Ok bs → (j : ℕ) → j < length (d ∷ ds) → IsRead read c p (d ∷ ds) j
both_read read c p d ds bs (Err g) later is next e j h = absurd cc
both_read read c p d ds bs (Ok xs) (Err g) is next e j h = absurd cc
both_read read c p d ds bs (Ok xs) (Ok ys) is next e zero h = (xs, here read c p d ds (Ok xs) is)
both_read read c p d ds bs (Ok xs) (Ok ys) is next e (suc j) h =
    let one = next j ys refl (omega arith) in
    (one.0, shift read c p j d ds (Ok one.0) one.1)

all_read : (read : Read) (c p : ℕ) (ds : List Data) (bs : List ℕ) → each_nested read c p ds ≡ Ok bs → (j : ℕ) → j < length ds → IsRead read c p ds j
all_read read c p [] bs e j h = absurd (omega arith)
all_read read c p (d ∷ ds) bs e j h = both_read read c p d ds bs (read p d) (each_nested read c (p + c) ds) refl (λ i xs q k. all_read read c (p + c) ds xs q i k) e j h

-- ---- the tests of an axis

-- a list of as many members, which are read
pub counted_ok : (n p : ℕ) (read : List Data → Result (List ℕ) ValueFault) (o : Option (List Data)) (bs : List ℕ) → counted n p read o ≡ Ok bs → (ds : List Data) × (o ≡ Some ds) × (length ds ≡ n) × (read ds ≡ Ok bs)
counted_ok n p read None bs e = absurd cc
counted_ok n p read (Some ds) bs e = elim (cases_Bool (nat_eq (length ds) n)) [
  | inl q ↦ (ds, refl, eqb-true (length ds) n q, sym (ap (λ b. if b then read ds else Err (WrongCount n (length ds))) q) ∙ e)
  | inr q ↦
      let wrong : Err (WrongCount n (length ds)) ≡ Ok bs = sym (ap (λ b. if b then read ds else Err (WrongCount n (length ds))) q) ∙ e in
      absurd cc
]

pub member_found : (d : Data) (ds : List Data) (x : ℕ) → list_in d ≡ Some ds → x < length ds → at x d ≡ Some (get_or ds x null)
member_found d ds x e h =
    let is = list_in_array d ds e in
    ap (at x) is.1 ∙ item_at is.0 x (omega (arith, ap length is.2)) ∙ ap (λ (l : List Data). Some (get_or l x null)) is.2

step_in : (xs : List ℕ) (x : ℕ) (d y : Data) (e : Elem) → at x d ≡ Some y → IsFaultlessAt e xs y → IsFaultlessAt e (x ∷ xs) d
step_in xs x d y e found h = (h.0, rw found h.1, h.2)

-- ---- what is read has no fault

pub placed_ok : (p : ℕ) (r : Result (List ℕ) Misfit) (bs : List ℕ) → placed p r ≡ Ok bs → r ≡ Ok bs
placed_ok p (Ok xs) bs e = cc
placed_ok p (Err m) bs e = absurd cc

read_faultless : (e : Elem) (dims : List ℕ) (p : ℕ) (d : Data) (bs : List ℕ) → nested_from e dims p d ≡ Ok bs → (at : List ℕ) → IsInside at dims → IsFaultlessAt e at d
read_faultless e [] p d bs q [] k = (d, refl, faultless e d bs (placed_ok p (encoded e d) bs q))
read_faultless e [] p d bs q (x ∷ xs) k = absurd k
read_faultless e (n ∷ ns) p d bs q [] k = absurd k
read_faultless e (n ∷ ns) p d bs q (x ∷ xs) k =
    let c = cell_count ns in
    let list = counted_ok n p (each_nested (nested_from e ns) c p) (list_in d) bs q in
    let within : x < length list.0 = omega (arith, list.2, k.0) in
    let one = all_read (nested_from e ns) c p list.0 bs list.3 x within in
    step_in xs x d (get_or list.0 x null) e (member_found d list.0 x list.1 within) (read_faultless e ns (p + x * c) (get_or list.0 x null) one.0 one.1 xs k.1)

-- ---- the first fault

pub placed_err : (p : ℕ) (r : Result (List ℕ) Misfit) (f : ValueFault) → placed p r ≡ Err f → (m : Misfit) × (r ≡ Err m) × (f ≡ at_place p m)
placed_err p (Ok xs) f e = absurd cc
placed_err p (Err m) f e = (m, refl, cc)

-- the fault of an axis is that of its list, or of a member of as many
data AxisFault (n p : ℕ) (read : List Data → Result (List ℕ) ValueFault) (o : Option (List Data)) (f : ValueFault) : Type 0 where
  no_list : o ≡ None → f ≡ NotOfType p → AxisFault n p read o f
  wrong_count : (ds : List Data) → o ≡ Some ds → length ds ≢ n → f ≡ WrongCount n (length ds) → AxisFault n p read o f
  member : (ds : List Data) → o ≡ Some ds → length ds ≡ n → read ds ≡ Err f → AxisFault n p read o f

counted_err : (n p : ℕ) (read : List Data → Result (List ℕ) ValueFault) (o : Option (List Data)) (f : ValueFault) → counted n p read o ≡ Err f → AxisFault n p read o f
counted_err n p read None f e = no_list refl cc
counted_err n p read (Some ds) f e = elim (cases_Bool (nat_eq (length ds) n)) [
  | inl q ↦ member ds refl (eqb-true (length ds) n q) (sym (ap (λ b. if b then read ds else Err (WrongCount n (length ds))) q) ∙ e)
  | inr q ↦
      let wrong : Err (WrongCount n (length ds)) ≡ Err f = sym (ap (λ b. if b then read ds else Err (WrongCount n (length ds))) q) ∙ e in
      wrong_count ds refl (eqb-false (length ds) n q) cc
]

index_within : (path dims : List ℕ) → IsInside path (take (length path) dims) → linear_index path dims ≤ cell_count dims
index_within [] dims h = omega arith
index_within (x ∷ xs) [] h = absurd h
index_within (x ∷ xs) (n ∷ ns) h =
    let c = cell_count ns in
    let most : (x + 1) * c ≤ n * c = mul-le (x + 1) c n c (omega (arith, h.0)) (omega arith) in
    omega (arith, most, index_within xs ns h.1)

-- an axis's own fault stands at its first place, before which there is none
own_fault : (e : Elem) (n : ℕ) (ns : List ℕ) (p : ℕ) (d : Data) (f : ValueFault) → IsFaultOf e (n ∷ ns) p d f → IsFaultBehind e (n ∷ ns) p d f
own_fault e n ns p d f h =
    let same : p ≡ p + 0 = omega arith in
    record { path = []; tree = d; inside = tt; found = refl; fault = subst (λ (q : ℕ). IsFaultOf e (n ∷ ns) q d f) same h; before = λ at k q. absurd (omega arith) }

-- a coordinate before a path lies in an earlier member, or in this one before the rest of the path
before_path : (x i c : ℕ) (xs path ns : List ℕ) → c ≡ cell_count ns → linear_index path ns ≤ c → x * c + linear_index xs ns < i * c + linear_index path ns → (x < i) ⊎ ((x ≡ i) × (linear_index xs ns < linear_index path ns))
before_path x i c xs path ns w most h = elim (cases_lt x i) [
  | inl low ↦ inl low
  | inr high ↦ elim (cases_lt i x) [
    | inl above ↦
        let far : (i + 1) * c ≤ x * c = mul-le (i + 1) c x c (omega arith) (omega arith) in
        absurd (omega (arith, far, most, h))
    | inr low ↦
        let same : x ≡ i = omega (arith, high, low) in
        let level : x * c ≡ i * c = ap (λ k. k * c) same in
        inr (same, omega (arith, level, h))
  ]
]

before_member : (e : Elem) (n : ℕ) (ns : List ℕ) (p : ℕ) (d : Data) (f : ValueFault) (ds : List Data) → list_in d ≡ Some ds → length ds ≡ n
    → (w : FailsAt (nested_from e ns) (cell_count ns) p ds f) → (first : IsFaultBehind e ns (p + w.i * cell_count ns) (get_or ds w.i null) f)
    → (at : List ℕ) → IsInside at (n ∷ ns) → linear_index at (n ∷ ns) < w.i * cell_count ns + linear_index first.path ns → IsFaultlessAt e at d
before_member e n ns p d f ds is count w first [] k h = absurd k
before_member e n ns p d f ds is count w first (x ∷ xs) k h =
    let c = cell_count ns in
    let y = get_or ds x null in
    let within : x < length ds = omega (arith, count, k.0) in
    let found = member_found d ds x is within in
    elim (before_path x w.i c xs first.path ns refl (index_within first.path ns first.inside) h) [
      | inl low ↦
          let one = w.before x low in
          step_in xs x d y e found (read_faultless e ns (p + x * c) y one.0 one.1 xs k.1)
      | inr same ↦
          let there = first.before xs k.1 same.1 in
          step_in xs x d y e found (subst (λ (j : ℕ). IsFaultlessAt e xs (get_or ds j null)) (sym same.0) there)
    ]

member_fault : (e : Elem) (n : ℕ) (ns : List ℕ) (p : ℕ) (d : Data) (f : ValueFault) (ds : List Data) → list_in d ≡ Some ds → length ds ≡ n
    → (w : FailsAt (nested_from e ns) (cell_count ns) p ds f) → IsFaultBehind e ns (p + w.i * cell_count ns) (get_or ds w.i null) f → IsFaultBehind e (n ∷ ns) p d f
member_fault e n ns p d f ds is count w first =
    let c = cell_count ns in
    let found = member_found d ds w.i is w.within in
    let far : p + w.i * cell_count ns + linear_index first.path ns ≡ p + (w.i * cell_count ns + linear_index first.path ns) = omega arith in
    record {
      path = w.i ∷ first.path;
      tree = first.tree;
      inside = (omega (arith, w.within, count), first.inside);
      found = rw found first.found;
      fault = subst (λ (q : ℕ). IsFaultOf e (drop (length first.path) ns) q first.tree f) far first.fault;
      before = before_member e n ns p d f ds is count w first;
    }

no_member : (e : Elem) (n : ℕ) (ns : List ℕ) (p : ℕ) (d : Data) (f : ValueFault) (o : Option (List Data)) → list_in d ≡ o → o ≡ None → f ≡ NotOfType p → IsFaultOf e (n ∷ ns) p d f
no_member e n ns p d f o is none h =
    let empty = is ∙ none in
    rw empty h

other_count : (e : Elem) (n : ℕ) (ns : List ℕ) (p : ℕ) (d : Data) (f : ValueFault) (ds : List Data) → list_in d ≡ Some ds → length ds ≢ n → f ≡ WrongCount n (length ds) → IsFaultOf e (n ∷ ns) p d f
other_count e n ns p d f ds is other h = rw is (other, h)

axis_fault : (e : Elem) (n : ℕ) (ns : List ℕ) (p : ℕ) (d : Data) (f : ValueFault) → AxisFault n p (each_nested (nested_from e ns) (cell_count ns) p) (list_in d) f
    → ((r : ℕ) (y : Data) → nested_from e ns r y ≡ Err f → IsFaultBehind e ns r y f) → IsFaultBehind e (n ∷ ns) p d f
axis_fault e n ns p d f (no_list none h) next = own_fault e n ns p d f (no_member e n ns p d f (list_in d) refl none h)
axis_fault e n ns p d f (wrong_count ds is other h) next = own_fault e n ns p d f (other_count e n ns p d f ds is other h)
axis_fault e n ns p d f (member ds is count h) next =
    let w = fails_at (nested_from e ns) (cell_count ns) p ds f h in
    member_fault e n ns p d f ds is count w (next (p + w.i * cell_count ns) (get_or ds w.i null) w.fails)

pub fault_behind : (e : Elem) (dims : List ℕ) (p : ℕ) (d : Data) (f : ValueFault) → nested_from e dims p d ≡ Err f → IsFaultBehind e dims p d f
fault_behind e [] p d f q =
    let told = placed_err p (encoded e d) f q in
    let same : p ≡ p + 0 = omega arith in
    record {
      path = [];
      tree = d;
      inside = tt;
      found = refl;
      fault = (told.0, (lowest_where e d told.0).0 told.1, told.2 ∙ ap (λ k. at_place k told.0) same);
      before = λ at k h. absurd (omega arith);
    }
fault_behind e (n ∷ ns) p d f q = axis_fault e n ns p d f (counted_err n p (each_nested (nested_from e ns) (cell_count ns) p) (list_in d) f q) (λ r y h. fault_behind e ns r y f h)
