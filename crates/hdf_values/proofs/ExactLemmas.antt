-- The fault of nested values that is told is the first, and each first fault is told.
use Rattle.std.proofs.Common.{◌≡◌, ◌≢◌, ◌↔◌, ◌⊎◌, ℕ, zero, suc, ◌+◌, ◌*◌, ◌<◌, nat_eq, if◌then◌else◌, List, [], ◌∷◌, length, get_or, Option, Some, None, Result, Ok, Err, inl, inr, refl, sym, ap, ◌∙◌, arith}
use Rattle.std.specs.Option.{MatchOption}
use Rattle.std.proofs.lemmas.Bool.{cases_Bool, eqb-true, eqb-false}
use Rattle.serde_json.specs.Data.{Data, null}
use Rattle.json_trees.specs.Trees.{list_in}
use Rattle.hdf_types.specs.Elems.{Elem}
use Rattle.shapes.specs.RowMajor.{cell_count}
use Rattle.hdf_values.specs.declared.faults.Misfit.{Misfit}
use Rattle.hdf_values.specs.declared.faults.ValueFault.{ValueFault}
use Rattle.hdf_values.specs.declared.faults.ValueFault.TheVariants.{NotOfType, WrongCount}
use Rattle.hdf_values.specs.Faults.{at_place}
use Rattle.hdf_values.specs.Elements.{encoded}
use Rattle.hdf_values.specs.Nested.{placed, each_nested, counted, nested_from}
use Rattle.hdf_values.specs.Lowest.{IsLowest, IsFirstMember, IsFirstFault, IsFaultBehind}
use Rattle.hdf_values.proofs.LowestLemmas.{lowest_where}
use Rattle.hdf_values.proofs.FirstLemmas.{Read, IsRead, FailsAt, fails_at, placed_err, fault_behind}

-- ---- the members of a list

member_told : (read : Read) (F : ℕ → Data → ValueFault → Type 0) (c p : ℕ) (ds : List Data) (f : ValueFault) → ((q : ℕ) (y : Data) (g : ValueFault) → (read q y ≡ Err g) ↔ F q y g)
    → FailsAt read c p ds f → IsFirstMember F c p ds f
member_told read F c p ds f each w = record {
  index = w.i;
  within = w.within;
  fault = (each (p + w.i * c) (get_or ds w.i null) f).0 w.fails;
  before = λ j g h k. not_both (read (p + j * c) (get_or ds j null)) (w.before j h).0 g (w.before j h).1 ((each (p + j * c) (get_or ds j null) g).1 k);
}
  where
    not_both : (r : Result (List ℕ) ValueFault) (bs : List ℕ) (g : ValueFault) → r ≡ Ok bs → r ≡ Err g → ⊥
    not_both r bs g h k = cc

-- without a fault there are bytes
bytes_or : (r : Result (List ℕ) ValueFault) → ((g : ValueFault) → ¬ (r ≡ Err g)) → (bs : List ℕ) × (r ≡ Ok bs)
bytes_or (Ok bs) h = (bs, refl)
bytes_or (Err g) h = absurd (h g refl)

fault_at : (read : Read) (c p i : ℕ) (ds : List Data) (f : ValueFault) → i < length ds → read (p + i * c) (get_or ds i null) ≡ Err f → ((j : ℕ) → j < i → IsRead read c p ds j) → each_nested read c p ds ≡ Err f
fault_at read c p i [] f within fails before = absurd (omega arith)
fault_at read c p zero (d ∷ ds) f within fails before =
    let same : p ≡ p + 0 * c = omega arith in
    let first : read p d ≡ Err f = ap (λ q. read q d) same ∙ fails in
    rw first refl
fault_at read c p (suc i) (d ∷ ds) f within fails before =
    let same : p ≡ p + 0 * c = omega arith in
    let here = before 0 (omega arith) in
    let first : read p d ≡ Ok here.0 = ap (λ q. read q d) same ∙ here.1 in
    let far : p + c + i * c ≡ p + suc i * c = omega arith in
    let later = fault_at read c (p + c) i ds f (omega (arith, within)) (ap (λ q. read q (get_or ds i null)) far ∙ fails) (λ j h. behind read c p j d ds (before (suc j) (omega (arith, h)))) in
    rw (first, later) refl
  where
    behind : (read : Read) (c p j : ℕ) (d : Data) (ds : List Data) → IsRead read c p (d ∷ ds) (suc j) → IsRead read c (p + c) ds j
    behind read c p j d ds h =
        let far : p + c + j * c ≡ p + suc j * c = omega arith in
        (h.0, ap (λ q. read q (get_or ds j null)) far ∙ h.1)

member_read : (read : Read) (F : ℕ → Data → ValueFault → Type 0) (c p : ℕ) (ds : List Data) (f : ValueFault) → ((q : ℕ) (y : Data) (g : ValueFault) → (read q y ≡ Err g) ↔ F q y g)
    → IsFirstMember F c p ds f → each_nested read c p ds ≡ Err f
member_read read F c p ds f each w =
    fault_at read c p w.index ds f w.within ((each (p + w.index * c) (get_or ds w.index null) f).1 w.fault)
    (λ j h. bytes_or (read (p + j * c) (get_or ds j null)) (λ g k. w.before j g h ((each (p + j * c) (get_or ds j null) g).0 k)))

-- ---- an axis

axis_where : (n p : ℕ) (read : List Data → Result (List ℕ) ValueFault) (M : List Data → Type 0) (f : ValueFault) → ((ds : List Data) → (read ds ≡ Err f) ↔ M ds) → (o : Option (List Data))
    → (counted n p read o ≡ Err f) ↔ MatchOption o (f ≡ NotOfType p) (λ ds. ((length ds ≢ n) × (f ≡ WrongCount n (length ds))) ⊎ ((length ds ≡ n) × M ds))
axis_where n p read M f each None = (λ e. cc, λ e. ap (λ g. Err g) (sym e))
axis_where n p read M f each (Some ds) = elim (cases_Bool (nat_eq (length ds) n)) [
  | inl q ↦
      let is : counted n p read (Some ds) ≡ read ds = ap (λ b. if b then read ds else Err (WrongCount n (length ds))) q in
      (λ e. inr (eqb-true (length ds) n q, (each ds).0 (sym is ∙ e)), λ h. elim h [ inl k ↦ absurd (k.0 (eqb-true (length ds) n q)) | inr k ↦ is ∙ (each ds).1 k.1 ])
  | inr q ↦
      let is : counted n p read (Some ds) ≡ Err (WrongCount n (length ds)) = ap (λ b. if b then read ds else Err (WrongCount n (length ds))) q in
      (λ e. inl (eqb-false (length ds) n q, cc (is, e)), λ h. elim h [ inl k ↦ is ∙ ap (λ g. Err g) (sym k.1) | inr k ↦ absurd (eqb-false (length ds) n q k.0) ])
]

-- ---- an element

element_where : (e : Elem) (p : ℕ) (d : Data) (f : ValueFault) → (placed p (encoded e d) ≡ Err f) ↔ ((m : Misfit) × IsLowest e d m × (f ≡ at_place p m))
element_where e p d f = (
  λ q.
      let told = placed_err p (encoded e d) f q in
      (told.0, (lowest_where e d told.0).0 told.1, told.2),
  λ h. ap (placed p) ((lowest_where e d h.0).1 h.1) ∙ ap (λ g. Err g) (sym h.2),
)

pub first_where : (e : Elem) (dims : List ℕ) (p : ℕ) (d : Data) (f : ValueFault) → (nested_from e dims p d ≡ Err f) ↔ IsFirstFault e dims p d f
first_where e [] p d f = element_where e p d f
first_where e (n ∷ ns) p d f =
    let c = cell_count ns in
    let each = λ (q : ℕ) (y : Data) (g : ValueFault). first_where e ns q y g in
    axis_where n p (each_nested (nested_from e ns) c p) (λ ds. IsFirstMember (IsFirstFault e ns) c p ds f) f (λ ds. (
      λ q. member_told (nested_from e ns) (IsFirstFault e ns) c p ds f each (fails_at (nested_from e ns) c p ds f q),
      λ h. member_read (nested_from e ns) (IsFirstFault e ns) c p ds f each h,
    )) (list_in d)

pub first_behind : (e : Elem) (dims : List ℕ) (p : ℕ) (d : Data) (f : ValueFault) → IsFirstFault e dims p d f → IsFaultBehind e dims p d f
first_behind e dims p d f h = fault_behind e dims p d f ((first_where e dims p d f).1 h)
