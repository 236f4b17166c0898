-- Members of a list, one after another.
use Rattle.std.proofs.Common.{◌≡◌, ◌≢◌, ◌<◌, ◌≤◌, ◌+◌, ◌*◌, ◌++◌, ◌∷◌, ℕ, Bool, true, false, IsTrue, nat_lt, List, [], length, get_or, drop, Option, Some, None, Result, Ok, Err, option_map, option_and_then, refl, sym, ap, subst, ◌∙◌, arith, append_assoc, append-nil, length-append, lt-ltb, eq-eqb, ne_eqb}
use Rattle.json.specs.Json.{after_end_array}
use Rattle.json.specs.Token.{Token}
use Rattle.json.proofs.Found.{Some_inj}
use Rattle.serde_json.specs.Data.{Data, Items, array}
use Rattle.json_trees.specs.Faults.{◌>>=◌}
use Rattle.json_trees.specs.Trees.{list_of}
use Rattle.hdf_types.specs.Elems.{Elem}
use Rattle.shapes.specs.RowMajor.{cell_count}
use Rattle.hdf_values.specs.declared.faults.ValueFault.{ValueFault}
use Rattle.hdf_values.specs.declared.faults.ValueFault.TheVariants.{WrongCount}
use Rattle.hdf_values.specs.Nested.{each_nested, nested_from}
use Rattle.json_trees.specs.Kept.{Begins}
use Rattle.json_trees.specs.Begun.{AreTrees}
use Rattle.hdf_values.specs.Streamed.{MemberTold, Told, members_from}
use Rattle.json_trees.proofs.OfKept.StreamLemmas.{a_tree, none_more}

-- ---- bytes of members

abbrev Outcome : Type 0
Outcome = Result (List ℕ) ValueFault

abbrev both : Outcome → Outcome → Outcome
both r k = r >>= λ bs. k >>= λ cs. Ok (bs ++ cs)

nothing_first : (r : Outcome) → both (Ok []) r ≡ r
nothing_first (Ok bs) = refl
nothing_first (Err f) = refl

both_assoc : (a r k : Outcome) → both a (both r k) ≡ both (both a r) k
both_assoc (Err f) r k = refl
both_assoc (Ok a) (Err f) k = refl
both_assoc (Ok a) (Ok b) (Err f) = refl
both_assoc (Ok a) (Ok b) (Ok c) = ap (λ x. Ok x) (sym (append_assoc a b c))

each_append : (read : ℕ → Data → Outcome) (step p : ℕ) (xs ys : List Data) → each_nested read step p (xs ++ ys) ≡ both (each_nested read step p xs) (each_nested read step (p + length xs * step) ys)
each_append read step p [] ys =
    let same : p + 0 * step ≡ p = omega arith in
    sym (nothing_first (each_nested read step p ys)) ∙ ap (λ q. both (Ok []) (each_nested read step q ys)) (sym same)
each_append read step p (x ∷ xs) ys =
    let far : p + step + length xs * step ≡ p + length (x ∷ xs) * step = omega arith in
    ap (both (read p x)) (each_append read step (p + step) xs ys)
    ∙ both_assoc (read p x) (each_nested read step (p + step) xs) (each_nested read step (p + step + length xs * step) ys)
    ∙ ap (λ q. both (both (read p x) (each_nested read step (p + step) xs)) (each_nested read step q ys)) far

last_alone : (r : Outcome) → both r (Ok []) ≡ r
last_alone (Ok bs) = ap (λ x. Ok x) (append-nil bs)
last_alone (Err f) = refl

each_push : (read : ℕ → Data → Outcome) (step p : ℕ) (xs : List Data) (x : Data) → each_nested read step p (xs ++ x ∷ []) ≡ both (each_nested read step p xs) (read (p + length xs * step) x)
each_push read step p xs x = each_append read step p xs (x ∷ []) ∙ ap (both (each_nested read step p xs)) (last_alone (read (p + length xs * step) x))

-- what is told of the members and then of one more
told_more : (fault found : Option ValueFault) (old now new : List ℕ) (r k : Outcome) → Told fault old now r → MemberTold fault found now new k → Told found old new (both r k)
told_more None None old now new r k h m =
    (h.0 ++ m.0, ap (λ x. both x k) h.1 ∙ ap (both (Ok h.0)) m.1, m.2 ∙ ap (λ x. x ++ m.0) h.2 ∙ append_assoc old h.0 m.0)
told_more None (Some f) old now new r k h m = ap (λ x. both x k) h.1 ∙ ap (both (Ok h.0)) m
told_more (Some f) None old now new r k h m = absurd (cc)
told_more (Some f) (Some g) old now new r k h m = ap (λ x. both x k) h ∙ ap (λ x. Err x) (sym (Some_inj g f m))

-- ---- the walk

pub record IsUnderway (e : Elem) (dims : List ℕ) (want p : ℕ) (trees : Items) (rest : List Token) (old : List ℕ) (from : List Token) (fault : Option ValueFault) (got next : ℕ) (now : List ℕ) : Type 0 where
  pub done : List Data
  pub left : Items
  pub all : list_of trees ≡ done ++ list_of left
  pub here : AreTrees from left rest
  pub counted : got ≡ length done
  pub placed : next ≡ p + length done * cell_count dims
  pub told : got ≤ want → Told fault old now (each_nested (nested_from e dims) (cell_count dims) p done)

pub underway_first : (e : Elem) (dims : List ℕ) (want p : ℕ) (trees : Items) (rest : List Token) (old : List ℕ) (from : List Token) → AreTrees from trees rest → IsUnderway e dims want p trees rest old from None 0 p old
underway_first e dims want p trees rest old from h = record {
  done = [];
  left = trees;
  all = refl;
  here = h;
  counted = refl;
  placed = omega arith;
  told = λ w. ([], refl, sym (append-nil old));
}

one_more : (m c : ℕ) → (m + 1) * c ≡ m * c + c
one_more m c = omega arith

pub underway_more : (e : Elem) (dims : List ℕ) (want p : ℕ) (trees : Items) (rest : List Token) (old : List ℕ) (from after : List Token) (fault found : Option ValueFault) (got more next further : ℕ) (now new : List ℕ)
    → IsUnderway e dims want p trees rest old from fault got next now → after_end_array from ≡ None
    → ((tree : Data) (mid : List Token) → Begins from tree mid → (after ≡ mid) × (IsTrue (nat_lt got want) → MemberTold fault found now new (nested_from e dims next tree)))
    → more ≡ got + 1 → further ≡ next + cell_count dims → IsUnderway e dims want p trees rest old after found more further new
underway_more e dims want p trees rest old from after fault found got more next further now new u going read counts places =
    let t = a_tree from rest u.left u.here going in
    let r = read t.tree t.mid t.first in
    let many : length (u.done ++ t.tree ∷ []) ≡ length u.done + 1 = omega (arith, length-append u.done (t.tree ∷ [])) in
    record {
      done = u.done ++ t.tree ∷ [];
      left = t.others;
      all = u.all ∙ ap (λ x. u.done ++ list_of x) t.are ∙ sym (append_assoc u.done (t.tree ∷ []) (list_of t.others));
      here = subst (λ ts. AreTrees ts t.others rest) (sym r.0) t.behind;
      counted = omega (arith, counts, u.counted, many);
      placed = omega (arith, places, u.placed, ap (λ m. m * cell_count dims) many, one_more (length u.done) (cell_count dims));
      told = λ w.
          let few : got < want = omega (arith, counts, w) in
          let m = subst (λ q. MemberTold fault found now new (nested_from e dims q t.tree)) u.placed (r.1 (lt-ltb got want few)) in
          subst (Told found old new) (sym (each_push (nested_from e dims) (cell_count dims) p u.done t.tree)) (told_more fault found old now new _ _ (u.told (omega (arith, few))) m);
    }

-- all members were passed
pub record IsOver (e : Elem) (dims : List ℕ) (want p : ℕ) (trees : Items) (rest r : List Token) (old : List ℕ) (fault : Option ValueFault) (got : ℕ) (now : List ℕ) : Type 0 where
  pub rest_is : r ≡ rest
  pub many : length (list_of trees) ≡ got
  pub told : got ≤ want → Told fault old now (each_nested (nested_from e dims) (cell_count dims) p (list_of trees))

pub underway_over : (e : Elem) (dims : List ℕ) (want p : ℕ) (trees : Items) (rest r : List Token) (old : List ℕ) (from : List Token) (fault : Option ValueFault) (got next : ℕ) (now : List ℕ)
    → IsUnderway e dims want p trees rest old from fault got next now → after_end_array from ≡ Some r → IsOver e dims want p trees rest r old fault got now
underway_over e dims want p trees rest r old from fault got next now u closed =
    let last = none_more from rest r u.left u.here closed in
    let all : list_of trees ≡ u.done = u.all ∙ ap (λ x. u.done ++ list_of x) last.1 ∙ append-nil u.done in
    record {
      rest_is = last.0;
      many = ap length all ∙ sym u.counted;
      told = λ w. subst (λ ds. Told fault old now (each_nested (nested_from e dims) (cell_count dims) p ds)) (sym all) (u.told w);
    }

pub wrong_count : (e : Elem) (dims : List ℕ) (want p got : ℕ) (ds : List Data) → length ds ≡ got → got ≢ want → members_from e want dims p ds ≡ Err (WrongCount want got)
wrong_count e dims want p got ds many other = rw (many, ne_eqb got want other) refl

pub right_count : (e : Elem) (dims : List ℕ) (want p got : ℕ) (ds : List Data) (fault : Option ValueFault) (old now : List ℕ) → length ds ≡ got → got ≡ want
    → Told fault old now (each_nested (nested_from e dims) (cell_count dims) p ds) → Told fault old now (members_from e want dims p ds)
right_count e dims want p got ds fault old now many is h =
    let same : members_from e want dims p ds ≡ each_nested (nested_from e dims) (cell_count dims) p ds = rw (eq-eqb (length ds) want (many ∙ is)) refl in
    subst (Told fault old now) (sym same) h

-- ---- a list at its extent

pub list_told : (e : Elem) (dims ns : List ℕ) (p : ℕ) (tree : Data) (trees : Items) (fault : Option ValueFault) (old now : List ℕ) → 1 ≤ length dims → ns ≡ drop 1 dims → tree ≡ array trees
    → Told fault old now (members_from e (get_or dims 0 0) ns p (list_of trees)) → Told fault old now (nested_from e dims p tree)
list_told e [] ns p tree trees fault old now some is list h = absurd (omega arith)
list_told e (m ∷ ms) ns p tree trees fault old now some is list h =
    let here = subst (λ q. Told fault old now (members_from e m q p (list_of trees))) is h in
    subst (λ d. Told fault old now (nested_from e (m ∷ ms) p d)) (sym list) here

pub no_extent : (dims : List ℕ) → length dims ≡ 0 → dims ≡ []
no_extent [] e = refl
no_extent (n ∷ ns) e = absurd (omega arith)

pub unwanted : (b : Bool) → b ≡ false → IsTrue b → ⊥
unwanted true e w = absurd (cc)
unwanted false e w = absurd (cc)
