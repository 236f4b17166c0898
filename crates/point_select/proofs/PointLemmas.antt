-- The tests in order find the points that the grammar relates to the tree, and no other.
use Rattle.std.proofs.Common.{◌≡◌, ℕ, suc, ◌+◌, ◌<◌, ◌≤◌, false, cond, inl, inr, List, [], ◌∷◌, ◌++◌, length, All, Option, Some, None, Result, Ok, Err, IfOk, IsErrAnd, OnOk, nat_lt, nat_eq, refl, sym, ap, subst, ◌∙◌, arith, add-one, append-nil}
use Rattle.std.specs.List.{AllZip}
use Rattle.std.proofs.lemmas.Bool.{eqb-true, false≢true, eq-eqb}
use Rattle.std.proofs.lemmas.Bool.Decides.{nat_tests}
use Rattle.std.proofs.lemmas.List.{append_assoc}
use Rattle.std.proofs.lemmas.List.Elements.{All-nil, All-cons}
use Rattle.serde_json.specs.Data.{Data, Items, array}
use Rattle.json.specs.Token.{Token}
use Rattle.json_trees.specs.Kept.{Begins}
use Rattle.json_trees.specs.Trees.{list_of, list_in}
use Rattle.json_trees.proofs.TreeLemmas.{list_in_array, length-AllZip}
use Rattle.json_trees.specs.Faults.{◌>>=◌, Fails}
use Rattle.json_trees.proofs.FaultLemmas.{chosen, test_ok, bind_ok}
use Rattle.shapes.specs.declared.Shape.{Shape}
use Rattle.shapes.specs.declared.Shape.TheVariants.{Null, Scalar, Simple}
use Rattle.shapes.specs.RowMajor.{IsInside, is_inside}
use Rattle.shapes.specs.Shapes.{IsDims, LiesIn}
use Rattle.shapes.proofs.ShapeLemmas.{dims_alone_told, dims_alone_read}
use Rattle.json_trees.proofs.OfKept.StreamLemmas.{IsLeft, left_more, left_next, left_some}
use Rattle.point_select.specs.declared.TheConstants.{MAX_POINTS}
use Rattle.point_select.specs.declared.PointFault.{PointFault}
use Rattle.point_select.specs.declared.PointFault.TheVariants.{Syntax, TooMany, Rank, Past, NoMemory}
use Rattle.point_select.specs.Points.{IsPoint, SpellsPoints, IsBadPoint, IsFirstBad}
use Rattle.shapes.proofs.InsideLemmas.{inside_told, inside_read}
use Rattle.point_select.specs.Faults.{coords_in, point_at, point_of, followed, points_from, points_in, counted_points, points_of, GivesPoint, GivesPoints}

-- ---- one point

at_told : (dims : List ℕ) (k : ℕ) (o : Option (List ℕ)) (at : List ℕ) → point_at dims k o ≡ Ok at → (o ≡ Some at) × IsInside at dims
at_told dims k None at e = cc
at_told dims k (Some xs) at e =
    let ranked = test_ok (nat_eq (length xs) (length dims)) (cond (is_inside xs dims) (Ok xs) (Err (Past k))) (Rank k) at e in
    let placed = test_ok (is_inside xs dims) (Ok xs) (Past k) at ranked.1 in
    let P = λ (ys : List ℕ). (Some xs ≡ Some ys) × IsInside ys dims in
    let same : xs ≡ at = cc in
    subst P same (refl, inside_told xs dims placed.0)

point_told : (dims : List ℕ) (k : ℕ) (d : Data) (at : List ℕ) → point_of dims k d ≡ Ok at → IsPoint dims d at
unfolding point_of
point_told dims k d at e =
    let parts = at_told dims k (coords_in d) at e in
    (dims_alone_told d at parts.0, parts.1)

at_read : (dims : List ℕ) (k : ℕ) (at : List ℕ) → IsInside at dims → point_at dims k (Some at) ≡ Ok at
at_read dims k at h =
    let same = eq-eqb (length at) (length dims) (sym (length-AllZip (λ x n. x < n) at dims h)) in
    rw (same, inside_read at dims h)

point_read : (dims : List ℕ) (k : ℕ) (d : Data) (at : List ℕ) → IsPoint dims d at → point_of dims k d ≡ Ok at
unfolding point_of
point_read dims k d at h = ap (point_at dims k) (dims_alone_read d at h.0) ∙ at_read dims k at h.1

-- ---- a list of points

followed_ok : (points : List (List ℕ)) (r : Result (List (List ℕ)) PointFault) (all : List (List ℕ)) → followed points r ≡ Ok all → (more : List (List ℕ)) × (r ≡ Ok more) × (points ++ more ≡ all)
followed_ok points (Ok more) all e = (more, refl, cc)
followed_ok points (Err f) all e = cc

from_told : (dims : List ℕ) (k : ℕ) (ds : List Data) (points : List (List ℕ)) → points_from dims k ds ≡ Ok points → AllZip (IsPoint dims) ds points
from_told dims k [] [] e = tt
from_told dims k [] (p ∷ ps) e = cc
from_told dims k (d ∷ ds) points e =
    let head = bind_ok (point_of dims k d) (λ at. followed (at ∷ []) (points_from dims (suc k) ds)) points e in
    let rest = followed_ok (head.0 ∷ []) (points_from dims (suc k) ds) points head.2 in
    let P = λ (ps : List (List ℕ)). AllZip (IsPoint dims) (d ∷ ds) ps in
    subst P rest.2 (point_told dims k d head.0 head.1, from_told dims (suc k) ds rest.0 rest.1)

from_read : (dims : List ℕ) (k : ℕ) (ds : List Data) (points : List (List ℕ)) → AllZip (IsPoint dims) ds points → points_from dims k ds ≡ Ok points
from_read dims k [] [] h = refl
from_read dims k [] (p ∷ ps) h = absurd h
from_read dims k (d ∷ ds) [] h = absurd h
from_read dims k (d ∷ ds) (p ∷ ps) h = rw (point_read dims k d p h.0, from_read dims (suc k) ds ps h.1)

-- one point more was read, or it is bad
pub point_next : (dims : List ℕ) (k : ℕ) (d : Data) (ds : List Data) (at : List ℕ) (points : List (List ℕ)) → point_of dims k d ≡ Ok at
    → followed points (points_from dims k (d ∷ ds)) ≡ followed (points ++ at ∷ []) (points_from dims (k + 1) ds)
point_next dims k d ds at points e = rw (e, add-one) (moved (points_from dims (suc k) ds))
  where
    moved : (r : Result (List (List ℕ)) PointFault) → followed points (followed (at ∷ []) r) ≡ followed (points ++ at ∷ []) r
    moved (Ok more) = ap Ok (sym (append_assoc points (at ∷ []) more))
    moved (Err f) = refl

pub point_stop : (dims : List ℕ) (k : ℕ) (d : Data) (ds : List Data) (f : PointFault) (points : List (List ℕ)) → point_of dims k d ≡ Err f → followed points (points_from dims k (d ∷ ds)) ≡ Err f
point_stop dims k d ds f points e = rw e

-- ---- the first bad point

bad_at : (dims : List ℕ) (k : ℕ) (d : Data) (o : Option (List ℕ)) (f : PointFault) → coords_in d ≡ o → point_at dims k o ≡ Err f → IsBadPoint dims k d f
bad_at dims k d None f is e =
    let named : f ≡ Syntax k = cc in
    inl (named, λ at h. none at h)
  where
    none : (at : List ℕ) → IsDims d at → ⊥
    none at h = cc (is, dims_alone_read d at h)
bad_at dims k d (Some at) f is e =
    let spelled = dims_alone_told d at is in
    elim (chosen (nat_eq (length at) (length dims)) (cond (is_inside at dims) (Ok at) (Err (Past k))) (Err (Rank k)) (Err f) e) [
      | inl p ↦ elim (chosen (is_inside at dims) (Ok at) (Err (Past k)) (Err f) p.1) [
        | inl q ↦ cc
        | inr q ↦
            let named : f ≡ Past k = cc in
            inr (at, spelled, inr (named, eqb-true (length at) (length dims) p.0, λ h. false≢true (sym q.0 ∙ inside_read at dims h)))
      ]
      | inr p ↦
          let named : f ≡ Rank k = cc in
          inr (at, spelled, inl (named, λ h. false≢true (sym p.0 ∙ eq-eqb (length at) (length dims) h)))
    ]

point_bad : (dims : List ℕ) (k : ℕ) (d : Data) (f : PointFault) → point_of dims k d ≡ Err f → IsBadPoint dims k d f
unfolding point_of
point_bad dims k d f e = bad_at dims k d (coords_in d) f refl e

followed_err : (points : List (List ℕ)) (r : Result (List (List ℕ)) PointFault) (f : PointFault) → followed points r ≡ Err f → r ≡ Err f
followed_err points (Ok more) f e = cc
followed_err points (Err g) f e = cc

first_step : (dims : List ℕ) (k : ℕ) (d : Data) (ds : List Data) (f : PointFault) (r : Result (List ℕ) PointFault) → point_of dims k d ≡ r
    → (r >>= λ at. followed (at ∷ []) (points_from dims (suc k) ds)) ≡ Err f → (points_from dims (suc k) ds ≡ Err f → IsFirstBad dims (suc k) ds f) → IsFirstBad dims k (d ∷ ds) f
first_step dims k d ds f (Err g) is e later =
    let same : g ≡ f = cc in
    let P = λ (h : PointFault). IsBadPoint dims k d h in
    record { front = []; points = []; good = tt; tree = d; rest = ds; split = refl; number = k; counted = omega arith; bad = subst P same (point_bad dims k d g is) }
first_step dims k d ds f (Ok at) is e later =
    let found = later (followed_err (at ∷ []) (points_from dims (suc k) ds) f e) in
    let counted = found.counted in
    record {
      front = d ∷ found.front;
      points = at ∷ found.points;
      good = (point_told dims k d at is, found.good);
      tree = found.tree;
      rest = found.rest;
      split = ap (λ es. d ∷ es) found.split;
      number = found.number;
      counted = omega (arith, counted);
      bad = found.bad;
    }

pub first_bad : (dims : List ℕ) (k : ℕ) (ds : List Data) (f : PointFault) → points_from dims k ds ≡ Err f → IsFirstBad dims k ds f
first_bad dims k [] f e = cc
first_bad dims k (d ∷ ds) f e = first_step dims k d ds f (point_of dims k d) refl e (first_bad dims (suc k) ds f)

-- ---- the whole tree

in_told : (shape : Shape) (d : Data) (items : Items) (points : List (List ℕ)) → d ≡ array items → length (list_of items) ≤ MAX_POINTS → points_in shape (list_of items) ≡ Ok points → SpellsPoints d shape points
in_told Null d items points is few e = cc
in_told Scalar d items points is few e = cc
in_told (Simple dims limits) d items points is few e =
    let each = from_told dims 0 (list_of items) points e in
    let same = length-AllZip (IsPoint dims) (list_of items) points each in
    (items, is, omega (arith, same, few), each)

counted_told : (shape : Shape) (d : Data) (o : Option (List Data)) (points : List (List ℕ)) → list_in d ≡ o → counted_points shape o ≡ Ok points → SpellsPoints d shape points
counted_told shape d None points is e = cc
counted_told shape d (Some ds) points is e = elim (chosen (nat_lt MAX_POINTS (length ds)) (Err (TooMany (length ds))) (points_in shape ds) (Ok points) e) [
  | inl p ↦ cc
  | inr p ↦
      let found = list_in_array d ds is in
      let few : length ds ≤ MAX_POINTS = grind (arith, nat_tests, p.0) in
      let P = λ (es : List Data). length es ≤ MAX_POINTS in
      let Q = λ (es : List Data). points_in shape es ≡ Ok points in
      in_told shape d found.0 points found.1 (subst P (sym found.2) few) (subst Q (sym found.2) p.1)
]

pub points_told : (d : Data) (shape : Shape) (points : List (List ℕ)) → points_of d shape ≡ Ok points → SpellsPoints d shape points
unfolding points_of
points_told d shape points e = counted_told shape d (list_in d) points refl e

counted_read : (dims limits : List ℕ) (ds : List Data) (points : List (List ℕ)) → length ds ≤ MAX_POINTS → points_from dims 0 ds ≡ Ok points → counted_points (Simple dims limits) (Some ds) ≡ Ok points
counted_read dims limits ds points few e =
    let fits : nat_lt MAX_POINTS (length ds) ≡ false = grind (arith, nat_tests) in
    rw fits e

pub points_bad : (d : Data) (dims limits : List ℕ) (items : Items) (f : PointFault) → d ≡ array items → length (list_of items) ≤ MAX_POINTS → points_of d (Simple dims limits) ≡ Err f → IsFirstBad dims 0 (list_of items) f
unfolding points_of
points_bad d dims limits items f is few e =
    let fits : nat_lt MAX_POINTS (length (list_of items)) ≡ false = grind (arith, nat_tests, few) in
    let there : counted_points (Simple dims limits) (list_in (array items)) ≡ Err f = ap (λ t. counted_points (Simple dims limits) (list_in t)) (sym is) ∙ e in
    let passed : points_from dims 0 (list_of items) ≡ Err f = rw fits at there in
    first_bad dims 0 (list_of items) f passed

pub points_read : (d : Data) (shape : Shape) (points : List (List ℕ)) → SpellsPoints d shape points → points_of d shape ≡ Ok points
unfolding points_of
points_read d Null points h = absurd h
points_read d Scalar points h = absurd h
points_read d (Simple dims limits) points h =
    let same = length-AllZip (IsPoint dims) (list_of h.0) points h.3 in
    ap (λ e. counted_points (Simple dims limits) (list_in e)) h.1 ∙ counted_read dims limits (list_of h.0) points (omega (arith, same, h.2)) (from_read dims 0 (list_of h.0) points h.3)

-- ---- what the points of a shape are

all_inside : (dims : List ℕ) (ds : List Data) (points : List (List ℕ)) → AllZip (IsPoint dims) ds points → All (λ at. IsInside at dims) points
all_inside dims [] [] h = All-nil (λ at. IsInside at dims)
all_inside dims [] (p ∷ ps) h = absurd h
all_inside dims (d ∷ ds) [] h = absurd h
all_inside dims (d ∷ ds) (p ∷ ps) h = All-cons (λ at. IsInside at dims) p ps h.0.1 (all_inside dims ds ps h.1)

pub points_inside : (d : Data) (shape : Shape) (points : List (List ℕ)) → SpellsPoints d shape points → All (λ at. LiesIn at shape) points
points_inside d Null points h = absurd h
points_inside d Scalar points h = absurd h
points_inside d (Simple dims limits) points h = all_inside dims (list_of h.0) points h.3

pub points_few : (d : Data) (shape : Shape) (points : List (List ℕ)) → SpellsPoints d shape points → length points ≤ MAX_POINTS
points_few d Null points h = absurd h
points_few d Scalar points h = absurd h
points_few d (Simple dims limits) points h = h.2

-- ---- from an answer to what it says

pub answer_told : (r want : Result (List (List ℕ)) PointFault) (P : List (List ℕ) → Type 0) → ((points : List (List ℕ)) → want ≡ Ok points → P points) → GivesPoints r want → IfOk r P
answer_told (Ok points) want P h a = h points a
answer_told (Err f) want P h a = tt

pub answer_same : (r want also : Result (List (List ℕ)) PointFault) → want ≡ also → GivesPoints r want → GivesPoints r also
answer_same r want also e a =
    let P = λ (w : Result (List (List ℕ)) PointFault). GivesPoints r w in
    subst P e a

pub same_points : (ps qs : List (List ℕ)) (r : Result (List (List ℕ)) PointFault) → r ≡ Ok ps → r ≡ Ok qs → ps ≡ qs
same_points ps qs r e k = cc

-- ---- from item to item

-- what one point is read as
given : (r s : Result (List ℕ) PointFault) → r ≡ s → GivesPoint r s
given (Ok at) s e = sym e
given (Err f) s e = inr (sym e)

pub point_given : (r : Result (List ℕ) PointFault) (dims : List ℕ) (k : ℕ) (d : Data) (o : Option (List ℕ)) → r ≡ point_at dims k o → o ≡ coords_in d → GivesPoint r (point_of dims k d)
unfolding point_of
point_given r dims k d o e is = given r (point_at dims k (coords_in d)) (e ∙ ap (point_at dims k) is)

pub where_ok : {A E : Type 0} {P : Type 0} (r : Result A E) → P → OnOk r P
where_ok (Ok x) h = h
where_ok (Err e) h = tt

-- of so many items these are left, behind those that are points
abbrev pub AreBehind : List ℕ → List Data → ℕ → List (List ℕ) → ℕ → List Data → Type 0
AreBehind dims all count points k ds = (length ds + k ≡ count) × (points_from dims 0 all ≡ followed points (points_from dims k ds))

pub behind_first : (dims : List ℕ) (all : List Data) (count : ℕ) → length all ≡ count → AreBehind dims all count [] 0 all
behind_first dims all count many = (omega (arith, many), begun (points_from dims 0 all))
  where
    begun : (r : Result (List (List ℕ)) PointFault) → r ≡ followed [] r
    begun (Ok points) = refl
    begun (Err f) = refl

some_behind : (dims : List ℕ) (all : List Data) (count : ℕ) (points : List (List ℕ)) (k : ℕ) → k < count → AreBehind dims all count points k [] → ⊥
some_behind dims all count points k more h = omega (arith, more, h.0)

pub behind_more : (dims : List ℕ) (all : List Data) (count : ℕ) (points : List (List ℕ)) (k : ℕ) (at : List ℕ) (from after rest : List Token) → k < count → IsLeft (AreBehind dims all count points k) from rest
    → ((tree : Data) (mid : List Token) → Begins from tree mid → (point_of dims k tree ≡ Ok at) × (after ≡ mid)) → IsLeft (AreBehind dims all count (points ++ at ∷ []) (k + 1)) after rest
behind_more dims all count points k at from after rest more u told =
    let P = AreBehind dims all count points k in
    left_more P (AreBehind dims all count (points ++ at ∷ []) (k + 1)) from after rest u (left_some P from rest u (some_behind dims all count points k more))
    (λ tree mid begun. let t = told tree mid begun in (t.1, λ ds h. (omega (arith, h.0), h.1 ∙ point_next dims k tree ds at points t.0)))

stopped : (dims : List ℕ) (k : ℕ) (d : Data) (ds : List Data) (f : PointFault) (points : List (List ℕ)) (all : Result (List (List ℕ)) PointFault) → all ≡ followed points (points_from dims k (d ∷ ds))
    → Fails NoMemory f (point_of dims k d) → Fails NoMemory f all
stopped dims k d ds f points all is (inl none) = inl none
stopped dims k d ds f points all is (inr bad) = inr (is ∙ point_stop dims k d ds f points bad)

pub behind_stop : (dims : List ℕ) (all : List Data) (count : ℕ) (points : List (List ℕ)) (k : ℕ) (f : PointFault) (from rest : List Token) → k < count → IsLeft (AreBehind dims all count points k) from rest
    → ((tree : Data) (mid : List Token) → Begins from tree mid → Fails NoMemory f (point_of dims k tree)) → Fails NoMemory f (points_from dims 0 all)
behind_stop dims all count points k f from rest more u told =
    let P = AreBehind dims all count points k in
    let next = left_next P from rest u (left_some P from rest u (some_behind dims all count points k more)) in
    stopped dims k next.tree (list_of next.others) f points (points_from dims 0 all) next.holds.1 (told next.tree next.mid next.first)

none_behind : (dims : List ℕ) (all : List Data) (count : ℕ) (points : List (List ℕ)) (k : ℕ) (ds : List Data) → count ≤ k → AreBehind dims all count points k ds → points_from dims 0 all ≡ Ok points
none_behind dims all count points k [] over h = h.1 ∙ ap Ok (append-nil points)
none_behind dims all count points k (d ∷ ds) over h = absurd (omega (arith, over, h.0))

pub behind_over : (dims : List ℕ) (all : List Data) (count : ℕ) (points : List (List ℕ)) (k : ℕ) (from rest : List Token) → count ≤ k → IsLeft (AreBehind dims all count points k) from rest → points_from dims 0 all ≡ Ok points
behind_over dims all count points k from rest over u = none_behind dims all count points k (list_of u.left) over u.holds

-- a fault that is handed on
pub handed : (r all : Result (List (List ℕ)) PointFault) (f : PointFault) → IsErrAnd r (λ e. e ≡ f) → Fails NoMemory f all → GivesPoints r all
handed (Ok points) all f is h = absurd is
handed (Err e) all f is h = subst (λ g. Fails NoMemory g all) (sym is) h

-- no coordinates
pub point_unread : (dims : List ℕ) (k : ℕ) (d : Data) → coords_in d ≡ None → point_of dims k d ≡ Err (Syntax k)
unfolding point_of
point_unread dims k d none = ap (point_at dims k) none
