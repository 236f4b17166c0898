-- The nodes right below a path stand in a row, behind the path.
use Rattle.std.proofs.Common.{◌≡◌, ◌≢◌, ◌⊎◌, inl, inr, ℕ, suc, ◌<◌, T, Bool, true, false, not, ◌&&◌, ◌||◌, cond, option_map, map, List, [], ◌∷◌, ◌++◌, drop, get_or, nat_eq, Option, Some, None, IsSome, is_some, Ordering, Less, Equal, Greater, is_eq, nat_cmp, refl, sym, ap, subst, ◌∙◌, arith}
use Rattle.std.specs.Cmp.{Equal-is, ranks}
use Rattle.std.specs.Cmp.Lexicographic.{nat_list_cmp_total}
use Rattle.std.specs.FinMap.{FinMap, empty, entries, entries-insert, find, get, get-entries, len-empty, len-entries, put}
use Rattle.std.specs.List.{filter, list_any, starts_with}
use Rattle.std.specs.Ordering.{MatchOrdering, ordering_then, is_lt}
use Rattle.std.specs.Str.{bytes_eq}
use Rattle.std.proofs.lemmas.Bool.{and_from, and_parts, cases_eq, cond-false, cond-true, eq-eqb, eqb-true, false_from_ne_true, false≢true, ne_eqb, or_cases, or_right}
use Rattle.std.proofs.lemmas.Bool.Decides.{Decides-eqb}
use Rattle.std.proofs.lemmas.Cmp.{tied_itself}
use Rattle.std.proofs.lemmas.Slice.Eq.{bytes_eq-Decides, starts_is}
use Rattle.std.proofs.Math.Seq.{split_at}
use Rattle.std.proofs.lemmas.List.{nil_from_length}
use Rattle.containers.specs.TextMaps.Keyed.{text_order}
use Rattle.containers.specs.TextMaps.Nexts.{first, left}
use Rattle.containers.proofs.TextMaps.KeyedMaps.{exact_texts}
use Rattle.object_ids.specs.Paths.{parent_of, path_of, root_path, starts_with_slash}
use Rattle.object_ids.proofs.PathLemmas.{IsLongPath, has_last_slash, is_path-from_path_of, parent_of-at, parent_of-none, path_cases}
use Rattle.domains.specs.declared.classes.Node.{Node}
use Rattle.domains.specs.Children.{children_in, children_of, has_children, is_child}
use Rattle.domains.specs.Contents.{Contents, HasChildren, IsCatalogue, only_root}
use Rattle.domains.specs.NodeTrees.{child_tree}
use Rattle.serde_json.specs.View.{view}
use Rattle.serde_json.specs.declared.value.Value.{Value}
use Rattle.domains.specs.ChildSteps.{AreCanonical, IsChildStep, IsFrom}
use Rattle.containers.proofs.Plain.{less}
use Rattle.containers.proofs.TextMaps.TextOrders.{not_itself, behind_prefix}

abbrev pub Row : Type 0
Row = List ℕ × Node

both_less : (p k : ℕ) (o u x y : Ordering) → MatchOrdering o (p < k) (p ≡ k) (k < p) → MatchOrdering u (k < p) (k ≡ p) (p < k)
    → ordering_then o x ≡ Less → ordering_then u y ≡ Less → (p ≡ k) × (x ≡ Less) × (y ≡ Less)
both_less p k Less Less x y h g a b = absurd (omega arith)
both_less p k Less Equal x y h g a b = absurd (omega arith)
both_less p k Less Greater x y h g a b = cc
both_less p k Equal Less x y h g a b = absurd (omega arith)
both_less p k Equal Equal x y h g a b = (h, a, b)
both_less p k Equal Greater x y h g a b = cc
both_less p k Greater u x y h g a b = cc

-- what stands between a text and one that begins with it begins with it too
prefix_between : (path key rest : List ℕ) → text_order path key ≡ Less → text_order key (path ++ rest) ≡ Less → (tail : List ℕ) × (key ≡ path ++ tail)
prefix_between [] key rest a b = (key, refl)
prefix_between (p ∷ ps) [] rest a b = cc
prefix_between (p ∷ ps) (k ∷ ks) rest a b =
    let both = both_less p k (nat_cmp p k) (nat_cmp k p) (text_order ps ks) (text_order ks (ps ++ rest)) (ranks p k) (ranks k p) a b in
    let more = prefix_between ps ks rest both.1 both.2 in
    (more.0, λ i. sym both.0 i ∷ more.1 i)

-- a path begins with a folder's, and goes on
abbrev Below : List ℕ → List ℕ → Type 0
Below folder q = (b : ℕ) × ((rest : List ℕ) × (q ≡ folder ++ b ∷ rest))

below_root : (q : List ℕ) → starts_with_slash q ≡ true → q ≢ root_path → Below root_path q
below_root [] h other = absurd (false≢true h)
below_root (b ∷ []) h other = absurd (other (ap (λ x. x ∷ []) (eqb-true b 47 h)))
below_root (b ∷ c ∷ bs) h other = (c, (bs, ap (λ x. x ∷ c ∷ bs) (eqb-true b 47 h)))

below_parent : (q : List ℕ) → IsLongPath q → q ≢ parent_of q → Below (parent_of q) q
below_parent q long other = elim (has_last_slash q) [
  | inl none ↦ at_root (parent_of-none q none)
  | inr found ↦ elim (cases_eq found.0 0) [
    | inl first ↦ at_root (parent_of-at q found.0 found.1 ∙ cond-true _ _ _ (eq-eqb found.0 0 first))
    | inr later ↦
        let e = parent_of-at q found.0 found.1 ∙ cond-false _ _ _ (ne_eqb found.0 0 later) in
        subst (λ (p : List ℕ). Below p q) (sym e) (get_or q found.0 0, (drop (suc found.0) q, split_at q found.0 0 found.1.within))
  ]
] where
  at_root : parent_of q ≡ root_path → Below (parent_of q) q
  at_root e = subst (λ (p : List ℕ). Below p q) (sym e) (below_root q long.begins (λ same. other (same ∙ sym e)))

-- what the test of a child finds
pub child_is : (folder q : List ℕ) → is_child folder q ≡ true → (parent_of q ≡ folder) × (q ≢ folder)
child_is folder q h =
    let both = and_parts (bytes_eq (parent_of q) folder) (not (bytes_eq q folder)) h in (
      (bytes_eq-Decides (parent_of q) folder).0 both.0,
      λ same. false≢true (sym (ap not ((bytes_eq-Decides q folder).1 same)) ∙ both.1),
    )

differs : (q folder : List ℕ) → q ≢ folder → bytes_eq q folder ≡ false
differs q folder other = false_from_ne_true _ (λ h. other ((bytes_eq-Decides q folder).0 h))

pub is_child_of : (folder q : List ℕ) → parent_of q ≡ folder → q ≢ folder → is_child folder q ≡ true
is_child_of folder q same other = and_from _ _ ((bytes_eq-Decides (parent_of q) folder).1 same) (ap not (differs q folder other))

child_below : (folder q : List ℕ) → path_of q ≡ Some q → is_child folder q ≡ true → Below folder q
child_below folder q canonical h =
    let child = child_is folder q h in
    elim (path_cases q (is_path-from_path_of q q canonical)) [
      | inl root ↦ absurd (child.1 (root ∙ sym (ap parent_of root) ∙ child.0))
      | inr long ↦ subst (λ (p : List ℕ). Below p q) child.0 (below_parent q long (λ same. child.1 (same ∙ child.0)))
    ]

child_behind : (folder q : List ℕ) → path_of q ≡ Some q → is_child folder q ≡ true → is_lt (text_order folder q) ≡ true
child_behind folder q canonical h =
    let below = child_below folder q canonical h in
    ap is_lt (ap (text_order folder) below.1.1 ∙ behind_prefix folder below.0 below.1.0)

begins : (key folder tail : List ℕ) → key ≡ folder ++ tail → starts_with nat_eq key folder ≡ true
begins key folder tail e = (starts_is Decides-eqb key folder (starts_with nat_eq key folder) refl).1 tail e

-- a path that doesn't begin with the folder's, and stands behind it, has no child of the folder behind it, and is none
module _ (folder key : List ℕ) (behind : text_order folder key ≡ Less) (leaves : starts_with nat_eq key folder ≡ false) where
  past_itself : path_of key ≡ Some key → is_child folder key ≡ false
  past_itself canonical = false_from_ne_true _ (λ h.
      let below = child_below folder key canonical h in
      false≢true (sym leaves ∙ begins key folder (below.0 ∷ below.1.0) below.1.1))

  past : (q : List ℕ) → path_of q ≡ Some q → text_order key q ≡ Less → is_child folder q ≡ false
  past q canonical far = false_from_ne_true _ (λ h.
      let below = child_below folder q canonical h in
      let between = prefix_between folder key (below.0 ∷ below.1.0) behind (subst (λ (r : List ℕ). text_order key r ≡ Less) below.1.1 far) in
      false≢true (sym leaves ∙ begins key folder between.0 between.1))

-- each row stands at the text of a path
abbrev pub Canon : List Row → Type 0
Canon [] = Unit {0}
Canon (e ∷ es) = (path_of e.0 ≡ Some e.0) × Canon es

some_later : (b : Bool) (v : Node) (o : Option Node) → IsSome o → IsSome (cond b (Some v) o)
some_later true v o h = refl
some_later false v o h = h

some_first : (e : Row) (es : List Row) → IsSome (find text_order e.0 (e ∷ es))
some_first e es = ap (λ o. is_some (cond (is_eq o) (Some e.1) (find text_order e.0 es))) (tied_itself nat_list_cmp_total e.0)

canon_rows : (es : List Row) → ((k : List ℕ) → IsSome (find text_order k es) → path_of k ≡ Some k) → Canon es
canon_rows [] all = tt
canon_rows (e ∷ es) all = (all e.0 (some_first e es), canon_rows es (λ k there. all k (some_later (is_eq (text_order k e.0)) e.1 (find text_order k es) there)))

pub canon : (nodes : FinMap text_order Node) → AreCanonical nodes → Canon (entries nodes)
canon nodes all = canon_rows (entries nodes) (λ k there. all k (subst IsSome (sym (get-entries nodes k)) there))

kept : (test : Row → Bool) (e : Row) (b : Bool) (passed rest : List Row) → (test e ≡ true → b ≡ true) → passed ≡ filter test rest
    → cond (test e) (e ∷ passed) passed ≡ filter test (cond b (e ∷ rest) rest)
kept test e true passed rest h same = ap (λ x. cond (test e) (e ∷ x) x) same
kept test e false passed rest h same = cond-false (test e) _ _ (false_from_ne_true _ (λ yes. false≢true (h yes))) ∙ same

-- all children stand behind the folder
pub children_behind : (folder : List ℕ) (es : List Row) → Canon es → children_in folder es ≡ children_in folder (left text_order (Some folder) es)
children_behind folder [] all = refl
children_behind folder (e ∷ es) all = kept (λ d. is_child folder d.0) e (is_lt (text_order folder e.0)) _ _ (child_behind folder e.0 all.0) (children_behind folder es all.1)

dropped : (test : Row → Bool) (e : Row) (b : Bool) (rest : List Row) → (b ≡ true → test e ≡ false) → filter test rest ≡ [] → filter test (cond b (e ∷ rest) rest) ≡ []
dropped test e true rest h none = cond-false (test e) _ _ (h refl) ∙ none
dropped test e false rest h none = none

none_past : (folder key : List ℕ) (es : List Row) → Canon es → text_order folder key ≡ Less → starts_with nat_eq key folder ≡ false
    → children_in folder (left text_order (Some key) es) ≡ []
none_past folder key [] all behind leaves = refl
none_past folder key (e ∷ es) all behind leaves =
    dropped (λ d. is_child folder d.0) e (is_lt (text_order key e.0)) _
    (λ lt. past folder key behind leaves e.0 all.0 (less _ (subst T (sym lt) tt))) (none_past folder key es all.1 behind leaves)

pub from_next : (folder last path : List ℕ) → IsFrom folder last → is_lt (text_order last path) ≡ true → text_order folder path ≡ Less
from_next folder last path (inl same) lt = subst (λ (f : List ℕ). text_order f path ≡ Less) (sym same) (less _ (subst T (sym lt) tt))
from_next folder last path (inr behind) lt = nat_list_cmp_total.trans folder last path behind (less _ (subst T (sym lt) tt))

-- one path more is looked at
module _ (nodes : FinMap text_order Node) (folder last path : List ℕ) (node : Node) (from : IsFrom folder last) (behind : is_lt (text_order last path) ≡ true)
    (step : left text_order (Some last) (entries nodes) ≡ (path, node) ∷ left text_order (Some path) (entries nodes)) where
  rest : List Row
  rest = children_in folder (left text_order (Some path) (entries nodes))

  looked : (b : Bool) → is_child folder path ≡ b → children_in folder (left text_order (Some last) (entries nodes)) ≡ cond b ((path, node) ∷ children_in folder (left text_order (Some path) (entries nodes))) (children_in folder (left text_order (Some path) (entries nodes)))
  looked b is = ap (children_in folder) step ∙ ap (λ t. cond t ((path, node) ∷ children_in folder (left text_order (Some path) (entries nodes))) (children_in folder (left text_order (Some path) (entries nodes)))) is

  -- it is a child
  pub found_child : (after : List ℕ) → children_in folder (left text_order (Some last) (entries nodes)) ≡ children_in folder (left text_order (Some after) (entries nodes))
      → bytes_eq (parent_of path) folder ≡ true → IsChildStep folder (entries nodes) after (Some (path, node))
  found_child after so_far parent =
      sym so_far ∙ looked true (is_child_of folder path ((bytes_eq-Decides (parent_of path) folder).0 parent) (not_itself folder path (from_next folder last path from behind)))

  -- it is none, and the walk goes on
  pub passed_by : (after : List ℕ) → children_in folder (left text_order (Some last) (entries nodes)) ≡ children_in folder (left text_order (Some after) (entries nodes))
      → bytes_eq (parent_of path) folder ≡ false → children_in folder (left text_order (Some path) (entries nodes)) ≡ children_in folder (left text_order (Some after) (entries nodes))
  passed_by after so_far parent = sym (looked false (ap (λ b. b && not (bytes_eq path folder)) parent)) ∙ so_far

  -- it doesn't begin with the folder's path, and the walk ends
  pub walk_ends : (after : List ℕ) → AreCanonical nodes → IsSome (get nodes path)
      → children_in folder (left text_order (Some last) (entries nodes)) ≡ children_in folder (left text_order (Some after) (entries nodes))
      → starts_with nat_eq path folder ≡ false → IsChildStep folder (entries nodes) after None
  walk_ends after all there so_far leaves =
      let far = from_next folder last path from behind in
      sym so_far ∙ looked false (past_itself folder path far leaves (all path there)) ∙ none_past folder path (entries nodes) (canon nodes all) far leaves

-- there is no path more
pub walk_done : (nodes : FinMap text_order Node) (folder last after : List ℕ) → left text_order (Some last) (entries nodes) ≡ []
    → children_in folder (left text_order (Some last) (entries nodes)) ≡ children_in folder (left text_order (Some after) (entries nodes)) → IsChildStep folder (entries nodes) after None
walk_done nodes folder last after none so_far = sym so_far ∙ ap (children_in folder) none

-- whether any passes, by the first that does
any_first : (test : Row → Bool) (es : List Row) → list_any test es ≡ is_some (first (filter test es))
any_first test [] = refl
any_first test (e ∷ es) = at (test e) (any_first test es) where
  at : (b : Bool) → list_any test es ≡ is_some (first (filter test es)) → (b || list_any test es) ≡ is_some (first (cond b (e ∷ filter test es) (filter test es)))
  at true later = refl
  at false later = later

-- the first child behind the folder's own path says whether there are children
pub any_child : {A : Type 0} (shown : A → List ℕ × Node) (nodes : FinMap text_order Node) (folder : List ℕ) (r : Option A) → AreCanonical nodes
    → IsChildStep folder (entries nodes) folder (option_map shown r) → is_some r ≡ list_any (λ e. is_child folder e.0) (entries nodes)
any_child {A = A} shown nodes folder r all step =
    at r step ∙ ap (λ es. is_some (first es)) (sym (children_behind folder (entries nodes) (canon nodes all))) ∙ sym (any_first (λ e. is_child folder e.0) (entries nodes))
  where
    at : (r : Option A) → IsChildStep folder (entries nodes) folder (option_map shown r) → is_some r ≡ is_some (first (children_in folder (left text_order (Some folder) (entries nodes))))
    at None step = sym (ap (λ (es : List Row). is_some (first es)) step)
    at (Some x) step = sym (ap (λ (es : List Row). is_some (first es)) step)

class_some : (o : Option Node) → IsSome o → IsSome (option_map (λ n. n.class) o)
class_some None h = h
class_some (Some n) h = refl

-- a catalogue's paths
pub canonical_paths : (c : Contents) → IsCatalogue c → AreCanonical c.nodes
canonical_paths c valid = λ path there. valid.paths path (class_some (get c.nodes path) there)

-- a list of children begins
pub children_start : (nodes : FinMap text_order Node) (folder : List ℕ) (vs : List Value) → AreCanonical nodes → vs ≡ []
    → map view vs ++ map (λ e. child_tree e.0 e.1) (children_in folder (left text_order (Some folder) (entries nodes))) ≡ map (λ e. child_tree e.0 e.1) (children_in folder (entries nodes))
children_start nodes folder vs all none =
    ap (λ vs. map view vs ++ map (λ (e : Row). child_tree e.0 e.1) (children_in folder (left text_order (Some folder) (entries nodes)))) none
    ∙ ap (λ es. map (λ (e : Row). child_tree e.0 e.1) es) (sym (children_behind folder (entries nodes) (canon nodes all)))

found_later : (b : Bool) (v : Node) (o : Option Node) → IsSome (cond b (Some v) o) → (b ≡ true) ⊎ IsSome o
found_later true v o h = inl refl
found_later false v o h = inr h

-- a child that is found is one of the rows, and the other way
row_child : (folder q : List ℕ) (es : List Row) → is_child folder q ≡ true → IsSome (find text_order q es) → list_any (λ e. is_child folder e.0) es ≡ true
row_child folder q [] h there = absurd (false≢true there)
row_child folder q (e ∷ es) h there = elim (found_later (is_eq (text_order q e.0)) e.1 (find text_order q es) there) [
  | inl here ↦
      let same = exact_texts q e.0 ((Equal-is (text_order q e.0)).0 here) in
      ap (λ b. b || list_any (λ (d : Row). is_child folder d.0) es) (subst (λ (p : List ℕ). is_child folder p ≡ true) same h)
  | inr later ↦ or_right (is_child folder e.0) _ (row_child folder q es h later)
]

child_row : (folder : List ℕ) (es : List Row) → list_any (λ e. is_child folder e.0) es ≡ true → (q : List ℕ) × ((is_child folder q ≡ true) × IsSome (find text_order q es))
child_row folder [] h = absurd (false≢true h)
child_row folder (e ∷ es) h = elim (or_cases (is_child folder e.0) (list_any (λ (d : Row). is_child folder d.0) es) h) [
  | inl here ↦ (e.0, (here, some_first e es))
  | inr later ↦
      let found = child_row folder es later in
      (found.0, (found.1.0, some_later (is_eq (text_order found.0 e.0)) e.1 (find text_order found.0 es) found.1.1))
]

node_some : (o : Option Node) → IsSome (option_map (λ n. n.class) o) → IsSome o
node_some None h = h
node_some (Some n) h = refl

pub has_children_is : (c : Contents) (path : List ℕ) → has_children c path ≡ true → HasChildren c path
has_children_is c path h =
    let found = child_row path (entries c.nodes) h in
    let child = child_is path found.0 found.1.0 in
    (found.0, child.0, child.1, class_some (get c.nodes found.0) (subst IsSome (sym (get-entries c.nodes found.0)) found.1.1))

pub is_has_children : (c : Contents) (path : List ℕ) → HasChildren c path → has_children c path ≡ true
is_has_children c path (child, parent, other, there) =
    row_child path child (entries c.nodes) (is_child_of path child parent other) (subst IsSome (get-entries c.nodes child) (node_some (get c.nodes child) there))

-- `/` alone has no children
pub root_childless : (node : Node) → children_of (only_root node) root_path ≡ []
root_childless node =
    ap (children_in root_path) (entries-insert nat_list_cmp_total (empty {X = Node} {R = text_order}) root_path node
    ∙ ap (put text_order root_path node) (nil_from_length _ (sym (len-entries (empty {X = Node} {R = text_order})) ∙ len-empty text_order Node)))
