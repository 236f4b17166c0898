-- A catalogue stays one when a node is put.
use Rattle.std.proofs.Common.{◌≡◌, ◌≢◌, ◌⊎◌, inl, inr, ⊎_elim, ℕ, ◌+◌, ◌<◌, ◌≤◌, ◌^◌, true, false, cond, is_some, List, length, Option, Some, None, IsSome, option_map, refl, ap, sym, subst, ◌∙◌, arith, true≢false, lit<, lit≤, lt_irrefl, lt_of_lt_of_le}
use Rattle.std.specs.Ordering.{eq_by_cmp}
use Rattle.std.specs.Cmp.Lexicographic.{nat_list_cmp_total}
use Rattle.std.specs.FinMap.{FinMap, empty, get, insert, len, get-insert, get-empty, len-insert, len-empty}
use Rattle.std.proofs.lemmas.Bool.{cases_Bool}
use Rattle.std.proofs.lemmas.Map.Text.{is_eq-slice_cmp}
use Rattle.std.proofs.lemmas.Slice.Eq.{bytes_eq-Decides}
use Rattle.std.proofs.lemmas.Option.{same_Some}
use Rattle.containers.specs.TextMaps.Keyed.{text_order}
use Rattle.object_ids.specs.Paths.{parent_of, path_of, root_path}
use Rattle.object_ids.specs.declared.ids.ObjectId.{ObjectId}
use Rattle.object_ids.proofs.PathLemmas.{parent_of-shorter}
use Rattle.domains.specs.declared.classes.Node.{Node}
use Rattle.domains.specs.declared.classes.NodeClass.{NodeClass}
use Rattle.domains.specs.declared.classes.NodeClass.TheVariants.{Folder, Domain}
use Rattle.domains.specs.Contents.{most_nodes, Contents, IsCatalogue, IsFolderAt, IsDomainAt, IsGroupOf, HasChildren, HasRoot, IsFree, IsNumberFree, IsPlace, MayStandAt, NumberFits, class_at, only_root, raised, with_node, is_domain}
use Rattle.containers.proofs.TextMaps.TextOrders.{itself}

unfoldable pub IsOther : List ℕ → List ℕ → Type 0
IsOther q path = eq_by_cmp text_order q path ≡ false

-- a text is another or the same
pub same_or_other : (q path : List ℕ) → (q ≡ path) ⊎ IsOther q path
unfolding IsOther
same_or_other q path =
    ⊎_elim
    (λ yes. inl ((bytes_eq-Decides q path).0 (sym (is_eq-slice_cmp q path) ∙ yes)))
    (λ far. inr far)
    (cases_Bool (eq_by_cmp text_order q path))

pub other_differs : (q path : List ℕ) → IsOther q path → q ≢ path
unfolding IsOther
other_differs q path far e =
    let Same : List ℕ → Type 0 = λ r. eq_by_cmp text_order r path ≡ true in
    true≢false (sym (subst Same (sym e) (itself path)) ∙ far)

module _ (m : FinMap text_order Node) (path : List ℕ) (node : Node) where
  pub get_here : get (insert m path node) path ≡ Some node
  get_here = get-insert nat_list_cmp_total m path node path ∙ ap (λ b. cond b (Some node) (get m path)) (itself path)

  pub get_elsewhere : (q : List ℕ) → IsOther q path → get (insert m path node) q ≡ get m q
  unfolding IsOther
  get_elsewhere q far = get-insert nat_list_cmp_total m path node q ∙ ap (λ b. cond b (Some node) (get m q)) far

has_class : (o : Option NodeClass) → IsSome o → (class : NodeClass) × (o ≡ Some class)
has_class None h = absurd (true≢false (sym h))
has_class (Some class) h = (class, refl)

is_some_class : (o : Option NodeClass) (class : NodeClass) → o ≡ Some class → IsSome o
is_some_class o class e = subst IsSome (sym e) refl

module _ (c : Contents) (path : List ℕ) (node : Node) where
  pub class_here : class_at (with_node c path node) path ≡ Some node.class
  class_here = ap (option_map (λ n. n.class)) (get_here c.nodes path node)

  pub class_elsewhere : (q : List ℕ) → IsOther q path → class_at (with_node c path node) q ≡ class_at c q
  class_elsewhere q far = ap (option_map (λ n. n.class)) (get_elsewhere c.nodes path node q far)

  class_is : (q : List ℕ) (class : NodeClass) → q ≡ path → class_at (with_node c path node) q ≡ Some class → node.class ≡ class
  class_is q class same at = same_Some node.class class (sym class_here ∙ ap (class_at (with_node c path node)) (sym same) ∙ at)

  class_was : (q : List ℕ) (class : NodeClass) → IsOther q path → class_at (with_node c path node) q ≡ Some class → class_at c q ≡ Some class
  class_was q class far at = sym (class_elsewhere q far) ∙ at

  -- what holds of the node at the path, and of all nodes before, holds of all nodes after
  each : (P : List ℕ → NodeClass → Type 0) → P path node.class → ((q : List ℕ) (class : NodeClass) → class_at c q ≡ Some class → P q class)
      → (q : List ℕ) (class : NodeClass) → class_at (with_node c path node) q ≡ Some class → P q class
  each P here before q class at =
      ⊎_elim
      (λ same. let Q : List ℕ → Type 0 = λ r. P r class in subst Q (sym same) (subst (P path) (class_is q class same at) here))
      (λ far. before q class (class_was q class far at))
      (same_or_other q path)

  folder_here : node.class ≡ Folder → (q : List ℕ) → q ≡ path → IsFolderAt (with_node c path node) q
  folder_here folder q same = ap (class_at (with_node c path node)) same ∙ class_here ∙ ap Some folder

one_more : (o : Option Node) (n : ℕ) → n < most_nodes → cond (is_some o) n (n + 1) ≤ most_nodes
one_more None n room = omega arith
one_more (Some x) n room = omega arith

raised-ge : (next : ℕ) (class : NodeClass) → next ≤ raised next class
raised-ge next Folder = omega arith
raised-ge next (Domain number id) = omega arith

raised-above : (next : ℕ) (class : NodeClass) (number : ℕ) (id : ObjectId) → class ≡ Domain number id → number < raised next class
raised-above next class number id e =
    let Below : NodeClass → Type 0 = λ k. number < raised next k in
    subst Below (sym e) (omega arith)

raised-fits : (next : ℕ) (class : NodeClass) → next ≤ 2 ^ 48 → NumberFits class → raised next class ≤ 2 ^ 48
raised-fits next Folder fits new = fits
raised-fits next (Domain number id) fits new = omega arith

is_free : (c : Contents) (path : List ℕ) (class : NodeClass) → IsNumberFree c path class → (number : ℕ) (id : ObjectId) → class ≡ Domain number id
    → (other : List ℕ) (own : ObjectId) → IsDomainAt c other number own → other ≡ path
is_free c path class free number id e = let Free : NodeClass → Type 0 = λ k. IsNumberFree c path k in subst Free e free

has_root : (class : NodeClass) → HasRoot class → (number : ℕ) (id : ObjectId) → class ≡ Domain number id → IsGroupOf number id
has_root class own number id e = let Own : NodeClass → Type 0 = λ k. HasRoot k in subst Own e own

not_itself : (path : List ℕ) → path_of path ≡ Some path → path ≢ root_path → parent_of path ≢ path
not_itself path canonical below same =
    ⊎_elim
    (λ shorter. let Less : List ℕ → Type 0 = λ p. length p < length path in lt_irrefl _ (subst Less same shorter))
    below
    (parent_of-shorter path canonical)

module _ (c : Contents) (path : List ℕ) (node : Node) (valid : IsCatalogue c) (canonical : path_of path ≡ Some path)
    (place : MayStandAt c path node.class) (children : HasChildren c path → node.class ≡ Folder) where
  after : Contents
  after = with_node c path node

  keeps_root : IsFolderAt (with_node c path node) root_path
  keeps_root =
      ⊎_elim
      (λ root. folder_here c path node root.1 root_path (sym root.0))
      (λ below. ⊎_elim (λ same. absurd (below.0 (sym same))) (λ far. class_elsewhere c path node root_path far ∙ valid.root) (same_or_other root_path path))
      place

  parent_here : IsFolderAt (with_node c path node) (parent_of path)
  parent_here =
      ⊎_elim
      (λ root. folder_here c path node root.1 (parent_of path) (ap parent_of root.0 ∙ sym root.0))
      (λ below. ⊎_elim (λ same. absurd (not_itself path canonical below.0 same)) (λ far. class_elsewhere c path node (parent_of path) far ∙ below.1) (same_or_other (parent_of path) path))
      place

  parent_elsewhere : (q : List ℕ) → IsOther q path → IsSome (class_at c q) → IsFolderAt (with_node c path node) (parent_of q)
  parent_elsewhere q far there =
      ⊎_elim
      (λ same. folder_here c path node (children (q, same, other_differs q path far, there)) (parent_of q) same)
      (λ other. class_elsewhere c path node (parent_of q) other ∙ valid.parents q there)
      (same_or_other (parent_of q) path)

  keeps_parents : (q : List ℕ) → IsSome (class_at (with_node c path node) q) → IsFolderAt (with_node c path node) (parent_of q)
  keeps_parents q there =
      ⊎_elim
      (λ same. let Folded : List ℕ → Type 0 = λ r. IsFolderAt (with_node c path node) (parent_of r) in subst Folded (sym same) parent_here)
      (λ far. parent_elsewhere q far (subst IsSome (class_elsewhere c path node q far) there))
      (same_or_other q path)

  keeps_paths : (q : List ℕ) → IsSome (class_at (with_node c path node) q) → path_of q ≡ Some q
  keeps_paths q there =
      let class = has_class _ there in
      each c path node (λ r k. path_of r ≡ Some r) canonical (λ r k at. valid.paths r (is_some_class _ k at)) q class.0 class.1

module _ (c : Contents) (path : List ℕ) (node : Node) (valid : IsCatalogue c) (free : IsNumberFree c path node.class) (own_root : HasRoot node.class) where
  keeps_below : (q : List ℕ) (number : ℕ) (id : ObjectId) → IsDomainAt (with_node c path node) q number id → number < raised c.next node.class
  keeps_below q number id at =
      each c path node (λ r k. (n : ℕ) (i : ObjectId) → k ≡ Domain n i → n < raised c.next node.class)
      (raised-above c.next node.class)
      (λ r k was n i e. lt_of_lt_of_le (valid.below r n i (was ∙ ap Some e)) (raised-ge c.next node.class))
      q (Domain number id) at number id refl

  keeps_roots : (q : List ℕ) (number : ℕ) (id : ObjectId) → IsDomainAt (with_node c path node) q number id → IsGroupOf number id
  keeps_roots q number id at =
      each c path node (λ r k. (n : ℕ) (i : ObjectId) → k ≡ Domain n i → IsGroupOf n i)
      (λ n i e. has_root node.class own_root n i e)
      (λ r k was n i e. valid.roots r n i (was ∙ ap Some e))
      q (Domain number id) at number id refl

  -- no node elsewhere has the number of the node at the path
  apart : (q r : List ℕ) (number : ℕ) (id own : ObjectId) → q ≡ path → IsOther r path
      → IsDomainAt (with_node c path node) q number id → IsDomainAt (with_node c path node) r number own → q ≡ r
  apart q r number id own same far at that =
      same ∙ sym (is_free c path node.class free number id (class_is c path node q (Domain number id) same at) r own (class_was c path node r (Domain number own) far that))

  keeps_distinct : (q r : List ℕ) (number : ℕ) (id own : ObjectId) → IsDomainAt (with_node c path node) q number id → IsDomainAt (with_node c path node) r number own → q ≡ r
  keeps_distinct q r number id own at that =
      ⊎_elim
      (λ same. ⊎_elim (λ too. same ∙ sym too) (λ far. apart q r number id own same far at that) (same_or_other r path))
      (λ far. ⊎_elim
      (λ too. sym (apart r q number own id too far that at))
      (λ nor. valid.distinct q r number id own (class_was c path node q _ far at) (class_was c path node r _ nor that))
      (same_or_other r path))
      (same_or_other q path)

-- a node that may be put leaves a catalogue
pub with_node-valid : (c : Contents) (path : List ℕ) (node : Node) → IsCatalogue c → path_of path ≡ Some path
    → MayStandAt c path node.class → len c.nodes < most_nodes → (HasChildren c path → node.class ≡ Folder)
    → NumberFits node.class → IsNumberFree c path node.class → HasRoot node.class → IsCatalogue (with_node c path node)
with_node-valid c path node valid canonical place room children fits free own_root = record {
  root = keeps_root c path node valid canonical place children;
  paths = keeps_paths c path node valid canonical place children;
  parents = keeps_parents c path node valid canonical place children;
  few = subst (λ n. n ≤ most_nodes) (sym (len-insert nat_list_cmp_total c.nodes path node)) (one_more (get c.nodes path) (len c.nodes) room);
  below = keeps_below c path node valid free own_root;
  fits = raised-fits c.next node.class valid.fits fits;
  roots = keeps_roots c path node valid free own_root;
  distinct = keeps_distinct c path node valid free own_root;
}

nothing : Contents
nothing = record { nodes = empty; next = 1 }

nothing_at : (q : List ℕ) (class : NodeClass) → class_at nothing q ≡ Some class → ⊥
unfolding nothing
nothing_at q class at = true≢false (ap is_some (sym at ∙ ap (option_map (λ n. n.class)) (get-empty text_order q)))

module _ (node : Node) (folder : node.class ≡ Folder) where
  no_domain : (number : ℕ) (id : ObjectId) → node.class ≡ Domain number id → ⊥
  unfolding is_domain
  no_domain number id e = true≢false (sym (ap is_domain (sym folder ∙ e)))

  pub no_domains : (q : List ℕ) (number : ℕ) (id : ObjectId) → IsDomainAt (only_root node) q number id → ⊥
  unfolding nothing
  no_domains q number id at =
      each nothing root_path node (λ r k. (n : ℕ) (i : ObjectId) → k ≡ Domain n i → ⊥)
      no_domain (λ r k was n i e. nothing_at r k was) q (Domain number id) at number id refl

  root_paths : (q : List ℕ) → IsSome (class_at (only_root node) q) → path_of q ≡ Some q
  unfolding nothing
  root_paths q there =
      let class = has_class _ there in
      each nothing root_path node (λ r k. path_of r ≡ Some r) refl (λ r k was. absurd (nothing_at r k was)) q class.0 class.1

  root_parents : (q : List ℕ) → IsSome (class_at (only_root node) q) → IsFolderAt (only_root node) (parent_of q)
  unfolding nothing
  root_parents q there =
      let class = has_class _ there in
      each nothing root_path node (λ r k. IsFolderAt (only_root node) (parent_of r))
      (folder_here nothing root_path node folder (parent_of root_path) refl) (λ r k was. absurd (nothing_at r k was)) q class.0 class.1

  root_root : IsFolderAt (only_root node) root_path
  unfolding nothing
  root_root = folder_here nothing root_path node folder root_path refl

  root_few : len (insert (empty {X = Node} {R = text_order}) root_path node) ≤ most_nodes
  root_few =
      let room : len (empty {X = Node} {R = text_order}) < most_nodes = subst (λ n. n < most_nodes) (sym (len-empty text_order Node)) (lit< tt) in
      subst (λ n. n ≤ most_nodes) (sym (len-insert nat_list_cmp_total (empty {X = Node} {R = text_order}) root_path node)) (one_more _ _ room)

-- a folder at `/` alone is a catalogue
pub only_root-valid : (node : Node) → node.class ≡ Folder → IsCatalogue (only_root node)
only_root-valid node folder = record {
  root = root_root node folder;
  paths = root_paths node folder;
  parents = root_parents node folder;
  few = root_few node folder;
  below = λ q number id at. absurd (no_domains node folder q number id at);
  fits = lit≤ tt;
  roots = λ q number id at. absurd (no_domains node folder q number id at);
  distinct = λ q r number id own at that. absurd (no_domains node folder q number id at);
}

-- a new path has no nodes below
pub place_has_no_children : (c : Contents) (path : List ℕ) → IsCatalogue c → IsPlace c path → HasChildren c path → ⊥
place_has_no_children c path valid new (child, below, other, there) =
    let Folded : List ℕ → Type 0 = λ r. IsFolderAt c r in
    let parent = subst Folded below (valid.parents child there) in
    true≢false (ap is_some (sym parent ∙ ap (option_map (λ n. n.class)) new.empty))

-- and is not `/`
pub place_may_hold : (c : Contents) (path : List ℕ) → IsCatalogue c → IsPlace c path → (class : NodeClass) → MayStandAt c path class
place_may_hold c path valid new class =
    inr (λ root. true≢false (ap is_some (sym valid.root ∙ ap (class_at c) (sym root) ∙ ap (option_map (λ n. n.class)) new.empty)), new.parent)

-- the next number is no domain's
pub next_is_free : (c : Contents) → IsCatalogue c → (path : List ℕ) → IsFree c path c.next
next_is_free c valid path other id at = absurd (lt_irrefl c.next (valid.below other c.next id at))
