-- Configured folders and domains that make a tree can be put into the catalogue, one after another.
use Rattle.std.proofs.Common.{Less, Greater, ◌≡◌, ◌≢◌, ◌⊎◌, inl, inr, ⊎_elim, ℕ, ◌+◌, ◌≤◌, Bool, true, false, not, ◌&&◌, ◌||◌, cond, List, [], ◌∷◌, length, map, Some, None, option_map, is_some, nat_le, refl, sym, ap, subst, ◌∙◌, arith}
use Rattle.std.proofs.Math.Dec.{T}
use Rattle.std.specs.List.{list_all, list_any}
use Rattle.std.specs.Str.{bytes_eq}
use Rattle.std.specs.Ordering.{is_lt, eq_by_cmp, ordering_reverse}
use Rattle.std.specs.FinMap.{FinMap, contains_key, contains_key-keys, empty, entries, entries_sorted, get, get-empty, get-insert, get-remove, remove, len, len-empty, len-entries}
use Rattle.std.specs.FinMap.Entries.{below_all, is_sorted}
use Rattle.std.specs.Cmp.Lexicographic.{nat_list_cmp_total}
use Rattle.std.proofs.lemmas.Bool.{cases_Bool, or_cases, and_parts, not-true, leb-true, cond-true, cond-false, false_from_ne_true, true≢false, false≢true}
use Rattle.std.proofs.lemmas.Map.Text.{is_eq-slice_cmp}
use Rattle.std.proofs.lemmas.Slice.Eq.{bytes_eq-Decides}
use Rattle.object_ids.specs.Paths.{parent_of, path_of, root_path}
use Rattle.containers.specs.TextMaps.Keyed.{text_order}
use Rattle.domains.specs.Contents.{Contents, IsFolderAt, class_at, only_root, with_node}
use Rattle.domains.specs.declared.classes.Node.{Node}
use Rattle.domains.specs.declared.classes.NodeClass.TheVariants.{Folder}
use Rattle.configuration.specs.Catalogues.{ArePaths, CanBePut, domain_node, domain_nodes, folder_node, folder_nodes, has_parent, is_tree, with_nodes}
use Rattle.configuration.specs.declared.limits.TheConstants.{MAX_BELOW_ROOT}
use Rattle.configuration.specs.declared.setting.Setting.{Setting}
use Rattle.configuration.proofs.TableLemmas.{len-insert-le}
use Rattle.containers.proofs.Plain.{halves, less}
use Rattle.containers.proofs.TextMaps.TextOrders.{not_itself}
use Rattle.object_ids.proofs.PathOrders.{parent_before}

abbrev pub PathSettings : Type 0
PathSettings = List (List ℕ × Setting)

-- what holds of each path
abbrev pub Each : (List ℕ → Type 0) → PathSettings → Type 0
Each P [] = Unit {0}
Each P (e ∷ es) = P e.0 × Each P es

each_map : (P Q : List ℕ → Type 0) (es : PathSettings) → ((q : List ℕ) → P q → Q q) → Each P es → Each Q es
each_map P Q [] f h = tt
each_map P Q (e ∷ es) f h = (f e.0 h.0, each_map P Q es f h.1)

each_both : (P Q R : List ℕ → Type 0) (es : PathSettings) → ((q : List ℕ) → P q → Q q → R q) → Each P es → Each Q es → Each R es
each_both P Q R [] f h k = tt
each_both P Q R (e ∷ es) f h k = (f e.0 h.0 k.0, each_both P Q R es f h.1 k.1)

-- whether a path is among those of some entries
abbrev pub Among : List ℕ → PathSettings → Type 0
Among q [] = ⊥
Among q (e ∷ es) = (q ≡ e.0) ⊎ Among q es

pub each_at : (P : List ℕ → Type 0) (es : PathSettings) (q : List ℕ) → Among q es → Each P es → P q
each_at P [] q a h = absurd a
each_at P (e ∷ es) q a h = ⊎_elim (λ same. subst P (sym same) h.0) (λ later. each_at P es q later h.1) a

pub each_ne : (x : List ℕ) (es : PathSettings) → (Among x es → ⊥) → Each (λ q. q ≢ x) es
each_ne x [] none = tt
each_ne x (e ∷ es) none = (λ same. none (inl (sym same)), each_ne x es (λ later. none (inr later)))

each_from_all : (test : List ℕ → Bool) (es : PathSettings) → list_all (λ e. test e.0) es ≡ true → Each (λ q. test q ≡ true) es
each_from_all test [] h = tt
each_from_all test (e ∷ es) h =
    let parts = and_parts (test e.0) (list_all (λ x. test x.0) es) h in
    (parts.0, each_from_all test es parts.1)

each_path : (es : PathSettings) → ArePaths es → Each (λ q. path_of q ≡ Some q) es
each_path [] h = tt
each_path (e ∷ es) h = (h.0, each_path es h.1)

-- paths that rise
abbrev pub Rising : PathSettings → Type 0
Rising [] = Unit {0}
Rising (e ∷ es) = Each (λ q. text_order e.0 q ≡ Less) es × Rising es

below_each : (x : List ℕ) (es : PathSettings) → T (below_all text_order x es) → Each (λ q. text_order x q ≡ Less) es
below_each x [] h = tt
below_each x (e ∷ es) h =
    (less (text_order x e.0) (halves (is_lt (text_order x e.0)) (below_all text_order x es) h).0, below_each x es (halves (is_lt (text_order x e.0)) (below_all text_order x es) h).1)

pub rising : (es : PathSettings) → T (is_sorted text_order es) → Rising es
rising [] h = tt
rising (e ∷ es) h =
    (below_each e.0 es (halves (below_all text_order e.0 es) (is_sorted text_order es) h).0, rising es (halves (below_all text_order e.0 es) (is_sorted text_order es) h).1)

not_both : (x y : List ℕ) → text_order x y ≡ Less → text_order y x ≡ Less → ⊥
not_both x y less more =
    let e : Less ≡ Greater = sym less ∙ nat_list_cmp_total.antisymm x y ∙ ap ordering_reverse more in
    cc

-- what stands in a catalogue with one node more
pub same_or_other : (q path : List ℕ) → (q ≡ path) ⊎ (q ≢ path)
same_or_other q path = ⊎_elim (λ y. inl ((bytes_eq-Decides q path).0 y)) (λ n. inr (λ same. true≢false (sym ((bytes_eq-Decides q path).1 same) ∙ n))) (cases_Bool (bytes_eq q path))

pub node_other : (c : Contents) (path : List ℕ) (node : Node) (q : List ℕ) → q ≢ path → get (with_node c path node).nodes q ≡ get c.nodes q
node_other c path node q other =
    get-insert nat_list_cmp_total c.nodes path node q
    ∙ cond-false _ _ _ (is_eq-slice_cmp q path ∙ false_from_ne_true _ (λ h. other ((bytes_eq-Decides q path).0 h)))

pub node_here : (c : Contents) (path : List ℕ) (node : Node) → get (with_node c path node).nodes path ≡ Some node
node_here c path node =
    get-insert nat_list_cmp_total c.nodes path node path ∙ cond-true _ _ _ (is_eq-slice_cmp path path ∙ (bytes_eq-Decides path path).1 refl)

folder_stays : (c : Contents) (path : List ℕ) (node : Node) (q : List ℕ) → q ≢ path → IsFolderAt c q → IsFolderAt (with_node c path node) q
folder_stays c path node q other h = ap (option_map (λ n. n.class)) (node_other c path node q other) ∙ h

folder_here : (c : Contents) (path : List ℕ) (setting : Setting) → IsFolderAt (with_node c path (folder_node setting)) path
folder_here c path setting = ap (option_map (λ n. n.class)) (node_here c path (folder_node setting))

folder_still : (c : Contents) (path : List ℕ) (setting : Setting) (q : List ℕ) → IsFolderAt c q → IsFolderAt (with_node c path (folder_node setting)) q
folder_still c path setting q h = ⊎_elim
    (λ same. subst (λ (p : List ℕ). IsFolderAt (with_node c path (folder_node setting)) p) (sym same) (folder_here c path setting))
    (λ other. folder_stays c path (folder_node setting) q other h)
    (same_or_other q path)

not_free : (c : Contents) (path q : List ℕ) → get c.nodes path ≡ None → IsFolderAt c q → q ≢ path
not_free c path q free h same =
    let e : Some Folder ≡ None = sym h ∙ ap (λ (p : List ℕ). class_at c p) same ∙ ap (option_map (λ n. n.class)) free in
    cc

-- folders beside `/`, in their order
folders_free : (c : Contents) (es : PathSettings) → Each (λ q. get c.nodes q ≡ None) es → Each (λ q. IsFolderAt c (parent_of q) ⊎ Among (parent_of q) es) es
    → Each (λ q. text_order (parent_of q) q ≡ Less) es → Rising es → len c.nodes + length es ≤ 65536 → CanBePut c (folder_nodes es)
folders_free c [] free parents low rise few = tt
folders_free c (e ∷ es) free parents low rise few =
    let d : Contents = with_node c e.0 (folder_node e.1) in
    let parent : IsFolderAt c (parent_of e.0) = ⊎_elim (λ h. h) (λ a. absurd (⊎_elim
    (λ same. not_itself e.0 (parent_of e.0) (ap (λ (p : List ℕ). text_order p (parent_of e.0)) (sym same) ∙ ap (text_order (parent_of e.0)) same ∙ low.0) same)
    (λ later. not_both e.0 (parent_of e.0) (each_at (λ q. text_order e.0 q ≡ Less) es (parent_of e.0) later rise.0) low.0)
    a)) parents.0 in (
      record { empty = free.0; parent = parent; room = omega (arith, few) },
      folders_free d es
          (each_both (λ q. get c.nodes q ≡ None) (λ q. text_order e.0 q ≡ Less) (λ q. get d.nodes q ≡ None) es
          (λ q none less. node_other c e.0 (folder_node e.1) q (not_itself e.0 q less) ∙ none) free.1 rise.0)
          (each_map (λ q. IsFolderAt c (parent_of q) ⊎ Among (parent_of q) (e ∷ es)) (λ q. IsFolderAt d (parent_of q) ⊎ Among (parent_of q) es) es
          (λ q parent. ⊎_elim (λ h. inl (folder_still c e.0 e.1 (parent_of q) h))
          (λ a. ⊎_elim (λ same. inl (subst (λ (p : List ℕ). IsFolderAt d p) (sym same) (folder_here c e.0 e.1))) (λ later. inr later) a) parent) parents.1)
          low.1 rise.1 (omega (arith, few, len-insert-le c.nodes e.0 (folder_node e.1))),
    )

-- domains, in their order
domains_free : (c : Contents) (n : ℕ) (es : PathSettings) → Each (λ q. get c.nodes q ≡ None) es → Each (λ q. IsFolderAt c (parent_of q)) es → Rising es
    → len c.nodes + length es ≤ 65536 → CanBePut c (domain_nodes n es)
domains_free c n [] free parents rise few = tt
domains_free c n (e ∷ es) free parents rise few =
    let d : Contents = with_node c e.0 (domain_node n e.1) in (
      record { empty = free.0; parent = parents.0; room = omega (arith, few) },
      domains_free d (n + 1) es
          (each_both (λ q. get c.nodes q ≡ None) (λ q. text_order e.0 q ≡ Less) (λ q. get d.nodes q ≡ None) es
          (λ q none less. node_other c e.0 (domain_node n e.1) q (not_itself e.0 q less) ∙ none) free.1 rise.0)
          (each_map (λ q. IsFolderAt c (parent_of q)) (λ q. IsFolderAt d (parent_of q)) es
          (λ q h. folder_stays c e.0 (domain_node n e.1) (parent_of q) (not_free c e.0 (parent_of q) free.0 h) h) parents.1)
          rise.1 (omega (arith, few, len-insert-le c.nodes e.0 (domain_node n e.1))),
    )

-- the catalogue with all folders
folders_still : (c : Contents) (es : PathSettings) (q : List ℕ) → IsFolderAt c q → IsFolderAt (with_nodes c (folder_nodes es)) q
folders_still c [] q h = h
folders_still c (e ∷ es) q h = folders_still (with_node c e.0 (folder_node e.1)) es q (folder_still c e.0 e.1 q h)

folders_there : (c : Contents) (es : PathSettings) (q : List ℕ) → Among q es → IsFolderAt (with_nodes c (folder_nodes es)) q
folders_there c [] q a = absurd a
folders_there c (e ∷ es) q a = ⊎_elim
    (λ same. folders_still (with_node c e.0 (folder_node e.1)) es q (subst (λ (p : List ℕ). IsFolderAt (with_node c e.0 (folder_node e.1)) p) (sym same) (folder_here c e.0 e.1)))
    (λ later. folders_there (with_node c e.0 (folder_node e.1)) es q later)
    a

pub folders_other : (c : Contents) (es : PathSettings) (q : List ℕ) → (Among q es → ⊥) → get (with_nodes c (folder_nodes es)).nodes q ≡ get c.nodes q
folders_other c [] q none = refl
folders_other c (e ∷ es) q none =
    folders_other (with_node c e.0 (folder_node e.1)) es q (λ later. none (inr later)) ∙ node_other c e.0 (folder_node e.1) q (λ same. none (inl same))

len-folders : (c : Contents) (es : PathSettings) → len (with_nodes c (folder_nodes es)).nodes ≤ len c.nodes + length es
len-folders c [] = omega arith
len-folders c (e ∷ es) = omega (arith, len-folders (with_node c e.0 (folder_node e.1)) es, len-insert-le c.nodes e.0 (folder_node e.1))

-- paths that a map has, and those among its entries
pub any_from_among : (q : List ℕ) (es : PathSettings) → Among q es → list_any (eq_by_cmp text_order q) (map (λ e. e.0) es) ≡ true
any_from_among q [] a = absurd a
any_from_among q (e ∷ es) a = ⊎_elim
    (λ same. ap (λ (b : Bool). b || list_any (eq_by_cmp text_order q) (map (λ x. x.0) es)) (is_eq-slice_cmp q e.0 ∙ (bytes_eq-Decides q e.0).1 same))
    (λ later. or_true (eq_by_cmp text_order q e.0) _ (any_from_among q es later))
    a
  where
    or_true : (a b : Bool) → b ≡ true → (a || b) ≡ true
    or_true true b h = refl
    or_true false b h = h

among_from_any : (q : List ℕ) (es : PathSettings) → list_any (eq_by_cmp text_order q) (map (λ e. e.0) es) ≡ true → Among q es
among_from_any q [] h = absurd (false≢true h)
among_from_any q (e ∷ es) h = ⊎_elim
    (λ here. inl ((bytes_eq-Decides q e.0).0 (sym (is_eq-slice_cmp q e.0) ∙ here)))
    (λ later. inr (among_from_any q es later))
    (or_cases (eq_by_cmp text_order q e.0) _ h)

pub has_among : (m : FinMap text_order Setting) (q : List ℕ) → contains_key m q ≡ true → Among q (entries m)
has_among m q h = among_from_any q (entries m) (sym (contains_key-keys m q) ∙ h)

pub not_among : (m : FinMap text_order Setting) (q : List ℕ) → contains_key m q ≡ false → Among q (entries m) → ⊥
not_among m q h a = true≢false (sym (contains_key-keys m q ∙ any_from_among q (entries m) a) ∙ h)

-- the facts of a tree
pub record IsTree (folders domains : FinMap text_order Setting) : Type 0 where
  pub no_root : contains_key domains root_path ≡ false
  pub apart : Each (λ q. not (contains_key folders q) ≡ true) (entries domains)
  pub folder_parents : Each (λ q. has_parent folders q ≡ true) (entries folders)
  pub domain_parents : Each (λ q. has_parent folders q ≡ true) (entries domains)
  pub few : len folders + len domains ≤ 65535

pub tree_facts : (folders domains : FinMap text_order Setting) → is_tree folders domains ≡ true → IsTree folders domains
tree_facts folders domains h =
    let a = not (contains_key domains root_path) in
    let b = list_all (λ e. not (contains_key folders e.0)) (entries domains) in
    let d = list_all (λ e. has_parent folders e.0) (entries folders) in
    let e = list_all (λ e. has_parent folders e.0) (entries domains) in
    let four = and_parts (a && b && d && e) (nat_le (len folders + len domains) MAX_BELOW_ROOT) h in
    let three = and_parts (a && b && d) e four.0 in
    let two = and_parts (a && b) d three.0 in
    let one = and_parts a b two.0 in
    record {
      no_root = not-true _ one.0;
      apart = each_from_all (λ q. not (contains_key folders q)) (entries domains) one.1;
      folder_parents = each_from_all (has_parent folders) (entries folders) two.1;
      domain_parents = each_from_all (has_parent folders) (entries domains) three.1;
      few = leb-true _ _ four.1;
    }

parent_cases : (m : FinMap text_order Setting) (q : List ℕ) → has_parent m q ≡ true → (parent_of q ≡ root_path) ⊎ Among (parent_of q) (entries m)
parent_cases m q h = ⊎_elim
    (λ root. inl ((bytes_eq-Decides (parent_of q) root_path).0 root))
    (λ there. inr (has_among m (parent_of q) there))
    (or_cases (bytes_eq (parent_of q) root_path) (contains_key m (parent_of q)) h)

pub nothing_at : (root : Setting) (q : List ℕ) → q ≢ root_path → get (only_root (folder_node root)).nodes q ≡ None
nothing_at root q other =
    get-insert nat_list_cmp_total (empty {X = Node} {R = text_order}) root_path (folder_node root) q
    ∙ cond-false _ _ _ (is_eq-slice_cmp q root_path ∙ false_from_ne_true _ (λ h. other ((bytes_eq-Decides q root_path).0 h)))
    ∙ get-empty text_order q

root_folder : (root : Setting) → IsFolderAt (only_root (folder_node root)) root_path
root_folder root =
    ap (option_map (λ n. n.class))
    (get-insert nat_list_cmp_total (empty {X = Node} {R = text_order}) root_path (folder_node root) root_path)

root_len : (root : Setting) → len (only_root (folder_node root)).nodes ≤ 1
root_len root = omega (arith, len-insert-le (empty {X = Node} {R = text_order}) root_path (folder_node root), len-empty text_order Node)

-- each folder can be put
pub tree_folders : (root : Setting) (folders domains : FinMap text_order Setting) → contains_key folders root_path ≡ false → ArePaths (entries folders) → is_tree folders domains ≡ true
    → CanBePut (only_root (folder_node root)) (folder_nodes (entries folders))
tree_folders root folders domains no_root paths tree =
    let c : Contents = only_root (folder_node root) in
    let es : PathSettings = entries folders in
    let facts = tree_facts folders domains tree in
    let others = each_ne root_path es (not_among folders root_path no_root) in
    folders_free c es
    (each_map (λ q. q ≢ root_path) (λ q. get c.nodes q ≡ None) es (λ q other. nothing_at root q other) others)
    (each_map (λ q. has_parent folders q ≡ true) (λ q. IsFolderAt c (parent_of q) ⊎ Among (parent_of q) es) es
    (λ q parent. ⊎_elim (λ at. inl (subst (λ (p : List ℕ). IsFolderAt c p) (sym at) (root_folder root))) (λ a. inr a) (parent_cases folders q parent)) facts.folder_parents)
    (each_both (λ q. path_of q ≡ Some q) (λ q. q ≢ root_path) (λ q. text_order (parent_of q) q ≡ Less) es parent_before (each_path es paths) others)
    (rising es (entries_sorted folders))
    (omega (arith, root_len root, facts.few, len-entries folders))

-- and then each domain
pub tree_domains : (root : Setting) (folders domains : FinMap text_order Setting) → is_tree folders domains ≡ true
    → CanBePut (with_nodes (only_root (folder_node root)) (folder_nodes (entries folders))) (domain_nodes 1 (entries domains))
tree_domains root folders domains tree =
    let c : Contents = only_root (folder_node root) in
    let d : Contents = with_nodes c (folder_nodes (entries folders)) in
    let es : PathSettings = entries domains in
    let facts = tree_facts folders domains tree in
    domains_free d 1 es
    (each_both (λ q. q ≢ root_path) (λ q. not (contains_key folders q) ≡ true) (λ q. get d.nodes q ≡ None) es
    (λ q other apart. folders_other c (entries folders) q (not_among folders q (not-true _ apart)) ∙ nothing_at root q other)
    (each_ne root_path es (not_among domains root_path facts.no_root)) facts.apart)
    (each_map (λ q. has_parent folders q ≡ true) (λ q. IsFolderAt d (parent_of q)) es
    (λ q parent. ⊎_elim (λ at. folders_still c (entries folders) (parent_of q) (subst (λ (p : List ℕ). IsFolderAt c p) (sym at) (root_folder root)))
    (λ a. folders_there c (entries folders) (parent_of q) a) (parent_cases folders q parent)) facts.domain_parents)
    (rising es (entries_sorted domains))
    (omega (arith, root_len root, len-folders c (entries folders), facts.few, len-entries folders, len-entries domains))

-- a path that was taken out of a map is not in it
pub removed : (m : FinMap text_order Setting) (q : List ℕ) → contains_key (remove m q) q ≡ false
removed m q =
    ap is_some (get-remove nat_list_cmp_total m q q)
    ∙ ap (λ (b : Bool). is_some (cond b None (get m q))) (is_eq-slice_cmp q q ∙ (bytes_eq-Decides q q).1 refl)

-- how many domains there are
pub few_domains : (folders domains : FinMap text_order Setting) → is_tree folders domains ≡ true → length (entries domains) ≤ 65535
few_domains folders domains tree = omega (arith, (tree_facts folders domains tree).few, len-entries domains)
