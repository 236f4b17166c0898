-- The nodes of the catalogue that configured folders and domains make, path by path.
use Rattle.std.proofs.Common.{Ordering, Less, ◌≡◌, ◌≢◌, ◌⊎◌, inl, inr, ⊎_elim, ℕ, suc, ◌+◌, ◌-◌, max, Bool, true, false, not, ◌&&◌, ◌||◌, cond, List, [], ◌∷◌, length, map, Option, Some, None, is_some, nat_le, refl, sym, ap, subst, ◌∙◌, arith}
use Rattle.std.specs.Prelude.{filter, Result, Ok, Err, IfOk}
use Rattle.std.specs.Option.{option_map, unwrap_or}
use Rattle.std.specs.List.{list_all}
use Rattle.std.specs.Str.{bytes_eq}
use Rattle.std.specs.Ordering.{is_lt, eq_by_cmp, ordering_reverse}
use Rattle.std.specs.FinMap.{contains_key, contains_key-keys, empty, entries, entries_sorted, get, get-entries, get-insert, get-remove, len, len-entries, remove, same_map}
use Rattle.std.specs.FinMap.Entries.{find}
use Rattle.std.specs.Cmp.Lexicographic.{nat_list_cmp_total}
use Rattle.std.proofs.lemmas.Bool.{cases_Bool, or_cases, not-true, le-leb, cond-true, cond-false, false_from_ne_true, true≢false, and_from, or_right}
use Rattle.std.proofs.lemmas.Cmp.{tied_itself}
use Rattle.std.proofs.lemmas.Map.Text.{is_eq-slice_cmp}
use Rattle.std.proofs.lemmas.Slice.Eq.{bytes_eq-Decides}
use Rattle.object_ids.specs.IdValues.{Id}
use Rattle.object_ids.specs.Paths.{parent_of, root_path}
use Rattle.object_ids.specs.declared.ids.Kind.TheVariants.{Group}
use Rattle.containers.specs.TextMaps.Keyed.{text_order}
use Rattle.containers.proofs.TextMaps.KeyedMaps.{exact_texts}
use Rattle.domains.specs.Contents.{Contents, IsDomainAt, only_root, with_node}
use Rattle.domains.specs.declared.classes.Node.{Node}
use Rattle.domains.specs.declared.classes.NodeClass.{NodeClass}
use Rattle.domains.specs.declared.classes.NodeClass.TheVariants.{Domain, Folder}
use Rattle.configuration.specs.ConfiguredNodes.{HasConfigured, HasFirstRoots, IsFolderPath, MakeTree, Settings, rank_of, ranked_domain}
use Rattle.configuration.specs.Catalogues.{catalogue_of, default_setting, domain_node, domain_nodes, folder_node, folder_nodes, catalogue_from, has_parent, is_tree, with_nodes}
use Rattle.configuration.specs.declared.limits.TheConstants.{MAX_BELOW_ROOT}
use Rattle.configuration.specs.declared.setting.Setting.{Setting}
use Rattle.configuration.proofs.SettingLemmas.{next-folders, raised-next}
use Rattle.configuration.proofs.CatalogueLemmas.{Among, Each, PathSettings, Rising, any_from_among, each_at, folders_other, has_among, node_here, node_other, not_among, nothing_at, removed, rising, same_or_other, tree_facts}
use Rattle.containers.proofs.Plain.{none_of}
use Rattle.containers.proofs.TextMaps.TextOrders.{not_itself}

some_or_none : {A : Type 0} (o : Option A) → ((a : A) × (o ≡ Some a)) ⊎ (o ≡ None)
some_or_none None = inr refl
some_or_none (Some a) = inl (a, refl)

-- what is found in some entries, and what is put for it
found_cases : (q : List ℕ) (e : List ℕ × Setting) (es : PathSettings) (setting : Setting)
    → find text_order q (e ∷ es) ≡ Some setting
    → ((q ≡ e.0) × (e.1 ≡ setting)) ⊎ (find text_order q es ≡ Some setting)
found_cases q e es setting h = ⊎_elim
    (λ here.
    let is : Some e.1 ≡ Some setting = sym (cond-true _ _ _ here) ∙ h in
    let same : e.1 ≡ setting = cc in
    inl ((bytes_eq-Decides q e.0).0 (sym (is_eq-slice_cmp q e.0) ∙ here), same))
    (λ later. inr (sym (cond-false _ _ _ later) ∙ h))
    (cases_Bool (eq_by_cmp text_order q e.0))

not_in_none : (q : List ℕ) (setting : Setting) → find text_order q [] ≡ Some setting → ⊥
not_in_none q setting h = let is : ◌≡◌ {A = Option Setting} None (Some setting) = h in cc

found_among : (es : PathSettings) (q : List ℕ) (setting : Setting) → find text_order q es ≡ Some setting → Among q es
found_among [] q setting h = not_in_none q setting h
found_among (e ∷ es) q setting h = ⊎_elim (λ here. inl here.0) (λ later. inr (found_among es q setting later)) (found_cases q e es setting h)

not_above : (x q : List ℕ) (es : PathSettings) → q ≡ x → Each (λ p. text_order x p ≡ Less) es → Among q es → ⊥
not_above x q es same above a =
    let there : Among x es = subst (λ (p : List ℕ). Among p es) same a in
    not_itself x x (each_at (λ p. text_order x p ≡ Less) es x there above) refl

folder_found : (c : Contents) (es : PathSettings) → Rising es → (q : List ℕ) (setting : Setting)
    → find text_order q es ≡ Some setting
    → get (with_nodes c (folder_nodes es)).nodes q ≡ Some (folder_node setting)
folder_found c [] rise q setting h = absurd (not_in_none q setting h)
folder_found c (e ∷ es) rise q setting h =
    let d : Contents = with_node c e.0 (folder_node e.1) in
    ⊎_elim
    (λ here.
    folders_other d es q (not_above e.0 q es here.0 rise.0)
    ∙ ap (λ (p : List ℕ). get d.nodes p) here.0
    ∙ node_here c e.0 (folder_node e.1)
    ∙ ap (λ (x : Setting). Some (folder_node x)) here.1)
    (λ later. folder_found d es rise.1 q setting later)
    (found_cases q e es setting h)

domains_other : (c : Contents) (n : ℕ) (es : PathSettings) (q : List ℕ) → (Among q es → ⊥)
    → get (with_nodes c (domain_nodes n es)).nodes q ≡ get c.nodes q
domains_other c n [] q none = refl
domains_other c n (e ∷ es) q none =
    domains_other (with_node c e.0 (domain_node n e.1)) (n + 1) es q (λ later. none (inr later))
    ∙ node_other c e.0 (domain_node n e.1) q (λ same. none (inl same))

-- how many paths stand before one
abbrev before : PathSettings → List ℕ → List (List ℕ)
before es q = filter (λ other. is_lt (text_order other q)) (map (λ e. e.0) es)

abbrev rank_in : PathSettings → List ℕ → ℕ
rank_in es q = length (before es q)

abbrev counted : Ordering → List ℕ → PathSettings → List ℕ → ℕ
counted o x es q = length (cond (is_lt o) (x ∷ before es q) (before es q))

rank_first : (q : List ℕ) (es : PathSettings) → Each (λ p. text_order q p ≡ Less) es → rank_in es q ≡ 0
rank_first q [] above = refl
rank_first q (e ∷ es) above =
    ap (λ (o : Ordering). counted o e.0 es q) (nat_list_cmp_total.antisymm e.0 q ∙ ap ordering_reverse above.0)
    ∙ rank_first q es above.1

rank_here : (x q : List ℕ) (setting : Setting) (es : PathSettings) → q ≡ x → Each (λ p. text_order x p ≡ Less) es
    → rank_in ((x, setting) ∷ es) q ≡ 0
rank_here x q setting es same above =
    ap (rank_in ((x, setting) ∷ es)) same
    ∙ ap (λ (o : Ordering). counted o x es x) (tied_itself nat_list_cmp_total x) ∙ rank_first x es above

rank_later : (e : List ℕ × Setting) (es : PathSettings) (q : List ℕ) → text_order e.0 q ≡ Less
    → rank_in (e ∷ es) q ≡ suc (rank_in es q)
rank_later e es q less = ap (λ (o : Ordering). counted o e.0 es q) less

domain_found : (c : Contents) (n : ℕ) (es : PathSettings) → Rising es → (q : List ℕ) (setting : Setting)
    → find text_order q es ≡ Some setting
    → get (with_nodes c (domain_nodes n es)).nodes q ≡ Some (domain_node (n + rank_in es q) setting)
domain_found c n [] rise q setting h = absurd (not_in_none q setting h)
domain_found c n (e ∷ es) rise q setting h =
    let d : Contents = with_node c e.0 (domain_node n e.1) in
    ⊎_elim
    (λ here.
    let first : rank_in (e ∷ es) q ≡ 0 = rank_here e.0 q e.1 es here.0 rise.0 in
    let number : n ≡ n + rank_in (e ∷ es) q = omega (arith, first) in
    domains_other d (n + 1) es q (not_above e.0 q es here.0 rise.0)
    ∙ ap (λ (p : List ℕ). get d.nodes p) here.0
    ∙ node_here c e.0 (domain_node n e.1)
    ∙ ap (λ (x : Setting). Some (domain_node n x)) here.1
    ∙ ap (λ (k : ℕ). Some (domain_node k setting)) number)
    (λ later.
    let less : text_order e.0 q ≡ Less = each_at (λ p. text_order e.0 p ≡ Less) es q (found_among es q setting later) rise.0 in
    let more : rank_in (e ∷ es) q ≡ suc (rank_in es q) = rank_later e es q less in
    let number : n + 1 + rank_in es q ≡ n + rank_in (e ∷ es) q = omega (arith, more) in
    domain_found d (n + 1) es rise.1 q setting later ∙ ap (λ (k : ℕ). Some (domain_node k setting)) number)
    (found_cases q e es setting h)

ranked : (rank : ℕ) (setting : Setting) → domain_node (1 + rank) setting ≡ ranked_domain rank setting
ranked rank setting =
    let number : 1 + rank ≡ rank + 1 = omega arith in
    let serial : rank + 1 - 1 ≡ rank = omega arith in
    ap (λ (n : ℕ). domain_node n setting) number
    ∙ ap (λ (s : ℕ).
    let root : Id = record { kind = Group; domain = rank + 1; run = 0; serial = s } in
    let node : Node = record { class = Domain (rank + 1) root; owner = setting.owner; list = setting.list } in
    node) serial

-- the next number
next-domains : (c : Contents) (n : ℕ) (es : PathSettings) → c.next ≡ n
    → (with_nodes c (domain_nodes n es)).next ≡ n + length es
next-domains c n [] is = let none : n ≡ n + 0 = omega arith in is ∙ none
next-domains c n (e ∷ es) is =
    let more : n + 1 + length es ≡ n + suc (length es) = omega arith in
    next-domains (with_node c e.0 (domain_node n e.1)) (n + 1) es (ap (λ (k : ℕ). max k (n + 1)) is ∙ raised-next n) ∙ more

-- folders beside `/`
abbrev others_of : Settings → Settings
others_of folders = remove folders root_path

others_get : (folders : Settings) (q : List ℕ) → q ≢ root_path → get (others_of folders) q ≡ get folders q
others_get folders q other =
    get-remove nat_list_cmp_total folders root_path q
    ∙ cond-false _ _ _ (is_eq-slice_cmp q root_path ∙ false_from_ne_true _ (λ h. other ((bytes_eq-Decides q root_path).0 h)))

others_in : (folders : Settings) (q : List ℕ) → contains_key (others_of folders) q ≡ true
    → contains_key folders q ≡ true
others_in folders q h = ⊎_elim
    (λ same. absurd (true≢false (sym h ∙ ap (contains_key (others_of folders)) same ∙ removed folders root_path)))
    (λ other. sym (ap is_some (others_get folders q other)) ∙ h)
    (same_or_other q root_path)

-- the rules of a tree
tree_made : (folders domains : Settings) → is_tree (others_of folders) domains ≡ true → MakeTree folders domains
tree_made folders domains h =
    let others : Settings = others_of folders in
    let facts = tree_facts others domains h in
    let beside : (q : List ℕ) → contains_key domains q ≡ true → q ≢ root_path =
    λ q there same. true≢false (sym there ∙ ap (contains_key domains) same ∙ facts.no_root) in
    record {
      root = none_of _ facts.no_root;
      once = λ q there.
          sym (others_get folders q (beside q there))
          ∙ none_of _ (not-true _ (each_at (λ p. not (contains_key others p) ≡ true) (entries domains) q (has_among domains q there) facts.apart));
      folder_parents = λ q other there.
          parent_found folders q (each_at (λ p. has_parent others p ≡ true) (entries others) q (has_among others q (ap is_some (others_get folders q other) ∙ there)) facts.folder_parents);
      domain_parents = λ q there.
          parent_found folders q (each_at (λ p. has_parent others p ≡ true) (entries domains) q (has_among domains q there) facts.domain_parents);
      few = facts.few;
    }
  where
    parent_found : (folders : Settings) (q : List ℕ) → has_parent (others_of folders) q ≡ true
        → IsFolderPath folders (parent_of q)
    parent_found folders q parent = ⊎_elim
        (λ root. inl ((bytes_eq-Decides (parent_of q) root_path).0 root))
        (λ there. inr (others_in folders (parent_of q) there))
        (or_cases (bytes_eq (parent_of q) root_path) (contains_key (others_of folders) (parent_of q)) parent)

each_among : (P : List ℕ → Type 0) (es : PathSettings) → ((q : List ℕ) → Among q es → P q) → Each P es
each_among P [] f = tt
each_among P (e ∷ es) f = (f e.0 (inl refl), each_among P es (λ q a. f q (inr a)))

each_key : (m : Settings) (P : List ℕ → Type 0) → ((q : List ℕ) → contains_key m q ≡ true → P q) → Each P (entries m)
each_key m P f = each_among P (entries m) (λ q a. f q (contains_key-keys m q ∙ any_from_among q (entries m) a))

all_each : (test : List ℕ → Bool) (es : PathSettings) → Each (λ q. test q ≡ true) es → list_all (λ e. test e.0) es ≡ true
all_each test [] h = refl
all_each test (e ∷ es) h = and_from (test e.0) (list_all (λ x. test x.0) es) h.0 (all_each test es h.1)

parent_there : (folders : Settings) (q : List ℕ) → IsFolderPath folders (parent_of q)
    → has_parent (others_of folders) q ≡ true
parent_there folders q parent =
    let others : Settings = others_of folders in
    let at_root : parent_of q ≡ root_path → has_parent others q ≡ true =
    λ same. ap (λ (b : Bool). b || contains_key others (parent_of q)) ((bytes_eq-Decides (parent_of q) root_path).1 same) in
    ⊎_elim
    at_root
    (λ there. ⊎_elim
    at_root
    (λ other. or_right (bytes_eq (parent_of q) root_path) (contains_key others (parent_of q)) (ap is_some (others_get folders (parent_of q) other) ∙ there))
    (same_or_other (parent_of q) root_path))
    parent

tree_found : (folders domains : Settings) → MakeTree folders domains → is_tree (others_of folders) domains ≡ true
tree_found folders domains tree =
    let others : Settings = others_of folders in
    let a : not (contains_key domains root_path) ≡ true = ap (λ (o : Option Setting). not (is_some o)) tree.root in
    let b : list_all (λ e. not (contains_key others e.0)) (entries domains) ≡ true =
    all_each (λ q. not (contains_key others q)) (entries domains) (each_key domains (λ q. not (contains_key others q) ≡ true) (λ q there. ⊎_elim
    (λ same. absurd (true≢false (sym there ∙ ap (contains_key domains) same ∙ ap is_some tree.root)))
    (λ other. ap (λ (o : Option Setting). not (is_some o)) (others_get folders q other ∙ tree.once q there))
    (same_or_other q root_path))) in
    let d : list_all (λ e. has_parent others e.0) (entries others) ≡ true =
    all_each (has_parent others) (entries others) (each_key others (λ q. has_parent others q ≡ true) (λ q there. ⊎_elim
    (λ same. absurd (true≢false (sym there ∙ ap (contains_key others) same ∙ removed folders root_path)))
    (λ other. parent_there folders q (tree.folder_parents q other (others_in folders q there)))
    (same_or_other q root_path))) in
    let e : list_all (λ e. has_parent others e.0) (entries domains) ≡ true =
    all_each (has_parent others) (entries domains) (each_key domains (λ q. has_parent others q ≡ true) (λ q there. parent_there folders q (tree.domain_parents q there))) in
    let f : nat_le (len others + len domains) MAX_BELOW_ROOT ≡ true = le-leb (len others + len domains) MAX_BELOW_ROOT tree.few in
    and_from _ _ (and_from _ _ (and_from _ _ (and_from _ _ a b) d) e) f

-- the catalogue that is made has the configured nodes
abbrev root_setting : Settings → Setting
root_setting folders = unwrap_or (get folders root_path) default_setting

abbrev made_of : Settings → Settings → Contents
made_of folders domains = catalogue_from (root_setting folders) (others_of folders) domains

abbrev start_of : Settings → Contents
start_of folders = only_root (folder_node (root_setting folders))

abbrev middle_of : Settings → Contents
middle_of folders = with_nodes (start_of folders) (folder_nodes (entries (others_of folders)))

no_domain : (folders domains : Settings) (q : List ℕ) → contains_key domains q ≡ false
    → get (made_of folders domains).nodes q ≡ get (middle_of folders).nodes q
no_domain folders domains q none = domains_other (middle_of folders) 1 (entries domains) q (not_among domains q none)

at_start : (folders : Settings)
    → get (start_of folders).nodes root_path ≡ Some (folder_node (root_setting folders))
at_start folders =
    get-insert nat_list_cmp_total (empty {X = Node} {R = text_order}) root_path (folder_node (root_setting folders)) root_path

root_made : (folders domains : Settings) → get domains root_path ≡ None
    → get (made_of folders domains).nodes root_path ≡ Some (folder_node (root_setting folders))
root_made folders domains none =
    no_domain folders domains root_path (ap is_some none)
    ∙ folders_other (start_of folders) (entries (others_of folders)) root_path (not_among (others_of folders) root_path (removed folders root_path))
    ∙ at_start folders

folder_made : (folders domains : Settings) → MakeTree folders domains → (q : List ℕ) (setting : Setting)
    → get folders q ≡ Some setting → get (made_of folders domains).nodes q ≡ Some (folder_node setting)
folder_made folders domains tree q setting h = ⊎_elim
    (λ same.
    ap (λ (p : List ℕ). get (made_of folders domains).nodes p) same
    ∙ root_made folders domains tree.root
    ∙ ap (λ (o : Option Setting). Some (folder_node (unwrap_or o default_setting))) (ap (get folders) (sym same) ∙ h))
    (λ other.
    no_domain folders domains q (false_from_ne_true _ (λ there. true≢false (sym (ap is_some h) ∙ ap is_some (tree.once q there))))
    ∙ folder_found (start_of folders) (entries (others_of folders)) (rising _ (entries_sorted (others_of folders))) q setting
    (sym (get-entries (others_of folders) q) ∙ others_get folders q other ∙ h))
    (same_or_other q root_path)

nothing_made : (folders domains : Settings) (q : List ℕ) → q ≢ root_path → get folders q ≡ None
    → get domains q ≡ None → get (made_of folders domains).nodes q ≡ None
nothing_made folders domains q other folder domain =
    no_domain folders domains q (ap is_some domain)
    ∙ folders_other (start_of folders) (entries (others_of folders)) q (not_among (others_of folders) q (ap is_some (others_get folders q other ∙ folder)))
    ∙ nothing_at (root_setting folders) q other

nodes_made : (folders domains : Settings) → MakeTree folders domains
    → HasConfigured folders domains (made_of folders domains)
nodes_made folders domains tree = record {
  folder = folder_made folders domains tree;
  domain = λ q setting h.
      domain_found (middle_of folders) 1 (entries domains) (rising _ (entries_sorted domains)) q setting (sym (get-entries domains q) ∙ h)
      ∙ ap (λ (node : Node). Some node) (ranked (rank_of domains q) setting);
  default_root = λ none.
      root_made folders domains tree.root ∙ ap (λ (o : Option Setting). Some (folder_node (unwrap_or o default_setting))) none;
  nothing_else = nothing_made folders domains;
  next =
      let more : 1 + length (entries domains) ≡ len domains + 1 = omega (arith, len-entries domains) in
      next-domains (middle_of folders) 1 (entries domains) (next-folders (start_of folders) (entries (others_of folders))) ∙ more;
}

-- and no other catalogue has them
same_nodes : (folders domains : Settings) (c d : Contents) → HasConfigured folders domains c
    → HasConfigured folders domains d → (q : List ℕ) → get c.nodes q ≡ get d.nodes q
same_nodes folders domains c d h k q = ⊎_elim
    (λ some. h.folder q some.0 some.1 ∙ sym (k.folder q some.0 some.1))
    (λ no_folder. ⊎_elim
    (λ some. h.domain q some.0 some.1 ∙ sym (k.domain q some.0 some.1))
    (λ no_domain. ⊎_elim
    (λ same.
    let none : get folders root_path ≡ None = ap (get folders) (sym same) ∙ no_folder in
    ap (get c.nodes) same ∙ h.default_root none ∙ sym (k.default_root none) ∙ ap (get d.nodes) (sym same))
    (λ other. h.nothing_else q other no_folder no_domain ∙ sym (k.nothing_else q other no_folder no_domain))
    (same_or_other q root_path))
    (some_or_none (get domains q)))
    (some_or_none (get folders q))

one_catalogue : (folders domains : Settings) (c d : Contents) → HasConfigured folders domains c
    → HasConfigured folders domains d → c ≡ d
one_catalogue folders domains c d h k =
    let nodes : c.nodes ≡ d.nodes = same_map nat_list_cmp_total exact_texts c.nodes d.nodes (same_nodes folders domains c d h k) in
    let next : c.next ≡ d.next = h.next ∙ sym k.next in
    λ i. record { nodes = nodes i; next = next i }

pub configured_told : (folders domains : Settings) (c : Contents) → catalogue_of folders domains ≡ Some c
    → MakeTree folders domains × HasConfigured folders domains c
configured_told folders domains c is = ⊎_elim
    (λ yes_tree.
    let tree : MakeTree folders domains = tree_made folders domains yes_tree in
    let whole : Some (made_of folders domains) ≡ Some c = sym (cond-true _ _ _ yes_tree) ∙ is in
    let same : made_of folders domains ≡ c = cc in
    (tree, subst (HasConfigured folders domains) same (nodes_made folders domains tree)))
    (λ no_tree.
    let whole : ◌≡◌ {A = Option Contents} None (Some c) = sym (cond-false _ _ _ no_tree) ∙ is in
    absurd cc)
    (cases_Bool (is_tree (others_of folders) domains))

pub configured_read : (folders domains : Settings) (c : Contents)
    → MakeTree folders domains × HasConfigured folders domains c → catalogue_of folders domains ≡ Some c
configured_read folders domains c h =
    cond-true _ _ _ (tree_found folders domains h.0)
    ∙ ap Some (one_catalogue folders domains (made_of folders domains) c (nodes_made folders domains h.0) h.1)

-- a folder is no domain
folder_only : (setting : Setting) (o : Option Node) (number : ℕ) (root : Id) → o ≡ Some (folder_node setting)
    → option_map (λ node. node.class) o ≡ Some (Domain number root) → ⊥
folder_only setting o number root is at =
    let folder : ◌≡◌ {A = Option NodeClass} (Some Folder) (Some (Domain number root)) = sym (ap (option_map (λ node. node.class)) is) ∙ at in
    cc folder

-- each domain was configured
pub domain_was_configured : (folders domains : Settings) (c : Contents) → HasConfigured folders domains c
    → (path : List ℕ) (number : ℕ) (root : Id) → IsDomainAt c path number root → (setting : Setting) × (get domains path ≡ Some setting)
domain_was_configured folders domains c h path number root at = ⊎_elim
    (λ some. some)
    (λ no_domain. absurd (⊎_elim
    (λ some. folder_only some.0 (get c.nodes path) number root (h.folder path some.0 some.1) at)
    (λ no_folder. ⊎_elim
    (λ same.
    let none : get folders root_path ≡ None = ap (get folders) (sym same) ∙ no_folder in
    folder_only default_setting (get c.nodes path) number root (ap (get c.nodes) same ∙ h.default_root none) at)
    (λ other.
    let none : ◌≡◌ {A = Option NodeClass} None (Some (Domain number root)) =
    sym (ap (option_map (λ node. node.class)) (h.nothing_else path other no_folder no_domain)) ∙ at in
    cc none)
    (same_or_other path root_path))
    (some_or_none (get folders path))))
    (some_or_none (get domains path))

-- and has the class that its rank says
pub class_configured : (folders domains : Settings) (c : Contents) → HasConfigured folders domains c
    → (path : List ℕ) (number : ℕ) (root : Id) → IsDomainAt c path number root
    → (setting : Setting) × (get domains path ≡ Some setting) × (Some (ranked_domain (rank_of domains path) setting).class ≡ Some (Domain number root))
class_configured folders domains c h path number root at =
    let some = domain_was_configured folders domains c h path number root at in
    (some.0, some.1, sym (ap (option_map (λ node. node.class)) (h.domain path some.0 some.1)) ∙ at)

-- the root of each domain was given out in run 0
pub configured_roots : (folders domains : Settings) (c : Contents) → HasConfigured folders domains c → HasFirstRoots c
configured_roots folders domains c h path number root at =
    let run : ◌≡◌ {A = ℕ} 0 root.run = ap run_in (class_configured folders domains c h path number root at).2 in
    sym run
  where
    run_in : Option NodeClass → ℕ
    run_in None = 0
    run_in (Some Folder) = 0
    run_in (Some (Domain n id)) = id.run

pub first_roots : {E : Type 0} (folders domains : Settings) (r : Result Contents E)
    → IfOk r (λ c. catalogue_of folders domains ≡ Some c) → IfOk r HasFirstRoots
first_roots folders domains (Ok c) is = configured_roots folders domains c (configured_told folders domains c is).1
first_roots folders domains (Err e) is = tt
