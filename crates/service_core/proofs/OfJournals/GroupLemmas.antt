-- The groups that are put at the roots of a catalogue's domains.
use Rattle.std.proofs.Common.{◌≡◌, ◌≢◌, ◌∙◌, ◌⊎◌, ◌<◌, ℕ, Bool, true, false, T, cond, List, [], ◌∷◌, Option, Some, None, is_some, inl, inr}
use Rattle.std.proofs.Common.{option_map, refl, sym, ap, subst, is_eq, IsSome}
use Rattle.std.specs.Ordering.{eq_by_cmp}
use Rattle.std.specs.Cmp.{Equal-is}
use Rattle.std.specs.FinMap.{empty, entries, entries_sorted, find, get, get-empty, get-entries, get-insert, insert, is_sorted}
use Rattle.std.specs.Cmp.Lexicographic.{nat_list_cmp_total}
use Rattle.std.specs.List.{cons_option}
use Rattle.std.proofs.lemmas.Cmp.{tied_itself}
use Rattle.containers.specs.TextMaps.Keyed.{text_order}
use Rattle.object_ids.specs.IdOrder.{id_order}
use Rattle.object_ids.specs.IdValues.{Id}
use Rattle.object_ids.proofs.IdOrders.{id_order_once, id_order_total}
use Rattle.domains.specs.Contents.{Contents, IsCatalogue, IsDomainAt}
use Rattle.domains.specs.declared.classes.Node.{Node}
use Rattle.domains.specs.declared.classes.NodeClass.{NodeClass}
use Rattle.domains.specs.declared.classes.NodeClass.TheVariants.{Folder, Domain}
use Rattle.object_acts.specs.declared.objects.Object.{Object}
use Rattle.object_acts.specs.Objects.{empty_group, Objects}
use Rattle.register.specs.Decided.{IsGivenOut, RegisterState, opened}
use Rattle.service_core.specs.Journals.Groups.{AreFirstRoots, HasFirstGroups, MayHaveGroup, MayHaveGroups}
use Rattle.service_core.specs.Journals.Groups.{groups_on, root_in, roots_in, roots_of}
use Rattle.service_core.proofs.OfJournals.RootLemmas.{HasRoot, IsAmong, Nodes, among_root, found_first, found_later, later_path, root_among, tail_rises}

-- ---- one group

-- a group that was put stands there, and else what stood there before
put_or : (objects : Objects) (id q : Id)
    → ((q ≡ id) × (get (insert objects id empty_group) q ≡ Some empty_group))
    ⊎ ((eq_by_cmp id_order q id ≡ false) × (get (insert objects id empty_group) q ≡ get objects q))
put_or objects id q = go (eq_by_cmp id_order q id) refl
  where
    go : (b : Bool) → eq_by_cmp id_order q id ≡ b
        → ((q ≡ id) × (get (insert objects id empty_group) q ≡ Some empty_group))
        ⊎ ((eq_by_cmp id_order q id ≡ false) × (get (insert objects id empty_group) q ≡ get objects q))
    go true is = inl (
      id_order_once q id ((Equal-is (id_order q id)).0 is),
      get-insert id_order_total objects id empty_group q ∙ ap (λ (b : Bool). cond b (Some empty_group) (get objects q)) is,
    )
    go false is = inr (
      is,
      get-insert id_order_total objects id empty_group q ∙ ap (λ (b : Bool). cond b (Some empty_group) (get objects q)) is,
    )

-- ---- groups at some ids

-- a group stays
group_stays : (ids : List Id) (objects : Objects) (q : Id) → get objects q ≡ Some empty_group
    → get (groups_on objects ids) q ≡ Some empty_group
group_stays [] objects q here = here
group_stays (id ∷ ids) objects q here = group_stays ids (insert objects id empty_group) q (still (put_or objects id q))
  where
    still : ((q ≡ id) × (get (insert objects id empty_group) q ≡ Some empty_group))
        ⊎ ((eq_by_cmp id_order q id ≡ false) × (get (insert objects id empty_group) q ≡ get objects q))
        → get (insert objects id empty_group) q ≡ Some empty_group
    still (inl put) = put.1
    still (inr other) = other.1 ∙ here

-- one stands at each of the ids
group_among : (ids : List Id) (objects : Objects) (q : Id) → IsAmong q ids
    → get (groups_on objects ids) q ≡ Some empty_group
group_among [] objects q among = absurd among
group_among (id ∷ ids) objects q (inl same) =
    group_stays ids (insert objects id empty_group) q
    (ap (get (insert objects id empty_group)) same ∙ get-insert id_order_total objects id empty_group id
    ∙ ap (λ r. cond (is_eq r) (Some empty_group) (get objects id)) (tied_itself id_order_total id))
group_among (id ∷ ids) objects q (inr among) = group_among ids (insert objects id empty_group) q among

-- and no other is there that wasn't
only_among : (ids : List Id) (objects : Objects) (q : Id) → IsSome (get (groups_on objects ids) q)
    → IsSome (get objects q) ⊎ IsAmong q ids
only_among [] objects q here = inl here
only_among (id ∷ ids) objects q here = go (only_among ids (insert objects id empty_group) q here)
  where
    before : ((q ≡ id) × (get (insert objects id empty_group) q ≡ Some empty_group))
        ⊎ ((eq_by_cmp id_order q id ≡ false) × (get (insert objects id empty_group) q ≡ get objects q))
        → IsSome (get (insert objects id empty_group) q) → IsSome (get objects q) ⊎ IsAmong q (id ∷ ids)
    before (inl put) here = inr (inl put.0)
    before (inr other) here = inl (sym (ap is_some other.1) ∙ here)

    go : IsSome (get (insert objects id empty_group) q) ⊎ IsAmong q ids → IsSome (get objects q) ⊎ IsAmong q (id ∷ ids)
    go (inl here) = before (put_or objects id q) here
    go (inr among) = inr (inr among)

-- ---- groups at the roots

-- the class that has a root is a domain's
root_of_domain : (class : NodeClass) (id : Id) → root_in class ≡ Some id → (number : ℕ) × (class ≡ Domain number id)
root_of_domain Folder id is = let bad : None ≡ Some id = is in cc
root_of_domain (Domain number root) id is = let same : root ≡ id = cc in (number, ap (Domain number) same)

module _ (c : Contents) where
  -- these nodes are some of the catalogue's
  abbrev AreOf : Nodes → Type 0
  AreOf nodes = (path : List ℕ) (node : Node) → find text_order path nodes ≡ Some node → get c.nodes path ≡ Some node

  domain_of : (nodes : Nodes) (id : Id) → AreOf nodes → (has : HasRoot nodes id) → (number : ℕ) × IsDomainAt c has.path number id
  domain_of nodes id own has =
      let class = root_of_domain has.node.class id has.root in
      (class.0, ap (option_map (λ (n : Node). n.class)) (own has.path has.node has.found) ∙ ap (λ (k : NodeClass). Some k) class.1)

  pub first_groups : HasFirstGroups c (groups_on empty (roots_of c))
  first_groups = record {
    at_roots = λ path number root is.
        let found = node_of_class (get c.nodes path) number root is in
        group_among (roots_of c) empty root
        (root_among (entries c.nodes) path found.0 root (sym (get-entries c.nodes path) ∙ found.1) (ap root_in found.2));
    at_roots_only = λ id here. among id (only_among (roots_of c) empty id here);
  }
    where
      node_of_class : (o : Option Node) (number : ℕ) (root : Id) → option_map (λ (n : Node). n.class) o ≡ Some (Domain number root)
          → (node : Node) × (o ≡ Some node) × (node.class ≡ Domain number root)
      node_of_class None number root is = let bad : None ≡ Some (Domain number root) = is in cc
      node_of_class (Some node) number root is = (node, refl, cc)

      among : (id : Id) → IsSome (get (empty {X = Object} {R = id_order}) id) ⊎ IsAmong id (roots_of c)
          → (path : List ℕ) × (number : ℕ) × IsDomainAt c path number id
      among id (inl here) = let bad : false ≡ true = sym (ap is_some (get-empty id_order id)) ∙ here in cc
      among id (inr in_roots) =
          let has = among_root (entries c.nodes) id (entries_sorted c.nodes) in_roots in
          let domain = domain_of (entries c.nodes) id (λ path node found. get-entries c.nodes path ∙ found) has in
          (has.path, domain.0, domain.1)

  -- ---- each root is free

  -- an empty world of the catalogue
  module _ (register : RegisterState) (is : register.catalogue ≡ c) (valid : IsCatalogue c) (given : (path : List ℕ) (number : ℕ) (root : Id) → IsDomainAt c path number root → IsGivenOut register.run register.serial root) where
    may_have : (path : List ℕ) (number : ℕ) (root : Id) (objects : Objects) → IsDomainAt c path number root → get objects root ≡ None
        → MayHaveGroup (record { register = register; objects = objects }) root
    may_have path number root objects at free =
        let group = valid.roots path number root at in
        record {
          given = record {
            number = subst (λ (n : ℕ). n < register.catalogue.next) (sym group.1)
                (subst (λ (k : Contents). number < k.next) (sym is) (valid.below path number root at));
            out = given path number root at;
          };
          group = group.0;
          free = free;
        }

    pub each_may : (nodes : Nodes) (objects : Objects) → T (is_sorted text_order nodes) → AreOf nodes
        → ((id : Id) → IsAmong id (roots_in nodes) → get objects id ≡ None)
        → MayHaveGroups (record { register = register; objects = objects }) (roots_in nodes)
    each_may [] objects rising own free = tt
    each_may (e ∷ es) objects rising own free = go (root_in e.1.class) refl free (each_may es)
      where
        own_later : AreOf es
        own_later path node found = own path node (found_later e es path node rising found)

        go : (o : Option Id) → root_in e.1.class ≡ o → ((id : Id) → IsAmong id (cons_option o (roots_in es)) → get objects id ≡ None)
            → ((objects : Objects) → T (is_sorted text_order es) → AreOf es
            → ((id : Id) → IsAmong id (roots_in es) → get objects id ≡ None)
            → MayHaveGroups (record { register = register; objects = objects }) (roots_in es))
            → MayHaveGroups (record { register = register; objects = objects }) (cons_option o (roots_in es))
        go None is free later = later objects (tail_rises e es rising) own_later free
        go (Some root) is free later = (
          may_have e.0 here.0 root objects here.1 (free root (inl refl)),
          later (insert objects root empty_group) (tail_rises e es rising) own_later still,
        )
          where
            class : (number : ℕ) × (e.1.class ≡ Domain number root)
            class = root_of_domain e.1.class root is

            here : (number : ℕ) × IsDomainAt c e.0 number root
            here = (class.0, ap (option_map (λ (n : Node). n.class)) (own e.0 e.1 (found_first e es)) ∙ ap (λ (k : NodeClass). Some k) class.1)

            -- the root of a later domain is another one
            apart : (id : Id) → IsAmong id (roots_in es) → id ≢ root
            apart id among same =
                let has = among_root es id (tail_rises e es rising) among in
                let other = domain_of es id own_later has in
                let numbers : other.0 ≡ here.0 =
                sym ((valid.roots has.path other.0 id other.1).1) ∙ ap (λ (i : Id). i.domain) same
                ∙ (valid.roots e.0 here.0 root here.1).1 in
                let paths : has.path ≡ e.0 =
                valid.distinct has.path e.0 here.0 id root (subst (λ (n : ℕ). IsDomainAt c has.path n id) numbers other.1) here.1 in
                let bad : true ≡ false =
                sym (ap is_eq (ap (λ (p : List ℕ). text_order p e.0) paths ∙ tied_itself nat_list_cmp_total e.0))
                ∙ later_path e es has.path has.node rising has.found in
                cc

            still : (id : Id) → IsAmong id (roots_in es) → get (insert objects root empty_group) id ≡ None
            still id among = one (put_or objects root id)
              where
                one : ((id ≡ root) × (get (insert objects root empty_group) id ≡ Some empty_group))
                    ⊎ ((eq_by_cmp id_order id root ≡ false) × (get (insert objects root empty_group) id ≡ get objects id))
                    → get (insert objects root empty_group) id ≡ None
                one (inl put) = absurd (apart id among put.0)
                one (inr other) = other.1 ∙ free id (inr among)

-- a world without objects may have a group at each root
pub first_may : (c : Contents) (lanes : ℕ) → IsCatalogue c → AreFirstRoots c
    → MayHaveGroups (record { register = opened c lanes 0; objects = empty }) (roots_of c)
first_may c lanes valid first =
    each_may c (opened c lanes 0) refl valid first (entries c.nodes) empty (entries_sorted c.nodes)
    (λ path node found. get-entries c.nodes path ∙ found) (λ id among. get-empty id_order id)
