-- Where the objects of a document stand.
use Rattle.std.proofs.Common.{◌≡◌, ◌≢◌, ℕ, ◌+◌, ◌<◌, ◌⊎◌, inl, inr, List, [], ◌∷◌, ◌++◌, length, Less, Bool, true, false, map, cond, Option, Some, None, IsSome, is_some, is_eq, option_map, unwrap_or, refl, sym, ap, subst, ◌∙◌, arith}
use Rattle.std.proofs.lemmas.Cmp.{tied_itself}
use Rattle.std.proofs.lemmas.List.{length-map, map-append}
use Rattle.std.proofs.lemmas.Simd.{map-map}
use Rattle.std.specs.Cmp.{Equal-is}
use Rattle.std.specs.Cmp.Lexicographic.{nat_list_cmp_total}
use Rattle.std.specs.List.{AllByRecursion, range_with_len}
use Rattle.std.specs.Ordering.{eq_by_cmp}
use Rattle.std.specs.FinMap.{FinMap, empty, entries, entries_sorted, get, get-empty, get-insert, get-remove, insert, keys, remove, values}
use Rattle.std.proofs.lemmas.Option.{same_Some}
use Rattle.containers.specs.TextMaps.Keyed.{text_order, with_values}
use Rattle.containers.proofs.TextMaps.KeyedMaps.{exact_texts}
use Rattle.containers.proofs.TextMaps.ValueMaps.{entries-values, get-values}
use Rattle.object_ids.specs.IdOrder.{id_order}
use Rattle.object_ids.specs.IdValues.{Id}
use Rattle.object_ids.specs.declared.ids.Kind.{Kind}
use Rattle.object_ids.specs.declared.ids.Kind.TheVariants as kind
use Rattle.object_ids.proofs.IdOrders.{id_order_once, id_order_total}
use Rattle.hdf_values.proofs.PieceLemmas.{all_parts}
use Rattle.attributes.proofs.MapLemmas.{each_entry}
use Rattle.object_acts.specs.declared.objects.Object.{Object}
use Rattle.documents.specs.declared.reader.loaded.Group.{Group}
use Rattle.documents.specs.declared.reader.loaded.Loaded.{Loaded}
use Rattle.json_import.specs.Fresh.Laws.{AreOfOne, DatasetsStand, DatatypesStand, GroupsStand, HasObject, IdsAreDistinct, IdsAreFresh, IdsHaveObjects, IsFresh, NothingElseStands, OthersStay, RootIsFirst, RootStands, SerialsRise, SerialsRun, StandForOne, StandsAt, other_texts}
use Rattle.json_import.specs.Fresh.Names.{Names, behind, id_in, name_each, named, names_of, numbered_by, others, root_named, with_each, with_root}
use Rattle.json_import.specs.Fresh.Renamed.{dataset_object, datatype_object, group_object, kind_of, objects_put, other_count, other_objects, root_object}
use Rattle.json_import.specs.declared.fresh.names.Naming.{Naming}
use Rattle.json_import.proofs.OfFresh.FreshLemmas.{rising as rising_serials}
use Rattle.json_import.proofs.OfFresh.FreshLemmas.{IsBefore, IsThereIn, IsNamedBehind, IsText, all_behind, apart, before_behind, before_front, before_sorted, before_texts, entry_text, there_told, name_told, serials_follow, text_above, text_behind, text_front, text_named}
use Rattle.json_import.proofs.OfFresh.ObjectLemmas.{under_count}
use Rattle.json_import.proofs.OfFresh.StandingLemmas.{AreOnce, IsAbsent, Stands, absent_joined, all_stand, each_of, id_other, id_put, name_all, name_joined, name_kept, name_kind, object_kept, once_entries, once_joined, text_put}
use Rattle.containers.proofs.Plain.{some_value}
use Rattle.json_trees.proofs.ListLemmas.{all_append}

-- ---- a map that is seen otherwise

module _ {X Y : Type 0} where
  some_of : (h : X → Y) (o : Option X) (y : Y) → option_map h o ≡ Some y → IsSome o
  some_of h None y e = let both : None ≡ Some y = e in absurd (cc)
  some_of h (Some x) y e = refl

  mapped_some : (h : X → Y) (m : FinMap text_order X) (k : List ℕ) (y : Y) → get (with_values h m) k ≡ Some y → IsSome (get m k)
  mapped_some h m k y e = some_of h (get m k) y (sym (get-values nat_list_cmp_total h m k) ∙ e)

  mapped_none : (h : X → Y) (m : FinMap text_order X) (k : List ℕ) → get m k ≡ None → get (with_values h m) k ≡ None
  mapped_none h m k none = get-values nat_list_cmp_total h m k ∙ ap (option_map h) none

  mapped_at : (h : X → Y) (m : FinMap text_order X) (k : List ℕ) (x : X) → get m k ≡ Some x → get (with_values h m) k ≡ Some (h x)
  mapped_at h m k x is = get-values nat_list_cmp_total h m k ∙ ap (option_map h) is

  mapped_from : (h : X → Y) (m : FinMap text_order X) (k : List ℕ) (y : Y) → get (with_values h m) k ≡ Some y → (x : X) × (get m k ≡ Some x) × (y ≡ h x)
  mapped_from h m k y e = at (get m k) refl (sym (get-values nat_list_cmp_total h m k) ∙ e) where
    at : (found : Option X) → get m k ≡ found → option_map h found ≡ Some y → (x : X) × (get m k ≡ Some x) × (y ≡ h x)
    at None is none = let both : None ≡ Some y = none in absurd (cc)
    at (Some x) is some = (x, is, sym (same_Some (h x) y some))

  values_listed : (h : X → Y) (es : List (List ℕ × X)) → map (λ (e : List ℕ × Y). e.1) (map (λ (e : List ℕ × X). (e.0, h e.1)) es) ≡ map h (map (λ (e : List ℕ × X). e.1) es)
  values_listed h [] = refl
  values_listed h (e ∷ es) = ap (λ ys. h e.1 ∷ ys) (values_listed h es)

  mapped_keys : (h : X → Y) (m : FinMap text_order X) → map (λ e. e.0) (entries (with_values h m)) ≡ keys m
  mapped_keys h m = ap (map (λ (e : List ℕ × Y). e.0)) (entries-values nat_list_cmp_total h m) ∙ map-map (λ (e : List ℕ × Y). e.0) (λ (e : List ℕ × X). (e.0, h e.1)) (entries m)

  mapped_values : (h : X → Y) (m : FinMap text_order X) → map (λ e. e.1) (entries (with_values h m)) ≡ map h (values m)
  mapped_values h m = ap (map (λ (e : List ℕ × Y). e.1)) (entries-values nat_list_cmp_total h m) ∙ values_listed h (entries m)

module _ {X : Type 0} where
  not_there : (m : FinMap text_order X) (k q : List ℕ) (x : X) → get m k ≡ None → get m q ≡ Some x → k ≡ q → ⊥
  not_there m k q x none is same = let both : None ≡ Some x = sym none ∙ ap (get m) same ∙ is in absurd (cc)

  absent_of : (m : FinMap text_order X) (k : List ℕ) → get m k ≡ None → IsAbsent k (entries m)
  absent_of m k none = each_entry (λ q x. k ≡ q → ⊥) m (λ q x is. not_there m k q x none is)

  some_is : (o : Option X) (x : X) → o ≡ Some x → IsSome o
  some_is o x e = ap is_some e

  pub other_is : (m : FinMap text_order X) (gone k : List ℕ) (x : X) → get (remove m gone) k ≡ Some x → get m k ≡ Some x
  other_is m gone k x is = at (eq_by_cmp text_order k gone) (sym (get-remove nat_list_cmp_total m gone k) ∙ is) where
    at : (b : Bool) → cond b None (get m k) ≡ Some x → get m k ≡ Some x
    at true e = let both : None ≡ Some x = e in absurd (cc)
    at false e = e

-- ---- a document

module _ (l : Loaded) (root : Id) (m : FinMap id_order Object) where
  abbrev names : Names
  names = names_of l root

  abbrev groups : FinMap text_order Object
  groups = with_values (group_object names root) (others l)

  abbrev datasets : FinMap text_order Object
  datasets = with_values dataset_object l.datasets

  abbrev datatypes : FinMap text_order Object
  datatypes = with_values datatype_object l.datatypes

  -- the texts and their objects in the order of their ids
  abbrev listed : List (List ℕ × Object)
  listed = entries groups ++ (entries datasets ++ entries datatypes)

  one_named : {Y : Type 0} (h : Y → Object) (k : Kind) → ((y : Y) → kind_of (h y) ≡ k) → (c : FinMap text_order Y) (n : Naming)
      → name_all kind_of n (entries (with_values h c)) ≡ name_each k n (keys c)
  one_named h k same c n = ap (name_all kind_of n) (entries-values nat_list_cmp_total h c) ∙ name_kind kind_of h k same (entries c) n

  abbrev start : Naming
  start = root_named l.root root

  named_listed : name_all kind_of start listed ≡ named l root
  named_listed =
      name_joined kind_of (entries groups) (entries datasets ++ entries datatypes) start
      ∙ name_joined kind_of (entries datasets) (entries datatypes) (name_all kind_of start (entries groups))
      ∙ one_named datatype_object kind.Datatype (λ t. refl) l.datatypes (name_all kind_of (name_all kind_of start (entries groups)) (entries datasets))
      ∙ ap (λ n. name_each kind.Datatype n (keys l.datatypes))
      (one_named dataset_object kind.Dataset (λ d. refl) l.datasets (name_all kind_of start (entries groups))
      ∙ ap (λ n. name_each kind.Dataset n (keys l.datasets)) (one_named (group_object names root) kind.Group (λ g. refl) (others l) start))

  objects_listed : map (λ e. e.1) listed ≡ other_objects l root
  objects_listed =
      map-append (λ (e : List ℕ × Object). e.1) (entries groups) (entries datasets ++ entries datatypes)
      ∙ ap (λ os. map (λ (e : List ℕ × Object). e.1) (entries groups) ++ os) (map-append (λ (e : List ℕ × Object). e.1) (entries datasets) (entries datatypes))
      ∙ (λ i. mapped_values (group_object names root) (others l) i ++ (mapped_values dataset_object l.datasets i ++ mapped_values datatype_object l.datatypes i))

  texts_listed : map (λ e. e.0) listed ≡ other_texts l
  texts_listed =
      map-append (λ (e : List ℕ × Object). e.0) (entries groups) (entries datasets ++ entries datatypes)
      ∙ ap (λ ts. map (λ (e : List ℕ × Object). e.0) (entries groups) ++ ts) (map-append (λ (e : List ℕ × Object). e.0) (entries datasets) (entries datatypes))
      ∙ (λ i. mapped_keys (group_object names root) (others l) i ++ (mapped_keys dataset_object l.datasets i ++ mapped_keys datatype_object l.datatypes i))

  -- ---- each text stands once

  module _ (one : StandForOne l) where
    other_there : (k : List ℕ) (b : Bool) → IsSome (cond b None (get l.groups k)) → IsSome (get l.groups k)
    other_there k true there = absurd (let both : false ≡ true = there in cc)
    other_there k false there = there

    group_there : (k : List ℕ) (o : Object) → get groups k ≡ Some o → IsSome (get l.groups k)
    group_there k o is =
        other_there k (eq_by_cmp text_order k l.root)
        (subst IsSome (get-remove nat_list_cmp_total l.groups l.root k) (mapped_some (group_object names root) (others l) k o is))

    no_root : get groups l.root ≡ None
    no_root =
        mapped_none (group_object names root) (others l) l.root
        (get-remove nat_list_cmp_total l.groups l.root l.root ∙ ap (λ r. cond (is_eq r) None (get l.groups l.root)) (tied_itself nat_list_cmp_total l.root))

    outside : (k : List ℕ) → IsSome (get l.groups k) → IsAbsent k (entries datasets ++ entries datatypes)
    outside k there = absent_joined k (entries datasets) (entries datatypes)
        (absent_of datasets k (mapped_none dataset_object l.datasets k (one.datasets k there)))
        (absent_of datatypes k (mapped_none datatype_object l.datatypes k (one.datatypes k there)))

    listed_once : AreOnce listed
    listed_once = once_joined (entries groups) (entries datasets ++ entries datatypes)
        (once_entries groups)
        (once_joined (entries datasets) (entries datatypes) (once_entries datasets) (once_entries datatypes)
        (each_entry (λ k o. IsAbsent k (entries datatypes)) datasets (λ k o is.
        absent_of datatypes k (mapped_none datatype_object l.datatypes k (one.types k (mapped_some dataset_object l.datasets k o is))))))
        (each_entry (λ k o. IsAbsent k (entries datasets ++ entries datatypes)) groups (λ k o is. outside k (group_there k o is)))

    root_absent : IsAbsent l.root listed
    root_absent = absent_joined l.root (entries groups) (entries datasets ++ entries datatypes) (absent_of groups l.root no_root) (outside l.root one.root)

    -- ---- where they stand

    abbrev put : FinMap id_order Object
    put = objects_put l root m

    abbrev At : List ℕ → Object → Type 0
    At text o = Stands kind_of names put text o

    all_at : AllByRecursion (λ e. At e.0 e.1) listed
    all_at =
        subst (λ (n : Naming). AllByRecursion (λ e. Stands kind_of n.names put e.0 e.1) listed) named_listed
        (subst (λ os. AllByRecursion (λ e. Stands kind_of (name_all kind_of start listed).names (with_each (with_root m root (root_object l root)) (numbered_by kind_of root os)) e.0 e.1) listed) objects_listed
        (all_stand kind_of listed start (with_root m root (root_object l root)) listed_once))

    abbrev at_each : List ℕ × Object → Type 0
    at_each e = At e.0 e.1

    at_parts : AllByRecursion at_each (entries groups) × AllByRecursion at_each (entries datasets ++ entries datatypes)
    at_parts = all_parts at_each (entries groups) (entries datasets ++ entries datatypes) all_at

    at_rest : AllByRecursion at_each (entries datasets) × AllByRecursion at_each (entries datatypes)
    at_rest = all_parts at_each (entries datasets) (entries datatypes) at_parts.1

    stands : (text : List ℕ) (o : Object) → At text o → StandsAt l root m text o
    stands text o at = ap (λ i. get put (unwrap_or i root)) at.1 ∙ at.2

    root_name : get names l.root ≡ Some root
    root_name =
        ap (λ (n : Naming). get n.names l.root) (sym named_listed)
        ∙ name_kept kind_of l.root listed start root_absent ∙ text_put empty l.root root

    root_at : (g : Group) → get l.groups l.root ≡ Some g → At l.root (group_object names root g)
    root_at g is = (
      root,
      root_name,
      object_kept kind_of root (other_objects l root) root (with_root m root (root_object l root)) (omega arith)
          ∙ ap (λ o. get (with_root m root (option_map (group_object names root) o)) root) is
          ∙ id_put m root (group_object names root g),
    )

    group_at : (text : List ℕ) (g : Group) (b : Bool) → eq_by_cmp text_order text l.root ≡ b → get l.groups text ≡ Some g → At text (group_object names root g)
    group_at text g true e is =
        let same : text ≡ l.root = exact_texts text l.root ((Equal-is (text_order text l.root)).0 e) in
        subst (λ t. At t (group_object names root g)) (sym same) (root_at g (ap (get l.groups) (sym same) ∙ is))
    group_at text g false e is =
        each_of At groups at_parts.0 text (group_object names root g)
        (mapped_at (group_object names root) (others l) text g
        (get-remove nat_list_cmp_total l.groups l.root text ∙ ap (λ b. cond b None (get l.groups text)) e ∙ is))

    -- ---- which ids they have

    abbrev has_own : List ℕ × Object → Type 0
    has_own e = HasObject l root e.0 e.1

    listed_have : AllByRecursion has_own listed
    listed_have = all_append has_own (entries groups) (entries datasets ++ entries datatypes)
        (each_entry (HasObject l root) groups (λ k o is.
        let source = mapped_from (group_object names root) (others l) k o is in
        inl (source.0, other_is l.groups l.root k source.0 source.1, source.2)))
        (all_append has_own (entries datasets) (entries datatypes)
        (each_entry (HasObject l root) datasets (λ k o is. inr (inl (mapped_from dataset_object l.datasets k o is))))
        (each_entry (HasObject l root) datatypes (λ k o is. inr (inr (mapped_from datatype_object l.datatypes k o is)))))

    listed_count : length listed ≡ other_count l
    listed_count =
        sym (length-map listed (λ (e : List ℕ × Object). e.1)) ∙ ap length objects_listed ∙ under_count names root (others l) l.datasets l.datatypes

    abbrev is_behind : List ℕ × Object → Type 0
    is_behind = IsNamedBehind kind_of (named l root) root (other_count l)

    all_named : AllByRecursion is_behind listed
    all_named =
        subst (λ (n : Naming). AllByRecursion (IsNamedBehind kind_of n root (other_count l)) listed) named_listed
        (subst (λ (many : ℕ). AllByRecursion (IsNamedBehind kind_of (name_all kind_of start listed) root many) listed) listed_count (all_behind kind_of listed start listed_once))

    behind_fresh : (text : List ℕ) (o : Object) → is_behind (text, o) → IsFresh root (other_count l) (kind_of o) (id_in names root text)
    behind_fresh text o h = subst (IsFresh root (other_count l) (kind_of o)) (sym (ap (λ i. unwrap_or i root) h.1)) (record {
      same_kind = h.2.kind;
      domain = h.2.domain;
      run = h.2.run;
      from = omega (arith, h.2.above);
      within = h.2.within;
    })

    root_fresh : root.kind ≡ kind.Group → (g : Group) → IsFresh root (other_count l) (kind_of (group_object names root g)) (id_in names root l.root)
    root_fresh is_group g = subst (IsFresh root (other_count l) kind.Group) (sym (ap (λ i. unwrap_or i root) root_name)) (record {
      same_kind = is_group;
      domain = refl;
      run = refl;
      from = omega arith;
      within = omega arith;
    })

    parts_named : AllByRecursion is_behind (entries groups) × AllByRecursion is_behind (entries datasets ++ entries datatypes)
    parts_named = all_parts is_behind (entries groups) (entries datasets ++ entries datatypes) all_named

    rest_named : AllByRecursion is_behind (entries datasets) × AllByRecursion is_behind (entries datatypes)
    rest_named = all_parts is_behind (entries datasets) (entries datatypes) parts_named.1

    abbrev IsBehindAt : List ℕ → Object → Type 0
    IsBehindAt text o = is_behind (text, o)

    -- a group is the root, or one of the others
    other_group : (text : List ℕ) (g : Group) → get l.groups text ≡ Some g → (text ≡ l.root) ⊎ (get groups text ≡ Some (group_object names root g))
    other_group text g is = at (eq_by_cmp text_order text l.root) refl where
      at : (b : Bool) → eq_by_cmp text_order text l.root ≡ b → (text ≡ l.root) ⊎ (get groups text ≡ Some (group_object names root g))
      at true e = inl (exact_texts text l.root ((Equal-is (text_order text l.root)).0 e))
      at false e = inr (mapped_at (group_object names root) (others l) text g (get-remove nat_list_cmp_total l.groups l.root text ∙ ap (λ b. cond b None (get l.groups text)) e ∙ is))

    group_fresh : root.kind ≡ kind.Group → (text : List ℕ) (g : Group) → (text ≡ l.root) ⊎ (get groups text ≡ Some (group_object names root g))
        → IsFresh root (other_count l) (kind_of (group_object names root g)) (id_in names root text)
    group_fresh is_group text g (inl same) =
        subst (λ t. IsFresh root (other_count l) (kind_of (group_object names root g)) (id_in names root t)) (sym same) (root_fresh is_group g)
    group_fresh is_group text g (inr is) = behind_fresh text (group_object names root g) (each_of IsBehindAt groups parts_named.0 text (group_object names root g) is)

    abbrev FreshAt : List ℕ → Object → Type 0
    FreshAt text o = IsFresh root (other_count l) (kind_of o) (id_in names root text)

    fresh_at : root.kind ≡ kind.Group → (text : List ℕ) (o : Object) → HasObject l root text o → FreshAt text o
    fresh_at is_group text o (inl h) = subst (FreshAt text) (sym h.2) (group_fresh is_group text h.0 (other_group text h.0 h.1))
    fresh_at is_group text o (inr (inl h)) =
        subst (FreshAt text) (sym h.2)
        (behind_fresh text (dataset_object h.0) (each_of IsBehindAt datasets rest_named.0 text (dataset_object h.0) (mapped_at dataset_object l.datasets text h.0 h.1)))
    fresh_at is_group text o (inr (inr h)) =
        subst (FreshAt text) (sym h.2)
        (behind_fresh text (datatype_object h.0) (each_of IsBehindAt datatypes rest_named.1 text (datatype_object h.0) (mapped_at datatype_object l.datatypes text h.0 h.1)))

    -- ---- what is held

    abbrev begun : FinMap id_order Object
    begun = with_root m root (root_object l root)

    abbrev numbered_by_text : FinMap id_order Object
    numbered_by_text = with_each begun (numbered_by kind_of root (map (λ e. e.1) listed))

    put_listed : numbered_by_text ≡ put
    put_listed = ap (λ os. with_each begun (numbered_by kind_of root os)) objects_listed

    abbrev IsToldBy : Id → Object → Type 0
    IsToldBy id o = (get m id ≡ Some o) ⊎ ((text : List ℕ) × (id_in names root text ≡ id) × HasObject l root text o)

    root_told : (found : Option Group) → get l.groups l.root ≡ found → (id : Id) (o : Object) → get (with_root m root (option_map (group_object names root) found)) id ≡ Some o → IsToldBy id o
    root_told None there id o is = inl is
    root_told (Some g) there id o is = at (eq_by_cmp id_order id root) refl (sym (get-insert id_order_total m root (group_object names root g) id) ∙ is) where
      at : (b : Bool) → eq_by_cmp id_order id root ≡ b → cond b (Some (group_object names root g)) (get m id) ≡ Some o → IsToldBy id o
      at true tie e =
          let same : id ≡ root = id_order_once id root ((Equal-is (id_order id root)).0 tie) in
          let value : group_object names root g ≡ o = same_Some (group_object names root g) o e in
          inr (l.root, ap (λ i. unwrap_or i root) root_name ∙ sym same, inl (g, there, sym value))
      at false tie e = inl e

    begun_told : (id : Id) (o : Object) → get begun id ≡ Some o → IsToldBy id o
    begun_told id o is = root_told (get l.groups l.root) refl id o is

    only_these : (id : Id) (o : Object) → get put id ≡ Some o → IsToldBy id o
    only_these id o is = at (there_told kind_of (HasObject l root) listed start begun id o listed_once listed_have (ap (λ (n : FinMap id_order Object). get n id) put_listed ∙ is)) where
      at : (get begun id ≡ Some o) ⊎ ((text : List ℕ) × (get (name_all kind_of start listed).names text ≡ Some id) × HasObject l root text o) → IsToldBy id o
      at (inl before) = begun_told id o before
      at (inr h) =
          let named_so : get names h.0 ≡ Some id = ap (λ (n : Naming). get n.names h.0) (sym named_listed) ∙ h.1 in
          inr (h.0, ap (λ i. unwrap_or i root) named_so, h.2)

    root_has : (found : Option Group) → get l.groups l.root ≡ found → IsSome found → IsSome (get put root)
    unfolding root_at
    root_has None there some = absurd (let both : false ≡ true = some in cc)
    root_has (Some g) there some = ap is_some (root_at g there).2

    abbrev IsThere : Id → Type 0
    IsThere = IsThereIn kind_of root.domain put

    root_is_there : IsThere root
    root_is_there = (refl, root_has (get l.groups l.root) refl one.root)

    there_at : (text : List ℕ) (found : Option Id) → get names text ≡ found → IsThere (unwrap_or found root)
    there_at text None is = root_is_there
    there_at text (Some id) is = at (name_told kind_of listed start begun text id (ap (λ (n : Naming). get n.names text) named_listed ∙ is)) where
      first : (b : Bool) → cond b (Some root) None ≡ Some id → IsThere id
      first true e = subst IsThere (same_Some root id e) root_is_there
      first false e = let both : None ≡ Some id = e in absurd (cc)

      at : (get (insert (empty {X = Id} {R = text_order}) l.root root) text ≡ Some id) ⊎ IsThereIn kind_of root.domain numbered_by_text id → IsThere id
      at (inl e) = first (eq_by_cmp text_order text l.root)
          (sym (ap (cond (eq_by_cmp text_order text l.root) (Some root)) (get-empty text_order text)) ∙ sym (get-insert nat_list_cmp_total empty l.root root text) ∙ e)
      at (inr e) = subst (λ (n : FinMap id_order Object). IsThereIn kind_of root.domain n id) put_listed e

    -- ---- no two texts stand for one id

    has_text : (text : List ℕ) (o : Object) → HasObject l root text o → (text ≡ l.root) ⊎ IsText kind_of text listed
    has_text text o (inl h) = at (other_group text h.0 h.1) where
      at : (text ≡ l.root) ⊎ (get groups text ≡ Some (group_object names root h.0)) → (text ≡ l.root) ⊎ IsText kind_of text listed
      at (inl same) = inl same
      at (inr is) = inr (text_front kind_of (entries groups) (entries datasets ++ entries datatypes) text (entry_text kind_of groups text (group_object names root h.0) is))
    has_text text o (inr (inl h)) = inr (
        text_behind kind_of (entries groups) (entries datasets ++ entries datatypes) text
        (text_front kind_of (entries datasets) (entries datatypes) text (entry_text kind_of datasets text (dataset_object h.0) (mapped_at dataset_object l.datasets text h.0 h.1))))
    has_text text o (inr (inr h)) = inr (
        text_behind kind_of (entries groups) (entries datasets ++ entries datatypes) text
        (text_behind kind_of (entries datasets) (entries datatypes) text (entry_text kind_of datatypes text (datatype_object h.0) (mapped_at datatype_object l.datatypes text h.0 h.1))))

    abbrev id_of_text : List ℕ → Id
    id_of_text text = id_in names root text

    text_id : (text : List ℕ) → IsText kind_of text listed → (get names text ≡ Some (id_of_text text)) × (root.serial < (id_of_text text).serial)
    text_id text there =
        let found = text_named kind_of (named l root) root (other_count l) listed text all_named there in
        let same : id_in names root text ≡ found.0 = ap (λ i. unwrap_or i root) found.1 in (
          found.1 ∙ ap Some (sym same),
          subst (λ (i : Id). root.serial < i.serial) (sym same) (text_above kind_of (named l root) root (other_count l) listed text found.0 all_named there found.1),
        )

    not_root : (s t : List ℕ) → s ≡ l.root → IsText kind_of t listed → id_of_text s ≡ id_of_text t → ⊥
    not_root s t first there same =
        let above = (text_id t there).1 in
        let root_id : id_of_text s ≡ root = ap (λ x. id_in names root x) first ∙ ap (λ i. unwrap_or i root) root_name in
        let serial : (id_of_text t).serial ≡ root.serial = ap (λ (i : Id). i.serial) (sym same ∙ root_id) in
        absurd (omega (arith, above, serial))

    distinct_ids : (s t : List ℕ) → (s ≡ l.root) ⊎ IsText kind_of s listed → (t ≡ l.root) ⊎ IsText kind_of t listed → id_of_text s ≡ id_of_text t → s ≡ t
    distinct_ids s t (inl first) (inl second) same = first ∙ sym second
    distinct_ids s t (inl first) (inr there) same = absurd (not_root s t first there same)
    distinct_ids s t (inr there) (inl first) same = absurd (not_root t s first there (sym same))
    distinct_ids s t (inr one_there) (inr two_there) same =
        let first = ap (λ (n : Naming). get n.names s) named_listed ∙ (text_id s one_there).0 ∙ ap Some same in
        let second = ap (λ (n : Naming). get n.names t) named_listed ∙ (text_id t two_there).0 in
        apart kind_of listed start s t (id_of_text t) listed_once one_there two_there first second

    -- ---- their order

    serials_behind : map (λ text. (id_in names root text).serial) (other_texts l) ≡ range_with_len (root.serial + 1) (other_count l)
    serials_behind =
        (λ i. map (λ text. (id_in (sym named_listed i).names root text).serial) (sym texts_listed i))
        ∙ serials_follow kind_of root listed start listed_once
        ∙ ap (range_with_len (root.serial + 1)) listed_count

    mapped_text : {X : Type 0} (h : X → Object) (c : FinMap text_order X) (text : List ℕ) → IsSome (get c text) → IsText kind_of text (entries (with_values h c))
    mapped_text h c text there = let x = some_value (get c text) there in entry_text kind_of (with_values h c) text (h x.0) (mapped_at h c text x.0 x.1)

    mapped_before : {X : Type 0} (h : X → Object) (c : FinMap text_order X) (s t : List ℕ) → IsSome (get c s) → IsSome (get c t) → text_order s t ≡ Less → IsBefore kind_of s t (entries (with_values h c))
    mapped_before h c s t first second below =
        before_sorted kind_of (entries (with_values h c)) s t (entries_sorted (with_values h c)) (mapped_text h c s first) (mapped_text h c t second) below

    listed_before : (s t : List ℕ) → AreOfOne l s t → text_order s t ≡ Less → IsBefore kind_of s t listed
    listed_before s t (inl h) below =
        before_front kind_of (entries groups) (entries datasets ++ entries datatypes) s t (mapped_before (group_object names root) (others l) s t h.0 h.1 below)
    listed_before s t (inr (inl h)) below =
        before_behind kind_of (entries groups) (entries datasets ++ entries datatypes) s t
        (before_front kind_of (entries datasets) (entries datatypes) s t (mapped_before dataset_object l.datasets s t h.0 h.1 below))
    listed_before s t (inr (inr h)) below =
        before_behind kind_of (entries groups) (entries datasets ++ entries datatypes) s t
        (before_behind kind_of (entries datasets) (entries datatypes) s t (mapped_before datatype_object l.datatypes s t h.0 h.1 below))

    serials : (s t : List ℕ) → IsBefore kind_of s t listed → (id_of_text s).serial < (id_of_text t).serial
    serials s t before =
        let texts = before_texts kind_of listed s t before in
        let first = ap (λ (n : Naming). get n.names s) named_listed ∙ (text_id s texts.0).0 in
        let second = ap (λ (n : Naming). get n.names t) named_listed ∙ (text_id t texts.1).0 in
        rising_serials kind_of listed start s t (id_of_text s) (id_of_text t) listed_once before first second

    behind_root : (text : List ℕ) → IsSome (get (others l) text) → root.serial < (id_of_text text).serial
    behind_root text there =
        (text_id text (text_front kind_of (entries groups) (entries datasets ++ entries datatypes) text (mapped_text (group_object names root) (others l) text there))).1

pub serials_run : SerialsRun
serials_run l root one = serials_behind l root empty one

pub serials_rise : SerialsRise
serials_rise l root one s t both below = serials l root empty one s t (listed_before l root empty one s t both below)

pub root_first : RootIsFirst
root_first l root one text there = behind_root l root empty one text there

pub ids_fresh : IdsAreFresh
ids_fresh l root is_group one text o has = fresh_at l root empty one is_group text o has

pub ids_distinct : IdsAreDistinct
ids_distinct l root one s t o p first second same = distinct_ids l root empty one s t (has_text l root empty one s o first) (has_text l root empty one t p second) same

pub nothing_else : NothingElseStands
nothing_else l root m one id o is = only_these l root m one id o is

pub ids_there : IdsHaveObjects
ids_there l root m one text = there_at l root m one text (get (names_of l root) text) refl

pub root_stands : RootStands
root_stands l root one = ap (λ i. unwrap_or i root) (root_name l root empty one)

pub groups_stand : GroupsStand
groups_stand l root m one text g is = stands l root m one text _ (group_at l root m one text g (eq_by_cmp text_order text l.root) refl is)

pub datasets_stand : DatasetsStand
datasets_stand l root m one text d is =
    stands l root m one text _ (each_of (At l root m one) (datasets l root m) (at_rest l root m one).0 text (dataset_object d) (mapped_at dataset_object l.datasets text d is))

pub datatypes_stand : DatatypesStand
datatypes_stand l root m one text t is =
    stands l root m one text _ (each_of (At l root m one) (datatypes l root m) (at_rest l root m one).1 text (datatype_object t) (mapped_at datatype_object l.datatypes text t is))

-- ---- other domains

other_domain : (q k : Id) (n : ℕ) → q.domain ≢ n → k.domain ≡ n → q ≡ k → ⊥
other_domain q k n other is same = other (ap (λ (i : Id). i.domain) same ∙ is)

each_stays : (os : List Object) (last : Id) (n : ℕ) (m : FinMap id_order Object) (q : Id) → last.domain ≡ n → q.domain ≢ n
    → get (with_each m (numbered_by kind_of last os)) q ≡ get m q
each_stays [] last n m q is other = refl
each_stays (o ∷ os) last n m q is other =
    let id = behind last (kind_of o) in
    each_stays os id n (insert m id o) q is other ∙ id_other m id o q (other_domain q id n other is)

root_stays : (m : FinMap id_order Object) (root : Id) (o : Option Object) (q : Id) → q.domain ≢ root.domain → get (with_root m root o) q ≡ get m q
root_stays m root None q other = refl
root_stays m root (Some o) q other = id_other m root o q (other_domain q root root.domain other refl)

pub others_stay : OthersStay
others_stay l root m q other =
    each_stays (other_objects l root) root root.domain (with_root m root (root_object l root)) q refl other ∙ root_stays m root (root_object l root) q other
