-- The collections of a document.
use Rattle.std.proofs.Common.{◌≡◌, ℕ, Bool, true, false, ◌&&◌, ◌==◌, cond, ◌⊎◌, inl, inr, List, [], ◌∷◌, Option, Some, None, option_map, Ordering, Less, Equal, Greater, refl, rules, sym, ap, subst, ◌∙◌}
use Rattle.std.specs.Cmp.Rules.{comparing}
use Rattle.std.specs.FinMap.{entries, entries_sorted, find, get, get-entries}
use Rattle.std.specs.List.{AllByRecursion}
use Rattle.std.specs.List.Sorted.{IsStrictlySortedBy}
use Rattle.std.specs.Ordering.{eq_by_cmp, match_ordering}
use Rattle.std.proofs.lemmas.Bool.{and_parts, eqb-true, or_parts}
use Rattle.serde_json.specs.Data.{Data, Members, no_members, member, put}
use Rattle.serde_json.specs.Find.{get_member}
use Rattle.serde_json.specs.Written.{has_float, members_have_float}
use Rattle.containers.specs.TextMaps.Keyed.{text_order}
use Rattle.object_ids.specs.IdOrder.{id_eq, id_order, kind_rank}
use Rattle.object_ids.specs.IdValues.{Id}
use Rattle.object_ids.specs.Ids.{InRange, text_of_id}
use Rattle.object_ids.specs.declared.ids.Kind.{Kind}
use Rattle.object_ids.specs.declared.ids.Kind.TheVariants.{Group, Dataset, Datatype}
use Rattle.object_ids.proofs.IdOrders.{same_itself}
use Rattle.object_acts.specs.Objects.{empty_group, Objects}
use Rattle.object_acts.specs.declared.objects.Object.{Object}
use Rattle.object_acts.proofs.OfExact.Floats.{neither}
use Rattle.documents.specs.Domains.Domains.{object_or_root, object_at}
use Rattle.documents.specs.Domains.Documents.{collection_tree, is_of, put_each, put_one}
use Rattle.documents.specs.Domains.Entries.{entry_tree}
use Rattle.documents.specs.Domains.Laws.{AreInRange, EachAtItsText, HasNoFloats, KeysAreTexts, KeysInOrder, member_at}
use Rattle.documents.specs.declared.domains.home.Home.{Home}
use Rattle.documents.proofs.OfDomains.EntryLemmas.{entry_exact}
use Rattle.documents.proofs.OfDomains.MemberLemmas.{IsPut, Rising, all_within, by_found, entries_found, entries_keys, entry_told, put_found, rising_entries, told}

-- ---- ids

ids_alike : (x y : Id) → eq_by_cmp id_order x y ≡ id_eq x y
ids_alike = search (comparing, rules) depth 9

-- ---- what stands at the text of an id

module _ (m : Objects) (h : Home) (k : Kind) where
  in_range : AreInRange m h → (es : List (Id × Object)) → AllByRecursion (λ e. find id_order e.0 (entries m) ≡ Some e.1) es → AllByRecursion (λ e. is_of k h e.0 ≡ true → InRange e.0) es
  in_range r [] within = tt
  in_range r (e ∷ es) within = (
    (λ is. r.objects e.0 e.1 (get-entries m e.0 ∙ within.0) (eqb-true e.0.domain h.number (and_parts (kind_rank e.0.kind == kind_rank k) (e.0.domain == h.number) is).1)),
    in_range r es within.1,
  )

  -- what the root's entry tells where nothing is held, and where an object is
  none_at : (is_root kind domain : Bool)
      → cond (is_root && (kind && domain)) (Some (entry_tree m h empty_group)) None
      ≡ option_map (entry_tree m h) (cond (kind && domain) (cond domain (cond is_root (Some empty_group) None) None) None)
  none_at true true true = refl
  none_at true true false = refl
  none_at true false domain = refl
  none_at false true true = refl
  none_at false true false = refl
  none_at false false domain = refl

  some_at : (o : Object) (is_root kind domain : Bool)
      → cond (kind && domain) (Some (entry_tree m h o)) (cond (is_root && (kind && domain)) (Some (entry_tree m h empty_group)) None)
      ≡ option_map (entry_tree m h) (cond (kind && domain) (cond domain (Some o) None) None)
  some_at o is_root true true = refl
  some_at o true true false = refl
  some_at o false true false = refl
  some_at o true false domain = refl
  some_at o false false domain = refl

  told_at : (id : Id) (o : Option Object)
      → by_found (is_of k h) (entry_tree m h) id o (told (is_of k h) (entry_tree m h) id (h.root, empty_group) None)
      ≡ option_map (entry_tree m h) (cond (is_of k h id) (cond (id.domain == h.number) (object_or_root h id o) None) None)
  told_at id None =
      ap (λ b. cond (b && is_of k h id) (Some (entry_tree m h empty_group)) None) (ids_alike id h.root)
      ∙ none_at (id_eq id h.root) (kind_rank id.kind == kind_rank k) (id.domain == h.number)
  told_at id (Some o) = some_at o (eq_by_cmp id_order id h.root) (kind_rank id.kind == kind_rank k) (id.domain == h.number)

  -- what is held or the root is a member of its collection
  member_found : (id : Id) (o : Object) → is_of k h id ≡ true → object_or_root h id (get m id) ≡ Some o → member_at m h k id ≡ Some o
  member_found id o is there =
      ap (λ b. cond b (object_at m h id) None) is
      ∙ ap (λ b. cond b (object_or_root h id (get m id)) None) (and_parts (kind_rank id.kind == kind_rank k) (id.domain == h.number) is).1
      ∙ there

  -- the root, as it is held or as an empty group
  root_found : (o : Option Object) → (x : Object) × (object_or_root h h.root o ≡ Some x)
  root_found None = (empty_group, ap (λ b. cond b (Some empty_group) None) (same_itself h.root))
  root_found (Some x) = (x, refl)

  -- the members with the root's entry
  abbrev begun : Members
  begun = put_one m h k (h.root, empty_group) no_members

pub each_at_its_text : EachAtItsText
each_at_its_text m h k id r here =
    entries_found (is_of k h) (entry_tree m h) id (entries m) (begun m h k) (entries_sorted m) here
    (in_range m h k r (entries m) (all_within (is_of k h) (entry_tree m h) (entries m) (entries_sorted m)))
    ∙ ap (by_found (is_of k h) (entry_tree m h) id (find id_order id (entries m)))
    (entry_told (is_of k h) (entry_tree m h) id (h.root, empty_group) no_members here (λ is. r.root))
    ∙ ap (λ o. by_found (is_of k h) (entry_tree m h) id o (told (is_of k h) (entry_tree m h) id (h.root, empty_group) None)) (sym (get-entries m id))
    ∙ told_at m h k id (get m id)

-- ---- which keys there are

abbrev IsMember : Objects → Home → Kind → List ℕ → Type 0
IsMember m h k key = (id : Id) × (o : Object) × (key ≡ text_of_id id) × (member_at m h k id ≡ Some o)

pub keys_are_texts : KeysAreTexts
keys_are_texts m h k key d there = at (entries_keys (is_of k h) (entry_tree m h) ((h.root, empty_group) ∷ entries m) no_members key d there) where
  root_at : is_of k h h.root ≡ true → key ≡ text_of_id h.root → IsMember m h k key
  root_at is same = let found = root_found m h k (get m h.root) in (h.root, found.0, same, member_found m h k h.root found.0 is found.1)

  put_is_member : IsPut (is_of k h) (entry_tree m h) (entries m) key → IsMember m h k key
  put_is_member put =
      let found = put_found (is_of k h) (entry_tree m h) (entries m) (entries m) key (all_within (is_of k h) (entry_tree m h) (entries m) (entries_sorted m)) put in
      (found.0, found.1, found.3, member_found m h k found.0 found.1 found.2 (ap (object_or_root h found.0) (get-entries m found.0 ∙ found.4)))

  at : IsPut (is_of k h) (entry_tree m h) ((h.root, empty_group) ∷ entries m) key ⊎ (get_member key no_members ≡ Some d) → IsMember m h k key
  at (inl (inl own)) = root_at own.0 own.1
  at (inl (inr put)) = put_is_member put
  at (inr none) = let e : None ≡ Some d = none in absurd (cc)

-- ---- their order

pub keys_in_order : KeysInOrder
unfolding IsStrictlySortedBy
keys_in_order m h k ms is =
    let same : put_each m h k ((h.root, empty_group) ∷ entries m) no_members ≡ ms = let e : Some (put_each m h k ((h.root, empty_group) ∷ entries m) no_members) ≡ Some ms = is in cc in
    subst Rising same (rising_entries (is_of k h) (entry_tree m h) ((h.root, empty_group) ∷ entries m) no_members tt)

-- ---- no floats

put_exact : (key : List ℕ) (d : Data) (ms : Members) → has_float d ≡ false → members_have_float ms ≡ false → members_have_float (put key d ms) ≡ false
put_exact key d no_members one rest = neither one refl
put_exact key d (member l e ms) one rest =
    let split = or_parts (has_float e) (members_have_float ms) rest in
    at (text_order key l) split.0 split.1 (put_exact key d ms one split.1)
  where
    at : (o : Ordering) → has_float e ≡ false → members_have_float ms ≡ false → members_have_float (put key d ms) ≡ false
        → members_have_float (match_ordering o (member key d (member l e ms)) (member l d ms) (member l e (put key d ms))) ≡ false
    at Less here later whole = neither one (neither here later)
    at Equal here later whole = neither one later
    at Greater here later whole = neither here whole

module _ (m : Objects) (h : Home) (k : Kind) where
  entries_exact : (es : List (Id × Object)) (ms : Members) → members_have_float ms ≡ false → members_have_float (put_each m h k es ms) ≡ false
  entries_exact [] ms rest = rest
  entries_exact (e ∷ es) ms rest = entries_exact es (put_one m h k e ms) (at (is_of k h e.0)) where
    at : (b : Bool) → members_have_float (cond b (put (text_of_id e.0) (entry_tree m h e.1) ms) ms) ≡ false
    at true = put_exact (text_of_id e.0) (entry_tree m h e.1) ms (entry_exact m h e.1) rest
    at false = rest

  collection_exact : has_float (collection_tree m h k) ≡ false
  collection_exact = entries_exact ((h.root, empty_group) ∷ entries m) no_members refl

pub documents_exact : HasNoFloats
documents_exact m h = neither (collection_exact m h Dataset) (neither (collection_exact m h Datatype) (neither (collection_exact m h Group) refl))
