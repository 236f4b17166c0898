-- The document of a domain is loaded as what the domain holds.
use Rattle.std.proofs.Common.{◌≡◌, ◌≢◌, ◌↔◌, ◌≤◌, ◌<◌, ◌*◌, ◌==◌, ℕ, suc, All, Bool, true, false, ◌||◌, inl, inr, T, cond, List, [], ◌∷◌, length, map, slice_index_or, Option, Some, None, IsSome, is_some, is_eq, option_map, Ok, refl, sym, ap, subst, ◌∙◌, arith}
use Rattle.std.specs.List.{AllByRecursion, filter}
use Rattle.std.specs.Ordering.{eq_by_cmp}
use Rattle.std.proofs.lemmas.Bool.{and_parts, eq-eqb, eqb-true, or_left, or_right}
use Rattle.std.proofs.lemmas.Cmp.{tied_itself}
use Rattle.std.proofs.lemmas.List.{length-map}
use Rattle.std.specs.FinMap.{FinMap, contains_key, empty, entries, entries_sorted, find as finite_find, get, get-empty, get-entries, get-insert, insert, is_sorted, len, len-empty, len-entries}
use Rattle.std.specs.FinMap.Entries.{below_all}
use Rattle.std.proofs.lemmas.Option.{none-some, same_Some}
use Rattle.serde_json.specs.Data.{Data, Members, no_members}
use Rattle.serde_json.specs.Find.{get as find}
use Rattle.serde_json.specs.Find.{get_member}
use Rattle.containers.specs.TextMaps.Keyed.{text_order, with_entries}
use Rattle.object_ids.specs.IdOrder.{id_eq, id_order, kind_rank}
use Rattle.object_ids.specs.IdValues.{Id}
use Rattle.object_ids.specs.Ids.{InRange, text_of_id}
use Rattle.object_ids.specs.declared.ids.Kind.{Kind}
use Rattle.object_ids.specs.declared.ids.Kind.TheVariants as kind
use Rattle.object_ids.proofs.IdOrders.{id_order_total, rank_once, tied_ids, same_itself}
use Rattle.hdf_types.specs.Elems.{Elem}
use Rattle.hdf_types.specs.Printed.{type_tree}
use Rattle.hdf_types.specs.Reading.{size_of}
use Rattle.hdf_types.specs.Views.{elem}
use Rattle.hdf_types.proofs.PrintLemmas.{reads_back as type_back}
use Rattle.hdf_types.proofs.TypeLemmas.{type_told}
use Rattle.shapes.specs.RowMajor.{linear_index}
use Rattle.shapes.specs.Shapes.{LiesIn, dims_of}
use Rattle.shapes.specs.declared.Shape.{Shape}
use Rattle.shapes.specs.declared.printing.Form.TheVariants.{Document}
use Rattle.hdf_values.specs.Attributes.{content}
use Rattle.hdf_values.specs.Nested.{piece_at}
use Rattle.hdf_values.specs.declared.attributes.Attribute.{Attribute}
use Rattle.hdf_values.proofs.AttributeLemmas.{printed_back as attribute_back}
use Rattle.hdf_values.proofs.ElementLemmas.{list_of-items_of}
use Rattle.attributes.specs.AttributeMaps.{AreAttributes, AttributeMap, most_attributes}
use Rattle.attributes.specs.AttributeTrees.{attribute_tree, attributes_list, entry_tree as attribute_entry}
use Rattle.attributes.proofs.MapLemmas.{each_entry}
use Rattle.groups_links.specs.GroupLinks.{AreLinks, most_links, Titles}
use Rattle.groups_links.specs.Targets.{IsSoundLink}
use Rattle.groups_links.specs.declared.target.LinkTo.{LinkTo}
use Rattle.groups_links.specs.declared.target.LinkTo.TheVariants as links
use Rattle.groups_links.proofs.LinkLemmas.{printed_back}
use Rattle.chunk_store.specs.Grids.{Grid, IsWhole, reads, value_at, writes}
use Rattle.chunk_store.specs.Listed.{IsOnce}
use Rattle.object_ops.specs.Creation.Creations.{creation_of}
use Rattle.object_ops.specs.Creation.Spelled.{IsCreation}
use Rattle.object_acts.specs.Objects.{empty_group, kind_of_body, Objects}
use Rattle.object_acts.specs.declared.objects.Object.{Object}
use Rattle.object_acts.specs.declared.objects.Body.{Body}
use Rattle.object_acts.specs.declared.objects.Body.TheVariants as body
use Rattle.object_records.specs.Objects.{IsKeptBody}
use Rattle.object_records.proofs.ReadLemmas.{no_slash}
use Rattle.documents.specs.Parts.Arrays.{with_bytes}
use Rattle.documents.specs.Parts.Ids.{is_id}
use Rattle.documents.specs.Parts.Spelled.{AreAttributesAt, AreLinksAt, AreListed, IsNamed, IsTarget, IsTitled}
use Rattle.documents.specs.Domains.Documents.{collection_tree, document_tree, put_each}
use Rattle.documents.specs.Domains.Domains.{object_or_root, is_there}
use Rattle.documents.specs.Domains.Entries.{entry_tree, is_shown, links_tree, shown_links, titled_tree}
use Rattle.documents.specs.Domains.Laws.{AreInRange}
use Rattle.documents.specs.declared.domains.home.Home.{Home}
use Rattle.documents.proofs.OfDomains.DocumentLemmas.{each_at_its_text, keys_are_texts, keys_in_order}
use Rattle.documents.proofs.OfDomains.MemberLemmas.{all_within}
use Rattle.documents.specs.Reader.Loads.{AreMembers, IsDataset, IsDatatype, IsGroup, Loads}
use Rattle.documents.specs.declared.reader.loaded.Dataset.{Dataset}
use Rattle.documents.specs.declared.reader.loaded.Datatype.{Datatype}
use Rattle.documents.specs.declared.reader.loaded.Group.{Group}
use Rattle.json_import.specs.RoundTrips.Loaded.{AreSound, IsSoundAt, collection_in, dataset_of, datatype_of, group_of, loaded_from, pairs_from, pair_before, target_of, targets_in, whole}
use Rattle.json_import.proofs.RoundTrips.EntryLemmas.{titled_at, values_same}
use Rattle.json_import.proofs.RoundTrips.HomeLemmas.{id_length, member_is, member_told, no_member, other_rank, same_id}
use Rattle.json_import.proofs.RoundTrips.ListLemmas.{IsIn, all_free, are_members, listed_of, put_in, put_there, sorted_new, zip_all}
use Rattle.json_import.proofs.RoundTrips.PartLemmas.{array_loaded}
use Rattle.containers.proofs.Plain.{halves, both_tests, some_value}

-- ---- attributes

pub attributes_loaded : (m : AttributeMap) → AreAttributes m → AreAttributesAt (Some (attributes_list m Document true)) m
attributes_loaded m held =
    let tree = attribute_entry Document true in
    let listed = listed_of (λ a. a) most_attributes IsNamed tree m held.few (λ name a is. record {
      name = refl;
      good = held.named name a is;
      spelled = attribute_back (attribute_tree name (content a) Document true) (content a) Document (held.sound name a is) refl refl refl;
    }) in
    subst (λ (ds : List Data). AreListed most_attributes IsNamed ds m) (sym (list_of-items_of (map tree (entries m))))
    (subst (AreListed most_attributes IsNamed (map tree (entries m))) (values_same m) listed)

-- ---- links

module _ {X Y : Type 0} (test : X → Bool) (h : X → Y) where
  abbrev kept : List (List ℕ × X) → List (List ℕ × X)
  kept es = filter (λ e. test e.1) es

  kept_count : (es : List (List ℕ × X)) → length (kept es) ≤ length es
  kept_count [] = omega arith
  kept_count (e ∷ es) = at (test e.1) (kept_count es) where
    at : (b : Bool) → length (kept es) ≤ length es → length (cond b (e ∷ kept es) (kept es)) ≤ suc (length es)
    at true few = omega (arith, few)
    at false few = omega (arith, few)

  kept_each : (P : List ℕ × X → Type 0) (es : List (List ℕ × X)) → AllByRecursion P es
      → AllByRecursion (λ e. P e × (test e.1 ≡ true)) (kept es)
  kept_each P [] all = tt
  kept_each P (e ∷ es) all = at (test e.1) refl (kept_each P es all.1) where
    at : (b : Bool) → test e.1 ≡ b → AllByRecursion (λ e. P e × (test e.1 ≡ true)) (kept es)
        → AllByRecursion (λ e. P e × (test e.1 ≡ true)) (cond b (e ∷ kept es) (kept es))
    at true is rest = ((all.0, is), rest)
    at false is rest = rest

  abbrev mapped : List (List ℕ × X) → List (List ℕ × Y)
  mapped es = map (λ e. (e.0, h e.1)) (kept es)

  kept_below : (k : List ℕ) (es : List (List ℕ × X)) → T (below_all text_order k es) → T (below_all text_order k (mapped es))
  kept_below k [] low = tt
  kept_below k (e ∷ es) low = at (test e.1) (kept_below k es (halves _ _ low).1) where
    at : (b : Bool) → T (below_all text_order k (mapped es))
        → T (below_all text_order k (map (λ d. (d.0, h d.1)) (cond b (e ∷ kept es) (kept es))))
    at true rest = both_tests _ _ (halves _ _ low).0 rest
    at false rest = rest

  kept_sorted : (es : List (List ℕ × X)) → T (is_sorted text_order es) → T (is_sorted text_order (mapped es))
  kept_sorted [] rising = tt
  kept_sorted (e ∷ es) rising = at (test e.1) (kept_below e.0 es (halves _ _ rising).0) (kept_sorted es (halves _ _ rising).1) where
    at : (b : Bool) → T (below_all text_order e.0 (mapped es)) → T (is_sorted text_order (mapped es))
        → T (is_sorted text_order (map (λ d. (d.0, h d.1)) (cond b (e ∷ kept es) (kept es))))
    at true low rest = both_tests _ _ low rest
    at false low rest = rest

  -- those of a map's entries that pass a test, each seen as something else
  pub kept_listed : (most : ℕ) (R : Data → List ℕ × Y → Type 0) (tree : List ℕ × X → Data) (m : FinMap text_order X) → len m ≤ most
      → ((k : List ℕ) (x : X) → get m k ≡ Some x → test x ≡ true → R (tree (k, x)) (k, h x))
      → AreListed most R (map tree (kept (entries m))) (with_entries empty (mapped (entries m)))
  kept_listed most R tree m few each = record {
    few = omega (arith, few, length-map (kept (entries m)) tree, kept_count (entries m), len-entries m);
    pairs = mapped (entries m);
    each = zip_all h R tree (kept (entries m)) (all_such (kept (entries m)) (kept_each (λ e. get m e.0 ≡ Some e.1) (entries m) (each_entry (λ k x. get m k ≡ Some x) m (λ k x is. is))));
    apart = sorted_new (mapped (entries m)) empty (kept_sorted (entries m) (entries_sorted m)) (all_free (mapped (entries m)));
    all = refl;
  }
    where
      all_such : (es : List (List ℕ × X)) → AllByRecursion (λ e. (get m e.0 ≡ Some e.1) × (test e.1 ≡ true)) es
          → AllByRecursion (λ e. R (tree e) (e.0, h e.1)) es
      all_such [] all = tt
      all_such (e ∷ es) all = (each e.0 e.1 all.0.0 all.0.1, all_such es all.1)

module _ (m : Objects) (h : Home) (printed : Data) (known : (id : Id) → is_there m h id ≡ true → is_id (text_of_id id) printed ≡ true) where
  target_loaded : (title : List ℕ) (link : LinkTo) → is_shown m h link ≡ true → IsSoundLink link
      → IsTarget printed (titled_tree (title, link)) (target_of link)
  target_loaded title (links.Hard id) shown sound = (refl, known id shown)
  target_loaded title (links.Soft path) shown sound = (refl, printed_back title (links.Soft path) Document sound)
  target_loaded title (links.External path file) shown sound = (refl, printed_back title (links.External path file) Document sound)

  pub links_loaded : (l : Titles) → AreLinks l → AreLinksAt printed (Some (links_tree m h l)) (targets_in m h l)
  links_loaded l held =
      let listed = kept_listed (is_shown m h) target_of most_links (IsTitled printed) titled_tree l held.few (λ title link is shown. record {
        title = titled_at title link;
        good = held.named title link is;
        one_part = no_slash title (held.titled title link is).one_part;
        target = target_loaded title link shown (held.sound title link is);
      }) in
      subst (λ (ds : List Data). AreListed most_links (IsTitled printed) ds (targets_in m h l)) (sym (list_of-items_of (shown_links m h (entries l)))) listed

-- ---- the objects of a domain

pub no_attributes : AreAttributes empty
no_attributes = record {
  few = let none = len-empty text_order Attribute in omega (arith, none);
  named = λ name a is. absurd (none-some a (sym (get-empty text_order name) ∙ is));
  sound = λ name a is. absurd (none-some a (sym (get-empty text_order name) ∙ is));
}

pub no_links : AreLinks empty
no_links = record {
  few = let none = len-empty text_order LinkTo in omega (arith, none);
  titled = λ title link is. absurd (none-some link (sym (get-empty text_order title) ∙ is));
  named = λ title link is. absurd (none-some link (sym (get-empty text_order title) ∙ is));
  sound = λ title link is. absurd (none-some link (sym (get-empty text_order title) ∙ is));
}

module _ (m : Objects) (h : Home) where
  -- an object is found as it is, where it is no root that isn't held
  as_it_is : (id : Id) (found : Option Object) → (id_eq id h.root ≡ true → found ≡ None → ⊥) → object_or_root h id found ≡ found
  as_it_is id None never = at (id_eq id h.root) refl where
    at : (b : Bool) → id_eq id h.root ≡ b → cond b (Some empty_group) None ≡ None
    at true tie = absurd (never tie refl)
    at false tie = refl
  as_it_is id (Some o) never = refl

  whole_where : (found : Option Object) → get m h.root ≡ found → (id : Id)
      → get (cond (is_some found) m (insert m h.root empty_group)) id ≡ object_or_root h id (get m id)
  whole_where (Some o) root id = sym (as_it_is id (get m id) (λ tie none.
      let clash : Some o ≡ None = sym root ∙ ap (get m) (sym (same_id m h id h.root tie)) ∙ none in absurd (cc)))
  whole_where None root id = get-insert id_order_total m h.root empty_group id ∙ at (eq_by_cmp id_order id h.root) refl where
    at : (b : Bool) → eq_by_cmp id_order id h.root ≡ b → cond b (Some empty_group) (get m id) ≡ object_or_root h id (get m id)
    at true tie =
        let same = tied_ids id h.root tie in
        sym (ap (object_or_root h id) (ap (get m) same ∙ root) ∙ ap (λ b. cond b (Some empty_group) None) (ap (λ q. id_eq q h.root) same ∙ same_itself h.root))
    at false tie = sym (as_it_is id (get m id) (λ alike none.
        let clash : true ≡ false = sym (ap (eq_by_cmp id_order id) (sym (same_id m h id h.root alike)) ∙ ap is_eq (tied_itself id_order_total id)) ∙ tie in absurd (cc)))

  pub whole_is : (id : Id) → get (whole m h) id ≡ object_or_root h id (get m id)
  whole_is id = whole_where (get m h.root) refl id

-- ---- objects at the texts of their ids

module _ {X : Type 0} (see : Object → Option X) (number : ℕ) where
  -- what is listed is an object of the domain that is seen so
  pairs_told : (P : Id × Object → Type 0) (es : List (Id × Object)) (key : List ℕ) (x : X) → AllByRecursion P es
      → IsIn key x (pairs_from see number es)
      → (id : Id) × (o : Object) × P (id, o) × (id.domain ≡ number) × (see o ≡ Some x) × (key ≡ text_of_id id)
  pairs_told P [] key x all there = absurd there
  pairs_told P (e ∷ es) key x all there = at (e.0.domain == number) refl (see e.1) refl there (pairs_told P es key x all.1) where
    at : (b : Bool) → (e.0.domain == number) ≡ b → (found : Option X) → see e.1 ≡ found
        → IsIn key x (pair_before (cond b found None) (text_of_id e.0) (pairs_from see number es))
        → (IsIn key x (pairs_from see number es) → (id : Id) × (o : Object) × P (id, o) × (id.domain ≡ number) × (see o ≡ Some x) × (key ≡ text_of_id id))
        → (id : Id) × (o : Object) × P (id, o) × (id.domain ≡ number) × (see o ≡ Some x) × (key ≡ text_of_id id)
    at true same (Some y) is (inl here) later = (e.0, e.1, all.0, eqb-true e.0.domain number same, is ∙ ap Some (sym here.1), here.0)
    at true same (Some y) is (inr behind_it) later = later behind_it
    at true same None is behind_it later = later behind_it
    at false same found is behind_it later = later behind_it

  -- and each such object is listed
  pairs_there : (es : List (Id × Object)) (id : Id) (o : Object) (x : X) → finite_find id_order id es ≡ Some o → id.domain ≡ number
      → see o ≡ Some x → IsIn (text_of_id id) x (pairs_from see number es)
  pairs_there [] id o x is numbers sees = let never : None ≡ Some o = is in absurd (cc)
  pairs_there (e ∷ es) id o x is numbers sees = at (eq_by_cmp id_order id e.0) refl is (λ later. pairs_there es id o x later numbers sees) where
    here : (b : Bool) → b ≡ true → (found : Option X) → found ≡ Some x → (text : List ℕ) → text_of_id id ≡ text
        → IsIn (text_of_id id) x (pair_before (cond b found None) text (pairs_from see number es))
    here true own (Some y) is text same = inl (same, sym (same_Some y x is))
    here true own None is text same = absurd (none-some x is)
    here false own found is text same = let never : false ≡ true = own in absurd (cc)

    later_on : (found : Option X) → IsIn (text_of_id id) x (pairs_from see number es)
        → IsIn (text_of_id id) x (pair_before found (text_of_id e.0) (pairs_from see number es))
    later_on None there = there
    later_on (Some y) there = inr there

    at : (b : Bool) → eq_by_cmp id_order id e.0 ≡ b → cond b (Some e.1) (finite_find id_order id es) ≡ Some o
        → (finite_find id_order id es ≡ Some o → IsIn (text_of_id id) x (pairs_from see number es))
        → IsIn (text_of_id id) x (pair_before (cond (e.0.domain == number) (see e.1) None) (text_of_id e.0) (pairs_from see number es))
    at true tie first later =
        let same = tied_ids id e.0 tie in
        here (e.0.domain == number) (eq-eqb e.0.domain number (ap (λ (i : Id). i.domain) (sym same) ∙ numbers)) (see e.1) (ap see (same_Some e.1 o first) ∙ sees) (text_of_id e.0) (ap text_of_id same)
    at false tie first later = later_on (cond (e.0.domain == number) (see e.1) None) (later first)

found_each : (n : Objects) (es : List (Id × Object)) → AllByRecursion (λ e. finite_find id_order e.0 (entries n) ≡ Some e.1) es
    → AllByRecursion (λ e. get n e.0 ≡ Some e.1) es
found_each n [] all = tt
found_each n (e ∷ es) all = (get-entries n e.0 ∙ all.0, found_each n es all.1)

-- ---- a domain

module _
    (creations : (e : Elem) (s : Shape) (tree : Option Data) (p : List ℕ × Option (List ℕ)) → (creation_of e s tree ≡ Ok p) ↔ IsCreation e s tree p)
    (back : (g : Grid) (ats : List (List ℕ)) (bytes : List ℕ) → All (λ at. LiesIn at g.shape) ats → IsOnce ats → length bytes ≡ length ats * size_of g.kind → reads (writes g ats bytes) ats ≡ bytes)
    (elements : (g : Grid) (bytes at : List ℕ) → LiesIn at g.shape → value_at (with_bytes g bytes) at ≡ piece_at (size_of g.kind) (linear_index at (dims_of g.shape)) bytes)
    (each : (g : Grid) (ats : List (List ℕ)) (k : ℕ) → IsWhole g → All (λ at. LiesIn at g.shape) ats → k < length ats → piece_at (size_of g.kind) k (reads g ats) ≡ value_at g (slice_index_or ats k []))
    (m : Objects) (h : Home) (are : AreSound m h)
  where
    abbrev printed : Data
    printed = document_tree m h

    ranges : AreInRange m h
    ranges = record { root = are.range; objects = λ id o is number. (are.each id o is number).range }

    root_sound : IsSoundAt h.root empty_group
    root_sound = record { range = are.range; kinds = are.group; attributes = no_attributes; parts = no_links }

    some_sound : (id : Id) (o : Object) (found : Option Object) → get m id ≡ found → object_or_root h id found ≡ Some o
        → id.domain ≡ h.number → IsSoundAt id o
    some_sound id o (Some x) there is number = subst (IsSoundAt id) (same_Some x o is) (are.each id x there number)
    some_sound id o None there is number = at (id_eq id h.root) refl is where
      at : (b : Bool) → id_eq id h.root ≡ b → cond b (Some empty_group) None ≡ Some o → IsSoundAt id o
      at true tie e = subst (λ i. IsSoundAt i o) (sym (same_id m h id h.root tie)) (subst (IsSoundAt h.root) (same_Some empty_group o e) root_sound)
      at false tie e = absurd (none-some o e)

    -- an object of the domain
    record IsOfDomain (id : Id) (o : Object) : Type 0 where
      pub number : id.domain ≡ h.number
      pub there : object_or_root h id (get m id) ≡ Some o
      pub sound : IsSoundAt id o

    of_domain : (id : Id) (o : Object) → get (whole m h) id ≡ Some o → id.domain ≡ h.number → IsOfDomain id o
    of_domain id o is number =
        let there = sym (whole_is m h id) ∙ is in
        record { number = number; there = there; sound = some_sound id o (get m id) refl there number }

    tree_there : (id : Id) (o : Object) → IsOfDomain id o
        → find (text_of_id id) (collection_tree m h (kind_of_body o.body)) ≡ Some (entry_tree m h o)
    tree_there id o held =
        each_at_its_text m h (kind_of_body o.body) id ranges held.sound.range
        ∙ ap (option_map (entry_tree m h)) (member_is m h (kind_of_body o.body) id o held.sound.kinds held.number held.there)

    not_there : (k : Kind) (id : Id) → InRange id → kind_rank id.kind ≢ kind_rank k → find (text_of_id id) (collection_tree m h k) ≡ None
    not_there k id range other = each_at_its_text m h k id ranges range ∙ ap (option_map (entry_tree m h)) (no_member m h k id other)

    -- ---- its links

    known_kind : (id : Id) (o : Object) (k : Kind) → kind_of_body o.body ≡ k
        → find (text_of_id id) (collection_tree m h k) ≡ Some (entry_tree m h o) → is_id (text_of_id id) printed ≡ true
    known_kind id o kind.Group kinds is = or_right _ _ (ap is_some is)
    known_kind id o kind.Dataset kinds is = or_left _ _ (or_left _ _ (ap is_some is))
    known_kind id o kind.Datatype kinds is = or_left _ _ (or_right _ _ (ap is_some is))

    there_or_root : (id : Id) (found : Option Object) → (is_some found || id_eq id h.root) ≡ true → IsSome (object_or_root h id found)
    there_or_root id (Some o) is = refl
    there_or_root id None is = ap (λ b. is_some (cond b (Some empty_group) None)) is

    known : (id : Id) → is_there m h id ≡ true → is_id (text_of_id id) printed ≡ true
    known id is =
        let parts = and_parts (id.domain == h.number) _ is in
        let found = some_value (object_or_root h id (get m id)) (there_or_root id (get m id) parts.1) in
        let held = of_domain id found.0 (whole_is m h id ∙ found.1) (eqb-true id.domain h.number parts.0) in
        known_kind id found.0 (kind_of_body found.0.body) refl (tree_there id found.0 held)

    -- ---- its collections

    abbrev members_of : Kind → Members
    members_of k = put_each m h k ((h.root, empty_group) ∷ entries m) no_members

    within : AllByRecursion (λ e. get (whole m h) e.0 ≡ Some e.1) (entries (whole m h))
    within = found_each (whole m h) (entries (whole m h)) (all_within (λ i. true) (entry_tree m h) (entries (whole m h)) (entries_sorted (whole m h)))

    collection_loaded : {X : Type 0} (k : Kind) (see : Object → Option X) (R : List ℕ → Data → X → Type 0)
        → ((id : Id) (o : Object) (x : X) → IsOfDomain id o → see o ≡ Some x → R (text_of_id id) (entry_tree m h o) x)
        → ((o : Object) (x : X) → see o ≡ Some x → kind_of_body o.body ≡ k)
        → ((o : Object) → kind_of_body o.body ≡ k → (x : X) × (see o ≡ Some x))
        → AreMembers R (members_of k) (collection_in see m h)
    collection_loaded k see R again kinds shown =
        are_members R (members_of k) (collection_in see m h) (keys_in_order m h k (members_of k) refl)
        (λ key x is.
        let from = pairs_told see h.number (λ e. get (whole m h) e.0 ≡ Some e.1) (entries (whole m h)) key x within (put_in (pairs_from see h.number (entries (whole m h))) key x is) in
        let held = of_domain from.0 from.1 from.2 from.3 in (
          entry_tree m h from.1,
          ap (λ q. get_member q (members_of k)) from.5 ∙ ap (λ j. find (text_of_id from.0) (collection_tree m h j)) (sym (kinds from.1 x from.4)) ∙ tree_there from.0 from.1 held,
          subst (λ q. R q (entry_tree m h from.1) x) (sym from.5) (again from.0 from.1 x held from.4),
        ))
        (λ key d is.
        let at = keys_are_texts m h k key d is in
        let told = member_told m h k at.0 at.1 at.3 in
        let there : get (whole m h) at.0 ≡ Some at.1 = whole_is m h at.0 ∙ told.found in
        let held = of_domain at.0 at.1 there told.number in
        let viewed = shown at.1 (sym held.sound.kinds ∙ told.same_kind) in
        subst (λ q. IsSome (get (collection_in see m h) q)) (sym at.2)
        (put_there (pairs_from see h.number (entries (whole m h))) empty (text_of_id at.0) viewed.0
        (pairs_there see h.number (entries (whole m h)) at.0 at.1 viewed.0 (sym (get-entries (whole m h) at.0) ∙ there) told.number viewed.1)))

    -- ---- its datasets

    dataset_loaded : (id : Id) (attributes : AttributeMap) (b : Body) (x : Dataset) → AreAttributes attributes → IsKeptBody b
        → dataset_of attributes b ≡ Some x
        → IsDataset (text_of_id id) (entry_tree m h (record { attributes = attributes; body = b })) x
    dataset_loaded id attributes (body.Group links) x held parts is = absurd (none-some x is)
    dataset_loaded id attributes (body.Dataset array) x held parts is = subst (IsDataset (text_of_id id) _) (same_Some _ x is) (record {
      named = id_length id;
      object = refl;
      attributes = attributes_loaded attributes held;
      array = array_loaded creations back elements each array.grid parts.0 _ parts.1 refl refl refl refl;
    })
    dataset_loaded id attributes (body.Datatype type) x held parts is = absurd (none-some x is)

    dataset_kind : (attributes : AttributeMap) (b : Body) (x : Dataset) → dataset_of attributes b ≡ Some x → kind_of_body b ≡ kind.Dataset
    dataset_kind attributes (body.Group links) x is = absurd (none-some x is)
    dataset_kind attributes (body.Dataset array) x is = refl
    dataset_kind attributes (body.Datatype type) x is = absurd (none-some x is)

    dataset_shown : (attributes : AttributeMap) (b : Body) → kind_of_body b ≡ kind.Dataset
        → (x : Dataset) × (dataset_of attributes b ≡ Some x)
    dataset_shown attributes (body.Group links) is = absurd (other_rank kind.Group kind.Dataset (omega arith) is)
    dataset_shown attributes (body.Dataset array) is = (_, refl)
    dataset_shown attributes (body.Datatype type) is = absurd (other_rank kind.Datatype kind.Dataset (omega arith) is)

    -- ---- its committed datatypes

    datatype_loaded : (id : Id) (attributes : AttributeMap) (b : Body) (x : Datatype) → InRange id → id.kind ≡ kind_of_body b
        → AreAttributes attributes → IsKeptBody b → datatype_of attributes b ≡ Some x
        → IsDatatype printed (text_of_id id) (entry_tree m h (record { attributes = attributes; body = b })) x
    datatype_loaded id attributes (body.Group links) x range kinds held parts is = absurd (none-some x is)
    datatype_loaded id attributes (body.Dataset array) x range kinds held parts is = absurd (none-some x is)
    datatype_loaded id attributes (body.Datatype type) x range kinds held parts is = subst (IsDatatype printed (text_of_id id) _) (same_Some _ x is) (record {
      named = id_length id;
      no_dataset = ap is_some (not_there kind.Dataset id range (λ same. other_rank kind.Datatype kind.Dataset (omega arith) (sym kinds ∙ rank_once id.kind kind.Dataset same)));
      object = refl;
      attributes = attributes_loaded attributes held;
      kind = type_told (type_tree (elem type)) (elem type) (type_back (elem type) (type_tree (elem type)) parts refl);
    })

    datatype_kind : (attributes : AttributeMap) (b : Body) (x : Datatype) → datatype_of attributes b ≡ Some x
        → kind_of_body b ≡ kind.Datatype
    datatype_kind attributes (body.Group links) x is = absurd (none-some x is)
    datatype_kind attributes (body.Dataset array) x is = absurd (none-some x is)
    datatype_kind attributes (body.Datatype type) x is = refl

    datatype_shown : (attributes : AttributeMap) (b : Body) → kind_of_body b ≡ kind.Datatype
        → (x : Datatype) × (datatype_of attributes b ≡ Some x)
    datatype_shown attributes (body.Group links) is = absurd (other_rank kind.Group kind.Datatype (omega arith) is)
    datatype_shown attributes (body.Dataset array) is = absurd (other_rank kind.Dataset kind.Datatype (omega arith) is)
    datatype_shown attributes (body.Datatype type) is = (_, refl)

    -- ---- its groups

    group_loaded : (id : Id) (attributes : AttributeMap) (b : Body) (x : Group) → InRange id → id.kind ≡ kind_of_body b
        → AreAttributes attributes → IsKeptBody b → group_of m h attributes b ≡ Some x
        → IsGroup printed (text_of_id id) (entry_tree m h (record { attributes = attributes; body = b })) x
    group_loaded id attributes (body.Group links) x range kinds held parts is = subst (IsGroup printed (text_of_id id) _) (same_Some _ x is) (record {
      named = id_length id;
      no_dataset = ap is_some (not_there kind.Dataset id range (λ same. other_rank kind.Group kind.Dataset (omega arith) (sym kinds ∙ rank_once id.kind kind.Dataset same)));
      no_datatype = ap is_some (not_there kind.Datatype id range (λ same. other_rank kind.Group kind.Datatype (omega arith) (sym kinds ∙ rank_once id.kind kind.Datatype same)));
      object = refl;
      attributes = attributes_loaded attributes held;
      links = links_loaded m h printed known links parts;
    })
    group_loaded id attributes (body.Dataset array) x range kinds held parts is = absurd (none-some x is)
    group_loaded id attributes (body.Datatype type) x range kinds held parts is = absurd (none-some x is)

    group_kind : (attributes : AttributeMap) (b : Body) (x : Group) → group_of m h attributes b ≡ Some x → kind_of_body b ≡ kind.Group
    group_kind attributes (body.Group links) x is = refl
    group_kind attributes (body.Dataset array) x is = absurd (none-some x is)
    group_kind attributes (body.Datatype type) x is = absurd (none-some x is)

    group_shown : (attributes : AttributeMap) (b : Body) → kind_of_body b ≡ kind.Group → (x : Group) × (group_of m h attributes b ≡ Some x)
    group_shown attributes (body.Group links) is = (_, refl)
    group_shown attributes (body.Dataset array) is = absurd (other_rank kind.Dataset kind.Group (omega arith) is)
    group_shown attributes (body.Datatype type) is = absurd (other_rank kind.Datatype kind.Group (omega arith) is)

    -- ---- the whole

    root_there : contains_key (loaded_from m h).groups (text_of_id h.root) ≡ true
    root_there =
        let found = some_value (object_or_root h h.root (get m h.root)) (there_or_root h.root (get m h.root) (or_right (is_some (get m h.root)) _ (same_itself h.root))) in
        let there : get (whole m h) h.root ≡ Some found.0 = whole_is m h h.root ∙ found.1 in
        let held = of_domain h.root found.0 there are.number in
        let viewed = group_shown found.0.attributes found.0.body (sym held.sound.kinds ∙ are.group) in
        put_there (pairs_from (λ o. group_of m h o.attributes o.body) h.number (entries (whole m h))) empty (text_of_id h.root) viewed.0
        (pairs_there (λ o. group_of m h o.attributes o.body) h.number (entries (whole m h)) h.root found.0 viewed.0 (sym (get-entries (whole m h) h.root) ∙ there) are.number viewed.1)

    pub domain_loaded : Loads printed (loaded_from m h)
    domain_loaded = record {
      object = refl;
      version = refl;
      datasets = collection_loaded kind.Dataset (λ o. dataset_of o.attributes o.body) IsDataset
          (λ id o x held is. dataset_loaded id o.attributes o.body x held.sound.attributes held.sound.parts is)
          (λ o x is. dataset_kind o.attributes o.body x is) (λ o is. dataset_shown o.attributes o.body is);
      datatypes = collection_loaded kind.Datatype (λ o. datatype_of o.attributes o.body) (IsDatatype printed)
          (λ id o x held is. datatype_loaded id o.attributes o.body x held.sound.range held.sound.kinds held.sound.attributes held.sound.parts is)
          (λ o x is. datatype_kind o.attributes o.body x is) (λ o is. datatype_shown o.attributes o.body is);
      groups = collection_loaded kind.Group (λ o. group_of m h o.attributes o.body) (IsGroup printed)
          (λ id o x held is. group_loaded id o.attributes o.body x held.sound.range held.sound.kinds held.sound.attributes held.sound.parts is)
          (λ o x is. group_kind o.attributes o.body x is) (λ o is. group_shown o.attributes o.body is);
      root = refl;
      there = root_there;
    }
