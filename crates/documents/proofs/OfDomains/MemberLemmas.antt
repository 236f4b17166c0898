-- Members that are put at the texts of ids: what stands at a text, which keys there are, and in which order.
use Rattle.std.proofs.Common.{◌≡◌, ◌≢◌, ℕ, Bool, true, false, ◌&&◌, cond, T, ◌⊎◌, inl, inr, List, [], ◌∷◌, Option, Some, None, Ordering, Less, Equal, Greater, is_eq, refl, sym, ap, ◌∙◌}
use Rattle.std.specs.Cmp.{Equal-is}
use Rattle.std.specs.Cmp.Lexicographic.{nat_list_cmp_total}
use Rattle.std.specs.FinMap.{find, is_sorted}
use Rattle.std.specs.FinMap.Entries.{below_all}
use Rattle.std.specs.List.{AllByRecursion}
use Rattle.std.specs.List.Sorted.{IsStrictlySortedBy}
use Rattle.std.specs.Ordering.{eq_by_cmp, match_ordering, ordering_reverse}
use Rattle.std.proofs.lemmas.Cmp.{tied_itself}
use Rattle.serde_json.specs.Data.{Data, Members, no_members, member, put}
use Rattle.serde_json.specs.Find.{get_member}
use Rattle.serde_json.proofs.Views.{get_member-put, get_member-put_other}
use Rattle.containers.specs.TextMaps.Keyed.{text_order}
use Rattle.containers.proofs.TextMaps.KeyedMaps.{exact_texts}
use Rattle.containers.proofs.TextMaps.Walks.{found_above}
use Rattle.object_ids.specs.IdOrder.{id_order}
use Rattle.object_ids.specs.IdValues.{Id}
use Rattle.object_ids.specs.Ids.{InRange, text_of_id}
use Rattle.object_ids.proofs.IdOrders.{id_order_total, itself, tied_ids}
use Rattle.object_ids.proofs.IdTexts.{same_id}
use Rattle.documents.specs.Domains.Documents.{put_entries, put_entry}
use Rattle.documents.specs.Domains.Laws.{keys_of}
use Rattle.containers.proofs.Plain.{halves}
use Rattle.containers.proofs.TextMaps.TextOrders.{turned}

-- ---- keys in order

abbrev Below : List ℕ → Members → Type 0
Below x ms = AllByRecursion (λ y. text_order x y ≡ Less) (keys_of ms)

below_less : (k l : List ℕ) (ms : Members) → text_order k l ≡ Less → Below l ms → Below k ms
below_less k l no_members lt h = tt
below_less k l (member m d ms) lt h = (nat_list_cmp_total.trans k l m lt h.0, below_less k l ms lt h.1)

below_put : (x k : List ℕ) (d : Data) (ms : Members) → text_order x k ≡ Less → Below x ms → Below x (put k d ms)
below_put x k d no_members lt h = (lt, tt)
below_put x k d (member l e ms) lt h = at (text_order k l) (below_put x k d ms lt h.1) where
  at : (o : Ordering) → Below x (put k d ms) → Below x (match_ordering o (member k d (member l e ms)) (member l d ms) (member l e (put k d ms)))
  at Less rest = (lt, h)
  at Equal rest = h
  at Greater rest = (h.0, rest)

abbrev pub Rising : Members → Type 0
Rising ms = IsStrictlySortedBy text_order (keys_of ms)

rising_put : (k : List ℕ) (d : Data) (ms : Members) → Rising ms → Rising (put k d ms)
unfolding IsStrictlySortedBy
rising_put k d no_members h = (tt, tt)
rising_put k d (member l e ms) h = at (text_order k l) refl (rising_put k d ms h.1) where
  at : (o : Ordering) → text_order k l ≡ o → Rising (put k d ms) → Rising (match_ordering o (member k d (member l e ms)) (member l d ms) (member l e (put k d ms)))
  at Less is rest = ((is, below_less k l ms is h.0), h)
  at Equal is rest = h
  at Greater is rest = (below_put l k d ms (turned k l is) h.0, rest)

module _ {X : Type 0} (test : Id → Bool) (tree : X → Data) where
  rising_entry : (e : Id × X) (ms : Members) → Rising ms → Rising (put_entry test tree e ms)
  rising_entry e ms h = at (test e.0) where
    at : (b : Bool) → Rising (cond b (put (text_of_id e.0) (tree e.1) ms) ms)
    at true = rising_put (text_of_id e.0) (tree e.1) ms h
    at false = h

  pub rising_entries : (es : List (Id × X)) (ms : Members) → Rising ms → Rising (put_entries test tree es ms)
  rising_entries [] ms h = h
  rising_entries (e ∷ es) ms h = rising_entries es (put_entry test tree e ms) (rising_entry e ms h)

-- ---- what stands at the text of an id

differ : (x y : Id) → eq_by_cmp id_order x y ≡ false → x ≢ y
differ x y e same = let both : true ≡ false = sym (ap (eq_by_cmp id_order x) (sym same) ∙ itself x) ∙ e in absurd (cc)

module _ {X : Type 0} (test : Id → Bool) (tree : X → Data) where
  -- an entry at an id that passes the test is told, and leaves what is told of every other id
  abbrev pub told : Id → Id × X → Option Data → Option Data
  told id e r = cond (eq_by_cmp id_order id e.0 && test id) (Some (tree e.1)) r

  pub entry_told : (id : Id) (e : Id × X) (ms : Members) → InRange id → (test e.0 ≡ true → InRange e.0)
      → get_member (text_of_id id) (put_entry test tree e ms) ≡ told id e (get_member (text_of_id id) ms)
  entry_told id e ms here there = at (eq_by_cmp id_order id e.0) (test e.0) refl refl where
    same : id ≡ e.0 → (b : Bool) → test e.0 ≡ b → get_member (text_of_id id) (cond b (put (text_of_id e.0) (tree e.1) ms) ms) ≡ cond (test id) (Some (tree e.1)) (get_member (text_of_id id) ms)
    same is true t = ap (λ i. get_member (text_of_id i) (put (text_of_id e.0) (tree e.1) ms)) is ∙ get_member-put (text_of_id e.0) (tree e.1) ms
        ∙ sym (ap (λ b. cond b (Some (tree e.1)) (get_member (text_of_id id) ms)) (ap test is ∙ t))
    same is false t = sym (ap (λ b. cond b (Some (tree e.1)) (get_member (text_of_id id) ms)) (ap test is ∙ t))

    at : (same_id b : Bool) → eq_by_cmp id_order id e.0 ≡ same_id → test e.0 ≡ b
        → get_member (text_of_id id) (cond (test e.0) (put (text_of_id e.0) (tree e.1) ms) ms) ≡ cond (eq_by_cmp id_order id e.0 && test id) (Some (tree e.1)) (get_member (text_of_id id) ms)
    at true b is t = same (tied_ids id e.0 is) (test e.0) refl ∙ sym (ap (λ c. cond (c && test id) (Some (tree e.1)) (get_member (text_of_id id) ms)) is)
    at false true is t =
        ap (λ c. get_member (text_of_id id) (cond c (put (text_of_id e.0) (tree e.1) ms) ms)) t
        ∙ get_member-put_other (text_of_id id) (text_of_id e.0) (tree e.1) ms (λ texts. differ id e.0 is (same_id id e.0 here (there t) texts))
        ∙ sym (ap (λ c. cond (c && test id) (Some (tree e.1)) (get_member (text_of_id id) ms)) is)
    at false false is t =
        ap (λ c. get_member (text_of_id id) (cond c (put (text_of_id e.0) (tree e.1) ms) ms)) t
        ∙ sym (ap (λ c. cond (c && test id) (Some (tree e.1)) (get_member (text_of_id id) ms)) is)

  abbrev pub AreInRange : List (Id × X) → Type 0
  AreInRange = AllByRecursion (λ e. test e.0 ≡ true → InRange e.0)

  -- what some entries tell of an id: the last of them at the id counts
  abbrev told_by : Id → List (Id × X) → Option Data → Option Data
  told_by id [] r = r
  told_by id (e ∷ es) r = told_by id es (told id e r)

  entries_told : (id : Id) (es : List (Id × X)) (ms : Members) → InRange id → AreInRange es
      → get_member (text_of_id id) (put_entries test tree es ms) ≡ told_by id es (get_member (text_of_id id) ms)
  entries_told id [] ms here there = refl
  entries_told id (e ∷ es) ms here there =
      entries_told id es (put_entry test tree e ms) here there.1 ∙ ap (told_by id es) (entry_told id e ms here there.0)

  -- where none is at the id they tell nothing of it
  none_told : (id : Id) (es : List (Id × X)) (r : Option Data) → find id_order id es ≡ None → told_by id es r ≡ r
  none_told id [] r none = refl
  none_told id (e ∷ es) r none = at (eq_by_cmp id_order id e.0) refl (none_told id es r) where
    at : (b : Bool) → eq_by_cmp id_order id e.0 ≡ b → (find id_order id es ≡ None → told_by id es r ≡ r) → told_by id es (cond (eq_by_cmp id_order id e.0 && test id) (Some (tree e.1)) r) ≡ r
    at true is later = let both : Some e.1 ≡ None = sym (ap (λ c. cond c (Some e.1) (find id_order id es)) is) ∙ none in absurd (cc)
    at false is later =
        ap (λ c. told_by id es (cond (c && test id) (Some (tree e.1)) r)) is
        ∙ later (sym (ap (λ c. cond c (Some e.1) (find id_order id es)) is) ∙ none)

  -- what entries in order tell of an id, by what is found at it
  abbrev pub by_found : Id → Option X → Option Data → Option Data
  by_found id None r = r
  by_found id (Some x) r = cond (test id) (Some (tree x)) r

  none_found : (id : Id) (e : Id × X) (es : List (Id × X)) → T (below_all id_order e.0 es) → eq_by_cmp id_order id e.0 ≡ true → find id_order id es ≡ None
  none_found id e es above is = at (find id_order id es) refl where
    at : (o : Option X) → find id_order id es ≡ o → find id_order id es ≡ None
    at None there = there
    at (Some x) there =
        let less : id_order e.0 id ≡ Less = found_above id_order_total e.0 id es x above there in
        let back : id_order id e.0 ≡ Greater = id_order_total.antisymm id e.0 ∙ ap ordering_reverse less in
        let both : false ≡ true = sym (ap is_eq back) ∙ is in absurd (cc)

  found_told : (id : Id) (es : List (Id × X)) (r : Option Data) → T (is_sorted id_order es) → told_by id es r ≡ by_found id (find id_order id es) r
  found_told id [] r rising = refl
  found_told id (e ∷ es) r rising = at (eq_by_cmp id_order id e.0) refl (found_told id es r (halves _ _ rising).1) where
    at : (b : Bool) → eq_by_cmp id_order id e.0 ≡ b → told_by id es r ≡ by_found id (find id_order id es) r → told_by id es (cond (eq_by_cmp id_order id e.0 && test id) (Some (tree e.1)) r)
        ≡ by_found id (cond (eq_by_cmp id_order id e.0) (Some e.1) (find id_order id es)) r
    at true is later =
        none_told id es (cond (eq_by_cmp id_order id e.0 && test id) (Some (tree e.1)) r) (none_found id e es (halves _ _ rising).0 is)
        ∙ ap (λ c. cond (c && test id) (Some (tree e.1)) r) is
        ∙ sym (ap (λ c. by_found id (cond c (Some e.1) (find id_order id es)) r) is)
    at false is later =
        ap (λ c. told_by id es (cond (c && test id) (Some (tree e.1)) r)) is
        ∙ later
        ∙ sym (ap (λ c. by_found id (cond c (Some e.1) (find id_order id es)) r) is)

  -- what stands at the text of an id, where entries in order were put
  pub entries_found : (id : Id) (es : List (Id × X)) (ms : Members) → T (is_sorted id_order es) → InRange id → AreInRange es
      → get_member (text_of_id id) (put_entries test tree es ms) ≡ by_found id (find id_order id es) (get_member (text_of_id id) ms)
  entries_found id es ms rising here there = entries_told id es ms here there ∙ found_told id es (get_member (text_of_id id) ms) rising

  -- ---- which keys there are

  -- a key that stands is that of an entry at an id that passes the test, or stood before
  abbrev pub IsPut : List (Id × X) → List ℕ → Type 0
  IsPut [] key = ⊥
  IsPut (e ∷ es) key = ((test e.0 ≡ true) × (key ≡ text_of_id e.0)) ⊎ IsPut es key

  entry_keys : (e : Id × X) (ms : Members) (key : List ℕ) (d : Data) → get_member key (put_entry test tree e ms) ≡ Some d
      → ((test e.0 ≡ true) × (key ≡ text_of_id e.0)) ⊎ (get_member key ms ≡ Some d)
  entry_keys e ms key d there = at (test e.0) refl there where
    by_text : (b : Bool) → eq_by_cmp text_order key (text_of_id e.0) ≡ b → test e.0 ≡ true → get_member key (put (text_of_id e.0) (tree e.1) ms) ≡ Some d
        → ((test e.0 ≡ true) × (key ≡ text_of_id e.0)) ⊎ (get_member key ms ≡ Some d)
    by_text true is t there = inl (t, exact_texts key (text_of_id e.0) ((Equal-is _).0 is))
    by_text false is t there = inr (sym (get_member-put_other key (text_of_id e.0) (tree e.1) ms (λ same. no_tie is same)) ∙ there) where
      no_tie : eq_by_cmp text_order key (text_of_id e.0) ≡ false → key ≡ text_of_id e.0 → ⊥
      no_tie is same = let both : true ≡ false = sym (ap (eq_by_cmp text_order key) (sym same) ∙ ap is_eq (tied_itself nat_list_cmp_total key)) ∙ is in absurd (cc)

    at : (b : Bool) → test e.0 ≡ b → get_member key (cond b (put (text_of_id e.0) (tree e.1) ms) ms) ≡ Some d
        → ((test e.0 ≡ true) × (key ≡ text_of_id e.0)) ⊎ (get_member key ms ≡ Some d)
    at true t there = by_text (eq_by_cmp text_order key (text_of_id e.0)) refl t there
    at false t there = inr there

  pub entries_keys : (es : List (Id × X)) (ms : Members) (key : List ℕ) (d : Data) → get_member key (put_entries test tree es ms) ≡ Some d
      → IsPut es key ⊎ (get_member key ms ≡ Some d)
  entries_keys [] ms key d there = inr there
  entries_keys (e ∷ es) ms key d there = at (entries_keys es (put_entry test tree e ms) key d there) where
    before : ((test e.0 ≡ true) × (key ≡ text_of_id e.0)) ⊎ (get_member key ms ≡ Some d) → IsPut (e ∷ es) key ⊎ (get_member key ms ≡ Some d)
    before (inl h) = inl (inl h)
    before (inr h) = inr h

    at : IsPut es key ⊎ (get_member key (put_entry test tree e ms) ≡ Some d) → IsPut (e ∷ es) key ⊎ (get_member key ms ≡ Some d)
    at (inl h) = inl (inr h)
    at (inr h) = before (entry_keys e ms key d h)

  -- an entry of a map in order is found at its id
  abbrev pub AreWithin : List (Id × X) → List (Id × X) → Type 0
  AreWithin es whole = AllByRecursion (λ e. find id_order e.0 whole ≡ Some e.1) es

  later_found : (e d : Id × X) (es : List (Id × X)) → T (below_all id_order e.0 es) → find id_order d.0 es ≡ Some d.1 → find id_order d.0 (e ∷ es) ≡ Some d.1
  later_found e d es above there =
      let less : id_order e.0 d.0 ≡ Less = found_above id_order_total e.0 d.0 es d.1 above there in
      let back : id_order d.0 e.0 ≡ Greater = id_order_total.antisymm d.0 e.0 ∙ ap ordering_reverse less in
      ap (λ o. cond (is_eq o) (Some e.1) (find id_order d.0 es)) back ∙ there

  more_within : (e : Id × X) (ds es : List (Id × X)) → T (below_all id_order e.0 es) → AreWithin ds es → AreWithin ds (e ∷ es)
  more_within e [] es above h = tt
  more_within e (d ∷ ds) es above h = (later_found e d es above h.0, more_within e ds es above h.1)

  pub all_within : (es : List (Id × X)) → T (is_sorted id_order es) → AreWithin es es
  all_within [] rising = tt
  all_within (e ∷ es) rising =
      (ap (λ c. cond c (Some e.1) (find id_order e.0 es)) (itself e.0), more_within e es es (halves _ _ rising).0 (all_within es (halves _ _ rising).1))

  -- so a key that was put is the text of an id that passes the test and at which something is found
  pub put_found : (es whole : List (Id × X)) (key : List ℕ) → AreWithin es whole → IsPut es key
      → (id : Id) × (x : X) × (test id ≡ true) × (key ≡ text_of_id id) × (find id_order id whole ≡ Some x)
  put_found [] whole key within h = absurd h
  put_found (e ∷ es) whole key within (inl h) = (e.0, e.1, h.0, h.1, within.0)
  put_found (e ∷ es) whole key within (inr h) = put_found es whole key within.1 h
