-- Maps that lists of entries make, put one after another.
use Rattle.std.proofs.Common.{◌≡◌, ℕ, suc, ◌+◌, ◌≤◌, ◌⊎◌, inl, inr, List, [], ◌∷◌, Bool, true, false, T, cond, map, length, Option, Some, None, IsSome, is_some, is_eq, Ordering, Less, Equal, Greater, refl, sym, ap, subst, ◌∙◌, arith}
use Rattle.std.specs.Cmp.{Equal-is}
use Rattle.std.specs.Cmp.Lexicographic.{nat_list_cmp_total}
use Rattle.std.specs.List.{AllByRecursion, AllZip, filter}
use Rattle.std.specs.List.Sorted.{IsStrictlySortedBy}
use Rattle.std.specs.Ordering.{eq_by_cmp, is_lt, match_ordering, ordering_reverse}
use Rattle.std.specs.FinMap.{FinMap, empty, entries, entries_sorted, find, get, get-empty, get-entries, get-from_sorted, get-insert, get-remove, entries-from_sorted, from_sorted, insert, is_sorted, keys, len, len-empty, len-entries, remove, same_map}
use Rattle.std.specs.FinMap.Entries.{below_all}
use Rattle.std.proofs.lemmas.Cmp.{tied_itself}
use Rattle.std.proofs.lemmas.List.{length-map}
use Rattle.std.proofs.lemmas.Option.{none-some, same_Some}
use Rattle.serde_json.specs.Data.{Data, Members, member, no_members}
use Rattle.serde_json.specs.Find.{get_member}
use Rattle.json_trees.specs.Trees.{list_in, pairs_of}
use Rattle.json_trees.proofs.TreeLemmas.{length-AllZip}
use Rattle.containers.specs.TextMaps.Keyed.{text_order, with_values, with_entries}
use Rattle.containers.proofs.TextMaps.KeyedMaps.{exact_texts}
use Rattle.containers.proofs.TextMaps.ValueMaps.{entries-values}
use Rattle.object_ids.proofs.PutLemmas.{insert_most}
use Rattle.attributes.proofs.MapLemmas.{each_entry}
use Rattle.documents.specs.Domains.Laws.{keys_of}
use Rattle.documents.specs.Parts.Spelled.{AreListed, AreListedAt, AreListedIn, AreNew}
use Rattle.documents.specs.Reader.Loads.{AreMembers, IsMember}
use Rattle.json_import.specs.RoundTrips.Renamed.{at_texts}
use Rattle.containers.proofs.Plain.{halves, less, both_tests}
use Rattle.containers.proofs.TextMaps.TextOrders.{greater}
use Rattle.documents.proofs.OfDomains.MemberLemmas.{Rising}
use Rattle.containers.proofs.TextMaps.PutLemmas.{put_entries}

module _ {X : Type 0} where
  -- the entry stands in the list
  abbrev pub IsIn : List ℕ → X → List (List ℕ × X) → Type 0
  IsIn k x [] = ⊥
  IsIn k x (p ∷ ps) = ((k ≡ p.0) × (x ≡ p.1)) ⊎ IsIn k x ps

  -- what is found was there, or stands in the list
  put_told : (ps : List (List ℕ × X)) (m : FinMap text_order X) (k : List ℕ) (x : X) → get (with_entries m ps) k ≡ Some x
      → (get m k ≡ Some x) ⊎ IsIn k x ps
  put_told [] m k x is = inl is
  put_told (p ∷ ps) m k x is = at (put_told ps (insert m p.0 p.1) k x is) where
    here : (b : Bool) → eq_by_cmp text_order k p.0 ≡ b → cond b (Some p.1) (get m k) ≡ Some x → (get m k ≡ Some x) ⊎ IsIn k x (p ∷ ps)
    here true tie e = inr (inl (exact_texts k p.0 ((Equal-is (text_order k p.0)).0 tie), sym (same_Some p.1 x e)))
    here false tie e = inl e

    at : (get (insert m p.0 p.1) k ≡ Some x) ⊎ IsIn k x ps → (get m k ≡ Some x) ⊎ IsIn k x (p ∷ ps)
    at (inl before) = here (eq_by_cmp text_order k p.0) refl (sym (get-insert nat_list_cmp_total m p.0 p.1 k) ∙ before)
    at (inr later) = inr (inr later)

  pub put_in : (ps : List (List ℕ × X)) (k : List ℕ) (x : X) → get (with_entries empty ps) k ≡ Some x → IsIn k x ps
  put_in ps k x is = at (put_told ps empty k x is) where
    at : (get (empty {X = X} {R = text_order}) k ≡ Some x) ⊎ IsIn k x ps → IsIn k x ps
    at (inl e) = absurd (none-some x (sym (get-empty text_order k) ∙ e))
    at (inr h) = h

  -- what is there stays, or gives way to another entry at its key
  put_stays : (ps : List (List ℕ × X)) (m : FinMap text_order X) (k : List ℕ) → IsSome (get m k) → IsSome (get (with_entries m ps) k)
  put_stays [] m k there = there
  put_stays (p ∷ ps) m k there = put_stays ps (insert m p.0 p.1) k (subst IsSome (sym (get-insert nat_list_cmp_total m p.0 p.1 k)) (at (eq_by_cmp text_order k p.0))) where
    at : (b : Bool) → IsSome (cond b (Some p.1) (get m k))
    at true = refl
    at false = there

  pub put_there : (ps : List (List ℕ × X)) (m : FinMap text_order X) (k : List ℕ) (x : X) → IsIn k x ps → IsSome (get (with_entries m ps) k)
  put_there [] m k x there = absurd there
  put_there (p ∷ ps) m k x (inl h) = put_stays ps (insert m p.0 p.1) k
      (ap is_some (get-insert nat_list_cmp_total m p.0 p.1 k ∙ ap (λ b. cond b (Some p.1) (get m k)) (ap (eq_by_cmp text_order k) (sym h.0) ∙ ap is_eq (tied_itself nat_list_cmp_total k))))
  put_there (p ∷ ps) m k x (inr later) = put_there ps (insert m p.0 p.1) k x later

  put_count : (ps : List (List ℕ × X)) (m : FinMap text_order X) → len (with_entries m ps) ≤ len m + length ps
  put_count [] m = omega arith
  put_count (p ∷ ps) m =
      let one : len (insert m p.0 p.1) ≤ suc (len m) = insert_most (suc (len m)) m p.0 p.1 (omega arith) in
      let rest = put_count ps (insert m p.0 p.1) in
      omega (arith, one, rest)

  pub found_in : (m : FinMap text_order X) (k : List ℕ) (x : X) → get m k ≡ Some x → IsIn k x (entries m)
  found_in m k x is = at (entries m) (sym (get-entries m k) ∙ is) where
    next : (e : List ℕ × X) (es : List (List ℕ × X)) (b : Bool) → eq_by_cmp text_order k e.0 ≡ b
        → cond b (Some e.1) (find text_order k es) ≡ Some x → (find text_order k es ≡ Some x → IsIn k x es) → IsIn k x (e ∷ es)
    next e es true tie is later = inl (exact_texts k e.0 ((Equal-is (text_order k e.0)).0 tie), sym (same_Some e.1 x is))
    next e es false tie is later = inr (later is)

    at : (es : List (List ℕ × X)) → find text_order k es ≡ Some x → IsIn k x es
    at [] is = absurd (none-some x is)
    at (e ∷ es) is = next e es (eq_by_cmp text_order k e.0) refl is (at es)

  -- what stands in a list of which each entry holds
  pub in_each : (P : List ℕ × X → Type 0) (es : List (List ℕ × X)) (k : List ℕ) (x : X) → AllByRecursion P es → IsIn k x es → P (k, x)
  in_each P [] k x all there = absurd there
  in_each P (e ∷ es) k x all (inl h) = subst (λ y. P (k, y)) (sym h.1) (subst (λ q. P (q, e.1)) (sym h.0) all.0)
  in_each P (e ∷ es) k x all (inr later) = in_each P es k x all.1 later

  abbrev AreFree : FinMap text_order X → List (List ℕ × X) → Type 0
  AreFree m es = AllByRecursion (λ e. get m e.0 ≡ None) es

  still_free : (m : FinMap text_order X) (e : List ℕ × X) (es : List (List ℕ × X)) → T (below_all text_order e.0 es) → AreFree m es
      → AreFree (insert m e.0 e.1) es
  still_free m e [] low free = tt
  still_free m e (f ∷ fs) low free = (
    get-insert nat_list_cmp_total m e.0 e.1 f.0 ∙ ap (λ b. cond b (Some e.1) (get m f.0)) (greater e.0 f.0 (less _ (halves _ _ low).0)) ∙ free.0,
    still_free m e fs (halves _ _ low).1 free.1,
  )

  pub sorted_new : (es : List (List ℕ × X)) (m : FinMap text_order X) → T (is_sorted text_order es) → AreFree m es → AreNew m es
  sorted_new [] m rising free = tt
  sorted_new (e ∷ es) m rising free = (ap is_some free.0, sorted_new es (insert m e.0 e.1) (halves _ _ rising).1 (still_free m e es (halves _ _ rising).0 free.1))

  pub all_free : (es : List (List ℕ × X)) → AreFree empty es
  all_free [] = tt
  all_free (e ∷ es) = (get-empty text_order e.0, all_free es)

  pub entries_new : (m : FinMap text_order X) → AreNew empty (entries m)
  entries_new m = sorted_new (entries m) empty (entries_sorted m) (all_free (entries m))

-- ---- lists of trees that spell entries

module _ {X : Type 0} (most : ℕ) (R : Data → List ℕ × X → Type 0) where
  zip_in : (ds : List Data) (ps : List (List ℕ × X)) (k : List ℕ) (x : X) → AllZip R ds ps → IsIn k x ps → (d : Data) × R d (k, x)
  zip_in [] [] k x zip there = absurd there
  zip_in [] (p ∷ ps) k x zip there = absurd zip
  zip_in (d ∷ ds) [] k x zip there = absurd zip
  zip_in (d ∷ ds) (p ∷ ps) k x zip (inl h) = (d, subst (λ y. R d (k, y)) (sym h.1) (subst (λ q. R d (q, p.1)) (sym h.0) zip.0))
  zip_in (d ∷ ds) (p ∷ ps) k x zip (inr later) = zip_in ds ps k x zip.1 later

  in_found : (o : Option (List Data)) (m : FinMap text_order X) → AreListedIn most R o m → (k : List ℕ) (x : X) → get m k ≡ Some x
      → (d : Data) × R d (k, x)
  in_found None m are k x is = absurd are
  in_found (Some ds) m are k x is = zip_in ds are.pairs k x are.each (put_in are.pairs k x (ap (λ (n : FinMap text_order X). get n k) (sym are.all) ∙ is))

  -- some tree spells what is found
  pub listed_found : (o : Option Data) (m : FinMap text_order X) → AreListedAt most R o m → (k : List ℕ) (x : X) → get m k ≡ Some x
      → (d : Data) × R d (k, x)
  listed_found None m are k x is = absurd (none-some x (sym (get-empty text_order k) ∙ ap (λ (n : FinMap text_order X). get n k) (sym are) ∙ is))
  listed_found (Some d) m are k x is = in_found (list_in d) m are k x is

  in_few : (o : Option (List Data)) (m : FinMap text_order X) → AreListedIn most R o m → len m ≤ most
  in_few None m are = absurd are
  in_few (Some ds) m are =
      let count = put_count are.pairs empty in
      let same = ap (λ (n : FinMap text_order X). len n) are.all in
      omega (arith, count, same, are.few, length-AllZip R ds are.pairs are.each, len-empty text_order X)

  pub listed_few : (o : Option Data) (m : FinMap text_order X) → AreListedAt most R o m → len m ≤ most
  listed_few None m are = let same = ap (λ (n : FinMap text_order X). len n) are in omega (arith, same, len-empty text_order X)
  listed_few (Some d) m are = in_few (list_in d) m are

pub zip_all : {X Y : Type 0} (h : X → Y) (R : Data → List ℕ × Y → Type 0) (tree : List ℕ × X → Data) (es : List (List ℕ × X))
    → AllByRecursion (λ e. R (tree e) (e.0, h e.1)) es
    → AllZip R (map tree es) (map (λ e. (e.0, h e.1)) es)
zip_all h R tree [] all = tt
zip_all h R tree (e ∷ es) all = (all.0, zip_all h R tree es all.1)

module _ {X Y : Type 0} (h : X → Y) (most : ℕ) (R : Data → List ℕ × Y → Type 0) (tree : List ℕ × X → Data) where
  abbrev entry_as : List ℕ × X → List ℕ × Y
  entry_as e = (e.0, h e.1)

  -- the trees of a map's entries spell the map, each value seen as something else
  pub listed_of : (m : FinMap text_order X) → len m ≤ most → ((k : List ℕ) (x : X) → get m k ≡ Some x → R (tree (k, x)) (k, h x))
      → AreListed most R (map tree (entries m)) (with_values h m)
  listed_of m few each = record {
    few = omega (arith, length-map (entries m) tree, len-entries m, few);
    pairs = entries (with_values h m);
    each = subst (AllZip R (map tree (entries m))) (sym (entries-values nat_list_cmp_total h m))
        (zip_all h R tree (entries m) (each_entry (λ k x. R (tree (k, x)) (k, h x)) m each));
    apart = entries_new (with_values h m);
    all = sym (put_entries (with_values h m));
  }

-- ---- members of an object that spell entries

-- each member is found at its key
AreFound : Members → List (List ℕ × Data) → Type 0
AreFound ms ps = AllByRecursion (λ p. get_member p.0 ms ≡ Some p.1) ps

below_pairs : (l : List ℕ) (ms : Members) → AllByRecursion (λ y. text_order l y ≡ Less) (keys_of ms)
    → AllByRecursion (λ p. text_order l p.0 ≡ Less) (pairs_of ms)
below_pairs l no_members low = tt
below_pairs l (member k d ms) low = (low.0, below_pairs l ms low.1)

later_found : (l : List ℕ) (d : Data) (ms : Members) (ps : List (List ℕ × Data)) → AllByRecursion (λ p. text_order l p.0 ≡ Less) ps
    → AreFound ms ps → AreFound (member l d ms) ps
unfolding AreFound
later_found l d ms [] low found = tt
later_found l d ms (p ∷ ps) low found =
    let above : text_order p.0 l ≡ Greater = nat_list_cmp_total.antisymm p.0 l ∙ ap ordering_reverse low.0 in (
      ap (λ o. match_ordering o (get_member p.0 ms) (Some d) (get_member p.0 ms)) above ∙ found.0,
      later_found l d ms ps low.1 found.1,
    )

all_found : (ms : Members) → Rising ms → AreFound ms (pairs_of ms)
unfolding AreFound IsStrictlySortedBy
all_found no_members rises = tt
all_found (member k d ms) rises = (
  ap (λ o. match_ordering o (get_member k ms) (Some d) (get_member k ms)) (tied_itself nat_list_cmp_total k),
  later_found k d ms (pairs_of ms) (below_pairs k ms rises.0) (all_found ms rises.1),
)

member_in : (ms : Members) (k : List ℕ) (d : Data) → get_member k ms ≡ Some d → IsIn k d (pairs_of ms)
member_in no_members k d is = absurd (none-some d is)
member_in (member l e ms) k d is = at (text_order k l) refl is (member_in ms k d) where
  at : (o : Ordering) → text_order k l ≡ o → match_ordering o (get_member k ms) (Some e) (get_member k ms) ≡ Some d
      → (get_member k ms ≡ Some d → IsIn k d (pairs_of ms)) → IsIn k d ((l, e) ∷ pairs_of ms)
  at Less tie is later = inr (later is)
  at Equal tie is later = inl (exact_texts k l tie, sym (same_Some e d is))
  at Greater tie is later = inr (later is)

module _ {X : Type 0} (R : List ℕ → Data → X → Type 0) (ms : Members) (m : FinMap text_order X) (rises : Rising ms)
    (forth : (k : List ℕ) (x : X) → get m k ≡ Some x → (d : Data) × (get_member k ms ≡ Some d) × R k d x)
    (back : (k : List ℕ) (d : Data) → get_member k ms ≡ Some d → IsSome (get m k))
  where
    one : (k : List ℕ) (d : Data) → get_member k ms ≡ Some d → (x : X) × (get m k ≡ Some x) × R k d x
    one k d is = at (get m k) refl (back k d is) where
      at : (found : Option X) → get m k ≡ found → IsSome found → (x : X) × (get m k ≡ Some x) × R k d x
      at None e there = let both : false ≡ true = there in absurd (cc)
      at (Some x) e there = let f = forth k x e in (x, e, subst (λ t. R k t x) (same_Some f.0 d (sym f.1 ∙ is)) f.2)

    abbrev Paired : List (List ℕ × Data) → Type 0
    Paired ps =
        (pairs : List (List ℕ × X)) × AllZip (IsMember R) ps pairs × AllByRecursion (λ e. get m e.0 ≡ Some e.1) pairs
        × ((k : List ℕ) (d : Data) → IsIn k d ps → (x : X) × IsIn k x pairs)

    pair_each : (ps : List (List ℕ × Data)) → AreFound ms ps → Paired ps
    unfolding AreFound
    pair_each [] all = ([], tt, tt, λ k d there. absurd there)
    pair_each (p ∷ ps) all =
        let f = one p.0 p.1 all.0 in
        let rest = pair_each ps all.1 in (
          (p.0, f.0) ∷ rest.0,
          ((refl, f.2), rest.1),
          (f.1, rest.2),
          λ k d there. elim there [
            | inl h ↦ (f.0, inl (h.0, refl))
            | inr later ↦ let r = rest.3 k d later in (r.0, inr r.1)
          ],
        )

    paired : Paired (pairs_of ms)
    paired = pair_each (pairs_of ms) (all_found ms rises)

    same_at : (q : List ℕ) → get (with_entries empty paired.0) q ≡ get m q
    same_at q = at (get m q) refl where
      held : (y : X) → get (with_entries empty paired.0) q ≡ Some y → get m q ≡ Some y
      held y is = in_each (λ e. get m e.0 ≡ Some e.1) paired.0 q y paired.2 (put_in paired.0 q y is)

      none : (found : Option X) → get (with_entries empty paired.0) q ≡ found → get m q ≡ None → get (with_entries empty paired.0) q ≡ None
      none None is there = is
      none (Some y) is there = absurd (none-some y (sym there ∙ held y is))

      some : (found : Option X) → get (with_entries empty paired.0) q ≡ found → IsSome found → get (with_entries empty paired.0) q ≡ get m q
      some None is there = let both : false ≡ true = there in absurd (cc)
      some (Some y) is there = is ∙ sym (held y is)

      at : (found : Option X) → get m q ≡ found → get (with_entries empty paired.0) q ≡ get m q
      at None is = none (get (with_entries empty paired.0) q) refl is ∙ sym is
      at (Some x) is =
          let f = forth q x is in
          let stands = paired.3 q f.0 (member_in ms q f.0 f.1) in
          some (get (with_entries empty paired.0) q) refl (put_there paired.0 empty q stands.0 stands.1)

    -- members with rising keys that are those of a map, and each of which spells the value there, spell the map
    pub are_members : AreMembers R ms m
    are_members = record {
      pairs = paired.0;
      each = paired.1;
      all = sym (same_map nat_list_cmp_total exact_texts _ _ same_at);
    }

-- ---- entries at other keys

module _ {X Y : Type 0} (text : List ℕ → List ℕ) (h : X → Y) where
  moved_in : (es : List (List ℕ × X)) (k : List ℕ) (y : Y) → IsIn k y (map (λ e. (text e.0, h e.1)) es)
      → (t : List ℕ) × (x : X) × IsIn t x es × (k ≡ text t) × (y ≡ h x)
  moved_in [] k y there = absurd there
  moved_in (e ∷ es) k y (inl is) = (e.0, e.1, inl (refl, refl), is.0, is.1)
  moved_in (e ∷ es) k y (inr later) = let r = moved_in es k y later in (r.0, r.1, inr r.2, r.3, r.4)

  in_moved : (es : List (List ℕ × X)) (t : List ℕ) (x : X) → IsIn t x es → IsIn (text t) (h x) (map (λ e. (text e.0, h e.1)) es)
  in_moved [] t x there = absurd there
  in_moved (e ∷ es) t x (inl is) = inl (ap text is.0, ap h is.1)
  in_moved (e ∷ es) t x (inr later) = inr (in_moved es t x later)

  itself : (m : FinMap text_order X) → AllByRecursion (λ e. get m e.0 ≡ Some e.1) (entries m)
  itself m = each_entry (λ k x. get m k ≡ Some x) m (λ k x is. is)

  -- what stands at a key stood at a key that is moved there
  pub moved_found : (m : FinMap text_order X) (k : List ℕ) (y : Y) → get (at_texts text h m) k ≡ Some y
      → (t : List ℕ) × (x : X) × (get m t ≡ Some x) × (k ≡ text t) × (y ≡ h x)
  moved_found m k y is =
      let r = moved_in (entries m) k y (put_in (map (λ e. (text e.0, h e.1)) (entries m)) k y is) in
      (r.0, r.1, in_each (λ e. get m e.0 ≡ Some e.1) (entries m) r.0 r.1 (itself m) r.2, r.3, r.4)

  pub moved_there : (m : FinMap text_order X) (t : List ℕ) (x : X) → get m t ≡ Some x → IsSome (get (at_texts text h m) (text t))
  moved_there m t x is = put_there (map (λ e. (text e.0, h e.1)) (entries m)) empty (text t) (h x) (in_moved (entries m) t x (found_in m t x is))

  IsMoved : FinMap text_order X → Type 0
  IsMoved m = (s t : List ℕ) → IsSome (get m s) → IsSome (get m t) → text_order s t ≡ Less → text_order (text s) (text t) ≡ Less

  is_less : (o : Ordering) → o ≡ Less → T (is_lt o)
  is_less Less e = tt
  is_less Equal e = let never : Equal ≡ Less = e in absurd (cc)
  is_less Greater e = let never : Greater ≡ Less = e in absurd (cc)

  moved_below : (m : FinMap text_order X) → IsMoved m → (k : List ℕ) (es : List (List ℕ × X)) → IsSome (get m k)
      → AllByRecursion (λ e. IsSome (get m e.0)) es → T (below_all text_order k es)
      → T (below_all text_order (text k) (map (λ e. (text e.0, h e.1)) es))
  unfolding IsMoved
  moved_below m moves k [] there all low = tt
  moved_below m moves k (e ∷ es) there all low =
      both_tests _ _ (is_less _ (moves k e.0 there all.0 (less (text_order k e.0) (halves _ _ low).0))) (moved_below m moves k es there all.1 (halves _ _ low).1)

  moved_rising : (m : FinMap text_order X) → IsMoved m → (es : List (List ℕ × X)) → AllByRecursion (λ e. IsSome (get m e.0)) es
      → T (is_sorted text_order es)
      → T (is_sorted text_order (map (λ e. (text e.0, h e.1)) es))
  moved_rising m moves [] all rising = tt
  moved_rising m moves (e ∷ es) all rising =
      both_tests _ _ (moved_below m moves e.0 es all.0 all.1 (halves _ _ rising).0) (moved_rising m moves es all.1 (halves _ _ rising).1)

  -- where the other keys are in the order of the keys, the entries at these are as well
  pub moved_sorted : (m : FinMap text_order X)
      → ((s t : List ℕ) → IsSome (get m s) → IsSome (get m t) → text_order s t ≡ Less → text_order (text s) (text t) ≡ Less)
      → T (is_sorted text_order (map (λ e. (text e.0, h e.1)) (entries m)))
  unfolding IsMoved
  moved_sorted m moves = moved_rising m moves (entries m) (each_entry (λ k x. IsSome (get m k)) m (λ k x is. ap is_some is)) (entries_sorted m)

  moved_keys : (es : List (List ℕ × X))
      → map (λ (e : List ℕ × Y). e.0) (map (λ e. (text e.0, h e.1)) es) ≡ map text (map (λ (e : List ℕ × X). e.0) es)
  moved_keys [] = refl
  moved_keys (e ∷ es) = ap (λ ks. text e.0 ∷ ks) (moved_keys es)

module _ {X : Type 0} where
  below_in : (k q : List ℕ) (y : X) (es : List (List ℕ × X)) → T (below_all text_order k es) → IsIn q y es → text_order k q ≡ Less
  below_in k q y [] low there = absurd there
  below_in k q y (e ∷ es) low (inl is) = ap (text_order k) is.0 ∙ less (text_order k e.0) (halves _ _ low).0
  below_in k q y (e ∷ es) low (inr later) = below_in k q y es (halves _ _ low).1 later

  sorted_found : (es : List (List ℕ × X)) (q : List ℕ) (y : X) → T (is_sorted text_order es) → IsIn q y es → find text_order q es ≡ Some y
  sorted_found [] q y rising there = absurd there
  sorted_found (e ∷ es) q y rising (inl is) =
      ap (λ b. cond b (Some e.1) (find text_order q es)) (ap (eq_by_cmp text_order q) (sym is.0) ∙ ap is_eq (tied_itself nat_list_cmp_total q)) ∙ ap Some (sym is.1)
  sorted_found (e ∷ es) q y rising (inr later) =
      ap (λ b. cond b (Some e.1) (find text_order q es)) (greater e.0 q (below_in e.0 q y es (halves _ _ rising).0 later)) ∙ sorted_found es q y (halves _ _ rising).1 later

  find_in : (es : List (List ℕ × X)) (q : List ℕ) (y : X) → find text_order q es ≡ Some y → IsIn q y es
  find_in [] q y is = absurd (none-some y is)
  find_in (e ∷ es) q y is = at (eq_by_cmp text_order q e.0) refl is (find_in es q y) where
    at : (b : Bool) → eq_by_cmp text_order q e.0 ≡ b → cond b (Some e.1) (find text_order q es) ≡ Some y
        → (find text_order q es ≡ Some y → IsIn q y es) → IsIn q y (e ∷ es)
    at true tie is later = inl (exact_texts q e.0 ((Equal-is (text_order q e.0)).0 tie), sym (same_Some e.1 y is))
    at false tie is later = inr (later is)

  -- a list in order that has just what a map has lists its entries
  pub entries_are : (n : FinMap text_order X) (es : List (List ℕ × X)) → T (is_sorted text_order es)
      → ((k : List ℕ) (y : X) → get n k ≡ Some y → IsIn k y es)
      → ((k : List ℕ) (y : X) → IsIn k y es → IsSome (get n k)) → entries n ≡ es
  entries_are n es rising within there = ap entries (same_map nat_list_cmp_total exact_texts n (from_sorted es) (λ q. at q (get n q) refl ∙ sym (get-from_sorted text_order es q rising))) ∙ entries-from_sorted text_order es rising where
    none : (q : List ℕ) (found : Option X) → find text_order q es ≡ found → get n q ≡ None → None ≡ find text_order q es
    none q None is gone = sym is
    none q (Some y) is gone = let held : IsSome (get n q) = there q y (find_in es q y is) in let clash : is_some (get n q) ≡ false = ap is_some gone in let never : true ≡ false = sym held ∙ clash in absurd (cc)

    at : (q : List ℕ) (found : Option X) → get n q ≡ found → get n q ≡ find text_order q es
    at q None is = is ∙ none q (find text_order q es) refl is
    at q (Some y) is = is ∙ sym (sorted_found es q y rising (within q y is))

module _ {X Y : Type 0} (text : List ℕ → List ℕ) (h : X → Y) where
  -- the keys at which entries in order stand
  pub keys_moved : (m : FinMap text_order X)
      → ((s t : List ℕ) → IsSome (get m s) → IsSome (get m t) → text_order s t ≡ Less → text_order (text s) (text t) ≡ Less)
      → keys (at_texts text h m) ≡ map text (keys m)
  keys_moved m moves =
      ap (map (λ (e : List ℕ × Y). e.0)) (entries_are (at_texts text h m) (map (λ e. (text e.0, h e.1)) (entries m)) (moved_sorted text h m moves)
      (λ k y is. put_in (map (λ e. (text e.0, h e.1)) (entries m)) k y is)
      (λ k y there. put_there (map (λ e. (text e.0, h e.1)) (entries m)) empty k y there))
      ∙ moved_keys text h (entries m)

  -- the same where one key comes first that stood among the others
  pub keys_behind : (m : FinMap text_order X) (first : List ℕ) (x : X) → get m first ≡ Some x
      → ((s t : List ℕ) → IsSome (get (remove m first) s) → IsSome (get (remove m first) t) → text_order s t ≡ Less → text_order (text s) (text t) ≡ Less)
      → ((t : List ℕ) → IsSome (get (remove m first) t) → text_order (text first) (text t) ≡ Less)
      → keys (at_texts text h m) ≡ text first ∷ map text (keys (remove m first))
  keys_behind m first x is moves front =
      ap (map (λ (e : List ℕ × Y). e.0)) (entries_are (at_texts text h m) whole sorted within there) ∙ ap (λ ks. text first ∷ ks) (moved_keys text h (entries (remove m first)))
    where
      whole : List (List ℕ × Y)
      whole = (text first, h x) ∷ map (λ e. (text e.0, h e.1)) (entries (remove m first))

      below_front : (es : List (List ℕ × X)) → AllByRecursion (λ e. text_order (text first) (text e.0) ≡ Less) es
          → T (below_all text_order (text first) (map (λ e. (text e.0, h e.1)) es))
      below_front [] all = tt
      below_front (e ∷ es) all = both_tests _ _ (is_less text h _ all.0) (below_front es all.1)

      sorted : T (is_sorted text_order ((text first, h x) ∷ map (λ e. (text e.0, h e.1)) (entries (remove m first))))
      sorted = both_tests _ _
          (below_front (entries (remove m first)) (each_entry (λ k y. text_order (text first) (text k) ≡ Less) (remove m first) (λ k y e. front k (ap is_some e))))
          (moved_sorted text h (remove m first) moves)

      removed : (t : List ℕ) (y : X) (b : Bool) → eq_by_cmp text_order t first ≡ b → get m t ≡ Some y
          → IsIn (text t) (h y) ((text first, h x) ∷ map (λ e. (text e.0, h e.1)) (entries (remove m first)))
      removed t y true tie e =
          let same : t ≡ first = exact_texts t first ((Equal-is (text_order t first)).0 tie) in
          let value : y ≡ x = same_Some y x (sym e ∙ ap (get m) same ∙ is) in
          inl (ap text same, ap h value)
      removed t y false tie e =
          inr (in_moved text h (entries (remove m first)) t y (found_in (remove m first) t y (get-remove nat_list_cmp_total m first t ∙ ap (λ b. cond b None (get m t)) tie ∙ e)))

      within : (k : List ℕ) (y : Y) → get (at_texts text h m) k ≡ Some y
          → IsIn k y ((text first, h x) ∷ map (λ e. (text e.0, h e.1)) (entries (remove m first)))
      within k y e =
          let from = moved_found text h m k y e in
          let at = removed from.0 from.1 (eq_by_cmp text_order from.0 first) refl from.2 in
          subst (λ q. IsIn q y ((text first, h x) ∷ map (λ d. (text d.0, h d.1)) (entries (remove m first)))) (sym from.3)
          (subst (λ v. IsIn (text from.0) v ((text first, h x) ∷ map (λ d. (text d.0, h d.1)) (entries (remove m first)))) (sym from.4) at)

      kept : (t : List ℕ) (y : X) → get (remove m first) t ≡ Some y → get m t ≡ Some y
      kept t y e = at (eq_by_cmp text_order t first) (sym (get-remove nat_list_cmp_total m first t) ∙ e) where
        at : (b : Bool) → cond b None (get m t) ≡ Some y → get m t ≡ Some y
        at true e = absurd (none-some y e)
        at false e = e

      there : (k : List ℕ) (y : Y) → IsIn k y ((text first, h x) ∷ map (λ e. (text e.0, h e.1)) (entries (remove m first)))
          → IsSome (get (at_texts text h m) k)
      there k y (inl e) = subst (λ q. IsSome (get (at_texts text h m) q)) (sym e.0) (moved_there text h m first x is)
      there k y (inr later) =
          let from = moved_in text h (entries (remove m first)) k y later in
          let held = in_each (λ e. get (remove m first) e.0 ≡ Some e.1) (entries (remove m first)) from.0 from.1 (itself text h (remove m first)) from.2 in
          subst (λ q. IsSome (get (at_texts text h m) q)) (sym from.3) (moved_there text h m from.0 from.1 (kept from.0 from.1 held))

-- ---- lists

pub filter_all : {A : Type 0} (test : A → Bool) (xs : List A) → AllByRecursion (λ x. test x ≡ true) xs → filter test xs ≡ xs
filter_all test [] all = refl
filter_all test (x ∷ xs) all = ap (λ b. cond b (x ∷ filter test xs) (filter test xs)) all.0 ∙ ap (λ ys. x ∷ ys) (filter_all test xs all.1)
