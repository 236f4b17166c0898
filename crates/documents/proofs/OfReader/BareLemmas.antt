-- The bare tree of a document, member by member, and the values that are kept beside it.
use Rattle.std.proofs.Common.{◌≡◌, ◌≢◌, ℕ, Bool, true, false, cond, List, Option, Some, Ordering, Less, Equal, Greater, refl, sym, ap, subst, ◌∙◌, if◌then◌else◌}
use Rattle.std.specs.Prelude.{codes}
use Rattle.std.specs.Cmp.Lexicographic.{nat_list_cmp_total, slice_cmp}
use Rattle.std.specs.FinMap as map
use Rattle.std.specs.FinMap.{get-insert}
use Rattle.std.specs.Ordering.{eq_by_cmp, match_ordering, nat_cmp}
use Rattle.std.specs.Str.{bytes_eq}
use Rattle.std.proofs.lemmas.Slice.Eq.{bytes_eq-Decides}
use Rattle.serde_json.specs.Data.{Data, Members, no_members, member, put}
use Rattle.serde_json.specs.Find.{get, get_member}
use Rattle.serde_json.proofs.Views.{get_member-put, get_member-put_other}
use Rattle.containers.specs.TextMaps.Keyed.{text_order}
use Rattle.containers.proofs.TextMaps.KeyedMaps.{exact_texts}
use Rattle.containers.proofs.TextMaps.TextOrders.{itself, not_itself, turned, unlike}
use Rattle.documents.specs.Reader.Bare.{AreKept, AreValuesAt, AreValuesBy, Values, each_changed}

-- ---- trees

-- a member that is put is changed as the others
pub changed_put : (f : List ℕ → Data → Data) (k : List ℕ) (d : Data) (ms : Members) → each_changed f (put k d ms) ≡ put k (f k d) (each_changed f ms)
changed_put f k d no_members = refl
changed_put f k d (member l e ms) = at (slice_cmp nat_cmp k l) refl (changed_put f k d ms) where
  at : (o : Ordering) → slice_cmp nat_cmp k l ≡ o → each_changed f (put k d ms) ≡ put k (f k d) (each_changed f ms)
      → each_changed f (match_ordering o (member k d (member l e ms)) (member l d ms) (member l e (put k d ms)))
      ≡ match_ordering o (member k (f k d) (member l (f l e) (each_changed f ms))) (member l (f k d) (each_changed f ms)) (member l (f l e) (put k (f k d) (each_changed f ms)))
  at Less is rest = refl
  at Equal is rest = ap (λ x. member l (f x d) (each_changed f ms)) (sym (exact_texts k l is))
  at Greater is rest = ap (member l (f l e)) rest

pub tree_put : (f : List ℕ → Data → Data) (k : List ℕ) (d : Data) (before old new : Members) → old ≡ each_changed f before → new ≡ put k (f k d) old → new ≡ each_changed f (put k d before)
tree_put f k d before old new is e = e ∙ ap (put k (f k d)) is ∙ sym (changed_put f k d before)

-- ---- the value of a dataset

found_at : (k key : List ℕ) (d : Data) (before : Members) (b : Bool) → bytes_eq key k ≡ b → get_member k (put key d before) ≡ (if b then Some d else get_member k before)
found_at k key d before true e = ap (λ x. get_member k (put x d before)) ((bytes_eq-Decides key k).0 e) ∙ get_member-put k d before
found_at k key d before false e = get_member-put_other k key d before (λ same. let equal : bytes_eq key k ≡ true = (bytes_eq-Decides key k).1 (sym same) in let never : true ≡ false = sym equal ∙ e in absurd (cc))

pub value_put : (key : List ℕ) (d : Data) (before : Members) (old new : Option Data) → old ≡ get_member (codes "value") before → new ≡ (if bytes_eq key (codes "value") then Some d else old) → new ≡ get_member (codes "value") (put key d before)
value_put key d before old new is e = e ∙ ap (λ o. if bytes_eq key (codes "value") then Some d else o) is ∙ sym (found_at (codes "value") key d before _ refl)

-- ---- the values of the datasets

abbrev pub Above : List ℕ → Members → Type 0
Above k no_members = Unit {0}
Above k (member l d ms) = (text_order k l ≡ Less) × Above k ms

-- each key once, in order
abbrev pub IsRising : Members → Type 0
IsRising no_members = Unit {0}
IsRising (member k d ms) = Above k ms × IsRising ms

above_weaker : (k l : List ℕ) (ms : Members) → text_order k l ≡ Less → Above l ms → Above k ms
above_weaker k l no_members lt h = tt
above_weaker k l (member m d ms) lt h = (nat_list_cmp_total.trans k l m lt h.0, above_weaker k l ms lt h.1)

above_put : (x k : List ℕ) (d : Data) (ms : Members) → text_order x k ≡ Less → Above x ms → Above x (put k d ms)
above_put x k d no_members lt h = (lt, tt)
above_put x k d (member l e ms) lt h = at (text_order k l) (above_put x k d ms lt h.1) where
  at : (o : Ordering) → Above x (put k d ms) → Above x (match_ordering o (member k d (member l e ms)) (member l d ms) (member l e (put k d ms)))
  at Less rest = (lt, h)
  at Equal rest = h
  at Greater rest = (h.0, rest)

pub rising_put : (k : List ℕ) (d : Data) (ms : Members) → IsRising ms → IsRising (put k d ms)
rising_put k d no_members h = (tt, tt)
rising_put k d (member l e ms) h = at (text_order k l) refl (rising_put k d ms h.1) where
  at : (o : Ordering) → text_order k l ≡ o → IsRising (put k d ms) → IsRising (match_ordering o (member k d (member l e ms)) (member l d ms) (member l e (put k d ms)))
  at Less is rest = ((is, above_weaker k l ms is h.0), h)
  at Equal is rest = h
  at Greater is rest = (above_put l k d ms (turned k l is) h.0, rest)

stays : (values : Values) (k q : List ℕ) (v : Option Data) → q ≢ k → map.get (map.insert values k v) q ≡ map.get values q
stays values k q v other = get-insert nat_list_cmp_total values k v q ∙ ap (λ b. cond b (Some v) (map.get values q)) (unlike q k other)

comes : (values : Values) (k q : List ℕ) (v : Option Data) → q ≡ k → map.get (map.insert values k v) q ≡ Some v
comes values k q v same = get-insert nat_list_cmp_total values k v q ∙ ap (λ b. cond b (Some v) (map.get values q)) (ap (λ x. eq_by_cmp text_order x k) same ∙ itself k)

-- members behind a key keep their values where one is put at the key
above_kept : (values : Values) (k : List ℕ) (v : Option Data) (ms : Members) → Above k ms → AreKept values ms → AreKept (map.insert values k v) ms
above_kept values k v no_members above h = tt
above_kept values k v (member l e ms) above h = (stays values k l v (not_itself k l above.0) ∙ h.0, above_kept values k v ms above.1 h.1)

pub kept_put : (values : Values) (k : List ℕ) (d : Data) (ms : Members) → IsRising ms → AreKept values ms → AreKept (map.insert values k (get (codes "value") d)) (put k d ms)
kept_put values k d no_members rising h = (comes values k k _ refl, tt)
kept_put values k d (member l e ms) rising h = at (text_order k l) refl (kept_put values k d ms rising.1 h.1) where
  at : (o : Ordering) → text_order k l ≡ o → AreKept (map.insert values k (get (codes "value") d)) (put k d ms)
      → AreKept (map.insert values k (get (codes "value") d)) (match_ordering o (member k d (member l e ms)) (member l d ms) (member l e (put k d ms)))
  at Less is rest = (comes values k k _ refl, above_kept values k _ (member l e ms) (is, above_weaker k l ms is rising.0) h)
  at Equal is rest =
      let same = exact_texts k l is in
      (comes values k l _ (sym same), above_kept values k _ ms (subst (λ x. Above x ms) (sym same) rising.0) h.1)
  at Greater is rest = (stays values k l _ (λ same. not_itself l k (turned k l is) (sym same)) ∙ h.0, rest)

pub kept_more : (values now : Values) (k : List ℕ) (d : Data) (v : Option Data) (ms : Members) → IsRising ms → AreKept values ms → v ≡ get (codes "value") d → now ≡ map.insert values k v → AreKept now (put k d ms)
kept_more values now k d v ms rising h is e = subst (λ (m : Values). AreKept m (put k d ms)) (sym (e ∙ ap (λ x. map.insert values k x) is)) (kept_put values k d ms rising h)

-- ---- the datasets of a document

by_key : (b : Bool) (d : Data) (before : Members) (old new : Values) → AreValuesBy b d old new → AreValuesAt old (get_member (codes "datasets") before) → AreValuesAt new (if b then Some d else get_member (codes "datasets") before)
by_key true d before old new h old_are = h
by_key false d before old new h old_are = subst (λ (m : Values). AreValuesAt m (get_member (codes "datasets") before)) (sym h) old_are

pub values_put : (key : List ℕ) (d : Data) (before : Members) (old new : Values) → AreValuesBy (bytes_eq key (codes "datasets")) d old new → AreValuesAt old (get_member (codes "datasets") before) → AreValuesAt new (get_member (codes "datasets") (put key d before))
values_put key d before old new h are =
    subst (λ (o : Option Data). AreValuesAt new o) (sym (found_at (codes "datasets") key d before (bytes_eq key (codes "datasets")) refl)) (by_key (bytes_eq key (codes "datasets")) d before old new h are)
