-- What holds of the links of a group after a change.
use Rattle.std.proofs.Common.{◌≡◌, ◌<◌, ◌≤◌, ℕ, ◌&&◌, List, Bool, true, false, cond, length, nat_le, nat_lt, Option, Some, None, Result, Ok, Err, OnOk, OnErr, OnErr, refl, sym, ap, subst, ◌∙◌, arith}
use Rattle.std.proofs.lemmas.Bool.{le-leb, ltb-true, and_parts}
use Rattle.std.specs.Cmp.{Equal-is}
use Rattle.std.specs.Cmp.Lexicographic.{nat_list_cmp_total}
use Rattle.std.specs.FinMap.{contains_key, empty, get, insert, len, remove, get-empty, get-insert, get-remove, len-empty, same_map}
use Rattle.std.specs.List.{list_all}
use Rattle.std.specs.Ordering.{eq_by_cmp}
use Rattle.containers.specs.TextMaps.Keyed.{text_order}
use Rattle.containers.proofs.TextMaps.KeyedMaps.{exact_texts}
use Rattle.object_ids.specs.Names.{is_name, is_name_byte}
use Rattle.object_ids.specs.Puts.{Blames, put_fault}
use Rattle.object_ids.specs.declared.puts.PutFault.{PutFault}
use Rattle.object_ids.specs.declared.puts.PutFault.TheVariants.{Taken, Limit}
use Rattle.object_ids.proofs.PutLemmas.{insert_most, remove_most}
use Rattle.groups_links.specs.GroupLinks.{AreLinks, most_links, Titles}
use Rattle.groups_links.specs.Targets.{IsSoundLink}
use Rattle.groups_links.specs.Titles.{IsGoodTitle, most_of_title}
use Rattle.groups_links.specs.declared.target.LinkTo.{LinkTo}

-- ---- titles

-- a name of at most so many bytes
pub shorter_name : (most : ℕ) (text : List ℕ) → is_name (length text) text ≡ true → length text ≤ most → is_name most text ≡ true
shorter_name most text name short =
    let all = and_parts (nat_lt 0 (length text) && nat_le (length text) (length text)) (list_all is_name_byte text) name in
    let some = and_parts (nat_lt 0 (length text)) (nat_le (length text) (length text)) all.0 in
    rw (some.0, le-leb (length text) most short, all.1) refl

-- ---- no links

none_linked : (k : List ℕ) (link : LinkTo) → get (empty {X = LinkTo} {R = text_order}) k ≡ Some link → ⊥
none_linked k link e = let both : None ≡ Some link = sym (get-empty text_order k) ∙ e in absurd (cc)

pub no_links : AreLinks empty
no_links = record {
  few = rw (len-empty text_order LinkTo) (omega arith);
  titled = λ k link e. absurd (none_linked k link e);
  named = λ k link e. absurd (none_linked k link e);
  sound = λ k link e. absurd (none_linked k link e);
}

-- ---- one link more

module _ (P : List ℕ → LinkTo → Type 0) where
  here_or_before : (b : Bool) (q k : List ℕ) (v : LinkTo) (w : Option LinkTo) (link : LinkTo) → (b ≡ true → q ≡ k) → P k v → (w ≡ Some link → P q link)
      → cond b (Some v) w ≡ Some link → P q link
  here_or_before true q k v w link same here before e =
      let is : Some v ≡ Some link = e in
      let at : P k link = subst (P k) (let it : v ≡ link = cc in it) here in
      subst (λ t. P t link) (sym (same refl)) at
  here_or_before false q k v w link same here before e = before e

  -- what holds of the new link and of all before it
  insert_all : (m : Titles) (k : List ℕ) (v : LinkTo) → P k v → ((q : List ℕ) (link : LinkTo) → get m q ≡ Some link → P q link)
      → (q : List ℕ) (link : LinkTo) → get (insert m k v) q ≡ Some link → P q link
  insert_all m k v here before q link e =
      here_or_before (eq_by_cmp text_order q k) q k v (get m q) link (λ b. exact_texts q k ((Equal-is (text_order q k)).0 b)) here (before q link)
      (sym (get-insert nat_list_cmp_total m k v q) ∙ e)

  still_there : (b : Bool) (w : Option LinkTo) (link : LinkTo) → cond b None w ≡ Some link → w ≡ Some link
  still_there true w link e = let none : None ≡ Some link = e in absurd (cc)
  still_there false w link e = e

  remove_all : (m : Titles) (k : List ℕ) → ((q : List ℕ) (link : LinkTo) → get m q ≡ Some link → P q link)
      → (q : List ℕ) (link : LinkTo) → get (remove m k) q ≡ Some link → P q link
  remove_all m k before q link e = before q link (still_there (eq_by_cmp text_order q k) (get m q) link (sym (get-remove nat_list_cmp_total m k q) ∙ e))

pub insert_links : (m : Titles) (k : List ℕ) (v : LinkTo) → len m < most_links → IsGoodTitle k → is_name most_of_title k ≡ true → IsSoundLink v → AreLinks m → AreLinks (insert m k v)
insert_links m k v few title name sound held = record {
  few = insert_most most_links m k v few;
  titled = insert_all (λ q _. IsGoodTitle q) m k v title held.titled;
  named = insert_all (λ q _. is_name most_of_title q ≡ true) m k v name held.named;
  sound = insert_all (λ _ link. IsSoundLink link) m k v sound held.sound;
}

pub remove_links : (m : Titles) (k : List ℕ) → AreLinks m → AreLinks (remove m k)
remove_links m k held = record {
  few = remove_most most_links m k held.few;
  titled = remove_all (λ q _. IsGoodTitle q) m k held.titled;
  named = remove_all (λ q _. is_name most_of_title q ≡ true) m k held.named;
  sound = remove_all (λ _ link. IsSoundLink link) m k held.sound;
}

-- where nothing is at fault there is room
pub room_left : (there few : Bool) → cond there (Some Taken) (cond few None (Some Limit)) ≡ None → few ≡ true
room_left true few e = absurd (cc)
room_left false true e = refl
room_left false false e = absurd (cc)

-- a put that was done or refused
pub put_links : (r : Result (Unit {0}) PutFault) (old new : Titles) (k : List ℕ) (v : LinkTo) → IsGoodTitle k → is_name most_of_title k ≡ true → IsSoundLink v → AreLinks old
    → OnOk r (new ≡ insert old k v) → OnErr r (new ≡ old) → Blames r (put_fault most_links old k) → AreLinks new
put_links (Ok x) old new k v title name sound held ok err why =
    let few = ltb-true (len old) most_links (room_left (contains_key old k) (nat_lt (len old) most_links) why) in
    subst AreLinks (sym ok) (insert_links old k v few title name sound held)
put_links (Err e) old new k v title name sound held ok err why = subst AreLinks (sym err) held

-- ---- a title that is not there

gone : (b : Bool) (w : Option LinkTo) → (b ≡ true → w ≡ None) → cond b None w ≡ w
gone true w none = sym (none refl)
gone false w none = refl

pub remove_none : (m : Titles) (k : List ℕ) → get m k ≡ None → remove m k ≡ m
remove_none m k none = same_map nat_list_cmp_total exact_texts (remove m k) m (λ q.
    get-remove nat_list_cmp_total m k q
    ∙ gone (eq_by_cmp text_order q k) (get m q) (λ b. ap (get m) (exact_texts q k ((Equal-is (text_order q k)).0 b)) ∙ none))
