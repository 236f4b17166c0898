-- Records in the order of their keys: those in front of one, and what they say.
use Rattle.std.proofs.Common.{◌≡◌, ◌≢◌, ℕ, T, Bool, true, false, cond, List, [], ◌∷◌, ◌++◌, Some, None, Less, is_eq, refl, sym, ap, subst, ◌∙◌, append_assoc, append-nil}
use Rattle.std.specs.Cmp.Lexicographic.{nat_list_cmp_total}
use Rattle.std.specs.FinMap.{FinMap, entries, entries_sorted, find, get, get-entries, get-from_entries, is_sorted, same_map}
use Rattle.std.specs.FinMap.Entries.{below_all, find-append}
use Rattle.std.specs.Ordering.{eq_by_cmp, is_lt}
use Rattle.std.proofs.lemmas.Option.{none-some}
use Rattle.containers.specs.TextMaps.Keyed.{text_order}
use Rattle.containers.proofs.TextMaps.KeyedMaps.{exact_texts}
use Rattle.containers.specs.TextMaps.Fronts.{held_by}
use Rattle.containers.proofs.Plain.{less, halves}
use Rattle.containers.proofs.TextMaps.TextOrders.{greater, unlike, itself}

abbrev Record : Type 0
Record = List ℕ × List ℕ

-- ---- sorted records

pub below_part : (q : List ℕ) (xs : List Record) (e : Record) (ys : List Record) → T (below_all text_order q (xs ++ e ∷ ys)) → text_order q e.0 ≡ Less
below_part q [] e ys h = less _ (halves _ _ h).0
below_part q (x ∷ xs) e ys h = below_part q xs e ys (halves (is_lt (text_order q x.0)) _ h).1

-- no record in front has the key of a later one
fresh : (front : List Record) (e : Record) (rest : List Record) → T (is_sorted text_order (front ++ e ∷ rest)) → find text_order e.0 front ≡ None
fresh [] e rest h = refl
fresh (x ∷ xs) e rest h =
    ap (λ b. cond b (Some x.1) (find text_order e.0 xs)) (greater x.0 e.0 (below_part x.0 xs e rest (halves _ _ h).0)) ∙ fresh xs e rest (halves (below_all text_order x.0 (xs ++ e ∷ rest)) _ h).1

sorted_back : (front rest : List Record) → T (is_sorted text_order (front ++ rest)) → T (is_sorted text_order rest)
sorted_back [] rest h = h
sorted_back (x ∷ xs) rest h = sorted_back xs rest (halves (below_all text_order x.0 (xs ++ rest)) _ h).1

missed : (q k : List ℕ) (rest : List Record) → text_order q k ≡ Less → T (below_all text_order k rest) → find text_order q rest ≡ None
missed q k [] e h = refl
missed q k (x ∷ xs) e h =
    let low : text_order q x.0 ≡ Less = nat_list_cmp_total.trans q k x.0 e (less _ (halves _ _ h).0) in
    ap (λ o. cond (is_eq o) (Some x.1) (find text_order q xs)) low ∙ missed q k xs e (halves (is_lt (text_order k x.0)) _ h).1

-- what is found, and not behind, is found in front
in_front : (q : List ℕ) (front rest : List Record) → find text_order q rest ≡ None → find text_order q (front ++ rest) ≡ find text_order q front
in_front q [] rest none = none
in_front q (x ∷ xs) rest none = ap (cond (eq_by_cmp text_order q x.0) (Some x.1)) (in_front q xs rest none)

behind : (q : List ℕ) (front rest : List Record) → find text_order q front ≡ None → find text_order q (front ++ rest) ≡ find text_order q rest
behind q [] rest none = refl
behind q (x ∷ xs) rest none = at (eq_by_cmp text_order q x.0) none (behind q xs rest) where
  at : (b : Bool) → cond b (Some x.1) (find text_order q xs) ≡ None → (find text_order q xs ≡ None → find text_order q (xs ++ rest) ≡ find text_order q rest) → cond b (Some x.1) (find text_order q (xs ++ rest)) ≡ find text_order q rest
  at true is later = absurd (none-some x.1 (sym is))
  at false is later = later is

-- ---- what records in front say

pub nothing_held : (q : List ℕ) → get (held_by []) q ≡ None
nothing_held q = get-from_entries nat_list_cmp_total [] q

module _ (held : FinMap text_order (List ℕ)) (front rest : List Record) (e : Record) (split : entries held ≡ front ++ e ∷ rest) where
  sorted : T (is_sorted text_order (front ++ e ∷ rest))
  sorted = subst (λ (xs : List Record). T (is_sorted text_order xs)) split (entries_sorted held)

  there : (q : List ℕ) → get held q ≡ find text_order q (front ++ e ∷ rest)
  there q = get-entries held q ∙ ap (find text_order q) split

  none : find text_order e.0 front ≡ None
  none = fresh front e rest sorted

  -- the record has a new key
  pub new_key : get (held_by front) e.0 ≡ None
  new_key = get-from_entries nat_list_cmp_total front e.0 ∙ none

  pub held_here : get held e.0 ≡ Some e.1
  held_here = there e.0 ∙ behind e.0 front (e ∷ rest) none ∙ ap (λ b. cond b (Some e.1) (find text_order e.0 rest)) (itself e.0)

  -- those in front say all of lesser keys
  pub held_before : (q : List ℕ) → text_order q e.0 ≡ Less → get held q ≡ get (held_by front) q
  held_before q low = there q ∙ in_front q front (e ∷ rest) skipped ∙ sym (get-from_entries nat_list_cmp_total front q) where
    skipped : find text_order q (e ∷ rest) ≡ None
    skipped = ap (λ o. cond (is_eq o) (Some e.1) (find text_order q rest)) low ∙ missed q e.0 rest low (halves _ _ (sorted_back front (e ∷ rest) sorted)).0

  said : (q : List ℕ) → get (held_by (front ++ e ∷ [])) q ≡ cond (eq_by_cmp text_order q e.0) (Some e.1) (get (held_by front) q)
  said q = get-from_entries nat_list_cmp_total (front ++ e ∷ []) q ∙ find-append text_order nat_list_cmp_total front e.0 e.1 q none
      ∙ ap (cond (eq_by_cmp text_order q e.0) (Some e.1)) (sym (get-from_entries nat_list_cmp_total front q))

  pub said_here : get (held_by (front ++ e ∷ [])) e.0 ≡ Some e.1
  said_here = said e.0 ∙ ap (λ b. cond b (Some e.1) (get (held_by front) e.0)) (itself e.0)

  pub said_else : (q : List ℕ) → q ≢ e.0 → get (held_by (front ++ e ∷ [])) q ≡ get (held_by front) q
  said_else q other = said q ∙ ap (λ b. cond b (Some e.1) (get (held_by front) q)) (unlike q e.0 other)

  pub split_more : entries held ≡ (front ++ e ∷ []) ++ rest
  split_more = split ∙ sym (append_assoc front (e ∷ []) rest)

-- all of them say what is held
pub all_held : (held : FinMap text_order (List ℕ)) (front rest : List Record) → entries held ≡ front ++ rest → rest ≡ [] → held_by front ≡ held
all_held held front rest split last = same_map nat_list_cmp_total exact_texts (held_by front) held (λ q. get-from_entries nat_list_cmp_total front q ∙ sym (get-entries held q ∙ ap (find text_order q) (split ∙ ap (λ xs. front ++ xs) last ∙ append-nil front)))
