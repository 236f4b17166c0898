-- Chunks that were added, and taken out again.
use Rattle.std.proofs.Common.{◌≡◌, ℕ, ◌+◌, ◌<◌, ◌≤◌, ◌||◌, Bool, true, false, cond, is_some, bytes_eq, List, [], ◌∷◌, ◌++◌, length, drop, get_or, Option, None, inl, inr, refl, sym, ap, ◌∙◌}
use Rattle.std.specs.List.{list_any}
use Rattle.std.proofs.lemmas.Bool.{cases_Bool}
use Rattle.std.proofs.lemmas.List.{drop_more, drop_all}
use Rattle.std.proofs.lemmas.Slice.Eq.{bytes_eq-Decides}
use Rattle.chunk_store.specs.Buffers.{IsUndoneBy, held_but}
use Rattle.chunk_store.specs.Cells.{find_in, has, put}
use Rattle.std.specs.BTreeMap.{get_by}
use Rattle.containers.specs.ShortLists.Order.{list_order}
use Rattle.chunk_store.proofs.KeyLemmas.{find-get}
use Rattle.chunk_store.specs.declared.buffers.Held.{Held}
use Rattle.chunk_store.proofs.BufferLemmas.{Chunks, same_or}

-- a map that doesn't contain the key
pub unheld : (m : Chunks) (k : List ℕ) (b : Bool) → b ≡ is_some (get_by (list_order k) m) → b ≡ false → has m k ≡ false
unheld m k b is none = sym (ap is_some (find-get m k)) ∙ sym is ∙ none

any_last : (p : List ℕ → Bool) (xs : List (List ℕ)) (k : List ℕ) → list_any p (xs ++ k ∷ []) ≡ (list_any p xs || p k)
any_last p [] k = or_false (p k)
  where
    or_false : (b : Bool) → (b || false) ≡ b
    or_false true = refl
    or_false false = refl
any_last p (x ∷ xs) k = ap (λ b. p x || b) (any_last p xs k) ∙ or_both (p x) (list_any p xs) (p k)
  where
    or_both : (a b c : Bool) → (a || (b || c)) ≡ ((a || b) || c)
    or_both true b c = refl
    or_both false b c = refl

none_either : (b : Bool) (o : Option Held) → o ≡ None → cond b None o ≡ None
none_either true o e = refl
none_either false o e = e

or_here : (a b : Bool) (o : Option Held) → b ≡ true → cond (a || b) None o ≡ None
or_here true b o e = refl
or_here false b o e = ap (λ c. cond c None o) e

or_else : (a b : Bool) (o : Option Held) → b ≡ false → cond (a || b) None o ≡ cond a None o
or_else true b o e = refl
or_else false b o e = ap (λ c. cond c None o) e

pub apart_keys : (i k : List ℕ) → (i ≡ k → ⊥) → bytes_eq i k ≡ false
apart_keys i k apart = elim (cases_Bool (bytes_eq i k)) [
  | inl same ↦ absurd (apart ((bytes_eq-Decides i k).0 same))
  | inr other ↦ other
]

-- one more chunk was added, or none
pub undone_more : (before m n : Chunks) (added : List (List ℕ)) (k : List ℕ) → find_in m k ≡ None → ((i : List ℕ) → (i ≡ k → ⊥) → find_in n i ≡ find_in m i) → IsUndoneBy added before m → IsUndoneBy (added ++ k ∷ []) before n
undone_more before m n added k none others undone = λ i.
    ap (λ b. cond b None (find_in n i)) (any_last (bytes_eq i) added k)
    ∙ same_or i k (cond (list_any (bytes_eq i) added || bytes_eq i k) None (find_in n i) ≡ find_in before i)
    (λ e.
    or_here (list_any (bytes_eq i) added) (bytes_eq i k) (find_in n i) ((bytes_eq-Decides i k).1 e)
    ∙ sym (none_either (list_any (bytes_eq i) added) (find_in m i) (ap (find_in m) e ∙ none)) ∙ undone i)
    (λ apart.
    or_else (list_any (bytes_eq i) added) (bytes_eq i k) (find_in n i) (apart_keys i k apart)
    ∙ ap (cond (list_any (bytes_eq i) added) None) (others i apart) ∙ undone i)

-- ---- chunks are taken out one by one

none_twice : (a b : Bool) (o : Option Held) → cond b None (cond a None o) ≡ cond (a || b) None o
none_twice true true o = refl
none_twice true false o = refl
none_twice false b o = refl

swapped : (k i : List ℕ) → bytes_eq k i ≡ bytes_eq i k
swapped k i = same_or i k (bytes_eq k i ≡ bytes_eq i k)
    (λ e. (bytes_eq-Decides k i).1 (sym e) ∙ sym ((bytes_eq-Decides i k).1 e))
    (λ apart. apart_keys k i (λ e. apart (sym e)) ∙ sym (apart_keys i k apart))

pub removed_next : (m n : Chunks) (ks : List (List ℕ)) (j : ℕ) (k : List ℕ) → j < length ks → get_or ks j [] ≡ k → ((i : List ℕ) → find_in n i ≡ put (find_in m) k None i)
    → (i : List ℕ) (whole : Option Held) → held_but (drop j ks) m i ≡ whole → held_but (drop (j + 1) ks) n i ≡ whole
removed_next m n ks j k low here each i whole done =
    let rest = list_any (bytes_eq i) (drop (j + 1) ks) in
    ap (cond rest None) (each i)
    ∙ ap (λ b. cond rest None (cond b None (find_in m i))) (swapped k i)
    ∙ none_twice (bytes_eq i k) rest (find_in m i)
    ∙ ap (λ x. cond (bytes_eq i x || list_any (bytes_eq i) (drop (j + 1) ks)) None (find_in m i)) (sym here)
    ∙ ap (λ l. cond (list_any (bytes_eq i) l) None (find_in m i)) (sym (drop_more ks j [] low)) ∙ done

pub removed_end : (m : Chunks) (ks : List (List ℕ)) (j : ℕ) (i : List ℕ) (whole : Option Held) → length ks ≤ j → held_but (drop j ks) m i ≡ whole → find_in m i ≡ whole
removed_end m ks j i whole past done = ap (λ l. cond (list_any (bytes_eq i) l) None (find_in m i)) (sym (drop_all j ks past)) ∙ done
