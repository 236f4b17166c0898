-- The keys of nodes, in the order of bytes, and the records in front of one.
use Rattle.std.proofs.Common.{◌≡◌, ◌≢◌, ℕ, ◌+◌, T, false, cond, List, [], ◌∷◌, ◌++◌, Some, Less, refl, sym, ap, ap₂, subst, ◌∙◌, arith}
use Rattle.std.proofs.lemmas.List.Sums.{sum_by-cons}
use Rattle.std.specs.Cmp.Lexicographic.{nat_list_cmp_total}
use Rattle.std.specs.FinMap.{entries, entries_sorted, find, get, get-from_entries, is_sorted}
use Rattle.std.specs.FinMap.Entries.{below_all}
use Rattle.std.specs.Ordering.{eq_by_cmp}
use Rattle.std.proofs.lemmas.Option.{none-some}
use Rattle.containers.specs.TextMaps.Keyed.{text_order}
use Rattle.flush_journal.specs.Records.{Held, Record}
use Rattle.object_records.specs.Keys.Keys.{node_key}
use Rattle.containers.specs.TextMaps.Fronts.{held_by}
use Rattle.containers.proofs.TextMaps.Fronts.{below_part}
use Rattle.containers.proofs.Passing.{by_bool, contrary}
use Rattle.register.specs.Installed.Registers.{count_nodes, is_node_key}
use Rattle.containers.proofs.Plain.{halves}
use Rattle.containers.proofs.TextMaps.TextOrders.{same_key, never_less}

pub key_path : (a b : List ℕ) → node_key a ≡ node_key b → a ≡ b
key_path a b e = cc

pub key_order : (a b : List ℕ) → text_order (node_key a) (node_key b) ≡ text_order a b
key_order a b = refl

heads : (x y : Record) (xs ys : List Record) → x ∷ xs ≡ y ∷ ys → x ≡ y
heads x y xs ys e = cc

tails : (x y : Record) (xs ys : List Record) → x ∷ xs ≡ y ∷ ys → xs ≡ ys
tails x y xs ys e = cc

-- a key that isn't a node's
pub other_kind : (path key : List ℕ) → is_node_key key ≡ false → node_key path ≢ key
other_kind path key isnt same = contrary (is_node_key key) ⊥ (ap is_node_key (sym same)) isnt

-- ---- counting

pub count_more : (front : List Record) (e : Record) → count_nodes (front ++ e ∷ []) ≡ count_nodes front + cond (is_node_key e.0) 1 0
count_more [] e = sum_by-cons (λ x. cond (is_node_key x.0) 1 0) e [] ∙ plus_none (cond (is_node_key e.0) 1 0) where
  plus_none : (n : ℕ) → n + 0 ≡ 0 + n
  plus_none n = omega arith
count_more (x ∷ xs) e =
    sum_by-cons (λ y. cond (is_node_key y.0) 1 0) x (xs ++ e ∷ []) ∙ ap (λ n. cond (is_node_key x.0) 1 0 + n) (count_more xs e)
    ∙ shift (cond (is_node_key x.0) 1 0) (count_nodes xs) (cond (is_node_key e.0) 1 0)
    ∙ ap (λ n. n + cond (is_node_key e.0) 1 0) (sym (sum_by-cons (λ y. cond (is_node_key y.0) 1 0) x xs)) where
      shift : (a b c : ℕ) → a + (b + c) ≡ (a + b) + c
      shift a b c = omega arith

-- ---- records in front of one

module _ (held : Held) (front rest : List Record) (e : Record) (split : entries held ≡ front ++ e ∷ rest) where
  sorted_all : T (is_sorted text_order (front ++ e ∷ rest))
  sorted_all = subst (λ (xs : List Record). T (is_sorted text_order xs)) split (entries_sorted held)

  -- a record in front has a lesser key
  pub front_less : (q body : List ℕ) → get (held_by front) q ≡ Some body → text_order q e.0 ≡ Less
  front_less q body is = at front sorted_all (sym (get-from_entries nat_list_cmp_total front q) ∙ is) where
    at : (xs : List Record) → T (is_sorted text_order (xs ++ e ∷ rest)) → find text_order q xs ≡ Some body → text_order q e.0 ≡ Less
    at [] s f = absurd (none-some body f)
    at (x ∷ xs) s f = by_bool (eq_by_cmp text_order q x.0) (text_order q e.0 ≡ Less)
        (λ same. ap (λ k. text_order k e.0) (same_key q x.0 same) ∙ below_part x.0 xs e rest (halves _ _ s).0)
        (λ other. at xs (halves (below_all text_order x.0 (xs ++ e ∷ rest)) _ s).1 (sym (ap (λ b. cond b (Some x.1) (find text_order q xs)) other) ∙ f))

-- the records of a map are split at a key in one way
pub one_split : (xs ys us vs : List Record) (k a b : List ℕ) → T (is_sorted text_order (xs ++ (k, a) ∷ us)) → xs ++ (k, a) ∷ us ≡ ys ++ (k, b) ∷ vs → xs ≡ ys
one_split [] [] us vs k a b s e = refl
one_split [] (y ∷ ys) us vs k a b s e =
    let same : (k, a) ≡ y = heads (k, a) y us (ys ++ (k, b) ∷ vs) e in
    let sorted : T (is_sorted text_order ((y ∷ ys) ++ (k, b) ∷ vs)) = subst (λ (zs : List Record). T (is_sorted text_order zs)) e s in
    absurd (never_less k (ap (λ (r : Record). text_order r.0 k) same ∙ below_part y.0 ys (k, b) vs (halves _ _ sorted).0))
one_split (x ∷ xs) [] us vs k a b s e =
    let same : x ≡ (k, b) = heads x (k, b) (xs ++ (k, a) ∷ us) vs e in
    absurd (never_less k (ap (λ (r : Record). text_order r.0 k) (sym same) ∙ below_part x.0 xs (k, a) us (halves _ _ s).0))
one_split (x ∷ xs) (y ∷ ys) us vs k a b s e =
    ap₂ (λ (z : Record) zs. z ∷ zs) (heads x y _ _ e) (one_split xs ys us vs k a b (halves (below_all text_order x.0 (xs ++ (k, a) ∷ us)) _ s).1 (tails x y _ _ e))
