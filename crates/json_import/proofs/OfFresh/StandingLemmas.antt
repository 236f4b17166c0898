-- Where the members of a list stand: each has the id behind the one before, and its text stands for that id.
use Rattle.std.proofs.Common.{◌≡◌, ℕ, ◌+◌, ◌≤◌, List, [], ◌∷◌, ◌++◌, Bool, true, false, T, map, cond, Some, None, Equal, Less, is_eq, refl, sym, ap, subst, ◌∙◌, arith}
use Rattle.std.specs.Cmp.{Equal-is}
use Rattle.std.specs.Cmp.Lexicographic.{nat_list_cmp_total}
use Rattle.std.specs.List.{AllByRecursion}
use Rattle.std.specs.Ordering.{eq_by_cmp}
use Rattle.std.specs.FinMap.{FinMap, entries, entries_sorted, find, get, get-entries, get-insert, insert, is_sorted}
use Rattle.std.specs.FinMap.Entries.{below_all}
use Rattle.std.proofs.lemmas.Cmp.{tied_itself}
use Rattle.containers.specs.TextMaps.Keyed.{text_order}
use Rattle.containers.proofs.TextMaps.KeyedMaps.{exact_texts}
use Rattle.object_ids.specs.IdOrder.{id_order}
use Rattle.object_ids.specs.IdValues.{Id}
use Rattle.object_ids.specs.declared.ids.Kind.{Kind}
use Rattle.object_ids.proofs.IdOrders.{id_order_once, id_order_total}
use Rattle.json_import.specs.Fresh.Names.{Names, behind, name_each, name_next, numbered_by, with_each}
use Rattle.json_import.specs.declared.fresh.names.Naming.{Naming}
use Rattle.containers.proofs.Plain.{halves, less}

-- ---- one entry of a map

module _ {X : Type 0} where
  pub text_put : (m : FinMap text_order X) (k : List ℕ) (x : X) → get (insert m k x) k ≡ Some x
  text_put m k x = get-insert nat_list_cmp_total m k x k ∙ ap (λ r. cond (is_eq r) (Some x) (get m k)) (tied_itself nat_list_cmp_total k)

  text_other : (m : FinMap text_order X) (k : List ℕ) (x : X) (q : List ℕ) → (q ≡ k → ⊥) → get (insert m k x) q ≡ get m q
  text_other m k x q apart = get-insert nat_list_cmp_total m k x q ∙ at (eq_by_cmp text_order q k) refl where
    at : (b : Bool) → eq_by_cmp text_order q k ≡ b → cond b (Some x) (get m q) ≡ get m q
    at true e = absurd (apart (exact_texts q k ((Equal-is (text_order q k)).0 e)))
    at false e = refl

  pub id_put : (m : FinMap id_order X) (k : Id) (x : X) → get (insert m k x) k ≡ Some x
  id_put m k x = get-insert id_order_total m k x k ∙ ap (λ r. cond (is_eq r) (Some x) (get m k)) (tied_itself id_order_total k)

  pub id_other : (m : FinMap id_order X) (k : Id) (x : X) (q : Id) → (q ≡ k → ⊥) → get (insert m k x) q ≡ get m q
  id_other m k x q apart = get-insert id_order_total m k x q ∙ at (eq_by_cmp id_order q k) refl where
    at : (b : Bool) → eq_by_cmp id_order q k ≡ b → cond b (Some x) (get m q) ≡ get m q
    at true e = absurd (apart (id_order_once q k ((Equal-is (id_order q k)).0 e)))
    at false e = refl

-- ---- texts that stand once

tied_below : (text k : List ℕ) → text_order text k ≡ Less → text ≡ k → ⊥
tied_below text k below same = let both : Equal ≡ Less = sym (tied_itself nat_list_cmp_total text) ∙ ap (text_order text) same ∙ below in absurd (cc)

module _ {X : Type 0} where
  abbrev pub IsAbsent : List ℕ → List (List ℕ × X) → Type 0
  IsAbsent text es = AllByRecursion (λ e. text ≡ e.0 → ⊥) es

  abbrev pub AreOnce : List (List ℕ × X) → Type 0
  AreOnce [] = Unit {0}
  AreOnce (e ∷ es) = IsAbsent e.0 es × AreOnce es

  pub absent_joined : (text : List ℕ) (es fs : List (List ℕ × X)) → IsAbsent text es → IsAbsent text fs → IsAbsent text (es ++ fs)
  absent_joined text [] fs one two = two
  absent_joined text (e ∷ es) fs one two = (one.0, absent_joined text es fs one.1 two)

  pub once_joined : (es fs : List (List ℕ × X)) → AreOnce es → AreOnce fs → AllByRecursion (λ e. IsAbsent e.0 fs) es → AreOnce (es ++ fs)
  once_joined [] fs one two apart = two
  once_joined (e ∷ es) fs one two apart = (absent_joined e.0 es fs one.0 apart.0, once_joined es fs one.1 two apart.1)

  absent_below : (text : List ℕ) (es : List (List ℕ × X)) → T (below_all text_order text es) → IsAbsent text es
  absent_below text [] low = tt
  absent_below text (e ∷ es) low = (
    (λ same. tied_below text e.0 (less (text_order text e.0) (halves _ _ low).0) same),
    absent_below text es (halves _ _ low).1,
  )

  once_sorted : (es : List (List ℕ × X)) → T (is_sorted text_order es) → AreOnce es
  once_sorted [] rising = tt
  once_sorted (e ∷ es) rising = (absent_below e.0 es (halves _ _ rising).0, once_sorted es (halves _ _ rising).1)

  pub once_entries : (m : FinMap text_order X) → AreOnce (entries m)
  once_entries m = once_sorted (entries m) (entries_sorted m)

  -- what holds of each entry holds of what stands at a key
  module _ (P : List ℕ → X → Type 0) where
    found_of : (es : List (List ℕ × X)) → AllByRecursion (λ e. P e.0 e.1) es → (k : List ℕ) (x : X) → find text_order k es ≡ Some x → P k x
    found_of [] all k x found = let both : None ≡ Some x = found in absurd (cc)
    found_of (e ∷ es) all k x found = at (eq_by_cmp text_order k e.0) refl found (found_of es all.1 k x) where
      at : (b : Bool) → eq_by_cmp text_order k e.0 ≡ b → cond b (Some e.1) (find text_order k es) ≡ Some x → (find text_order k es ≡ Some x → P k x) → P k x
      at true tie is later =
          let both : Some e.1 ≡ Some x = is in
          let same : e.1 ≡ x = cc in
          subst (P k) same (subst (λ q. P q e.1) (sym (exact_texts k e.0 ((Equal-is (text_order k e.0)).0 tie))) all.0)
      at false tie is later = later is

    pub each_of : (m : FinMap text_order X) → AllByRecursion (λ e. P e.0 e.1) (entries m) → (k : List ℕ) (x : X) → get m k ≡ Some x → P k x
    each_of m all k x is = found_of (entries m) all k x (sym (get-entries m k) ∙ is)

-- ---- what stands where

module _ {X : Type 0} (kind_of : X → Kind) where
  abbrev pub name_all : Naming → List (List ℕ × X) → Naming
  name_all n [] = n
  name_all n (e ∷ es) = name_all (name_next (kind_of e.1) n e.0) es

  pub name_joined : (es fs : List (List ℕ × X)) (n : Naming) → name_all n (es ++ fs) ≡ name_all (name_all n es) fs
  name_joined [] fs n = refl
  name_joined (e ∷ es) fs n = name_joined es fs (name_next (kind_of e.1) n e.0)

  -- those of one kind
  pub name_kind : {Y : Type 0} (h : Y → X) (kind : Kind) → ((y : Y) → kind_of (h y) ≡ kind) → (es : List (List ℕ × Y)) (n : Naming)
      → name_all n (map (λ e. (e.0, h e.1)) es) ≡ name_each kind n (map (λ e. e.0) es)
  name_kind h kind same [] n = refl
  name_kind h kind same (e ∷ es) n =
      ap (λ k. name_all (name_next k n e.0) (map (λ d. (d.0, h d.1)) es)) (same e.1) ∙ name_kind h kind same es (name_next kind n e.0)

  pub name_kept : (text : List ℕ) (es : List (List ℕ × X)) (n : Naming) → IsAbsent text es → get (name_all n es).names text ≡ get n.names text
  name_kept text [] n absent = refl
  name_kept text (e ∷ es) n absent =
      name_kept text es (name_next (kind_of e.1) n e.0) absent.1 ∙ text_other n.names e.0 (behind n.last (kind_of e.1)) text absent.0

  other_serial : (q k : Id) (s : ℕ) → q.serial ≤ s → k.serial ≡ s + 1 → q ≡ k → ⊥
  other_serial q k s low is same = let e = ap (λ (id : Id). id.serial) same in omega (arith, low, is, e)

  pub object_kept : (q : Id) (xs : List X) (last : Id) (m : FinMap id_order X) → q.serial ≤ last.serial → get (with_each m (numbered_by kind_of last xs)) q ≡ get m q
  object_kept q [] last m low = refl
  object_kept q (x ∷ xs) last m low =
      object_kept q xs (behind last (kind_of x)) (insert m (behind last (kind_of x)) x) (omega (arith, low))
      ∙ id_other m (behind last (kind_of x)) x q (other_serial q (behind last (kind_of x)) last.serial low refl)

  -- a text stands for the id of an object
  abbrev pub Stands : Names → FinMap id_order X → List ℕ → X → Type 0
  Stands names m text x = (id : Id) × (get names text ≡ Some id) × (get m id ≡ Some x)

  pub all_stand : (es : List (List ℕ × X)) (n : Naming) (m : FinMap id_order X) → AreOnce es
      → AllByRecursion (λ e. Stands (name_all n es).names (with_each m (numbered_by kind_of n.last (map (λ e. e.1) es))) e.0 e.1) es
  all_stand [] n m once = tt
  all_stand (e ∷ es) n m once =
      let id = behind n.last (kind_of e.1) in (
        (
          id,
          name_kept e.0 es (name_next (kind_of e.1) n e.0) once.0 ∙ text_put n.names e.0 id,
          object_kept id (map (λ d. d.1) es) id (insert m id e.1) (omega arith) ∙ id_put m id e.1,
        ),
        all_stand es (name_next (kind_of e.1) n e.0) (insert m id e.1) once.1,
      )
