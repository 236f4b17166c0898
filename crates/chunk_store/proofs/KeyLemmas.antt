-- Coordinates as keys of a sorted map.
use Rattle.std.proofs.Common.{◌≡◌, ℕ, true, false, cond, List, [], ◌∷◌, Bool, is_eq, is_some, bytes_eq, Option, Some, None, refl, sym, ap, ◌∙◌, ◌⊎◌, inl, inr}
use Rattle.std.specs.List.{filter}
use Rattle.std.specs.Option.{option_map_or}
use Rattle.std.specs.Map.{lookup}
use Rattle.std.specs.BTreeMap.{BTreeMap, UpdatesBy, get_by, is_at}
use Rattle.std.specs.declared.vec.Vec.{Vec}
use Rattle.std.specs.declared.alloc.Global.{Global}
use Rattle.std.proofs.lemmas.Map.Entries.{lookup-filter-keys}
use Rattle.std.proofs.lemmas.Slice.Eq.{bytes_eq-Decides}
use Rattle.std.proofs.lemmas.Bool.{cases_Bool}
use Rattle.containers.specs.ShortLists.Order.{list_order}
use Rattle.containers.specs.ShortLists.OrderLaws.{equal_where_tied}
use Rattle.chunk_store.specs.Cells.{find_in, value_in, has, put}
use Rattle.containers.proofs.Plain.{none_of}

-- the order of keys ties equal lists alone
pub agree : (x y : List ℕ) → is_eq (list_order x y) ≡ bytes_eq x y
agree x y = sym (equal_where_tied x y)

-- ---- look-ups

lookup_tests : {X : Type 0} (p q : List ℕ → Bool) → ((k : List ℕ) → p k ≡ q k) → (es : List (List ℕ × X)) → lookup p es ≡ lookup q es
lookup_tests p q h [] = refl
lookup_tests p q h (e ∷ es) = ap (λ b. cond b (Some e.1) (lookup p es)) (h e.0) ∙ ap (cond (q e.0) (Some e.1)) (lookup_tests p q h es)

pub find-get : {X : Type 0} (m : BTreeMap (List ℕ) X) (q : List ℕ) → get_by (list_order q) m ≡ find_in m q
find-get m q = lookup_tests (is_at (list_order q)) (bytes_eq q) (λ k. agree q k) m.entries

-- what stands at each key after a change at one
pub find-updated : {X : Type 0} (m n : BTreeMap (List ℕ) X) (k : List ℕ) (w : Option X) → UpdatesBy list_order (list_order k) m n w → (q : List ℕ) → find_in n q ≡ put (find_in m) k w q
find-updated m n k w h q = sym (find-get n q) ∙ h.0 q ∙ ap (λ b. cond b w (get_by (list_order q) m)) (agree k q) ∙ ap (cond (bytes_eq k q) w) (find-get m q)

-- ---- functions that differ at one key

pub put_here : {A : Type 0} (f : List ℕ → A) (k : List ℕ) (v : A) → put f k v k ≡ v
put_here f k v = ap (λ b. cond b v (f k)) ((bytes_eq-Decides k k).1 refl)

pub put_cases : {A : Type 0} (f : List ℕ → A) (k : List ℕ) (v : A) (q : List ℕ) → ((k ≡ q) × (put f k v q ≡ v)) ⊎ (put f k v q ≡ f q)
put_cases f k v q = elim (cases_Bool (bytes_eq k q)) [
  | inl y ↦ inl ((bytes_eq-Decides k q).0 y, ap (λ b. cond b v (f q)) y)
  | inr n ↦ inr (ap (λ b. cond b v (f q)) n)
]

-- a function of what stands there
pub put_through : {A B : Type 0} (g : A → B) (f : List ℕ → A) (k : List ℕ) (v : A) (q : List ℕ) → g (put f k v q) ≡ put (λ p. g (f p)) k (g v) q
put_through g f k v q = elim (cases_Bool (bytes_eq k q)) [
  | inl y ↦ ap (λ b. g (cond b v (f q))) y ∙ sym (ap (λ b. cond b (g v) (g (f q))) y)
  | inr n ↦ ap (λ b. g (cond b v (f q))) n ∙ sym (ap (λ b. cond b (g v) (g (f q))) n)
]

pub put_same : {A : Type 0} (f : List ℕ → A) (k : List ℕ) (v : A) → f k ≡ v → (q : List ℕ) → put f k v q ≡ f q
put_same f k v e q = elim (put_cases f k v q) [
  | inl same ↦ same.1 ∙ sym e ∙ ap f same.0
  | inr other ↦ other
]

pub some_from : {A : Type 0} (o : Option A) (x : A) → o ≡ Some x → is_some o ≡ true
some_from o x e = ap is_some e

-- ---- one more key

module _ {X : Type 0} (m n : BTreeMap (List ℕ) X) (k : List ℕ) (v : X) (h : (q : List ℕ) → find_in n q ≡ put (find_in m) k (Some v) q) where
  pub added_there : has n k ≡ true
  added_there = ap is_some (h k ∙ put_here (find_in m) k (Some v))

  pub added_more : (q : List ℕ) → has m q ≡ true → has n q ≡ true
  added_more q there = ap is_some (h q) ∙ elim (put_cases (find_in m) k (Some v) q) [
    | inl same ↦ ap is_some same.1
    | inr other ↦ ap is_some other ∙ there
  ]

  pub added_few : (q : List ℕ) → has n q ≡ true → (k ≡ q) ⊎ (has m q ≡ true)
  added_few q there = elim (put_cases (find_in m) k (Some v) q) [
    | inl same ↦ inl same.0
    | inr other ↦ inr (sym (ap is_some other) ∙ sym (ap is_some (h q)) ∙ there)
  ]

  pub written_keys : has m k ≡ true → (q : List ℕ) → has n q ≡ has m q
  written_keys there q = ap is_some (h q) ∙ put_through is_some (find_in m) k (Some v) q ∙ put_same (λ p. is_some (find_in m p)) k true there q

-- what stands at it, where nothing stood the blank
module _ (m n : BTreeMap (List ℕ) (Vec ℕ Global)) (k : List ℕ) (v : Vec ℕ Global) (h : (q : List ℕ) → find_in n q ≡ put (find_in m) k (Some v) q) where
  pub added_same : (blank : List ℕ) → v.items ≡ blank → has m k ≡ false → (q : List ℕ) → value_in n blank q ≡ value_in m blank q
  added_same blank e none q =
      let items = λ (o : Option (Vec ℕ Global)). option_map_or (λ w. w.items) o blank in
      ap items (h q) ∙ put_through items (find_in m) k (Some v) q ∙ put_same (λ p. items (find_in m p)) k v.items (ap items (none_of (find_in m k) none) ∙ sym e) q

  pub written_value : (blank q : List ℕ) → value_in n blank q ≡ put (value_in m blank) k v.items q
  written_value blank q =
      let items = λ (o : Option (Vec ℕ Global)). option_map_or (λ w. w.items) o blank in
      ap items (h q) ∙ put_through items (find_in m) k (Some v) q

pub value_found : (m : BTreeMap (List ℕ) (Vec ℕ Global)) (q blank : List ℕ) (o : Option (Vec ℕ Global)) → o ≡ get_by (list_order q) m → option_map_or (λ w. w.items) o blank ≡ value_in m blank q
value_found m q blank o e = ap (λ (p : Option (Vec ℕ Global)). option_map_or (λ w. w.items) p blank) (e ∙ find-get m q)

-- ---- some keys alone

pub kept_tests : {X : Type 0} (m n : BTreeMap (List ℕ) X) (p : List ℕ → Bool) → n.entries ≡ filter (λ e. p e.0) m.entries → (q : List ℕ) → find_in n q ≡ cond (p q) (find_in m q) None
kept_tests m n p e q =
    ap (lookup (bytes_eq q)) e ∙ lookup-filter-keys (bytes_eq q) p (p q) (λ k h. ap p (sym ((bytes_eq-Decides q k).0 h))) m.entries

pub not_gone : {X : Type 0} (m : BTreeMap (List ℕ) X) (q : List ℕ) (o : Option X) → o ≡ get_by (list_order q) m → has m q ≡ true → is_some o ≡ false → ⊥
not_gone m q o e there none =
    let both : true ≡ false = sym there ∙ ap is_some (sym (find-get m q)) ∙ ap is_some (sym e) ∙ none in
    cc
