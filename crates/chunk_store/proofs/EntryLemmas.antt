-- The entries of a map, each of which a closure changes in turn.
use Rattle.std.proofs.Common.{◌≡◌, ℕ, Bool, true, cond, bytes_eq, Less, List, [], ◌∷◌, ◌++◌, Option, Some, None, refl, sym, ap, subst, ◌∙◌, inl, inr}
use Rattle.std.specs.List.{AllByRecursion, FoldsTo}
use Rattle.std.specs.List.Sorted.{IsStrictlySortedBy}
use Rattle.std.specs.Map.{lookup, keys_of}
use Rattle.std.specs.Map.Calls.{CallableOnEachPair, RetainsPairs, SomeCallAtPair}
use Rattle.std.proofs.lemmas.Bool.{cases_Bool}
use Rattle.std.proofs.lemmas.Map.Keys.{sorted_head, sorted_tail}
use Rattle.std.proofs.lemmas.Slice.Eq.{bytes_eq-Decides}
use Rattle.containers.specs.ShortLists.Order.{list_order}
use Rattle.chunk_store.proofs.NextLemmas.{less_apart}

-- ---- what stands at the key of an entry

module _ {X : Type 0} where
  key_inside : (P : List ℕ → Type 0) (before after : List (List ℕ × X)) (k : List ℕ) (v : X) → AllByRecursion P (keys_of (before ++ (k, v) ∷ after)) → P k
  key_inside P [] after k v h = h.0
  key_inside P (e ∷ before) after k v h = key_inside P before after k v h.1

  pub entry_found : (before after : List (List ℕ × X)) (k : List ℕ) (v : X) → IsStrictlySortedBy list_order (keys_of (before ++ (k, v) ∷ after)) → lookup (bytes_eq k) (before ++ (k, v) ∷ after) ≡ Some v
  entry_found [] after k v sorted = ap (λ b. cond b (Some v) (lookup (bytes_eq k) after)) ((bytes_eq-Decides k k).1 refl)
  entry_found (e ∷ before) after k v sorted =
      let low = key_inside (λ y. list_order e.0 y ≡ Less) before after k v (sorted_head list_order e.0 (keys_of (before ++ (k, v) ∷ after)) sorted) in
      ap (λ b. cond b (Some e.1) (lookup (bytes_eq k) (before ++ (k, v) ∷ after))) (less_apart e.0 k low)
      ∙ entry_found before after k v (sorted_tail list_order e.0 (keys_of (before ++ (k, v) ∷ after)) sorted)

  -- ---- a closure that stays as it is

  module _ {F : Type 0} (T : F → List ℕ → X → Bool → X → F → Type 0) (same : (f : F) (k : List ℕ) (v : X) (b : Bool) (w : X) (f' : F) → T f k v b w f' → f' ≡ f) where
    still : (es : List (List ℕ × X)) (f f' : F) → FoldsTo (SomeCallAtPair T) f es f' → f' ≡ f
    still [] f f' h = sym h
    still (e ∷ es) f f' h = still es h.0 f' h.2 ∙ same f e.0 e.1 h.1.0 h.1.1 h.0 h.1.2

    -- what holds of each entry's key and value makes the closure callable at it
    pub callable : (Q : F → List ℕ → X → Type 0) (f : F) (es : List (List ℕ × X)) → IsStrictlySortedBy list_order (keys_of es) → ((k : List ℕ) (v : X) → lookup (bytes_eq k) es ≡ Some v → Q f k v) → CallableOnEachPair T Q f es
    callable Q f es sorted each = record {
      at = λ before after f' k v split calls.
          subst (λ (g : F). Q g k v) (sym (still before f f' calls))
          (each k v (ap (lookup (bytes_eq k)) split ∙ entry_found before after k v (subst (λ (xs : List (List ℕ × X)). IsStrictlySortedBy list_order (keys_of xs)) split sorted)));
    }

  -- ---- what stands there after each value was changed

  -- nothing where nothing stood, and else what the relation allows
  abbrev pub IsChanged : (List ℕ → X → X → Type 0) → List ℕ → Option X → Option X → Type 0
  IsChanged R q None o = o ≡ None
  IsChanged R q (Some v) o = (w : X) × (o ≡ Some w) × R q v w

  module _ {F : Type 0} (T : F → List ℕ → X → Bool → X → F → Type 0) (R : List ℕ → X → X → Type 0) (f : F) (told : (k : List ℕ) (v : X) (b : Bool) (w : X) (f' : F) → T f k v b w f' → (b ≡ true) × R k v w × (f' ≡ f)) where
    pub each_changed : (es kept : List (List ℕ × X)) → RetainsPairs T f es kept → (q : List ℕ) → IsChanged R q (lookup (bytes_eq q) es) (lookup (bytes_eq q) kept)
    each_changed [] kept r q = ap (lookup (bytes_eq q)) r
    each_changed (e ∷ es) kept r q =
        let a = told e.0 e.1 r.0 r.1 r.2 r.4 in
        let rest = each_changed es r.3 (subst (λ (u : F). RetainsPairs T u es r.3) a.2 r.5) q in
        let whole : kept ≡ (e.0, r.1) ∷ r.3 = r.6 ∙ ap (λ b. cond b ((e.0, r.1) ∷ r.3) r.3) a.0 in
        elim (cases_Bool (bytes_eq q e.0)) [
          | inl same ↦
              let key = (bytes_eq-Decides q e.0).0 same in
              let now : lookup (bytes_eq q) kept ≡ Some r.1 = ap (lookup (bytes_eq q)) whole ∙ ap (λ b. cond b (Some r.1) (lookup (bytes_eq q) r.3)) same in
              subst (λ (b : Bool). IsChanged R q (cond b (Some e.1) (lookup (bytes_eq q) es)) (lookup (bytes_eq q) kept)) (sym same) (r.1, now, subst (λ (x : List ℕ). R x e.1 r.1) (sym key) a.1)
          | inr other ↦
              let now : lookup (bytes_eq q) kept ≡ lookup (bytes_eq q) r.3 = ap (lookup (bytes_eq q)) whole ∙ ap (λ b. cond b (Some r.1) (lookup (bytes_eq q) r.3)) other in
              subst (λ (b : Bool). IsChanged R q (cond b (Some e.1) (lookup (bytes_eq q) es)) (lookup (bytes_eq q) kept)) (sym other)
              (subst (λ (o : Option X). IsChanged R q (lookup (bytes_eq q) es) o) (sym now) rest)
        ]
