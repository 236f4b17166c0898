-- The walk over the chunks whose records are to be written.
use Rattle.std.proofs.Common.{◌≡◌, ◌≢◌, ℕ, ◌<◌, Bool, true, false, length, IsSome, bytes_eq, List, [], ◌∷◌, ◌++◌, Option, Some, None, Ordering, Less, Equal, Greater, nat_cmp, is_eq, refl, sym, ap, subst, ◌∙◌, ◌⊎◌, inl, inr}
use Rattle.std.specs.List.{filter}
use Rattle.std.specs.Map.{lookup}
use Rattle.std.specs.Ordering.{is_lt}
use Rattle.std.specs.Cmp.Lexicographic.{slice_cmp, nat_list_cmp_total}
use Rattle.std.proofs.lemmas.Cmp.{tied_itself}
use Rattle.std.proofs.lemmas.Map.Text.{is_eq-slice_cmp}
use Rattle.std.proofs.lemmas.Slice.Eq.{bytes_eq-Decides}
use Rattle.std.proofs.lemmas.Bool.{or_right, or_parts, or_left, or_from}
use Rattle.chunk_store.specs.Marks.{ComesAfter, IsNext, is_after}
use Rattle.chunk_store.proofs.NextLemmas.{after_read}
use Rattle.chunk_owner.specs.Slots.Cutting.{AreDistinct, is_among}
use Rattle.containers.proofs.Passing.{by_bool, contrary, lt_less, or_more, or_either, fewer_there, found_lookup}
use Rattle.json_trees.proofs.TableLemmas.{equal_bytes}

-- ---- chunks among others

turned : (i j : List ℕ) → bytes_eq i j ≡ false → bytes_eq j i ≡ false
turned i j e = by_bool (bytes_eq j i) (bytes_eq j i ≡ false)
    (λ y. contrary (bytes_eq i j) (bytes_eq j i ≡ false) ((bytes_eq-Decides i j).1 (sym ((bytes_eq-Decides j i).0 y))) e)
    (λ n. n)

among_front : (is : List (List ℕ)) (i j : List ℕ) → is_among is j ≡ true → is_among (is ++ i ∷ []) j ≡ true
among_front [] i j e = contrary false (is_among (i ∷ []) j ≡ true) e refl
among_front (k ∷ is) i j e = or_more (bytes_eq j k) (is_among is j) (is_among (is ++ i ∷ []) j) (among_front is i j) e

among_last : (is : List (List ℕ)) (i : List ℕ) → is_among (is ++ i ∷ []) i ≡ true
among_last [] i = or_left (bytes_eq i i) false (equal_bytes i)
among_last (k ∷ is) i = or_right (bytes_eq i k) (is_among (is ++ i ∷ []) i) (among_last is i)

among_either : (is : List (List ℕ)) (i j : List ℕ) (P : Type 0) → (is_among is j ≡ true → P) → (j ≡ i → P) → is_among (is ++ i ∷ []) j ≡ true → P
among_either [] i j P there same e = or_either (bytes_eq j i) false P (λ y. same ((bytes_eq-Decides j i).0 y)) (λ n. contrary false P n refl) e
among_either (k ∷ is) i j P there same e = or_either (bytes_eq j k) (is_among (is ++ i ∷ []) j) P (λ y. there (or_left (bytes_eq j k) (is_among is j) y))
    (λ rest. among_either is i j P (λ h. there (or_right (bytes_eq j k) (is_among is j) h)) same rest) e

among_neither : (is : List (List ℕ)) (i j : List ℕ) → is_among is j ≡ false → bytes_eq j i ≡ false → is_among (is ++ i ∷ []) j ≡ false
among_neither [] i j e n = or_from (bytes_eq j i) false n refl
among_neither (k ∷ is) i j e n = let both = or_parts (bytes_eq j k) (is_among is j) e in
    or_from (bytes_eq j k) (is_among (is ++ i ∷ []) j) both.0 (among_neither is i j both.1 n)

distinct_more : (is : List (List ℕ)) (i : List ℕ) → AreDistinct is → is_among is i ≡ false → AreDistinct (is ++ i ∷ [])
distinct_more [] i h n = (refl, tt)
distinct_more (k ∷ is) i h n = let both = or_parts (bytes_eq i k) (is_among is i) n in
    (among_neither is i k h.0 (turned i k both.0), distinct_more is i h.1 both.1)

-- those entries that come after
abbrev pub left_after : Option (List ℕ) → List (List ℕ × Bool) → List (List ℕ × Bool)
left_after after es = filter (λ e. is_after after e.0) es

-- ---- the walk

by_order : (i j : List ℕ) (P : Type 0) (o : Ordering) → slice_cmp nat_cmp i j ≡ o → (o ≢ Greater) → (j ≡ i → P) → (slice_cmp nat_cmp i j ≡ Less → P) → P
by_order i j P Less e h same less = less e
by_order i j P Equal e h same less = same (sym ((bytes_eq-Decides i j).0 (sym (is_eq-slice_cmp i j) ∙ ap is_eq e)))
by_order i j P Greater e h same less = absurd (h refl)

after_more : (after : Option (List ℕ)) (i j : List ℕ) → ComesAfter after i → slice_cmp nat_cmp i j ≡ Less → ComesAfter after j
after_more None i j h e = tt
after_more (Some a) i j h e = nat_list_cmp_total.trans a i j h e

not_itself : (i : List ℕ) (P : Type 0) → slice_cmp nat_cmp i i ≡ Less → P
not_itself i P e = absurd (let both : Equal ≡ Less = sym (tied_itself nat_list_cmp_total i) ∙ e in cc)

-- of the chunks that are meant these were met, each once, and the others come after
pub record IsWalk (is_meant : List ℕ → Bool) (done : List (List ℕ)) (after : Option (List ℕ)) : Type 0 where
  pub covers : (j : List ℕ) → is_meant j ≡ true → (is_among done j ≡ true) ⊎ ComesAfter after j
  pub behind : (j : List ℕ) → is_among done j ≡ true → ComesAfter after j → ⊥
  pub distinct : AreDistinct done

pub walk_begin : (is_meant : List ℕ → Bool) → IsWalk is_meant [] None
walk_begin is_meant = record {
  covers = λ j meant. inr tt;
  behind = λ j there after. contrary false ⊥ there refl;
  distinct = tt;
}

module _ (is_meant : List ℕ → Bool) (done : List (List ℕ)) (after : Option (List ℕ)) (w : IsWalk is_meant done after) where
  new_there : (i : List ℕ) → ComesAfter after i → is_among done i ≡ false
  new_there i later = by_bool (is_among done i) (is_among done i ≡ false) (λ there. absurd (w.behind i there later)) (λ n. n)

  pub walk_more : (i : List ℕ) → IsNext is_meant after (Some i) → IsWalk is_meant (done ++ i ∷ []) (Some i)
  walk_more i next = record {
    covers = λ j meant. elim (w.covers j meant) [
      | inl there ↦ inl (among_front done i j there)
      | inr later ↦ by_order i j ((is_among (done ++ i ∷ []) j ≡ true) ⊎ (slice_cmp nat_cmp i j ≡ Less)) (slice_cmp nat_cmp i j) refl (next.2 j later meant)
          (λ same. inl (subst (λ (k : List ℕ). is_among (done ++ i ∷ []) k ≡ true) (sym same) (among_last done i)))
          (λ less. inr less)
    ];
    behind = λ j there less. among_either done i j ⊥
        (λ h. w.behind j h (after_more after i j next.1 less))
        (λ same. not_itself i ⊥ (subst (λ (k : List ℕ). slice_cmp nat_cmp i k ≡ Less) same less))
        there;
    distinct = distinct_more done i w.distinct (new_there i next.1);
  }

  pub walk_end : IsNext is_meant after None → (j : List ℕ) → is_meant j ≡ true → is_among done j ≡ true
  walk_end none j meant = elim (w.covers j meant) [
    | inl there ↦ there
    | inr later ↦ contrary (is_meant j) (is_among done j ≡ true) meant (none j later)
  ]

-- ---- fewer chunks come after a later one

module _ (after : Option (List ℕ)) (i : List ℕ) (later : ComesAfter after i) where
  after_weaker : (j : List ℕ) → is_after (Some i) j ≡ true → is_after after j ≡ true
  after_weaker j e = after_read after j (after_more after i j later (lt_less (slice_cmp nat_cmp i j) e))

  at_itself : (k : List ℕ) → bytes_eq i k ≡ true → (is_after (Some i) k ≡ false) × (is_after after k ≡ true)
  at_itself k y = subst (λ (j : List ℕ). (is_after (Some i) j ≡ false) × (is_after after j ≡ true)) ((bytes_eq-Decides i k).0 y)
      (ap is_lt (tied_itself nat_list_cmp_total i), after_read after i later)

  pub walk_smaller : (es : List (List ℕ × Bool)) → IsSome (lookup (bytes_eq i) es) → length (left_after (Some i) es) < length (left_after after es)
  walk_smaller es known = fewer_there (is_after (Some i)) (is_after after) after_weaker (bytes_eq i) at_itself es (found_lookup (bytes_eq i) es known)
