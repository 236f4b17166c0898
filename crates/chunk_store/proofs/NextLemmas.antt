-- The chunks that are meant one after another, until none is left, are all of them.
use Rattle.std.proofs.Common.{◌≡◌, ◌≢◌, ℕ, ◌||◌, Bool, true, false, cond, length, IsSome, IfSome, bytes_eq, List, [], ◌∷◌, Option, Some, None, Ordering, Less, Equal, Greater, nat_cmp, is_eq, refl, sym, ap, subst, ◌∙◌, ◌⊎◌, inl, inr}
use Rattle.std.specs.List.{list_any}
use Rattle.std.specs.Cmp.Lexicographic.{slice_cmp}
use Rattle.std.proofs.lemmas.Bool.{cases_Bool, or_right, or_left, and_parts, false_from_ne_true}
use Rattle.std.proofs.lemmas.Map.Text.{is_eq-slice_cmp}
use Rattle.std.proofs.lemmas.Slice.Eq.{bytes_eq-Decides}
use Rattle.std.specs.List.{AllByRecursion, filter}
use Rattle.std.specs.List.Sorted.{IsStrictlySortedBy}
use Rattle.std.specs.Map.{keys_of, lookup}
use Rattle.std.specs.Ordering.{is_lt, ordering_then}
use Rattle.std.specs.Cmp.Derive.{both_true as both_pass}
use Rattle.std.specs.Cmp.{tied_itself, nat_cmp_total}
use Rattle.std.proofs.lemmas.Map.Keys.{sorted_head, sorted_tail}
use Rattle.containers.specs.ShortLists.Order.{list_order}
use Rattle.containers.specs.ShortLists.OrderLaws.{same_tied}
use Rattle.chunk_store.specs.Cells.{put}
use Rattle.chunk_store.specs.Grids.{Grid}
use Rattle.chunk_store.specs.Indexes.{IsIndex}
use Rattle.chunk_store.specs.Marks.{Stored, state, is_dirty, body_of, cut, AreIndexes, ComesAfter, IsNext, Covers, recorded, first_key, is_after, is_later}
use Rattle.containers.proofs.Passing.{lt_less}

by_order : (i j : List ℕ) (o : Ordering) → slice_cmp nat_cmp i j ≡ o → (o ≡ Greater → ⊥) → (bytes_eq i j ≡ true) ⊎ (slice_cmp nat_cmp i j ≡ Less)
by_order i j Less e h = inr e
by_order i j Equal e h = inl (sym (is_eq-slice_cmp i j) ∙ ap is_eq e)
by_order i j Greater e h = absurd (h refl)

-- one more chunk in front of those that were found
pub covers_next : (is_meant : List ℕ → Bool) (done : List (List ℕ)) (after : Option (List ℕ)) (i : List ℕ) → Covers is_meant done after → IsNext is_meant after (Some i) → Covers is_meant (i ∷ done) (Some i)
covers_next is_meant done after i covers next = λ j dirty. elim (covers j dirty) [
  | inl there ↦ inl (or_right (bytes_eq j i) (list_any (bytes_eq j) done) there)
  | inr later ↦ elim (by_order i j (slice_cmp nat_cmp i j) refl (next.2 j later dirty)) [
    | inl same ↦ inl (or_left (bytes_eq j i) (list_any (bytes_eq j) done) ((bytes_eq-Decides j i).1 (sym ((bytes_eq-Decides i j).0 same))))
    | inr less ↦ inr less
  ]
]

pub covers_end : (is_meant : List ℕ → Bool) (done : List (List ℕ)) (after : Option (List ℕ)) → Covers is_meant done after → IsNext is_meant after None → (j : List ℕ) → is_meant j ≡ true → list_any (bytes_eq j) done ≡ true
covers_end is_meant done after covers none = λ j dirty. elim (covers j dirty) [
  | inl there ↦ there
  | inr later ↦ absurd (let both : true ≡ false = sym dirty ∙ none j later in cc)
]

member_cond : (a b : Bool) (x y : List ℕ) → cond b x (cond a x y) ≡ cond (a || b) x y
member_cond true true x y = refl
member_cond true false x y = refl
member_cond false true x y = refl
member_cond false false x y = refl

both_same : (b : Bool) (x : List ℕ) → cond b x x ≡ x
both_same true x = refl
both_same false x = refl

apart : (q i : List ℕ) → bytes_eq i q ≡ false → bytes_eq q i ≡ false
apart q i n = elim (cases_Bool (bytes_eq q i)) [
  | inl y ↦ let both : true ≡ false = sym ((bytes_eq-Decides i q).1 (sym ((bytes_eq-Decides q i).0 y))) ∙ n in absurd (cc)
  | inr f ↦ f
]

pub recorded_is : (kept : List ℕ → List ℕ) (h : Grid) (is : List (List ℕ)) (q : List ℕ) → recorded kept h is q ≡ cond (list_any (bytes_eq q) is) (body_of h q) (kept q)
recorded_is kept h [] q = refl
recorded_is kept h (i ∷ is) q = recorded_is (put kept i (body_of h i)) h is q ∙ elim (cases_Bool (bytes_eq i q)) [
  | inl y ↦
      let e = (bytes_eq-Decides i q).0 y in
      let same : put kept i (body_of h i) q ≡ body_of h q = ap (λ b. cond b (body_of h i) (kept q)) y ∙ ap (body_of h) e in
      ap (λ x. cond (list_any (bytes_eq q) is) (body_of h q) x) same ∙ both_same (list_any (bytes_eq q) is) (body_of h q)
      ∙ sym (ap (λ b. cond (b || list_any (bytes_eq q) is) (body_of h q) (kept q)) ((bytes_eq-Decides q i).1 (sym e)))
  | inr n ↦
      ap (λ b. cond (list_any (bytes_eq q) is) (body_of h q) (cond b (body_of h i) (kept q))) n
      ∙ sym (ap (λ b. cond (b || list_any (bytes_eq q) is) (body_of h q) (kept q)) (apart q i n))
]

-- the records of all dirty chunks are those of a cut
pub recorded_cut : (kept : List ℕ → List ℕ) (s : Stored) (is : List (List ℕ)) → ((i : List ℕ) → list_any (bytes_eq i) is ≡ is_dirty s i) → (q : List ℕ) → recorded kept s.grid is q ≡ cut kept s q
recorded_cut kept s is all q = recorded_is kept s.grid is q ∙ ap (λ b. cond b (body_of s.grid q) (kept q)) (all q)

-- ---- the first chunk of the map that is meant

after_told : (after : Option (List ℕ)) (i : List ℕ) → is_after after i ≡ true → ComesAfter after i
after_told None i h = tt
after_told (Some a) i h = lt_less (slice_cmp nat_cmp a i) h

pub after_read : (after : Option (List ℕ)) (i : List ℕ) → ComesAfter after i → is_after after i ≡ true
after_read None i h = refl
after_read (Some a) i h = ap is_lt h

not_equal : (o : Ordering) → o ≡ Equal → o ≢ Greater
not_equal o e = λ g. let both : true ≡ false = sym (ap is_eq e) ∙ ap is_eq g in absurd (cc)

not_less : (o : Ordering) → o ≡ Less → o ≢ Greater
not_less o e = λ g. let both : true ≡ false = sym (ap is_lt e) ∙ ap is_lt g in absurd (cc)

pub less_apart : (i j : List ℕ) → list_order i j ≡ Less → bytes_eq j i ≡ false
less_apart i j h = elim (cases_Bool (bytes_eq j i)) [
  | inl y ↦ absurd (let both : false ≡ true = sym (ap is_eq h) ∙ ap is_eq (same_tied i j (sym ((bytes_eq-Decides j i).0 y))) in cc)
  | inr n ↦ n
]

-- lists of one length are ordered by their numbers alone
pub same_order : (i j : List ℕ) → length i ≡ length j → list_order i j ≡ slice_cmp nat_cmp i j
same_order i j e = ap (λ n. ordering_then (nat_cmp (length i) n) (slice_cmp nat_cmp i j)) (sym e) ∙ ap (λ o. ordering_then o (slice_cmp nat_cmp i j)) (tied_itself nat_cmp_total (length i))

module _ (test : Option Bool → Bool) (none : test None ≡ false) where
  -- what is known of a chunk, by the entries
  abbrev told : List (List ℕ × Bool) → List ℕ → Bool
  told es i = test (lookup (bytes_eq i) es)

  told_here : (e : List ℕ × Bool) (es : List (List ℕ × Bool)) (i : List ℕ) → bytes_eq i e.0 ≡ true → told (e ∷ es) i ≡ test (Some e.1)
  told_here e es i same = ap (λ b. test (cond b (Some e.1) (lookup (bytes_eq i) es))) same

  told_behind : (e : List ℕ × Bool) (es : List (List ℕ × Bool)) (i : List ℕ) → bytes_eq i e.0 ≡ false → told (e ∷ es) i ≡ told es i
  told_behind e es i other = ap (λ b. test (cond b (Some e.1) (lookup (bytes_eq i) es))) other

  -- an entry that is found has its key among the keys
  found_key : (P : List ℕ → Type 0) (es : List (List ℕ × Bool)) (i : List ℕ) → AllByRecursion P (keys_of es) → told es i ≡ true → P i
  found_key P [] i each h = absurd (let both : false ≡ true = sym none ∙ h in cc)
  found_key P (e ∷ es) i each h = elim (cases_Bool (bytes_eq i e.0)) [
    | inl same ↦ subst P (sym ((bytes_eq-Decides i e.0).0 same)) each.0
    | inr other ↦ found_key P es i each.1 (sym (told_behind e es i other) ∙ h)
  ]

  -- what the next one is, of entries and by the keys' order
  abbrev IsFirstLater : List (List ℕ × Bool) → Option (List ℕ) → Option (List ℕ) → Type 0
  IsFirstLater es after None = (i : List ℕ) → ComesAfter after i → told es i ≡ false
  IsFirstLater es after (Some i) = (told es i ≡ true) × ComesAfter after i × ((j : List ℕ) → ComesAfter after j → told es j ≡ true → list_order i j ≢ Greater)

  -- one more entry in front, whose key comes first
  first_here : (e : List ℕ × Bool) (es : List (List ℕ × Bool)) (after : Option (List ℕ)) → AllByRecursion (λ k. list_order e.0 k ≡ Less) (keys_of es) → is_later test after e ≡ true → IsFirstLater (e ∷ es) after (Some e.0)
  first_here e es after low h =
      let both = and_parts (test (Some e.1)) (is_after after e.0) h in (
        told_here e es e.0 ((bytes_eq-Decides e.0 e.0).1 refl) ∙ both.0,
        after_told after e.0 both.1,
        λ j later dirty. elim (cases_Bool (bytes_eq j e.0)) [
          | inl same ↦ not_equal (list_order e.0 j) (same_tied e.0 j (sym ((bytes_eq-Decides j e.0).0 same)))
          | inr other ↦ not_less (list_order e.0 j) (found_key (λ k. list_order e.0 k ≡ Less) es j low (sym (told_behind e es j other) ∙ dirty))
        ],
      )

  -- at the key of the entry, which isn't one that is meant and comes later
  not_here : (e : List ℕ × Bool) (after : Option (List ℕ)) (i : List ℕ) → is_later test after e ≡ false → ComesAfter after i → bytes_eq i e.0 ≡ true → test (Some e.1) ≡ true → ⊥
  not_here e after i h later same meant =
      let key = (bytes_eq-Decides i e.0).0 same in
      let both : true ≡ false = sym (both_pass meant (ap (is_after after) (sym key) ∙ after_read after i later)) ∙ h in
      cc

  first_behind : (e : List ℕ × Bool) (es : List (List ℕ × Bool)) (after : Option (List ℕ)) → AllByRecursion (λ k. list_order e.0 k ≡ Less) (keys_of es) → (r : Option (List ℕ)) → is_later test after e ≡ false → IsFirstLater es after r → IsFirstLater (e ∷ es) after r
  first_behind e es after low None h on = λ i later. elim (cases_Bool (bytes_eq i e.0)) [
    | inl same ↦ told_here e es i same ∙ false_from_ne_true (test (Some e.1)) (not_here e after i h later same)
    | inr other ↦ told_behind e es i other ∙ on i later
  ]
  first_behind e es after low (Some i) h on =
      let less = found_key (λ k. list_order e.0 k ≡ Less) es i low on.0 in (
        told_behind e es i (less_apart e.0 i less) ∙ on.0,
        on.1,
        λ j later dirty. elim (cases_Bool (bytes_eq j e.0)) [
          | inl same ↦ absurd (not_here e after j h later same (sym (told_here e es j same) ∙ dirty))
          | inr other ↦ on.2 j later (sym (told_behind e es j other) ∙ dirty)
        ],
      )

  first_later : (es : List (List ℕ × Bool)) (after : Option (List ℕ)) → IsStrictlySortedBy list_order (keys_of es) → IsFirstLater es after (first_key (filter (is_later test after) es))
  first_later [] after sorted = λ i later. none
  first_later (e ∷ es) after sorted =
      let low = sorted_head list_order e.0 (keys_of es) sorted in
      let rest = filter (is_later test after) es in
      elim (cases_Bool (is_later test after e)) [
        | inl here ↦ subst (λ (b : Bool). IsFirstLater (e ∷ es) after (first_key (cond b (e ∷ filter (is_later test after) es) (filter (is_later test after) es)))) (sym here) (first_here e es after low here)
        | inr not ↦
            subst (λ (b : Bool). IsFirstLater (e ∷ es) after (first_key (cond b (e ∷ filter (is_later test after) es) (filter (is_later test after) es)))) (sym not)
            (first_behind e es after low (first_key rest) not (first_later es after (sorted_tail list_order e.0 (keys_of es) sorted)))
      ]

  meant_some : (o : Option Bool) → test o ≡ true → IsSome o
  meant_some None h = absurd (let both : false ≡ true = sym none ∙ h in cc)
  meant_some (Some b) h = refl

  meant_index : (s : Stored) (i : List ℕ) → AreIndexes s → test (state s i) ≡ true → IsIndex s.grid.chunk i
  meant_index s i indexes meant = indexes i (meant_some (state s i) meant)

  -- entries by which the same chunks are meant
  module _ (s : Stored) (marks : List (List ℕ × Bool)) (indexes : AreIndexes s) (same : (i : List ℕ) → told marks i ≡ test (state s i)) where
    by_rank : (after : Option (List ℕ)) (r : Option (List ℕ)) → IsFirstLater marks after r → IsNext (λ i. test (state s i)) after r
    by_rank after None on = λ i later. sym (same i) ∙ on i later
    by_rank after (Some i) on =
        let meant = sym (same i) ∙ on.0 in
        (meant, on.1, λ j later known. λ g. on.2 j later (same j ∙ known) (same_order i j ((meant_index s i indexes meant).rank ∙ sym (meant_index s j indexes known).rank) ∙ g))

    pub next_told : (after : Option (List ℕ)) → IsStrictlySortedBy list_order (keys_of marks) → IsNext (λ i. test (state s i)) after (first_key (filter (is_later test after) marks))
    next_told after sorted = by_rank after (first_key (filter (is_later test after) marks)) (first_later marks after sorted)

  -- the first entry that is meant and comes later is the next chunk
  pub next_from : (s : Stored) (after : Option (List ℕ)) → AreIndexes s → IsStrictlySortedBy list_order (keys_of s.marks) → IsNext (λ i. test (state s i)) after (first_key (filter (is_later test after) s.marks))
  next_from s after indexes sorted = next_told s s.marks indexes (λ i. refl) after sorted

  pub next_known : (s : Stored) (after : Option (List ℕ)) (r : Option (List ℕ)) → IsNext (λ i. test (state s i)) after r → IfSome r (λ i. IsSome (state s i))
  next_known s after None on = tt
  next_known s after (Some i) on = meant_some (state s i) on.0

  pub next_index : (s : Stored) (after : Option (List ℕ)) (r : Option (List ℕ)) → AreIndexes s → IsNext (λ i. test (state s i)) after r → IfSome r (λ i. IsIndex s.grid.chunk i)
  next_index s after None indexes on = tt
  next_index s after (Some i) indexes on = meant_index s i indexes on.0
