-- Paths: their canonical texts, and their parents.
use Rattle.std.proofs.Common.{◌≡◌, ◌≢◌, ◌⊎◌, inl, inr, ℕ, zero, suc, ◌+◌, ◌-◌, ◌<◌, ◌≤◌, Bool, true, false, not, ◌&&◌, cond, List, [], ◌∷◌, ◌++◌, length, get_or, take, drop, nat_eq, nat_lt, nat_le, ◌==◌, Some, None, refl, sym, ap, subst, ◌∙◌, arith, length-append}
use Rattle.std.specs.List.{list_all, slice_split, onto_first, ends_with, before_last, suffix_len}
use Rattle.std.specs.Str.{bytes_eq}
use Rattle.std.proofs.lemmas.Bool.{cases_Bool, or_cases, or_right, and_parts, and_from, ltb-true, leb-true, le-leb, eqb-true, eq-eqb, ne_eqb, cond-true, cond-false, false≢true, cases_eq, cases_lt, lt-ltb, and_right, false_from_ne_true}
use Rattle.std.proofs.lemmas.Bool.Decides.{Decides-eqb}
use Rattle.std.proofs.lemmas.List.{length-take-le}
use Rattle.std.proofs.lemmas.List.Folds.{list_all-append}
use Rattle.std.proofs.lemmas.List.Sums.{suffix_len_is}
use Rattle.std.proofs.lemmas.List.Splits.{slice_split-cons_yes, slice_split-cons_no, length-slice_split}
use Rattle.std.proofs.lemmas.Slice.Eq.{bytes_eq-Decides, ends_is}
use Rattle.std.proofs.Math.Seq.{split_at, take-append_seam, get_or-append_seam, get_or-append_right}
use Rattle.object_ids.specs.Paths.{most_of_path, root_path, is_slash, starts_with_slash, parts_of, is_part, is_path, without_trailing_slash, path_of, parent_of}

onto_first-append : {X : Type 0} (x : X) (ps r : List (List X)) → 0 < length ps → onto_first x (ps ++ r) ≡ onto_first x ps ++ r
onto_first-append x [] r h = absurd (omega arith)
onto_first-append x (p ∷ ps) r h = refl

-- the parts of two lists round a separator
pub slice_split-append : {X : Type 0} (p : X → Bool) (xs : List X) (y : X) (ys : List X) → p y ≡ true → slice_split p (xs ++ y ∷ ys) ≡ slice_split p xs ++ slice_split p ys
slice_split-append p [] y ys h = slice_split-cons_yes p y ys h
slice_split-append {X} p (x ∷ xs) y ys h =
    let more : slice_split p (xs ++ y ∷ ys) ≡ slice_split p xs ++ slice_split p ys = slice_split-append p xs y ys h in
    let some : 0 < length (slice_split p xs) = omega (arith, length-slice_split p xs) in
    elim (cases_Bool (p x)) [
      | inl passes ↦
          slice_split-cons_yes p x (xs ++ y ∷ ys) passes ∙ ap (λ (r : List (List X)). [] ∷ r) more
          ∙ sym (ap (λ (r : List (List X)). r ++ slice_split p ys) (slice_split-cons_yes p x xs passes))
      | inr fails ↦
          slice_split-cons_no p x (xs ++ y ∷ ys) fails ∙ ap (onto_first x) more
          ∙ onto_first-append x (slice_split p xs) (slice_split p ys) some
          ∙ sym (ap (λ (r : List (List X)). r ++ slice_split p ys) (slice_split-cons_no p x xs fails))
    ]

-- the parts of two texts round a slash
parts-append : (front part : List ℕ) → list_all is_part (slice_split is_slash (front ++ 47 ∷ part)) ≡ true → (list_all is_part (slice_split is_slash front) ≡ true) × (list_all is_part (slice_split is_slash part) ≡ true)
parts-append front part h =
    let both : (list_all is_part (slice_split is_slash front) && list_all is_part (slice_split is_slash part)) ≡ true =
    sym (list_all-append is_part (slice_split is_slash front) (slice_split is_slash part)) ∙ sym (ap (list_all is_part) (slice_split-append is_slash front 47 part refl)) ∙ h in
    and_parts _ _ both

-- the three facts of a path that is not `/`
pub record IsLongPath (path : List ℕ) : Type 0 where
  pub small : length path ≤ most_of_path
  pub begins : starts_with_slash path ≡ true
  pub parts : list_all is_part (parts_of path) ≡ true

pub path_cases : (path : List ℕ) → is_path path ≡ true → (path ≡ root_path) ⊎ IsLongPath path
path_cases path h = elim (or_cases (bytes_eq path root_path) _ h) [
  | inl same ↦ inl ((bytes_eq-Decides path root_path).0 same)
  | inr long ↦
      let halves = and_parts (nat_le (length path) most_of_path && starts_with_slash path) (list_all is_part (parts_of path)) long in
      let fronts = and_parts (nat_le (length path) most_of_path) (starts_with_slash path) halves.0 in
      inr record { small = leb-true _ _ fronts.0; begins = fronts.1; parts = halves.1 }
]

pub long_path : (path : List ℕ) → IsLongPath path → is_path path ≡ true
long_path path h =
    or_right (bytes_eq path root_path) _ (and_from (nat_le (length path) most_of_path && starts_with_slash path) (list_all is_part (parts_of path))
    (and_from (nat_le (length path) most_of_path) (starts_with_slash path) (le-leb _ _ h.small) h.begins) h.parts)

-- what stands before a slash of a path, where it is not empty, is a path, and the slash is not the last byte
front_of_long : (front part : List ℕ) → 0 < length front → IsLongPath (front ++ 47 ∷ part) → IsLongPath front × (list_all is_part (slice_split is_slash part) ≡ true)
front_of_long [] part some h = absurd (omega arith)
front_of_long (b ∷ front) part some h =
    let parts = parts-append front part h.parts in
    (record { small = omega (arith, h.small, length-append front (47 ∷ part)); begins = h.begins; parts = parts.0 }, parts.1)

front_of_path : (front part : List ℕ) → 0 < length front → is_path (front ++ 47 ∷ part) ≡ true → IsLongPath front × (list_all is_part (slice_split is_slash part) ≡ true)
front_of_path front part some h = elim (path_cases (front ++ 47 ∷ part) h) [
  | inl root ↦ absurd (omega (arith, length-append front (47 ∷ part), ap length root))
  | inr long ↦ front_of_long front part some long
]

-- no path but `/` ends in a slash
no_slash_at_end : (front : List ℕ) → 0 < length front → is_path (front ++ 47 ∷ []) ≡ true → ⊥
no_slash_at_end front some h = false≢true (front_of_path front [] some h).1

pub without_trailing_slash-path : (path : List ℕ) → is_path path ≡ true → without_trailing_slash path ≡ path
without_trailing_slash-path path h = elim (cases_Bool (nat_lt 1 (length path) && ends_with nat_eq path root_path)) [
  | inl ends ↦
      let both = and_parts (nat_lt 1 (length path)) (ends_with nat_eq path root_path) ends in
      let big : 1 < length path = ltb-true _ _ both.0 in
      let e : path ≡ take (length path - 1) path ++ root_path = (ends_is Decides-eqb path root_path (ends_with nat_eq path root_path) refl).0 both.1 in
      absurd (no_slash_at_end (take (length path - 1) path) (omega (arith, length-take-le (length path - 1) path (omega arith))) (subst (λ (q : List ℕ). is_path q ≡ true) e h))
  | inr fails ↦ cond-false _ _ _ fails
]

pub path_of-path : (path : List ℕ) → is_path path ≡ true → path_of path ≡ Some path
path_of-path path h =
    ap (λ (q : List ℕ). cond (is_path q) (Some q) None) (without_trailing_slash-path path h) ∙ cond-true (is_path path) (Some path) None h

pub is_path-from_path_of : (text path : List ℕ) → path_of text ≡ Some path → is_path path ≡ true
is_path-from_path_of text path h = elim (cases_Bool (is_path (without_trailing_slash text))) [
  | inl passes ↦
      let same : Some (without_trailing_slash text) ≡ Some path = sym (cond-true (is_path (without_trailing_slash text)) (Some (without_trailing_slash text)) None passes) ∙ h in
      let e : without_trailing_slash text ≡ path = cc in
      subst (λ (q : List ℕ). is_path q ≡ true) e passes
  | inr fails ↦
      let same : None ≡ Some path = sym (cond-false (is_path (without_trailing_slash text)) (Some (without_trailing_slash text)) None fails) ∙ h in
      cc
]

-- the text of a path spells it
pub path_of-canonical : (text path : List ℕ) → path_of text ≡ Some path → path_of path ≡ Some path
path_of-canonical text path h = path_of-path path (is_path-from_path_of text path h)

-- a text that has a slash, at k the last one
pub record IsLastSlash (text : List ℕ) (k : ℕ) : Type 0 where
  pub within : k < length text
  pub slash : get_or text k 0 ≡ 47
  pub after : (i : ℕ) → k < i → i < length text → get_or text i 0 ≢ 47

before_last-at : (text : List ℕ) (k : ℕ) → IsLastSlash text k → before_last is_slash text ≡ take k text
before_last-at text k h =
    let inside : k < length text = h.within in
    let back : get_or text (k + 1 - 1) 0 ≡ 47 = ap (λ (j : ℕ). get_or text j 0) (omega arith) ∙ h.slash in
    let e : suffix_len (λ b. not (is_slash b)) text ≡ length text - (k + 1) =
    suffix_len_is (λ b. not (is_slash b)) text (k + 1) 0 (omega arith)
    (λ i low high. ap not (ne_eqb (get_or text i 0) 47 (h.after i (omega arith) high)))
    (λ _. ap not (eq-eqb (get_or text (k + 1 - 1) 0) 47 back)) in
    ap (λ (n : ℕ). take n text) (omega arith)

pub parent_of-at : (text : List ℕ) (k : ℕ) → IsLastSlash text k → parent_of text ≡ cond (k == 0) root_path (take k text)
parent_of-at text k h =
    let inside : k < length text = h.within in
    ap (λ (front : List ℕ). cond (length front == 0) root_path front) (before_last-at text k h)
    ∙ ap (λ (n : ℕ). cond (n == 0) root_path (take k text)) (length-take-le k text (omega arith))

-- where there is no slash
pub parent_of-none : (text : List ℕ) → ((i : ℕ) → i < length text → get_or text i 0 ≢ 47) → parent_of text ≡ root_path
parent_of-none text none =
    let e : suffix_len (λ b. not (is_slash b)) text ≡ length text - 0 =
    suffix_len_is (λ b. not (is_slash b)) text 0 0 (omega arith) (λ i low high. ap not (ne_eqb (get_or text i 0) 47 (none i high))) (λ h. absurd (omega arith)) in
    let zero_left : length text - suffix_len (λ b. not (is_slash b)) text - 1 ≡ 0 = omega arith in
    ap (λ (n : ℕ). cond (length (take n text) == 0) root_path (take n text)) zero_left

at_later : (b : ℕ) (bs : List ℕ) (i : ℕ) → 0 < i → get_or (b ∷ bs) i 0 ≡ get_or bs (i - 1) 0
at_later b bs zero h = absurd (omega arith)
at_later b bs (suc i) h = ap (λ (j : ℕ). get_or bs j 0) (omega arith)

later_slash : (b : ℕ) (bs : List ℕ) (k : ℕ) → IsLastSlash bs k → IsLastSlash (b ∷ bs) (suc k)
later_slash b bs k h = record {
  within = omega (arith, h.within);
  slash = h.slash;
  after = λ i low high e. h.after (i - 1) (omega arith) (omega arith) (sym (at_later b bs i (omega arith)) ∙ e);
}

pub has_last_slash : (text : List ℕ) → ((i : ℕ) → i < length text → get_or text i 0 ≢ 47) ⊎ ((k : ℕ) × IsLastSlash text k)
has_last_slash [] = inl (λ i h. absurd (omega arith))
has_last_slash (b ∷ bs) = elim (has_last_slash bs) [
  | inr found ↦ inr (suc found.0, later_slash b bs found.0 found.1)
  | inl none ↦ elim (cases_eq b 47) [
    | inl slash ↦ inr (0, record { within = omega arith; slash = slash; after = λ i low high e. none (i - 1) (omega arith) (sym (at_later b bs i low) ∙ e) })
    | inr other ↦ inl (λ i h e. elim (cases_eq i 0) [
      | inl first ↦ other (ap (λ (j : ℕ). get_or (b ∷ bs) j 0) (sym first) ∙ e)
      | inr later ↦ none (i - 1) (omega arith) (sym (at_later b bs i (omega arith)) ∙ e)
    ])
  ]
]

-- what the parent of a path is
pub record IsParent (path parent : List ℕ) : Type 0 where
  pub path_too : is_path parent ≡ true
  pub shorter : (length parent < length path) ⊎ (path ≡ root_path)

one_slash : (path : List ℕ) → starts_with_slash path ≡ true → length path ≤ 1 → path ≡ root_path
one_slash [] h small = absurd (false≢true h)
one_slash (b ∷ []) h small = ap (λ (x : ℕ). x ∷ []) (eqb-true b 47 h)
one_slash (b ∷ c ∷ path) h small = absurd (omega arith)

parent_at : (path : List ℕ) (k : ℕ) → IsLongPath path → IsLastSlash path k → IsParent path (parent_of path)
parent_at path k long h =
    let inside : k < length path = h.within in
    let whole : path ≡ take k path ++ 47 ∷ drop (suc k) path = split_at path k 0 inside ∙ ap (λ (b : ℕ). take k path ++ b ∷ drop (suc k) path) h.slash in
    elim (cases_eq k 0) [
      | inl first ↦
          let e : parent_of path ≡ root_path = parent_of-at path k h ∙ cond-true _ _ _ (eq-eqb k 0 first) in
          subst (IsParent path) (sym e) (record { path_too = refl; shorter = elim (cases_lt 1 (length path)) [ inl more ↦ inl more | inr one ↦ inr (one_slash path long.begins one) ] })
      | inr later ↦
          let e : parent_of path ≡ take k path = parent_of-at path k h ∙ cond-false _ _ _ (ne_eqb k 0 later) in
          let size : length (take k path) ≡ k = length-take-le k path (omega arith) in
          let front = front_of_long (take k path) (drop (suc k) path) (omega arith) (subst IsLongPath whole long) in
          subst (IsParent path) (sym e) (record { path_too = long_path (take k path) front.0; shorter = inl (omega arith) })
    ]

no_slash_no_path : (path : List ℕ) → starts_with_slash path ≡ true → ((i : ℕ) → i < length path → get_or path i 0 ≢ 47) → ⊥
no_slash_no_path [] h none = false≢true h
no_slash_no_path (b ∷ path) h none = none 0 (omega arith) (eqb-true b 47 h)

pub parent-path : (path : List ℕ) → is_path path ≡ true → IsParent path (parent_of path)
parent-path path h = elim (path_cases path h) [
  | inl root ↦ subst (λ (q : List ℕ). IsParent q (parent_of q)) (sym root) (record { path_too = refl; shorter = inr refl })
  | inr long ↦ elim (has_last_slash path) [
    | inl none ↦ absurd (no_slash_no_path path long.begins none)
    | inr found ↦ parent_at path found.0 long found.1
  ]
]

-- the parent of a path is a path
pub path_of-parent_of : (path : List ℕ) → path_of path ≡ Some path → path_of (parent_of path) ≡ Some (parent_of path)
path_of-parent_of path h = path_of-path (parent_of path) (parent-path path (is_path-from_path_of path path h)).path_too

-- no path but `/` is its own parent
pub parent_of-shorter : (path : List ℕ) → path_of path ≡ Some path → (length (parent_of path) < length path) ⊎ (path ≡ root_path)
parent_of-shorter path h = (parent-path path (is_path-from_path_of path path h)).shorter

-- the parent in other words: what stands before the last slash, and `/` where that is nothing
pub parent_of-joined : (front part : List ℕ) → ((i : ℕ) → i < length part → get_or part i 0 ≢ 47) → parent_of (front ++ 47 ∷ part) ≡ cond (length front == 0) root_path front
parent_of-joined front part none =
    let size : length (front ++ 47 ∷ part) ≡ length front + (length part + 1) = omega (arith, length-append front (47 ∷ part)) in
    let e : take (length front) (front ++ 47 ∷ part) ≡ front = take-append_seam front (47 ∷ part) in
    parent_of-at (front ++ 47 ∷ part) (length front) (record {
      within = omega arith;
      slash = get_or-append_seam front 47 part 0;
      after = λ i low high eq. none (i - length front - 1) (omega arith)
          (sym (get_or-append_right front (47 ∷ part) i 0 (omega arith) ∙ at_later 47 part (i - length front) (omega arith)) ∙ eq);
    })
    ∙ ap (cond (length front == 0) root_path) e

-- the text that `without_trailing_slash` leaves
pub without_trailing_slash-slash : (front : List ℕ) → 0 < length front → without_trailing_slash (front ++ 47 ∷ []) ≡ front
without_trailing_slash-slash front some =
    let size : length (front ++ 47 ∷ []) ≡ length front + 1 = length-append front (47 ∷ []) in
    let ends : ends_with nat_eq (front ++ 47 ∷ []) root_path ≡ true = (ends_is Decides-eqb (front ++ 47 ∷ []) root_path (ends_with nat_eq (front ++ 47 ∷ []) root_path) refl).1 front refl in
    cond-true _ _ _ (and_from _ _ (lt-ltb 1 (length (front ++ 47 ∷ [])) (omega arith)) ends)
    ∙ ap (λ (n : ℕ). take n (front ++ 47 ∷ [])) (omega arith) ∙ take-append_seam front (47 ∷ [])

pub without_trailing_slash-none : (text : List ℕ) → ((front : List ℕ) → text ≢ front ++ (47 ∷ [])) → without_trailing_slash text ≡ text
without_trailing_slash-none text none =
    let ends : ends_with nat_eq text root_path ≡ false =
    false_from_ne_true _ (λ is. none _ ((ends_is Decides-eqb text root_path (ends_with nat_eq text root_path) refl).0 is)) in
    cond-false _ _ _ (and_right (nat_lt 1 (length text)) _ ends)
