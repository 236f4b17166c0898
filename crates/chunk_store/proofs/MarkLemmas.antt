-- Marks as a function from a chunk to what is known of it.
use Rattle.std.proofs.Common.{◌≡◌, ℕ, zero, suc, ◌+◌, ◌<◌, ◌≤◌, ◌||◌, ◌&&◌, Bool, true, false, cond, bytes_eq, List, [], ◌∷◌, All, length, drop, get_or, Option, Some, None, Result, Ok, Err, OnOk, OnErr, min, Less, Greater, nat_cmp, refl, sym, ap, subst, ◌∙◌, ◌⊎◌, inl, inr, arith}
use Rattle.std.specs.Prelude.{⊤}
use Rattle.std.specs.List.{AllByRecursion, filter}
use Rattle.std.specs.BTreeMap.Range.{entries_between, range_contains}
use Rattle.std.specs.declared.ops.Bound.{Bound}
use Rattle.std.specs.declared.ops.Bound.TheVariants.{Excluded, Unbounded}
use Rattle.std.specs.Cmp.{nat_cmp_is}
use Rattle.std.specs.Cmp.Lexicographic.{slice_cmp}
use Rattle.std.specs.Ordering.{is_gt, is_lt, ordering_then}
use Rattle.std.specs.List.Sorted.{IsStrictlySortedBy}
use Rattle.std.specs.Map.{lookup, keys_of}
use Rattle.std.specs.Map.Calls.{RetainsPairs}
use Rattle.std.proofs.lemmas.Bool.{cases_Bool, cases_lt}
use Rattle.std.proofs.lemmas.List.{drop_more, drop_all}
use Rattle.std.proofs.lemmas.List.Elements.{All-head, All-tail}
use Rattle.std.proofs.lemmas.Map.Keys.{sorted_head, sorted_tail}
use Rattle.std.proofs.lemmas.Slice.Eq.{bytes_eq-Decides}
use Rattle.containers.specs.ShortLists.Order.{list_order}
use Rattle.containers.specs.ShortLists.OrderLaws.{shorter_first}
use Rattle.chunk_layout.specs.Chunks.{quotients}
use Rattle.chunk_store.specs.Cells.{put}
use Rattle.shapes.specs.declared.Shape.{Shape}
use Rattle.std.specs.declared.alloc.AllocError.{AllocError}
use Rattle.chunk_store.specs.Buffers.{IsNoted, has_cell, when_cleared}
use Rattle.chunk_store.specs.Changes.{marked}
use Rattle.chunk_store.specs.declared.buffers.Held.{Held}
use Rattle.chunk_store.specs.Marks.{is_after, is_later, touches, keeps, keeps_axis}
use Rattle.chunk_store.proofs.KeyLemmas.{put_cases}
use Rattle.chunk_store.proofs.NextLemmas.{less_apart, same_order}

-- ---- picked cells

pub touches_at : (chunk : List ℕ) (ats : List (List ℕ)) (k : ℕ) → k < length ats → touches chunk ats (quotients (get_or ats k []) chunk) ≡ true
touches_at chunk [] k h = absurd (omega arith)
touches_at chunk (at ∷ ats) zero h = ap (λ b. b || touches chunk ats (quotients at chunk)) ((bytes_eq-Decides (quotients at chunk) (quotients at chunk)).1 refl)
touches_at chunk (at ∷ ats) (suc k) h = or_true (bytes_eq (quotients at chunk) (quotients (get_or ats k []) chunk)) (touches chunk ats (quotients (get_or ats k []) chunk)) (touches_at chunk ats k (omega (arith, h)))
  where
    or_true : (a b : Bool) → b ≡ true → (a || b) ≡ true
    or_true true b h = refl
    or_true false b h = h

pub touched_here : (chunk : List ℕ) (ats : List (List ℕ)) (k : ℕ) (at index i : List ℕ) → k < length ats → get_or ats k [] ≡ at → index ≡ quotients at chunk → index ≡ i → touches chunk ats i ≡ true
touched_here chunk ats k at index i low here is same =
    ap (touches chunk ats) (sym same ∙ is ∙ ap (λ x. quotients x chunk) (sym here)) ∙ touches_at chunk ats k low

pub noted_next : (touched : Bool) (o p r : Option Bool) (index i : List ℕ) → IsNoted touched o p → (r ≡ p) ⊎ ((index ≡ i) × (p ≡ None) × (r ≡ Some false)) → (index ≡ i → touched ≡ true) → IsNoted touched o r
noted_next touched o p r index i before step here = elim step [
  | inl same ↦ subst (λ (x : Option Bool). IsNoted touched o x) (sym same) before
  | inr new ↦ elim before [
    | inl stays ↦ inr (sym stays ∙ new.1, here new.0, new.2)
    | inr more ↦ inr (more.0, more.1, new.2)
  ]
]

pub put_cond : (a b : Bool) (x : Option Bool) → cond b (Some true) (cond a (Some true) x) ≡ cond (a || b) (Some true) x
put_cond true true x = refl
put_cond true false x = refl
put_cond false true x = refl
put_cond false false x = refl

pub flag_next : (chunk : List ℕ) (ats : List (List ℕ)) (k : ℕ) (at index : List ℕ) (f g : List ℕ → Option Bool) → k < length ats → get_or ats k [] ≡ at → index ≡ quotients at chunk → ((i : List ℕ) → g i ≡ put f index (Some true) i)
    → (i : List ℕ) (whole : Option Bool) → cond (touches chunk (drop k ats) i) (Some true) (f i) ≡ whole → cond (touches chunk (drop (k + 1) ats) i) (Some true) (g i) ≡ whole
flag_next chunk ats k at index f g low here is each i whole done =
    let rest = touches chunk (drop (k + 1) ats) i in
    ap (λ x. cond rest (Some true) x) (each i)
    ∙ ap (λ j. cond rest (Some true) (cond (bytes_eq j i) (Some true) (f i))) (is ∙ ap (λ x. quotients x chunk) (sym here))
    ∙ put_cond (bytes_eq (quotients (get_or ats k []) chunk) i) rest (f i)
    ∙ ap (λ l. cond (touches chunk l i) (Some true) (f i)) (sym (drop_more ats k [] low)) ∙ done

pub flag_end : (chunk : List ℕ) (ats : List (List ℕ)) (k : ℕ) (f : List ℕ → Option Bool) (i : List ℕ) (whole : Option Bool) → length ats ≤ k → cond (touches chunk (drop k ats) i) (Some true) (f i) ≡ whole → f i ≡ whole
flag_end chunk ats k f i whole past done = ap (λ l. cond (touches chunk l i) (Some true) (f i)) (sym (drop_all k ats past)) ∙ done

-- ---- some entries alone, written anew

-- what stands there after a walk that keeps some values, changed
abbrev pub changed_by : {V : Type 0} → (List ℕ → V → Bool) → (List ℕ → V → V) → List ℕ → Option V → Option V
changed_by p g q None = None
changed_by p g q (Some v) = cond (p q v) (Some (g q v)) None

absent_later : {V : Type 0} (k : List ℕ) (es : List (List ℕ × V)) → AllByRecursion (λ y. list_order k y ≡ Less) (keys_of es) → (q : List ℕ) → bytes_eq q k ≡ true → lookup (bytes_eq q) es ≡ None
absent_later k [] low q same = refl
absent_later k (e ∷ es) low q same =
    let key = (bytes_eq-Decides q k).0 same in
    let no_key : bytes_eq q e.0 ≡ false = other_way (e.0) q (less_apart k e.0 low.0) key in
    ap (λ b. cond b (Some e.1) (lookup (bytes_eq q) es)) no_key ∙ absent_later k es low.1 q same
  where
    other_way : (x q : List ℕ) → {k : List ℕ} → bytes_eq x k ≡ false → q ≡ k → bytes_eq q x ≡ false
    other_way x q {k} h e = elim (cases_Bool (bytes_eq q x)) [
      | inl y ↦ absurd (let both : true ≡ false = sym ((bytes_eq-Decides x k).1 (sym ((bytes_eq-Decides q x).0 y) ∙ e)) ∙ h in cc)
      | inr n ↦ n
    ]

module _ {F V : Type 0} (T : F → List ℕ → V → Bool → V → F → Type 0) (p : List ℕ → V → Bool) (g : List ℕ → V → V) (f : F) (told : (k : List ℕ) (v : V) (b : Bool) (w : V) (f' : F) → T f k v b w f' → (b ≡ p k v) × (w ≡ g k v) × (f' ≡ f)) where
  kept_head : (k : List ℕ) (w : V) (rest : List (List ℕ × V)) (b : Bool) (q : List ℕ) → bytes_eq q k ≡ true → lookup (bytes_eq q) rest ≡ None → lookup (bytes_eq q) (cond b ((k, w) ∷ rest) rest) ≡ cond b (Some w) None
  kept_head k w rest true q same none = ap (λ c. cond c (Some w) (lookup (bytes_eq q) rest)) same
  kept_head k w rest false q same none = none

  kept_tail : (k : List ℕ) (w : V) (rest : List (List ℕ × V)) (b : Bool) (q : List ℕ) → bytes_eq q k ≡ false → lookup (bytes_eq q) (cond b ((k, w) ∷ rest) rest) ≡ lookup (bytes_eq q) rest
  kept_tail k w rest true q other = ap (λ c. cond c (Some w) (lookup (bytes_eq q) rest)) other
  kept_tail k w rest false q other = refl

  pub retained : (es kept : List (List ℕ × V)) → IsStrictlySortedBy list_order (keys_of es) → RetainsPairs T f es kept → (q : List ℕ) → lookup (bytes_eq q) kept ≡ changed_by p g q (lookup (bytes_eq q) es)
  retained [] kept sorted r q = ap (lookup (bytes_eq q)) r
  retained (e ∷ es) kept sorted r q =
      let a = told e.0 e.1 r.0 r.1 r.2 r.4 in
      let rest = retained es r.3 (sorted_tail list_order e.0 (keys_of es) sorted) (subst (λ (u : F). RetainsPairs T u es r.3) a.2 r.5) q in
      ap (lookup (bytes_eq q)) r.6 ∙ elim (cases_Bool (bytes_eq q e.0)) [
        | inl same ↦
            let none = absent_later e.0 es (sorted_head list_order e.0 (keys_of es) sorted) q same in
            let key = (bytes_eq-Decides q e.0).0 same in
            kept_head e.0 r.1 r.3 r.0 q same (rest ∙ ap (changed_by p g q) none)
            ∙ ap (λ b. cond b (Some r.1) None) a.0 ∙ ap (λ w. cond (p e.0 e.1) (Some w) None) a.1
            ∙ ap (λ k. cond (p k e.1) (Some (g k e.1)) None) (sym key)
            ∙ sym (ap (λ b. changed_by p g q (cond b (Some e.1) (lookup (bytes_eq q) es))) same)
        | inr other ↦
            kept_tail e.0 r.1 r.3 r.0 q other ∙ rest
            ∙ sym (ap (λ b. changed_by p g q (cond b (Some e.1) (lookup (bytes_eq q) es))) other)
      ]

-- ---- chunks that other dims keep

pub keeps_next : (k : ℕ) (is ns olds news : List ℕ) → k < length is → k < length ns → k < length olds → k < length news → keeps_axis (get_or is k 0) (get_or ns k 0) (get_or olds k 0) (get_or news k 0) ≡ true
    → keeps (drop k is) (drop k ns) (drop k olds) (drop k news) ≡ keeps (drop (k + 1) is) (drop (k + 1) ns) (drop (k + 1) olds) (drop (k + 1) news)
keeps_next k is ns olds news a b c d kept = rw (drop_more is k 0 a, drop_more ns k 0 b, drop_more olds k 0 c, drop_more news k 0 d, kept) refl

pub keeps_here : (k : ℕ) (is ns olds news : List ℕ) → k < length is → k < length ns → k < length olds → k < length news → keeps_axis (get_or is k 0) (get_or ns k 0) (get_or olds k 0) (get_or news k 0) ≡ false
    → keeps (drop k is) (drop k ns) (drop k olds) (drop k news) ≡ false
keeps_here k is ns olds news a b c d gone = rw (drop_more is k 0 a, drop_more ns k 0 b, drop_more olds k 0 c, drop_more news k 0 d, gone) refl

no_index : (ns olds news : List ℕ) → keeps [] ns olds news ≡ true
no_index ns olds news = refl

no_chunk : (is olds news : List ℕ) → keeps is [] olds news ≡ true
no_chunk [] olds news = refl
no_chunk (i ∷ is) olds news = refl

no_old : (is ns news : List ℕ) → keeps is ns [] news ≡ true
no_old [] ns news = refl
no_old (i ∷ is) [] news = refl
no_old (i ∷ is) (n ∷ ns) news = refl

no_new : (is ns olds : List ℕ) → keeps is ns olds [] ≡ true
no_new [] ns olds = refl
no_new (i ∷ is) [] olds = refl
no_new (i ∷ is) (n ∷ ns) [] = refl
no_new (i ∷ is) (n ∷ ns) (o ∷ olds) = refl

pub keeps_end : (k : ℕ) (is ns olds news : List ℕ) → (length is ≤ k) ⊎ ((length ns ≤ k) ⊎ ((length olds ≤ k) ⊎ (length news ≤ k))) → keeps (drop k is) (drop k ns) (drop k olds) (drop k news) ≡ true
keeps_end k is ns olds news (inl h) = ap (λ l. keeps l (drop k ns) (drop k olds) (drop k news)) (drop_all k is h)
keeps_end k is ns olds news (inr (inl h)) = ap (λ l. keeps (drop k is) l (drop k olds) (drop k news)) (drop_all k ns h) ∙ no_chunk (drop k is) (drop k olds) (drop k news)
keeps_end k is ns olds news (inr (inr (inl h))) = ap (λ l. keeps (drop k is) (drop k ns) l (drop k news)) (drop_all k olds h) ∙ no_old (drop k is) (drop k ns) (drop k news)
keeps_end k is ns olds news (inr (inr (inr h))) = ap (λ l. keeps (drop k is) (drop k ns) (drop k olds) l) (drop_all k news h) ∙ no_new (drop k is) (drop k ns) (drop k olds)

least_of : (a b k : ℕ) → min a b ≤ k → (a ≤ k) ⊎ (b ≤ k)
least_of a b k h = elim (cases_lt a b) [
  | inl low ↦ inl (omega (arith, h, low))
  | inr high ↦ inr (omega (arith, h, high))
]

pub least_past : (a b c d k : ℕ) → min (min (min a b) c) d ≤ k → (a ≤ k) ⊎ ((b ≤ k) ⊎ ((c ≤ k) ⊎ (d ≤ k)))
least_past a b c d k h = elim (least_of (min (min a b) c) d k h) [
  | inr past ↦ inr (inr (inr past))
  | inl rest ↦ elim (least_of (min a b) c k rest) [
    | inr past ↦ inr (inr (inl past))
    | inl two ↦ elim (least_of a b k two) [
      | inr past ↦ inr (inl past)
      | inl past ↦ inl past
    ]
  ]
]

-- ---- what a walk over all chunks leaves

pub dirty_cleared : (chunk : List ℕ) (s : Shape) (q : List ℕ) (o : Option Held)
    → changed_by (λ k v. cond v.dirty (has_cell chunk s k) true) (λ k v. record { bytes = v.bytes; dirty = false }) q o ≡ when_cleared (has_cell chunk s q) o
dirty_cleared chunk s q None = refl
dirty_cleared chunk s q (Some v) = refl

-- either a new mark was set, or nothing changed
pub set_or_kept : {A B : Type 0} (r : Result ⊤ AllocError) → OnOk r A → OnErr r B → A ⊎ B
set_or_kept (Ok u) done kept = inl done
set_or_kept (Err e) done kept = inr kept

pub note_new : (o p : List ℕ → Option Bool) (index : List ℕ) → o index ≡ None → ((i : List ℕ) → p i ≡ put o index (Some false) i) → (i : List ℕ) → (p i ≡ o i) ⊎ ((index ≡ i) × (o i ≡ None) × (p i ≡ Some false))
note_new o p index none each i = elim (put_cases o index (Some false) i) [
  | inl here ↦ inr (here.0, ap o (sym here.0) ∙ none, each i ∙ here.1)
  | inr other ↦ inl (each i ∙ other)
]

-- ---- the entries that come after a chunk, in the order of keys

-- with no more axes, what comes after a chunk is behind it
behind_after : (a k : List ℕ) → length a ≤ length k → is_lt (slice_cmp nat_cmp a k) ≡ true → is_lt (list_order a k) ≡ true
behind_after a k few later = elim (cases_lt (length a) (length k)) [
  | inl less ↦ ap is_lt (shorter_first a k less)
  | inr high ↦ ap is_lt (same_order a k (omega (arith, few, high))) ∙ later
]

-- the least key has no more axes than another
least_axes : (least k : List ℕ) → is_gt (list_order least k) ≡ false → length least ≤ length k
least_axes least k h = elim (cases_lt (length k) (length least)) [
  | inl less ↦ absurd (let both : true ≡ false = sym (ap (λ o. is_gt (ordering_then o (slice_cmp nat_cmp least k))) (sym (nat_cmp_is (length least) (length k) Greater less))) ∙ h in cc)
  | inr high ↦ high
]

module _ {X : Type 0} (flag : List ℕ × X → Bool) (test : Option Bool → Bool) (after : Option (List ℕ)) (start : Bound (List ℕ)) where
  abbrev later : List (List ℕ × X) → List (List ℕ × Bool)
  later es = filter (is_later test after) (marked flag es)

  abbrev from_start : List (List ℕ × X) → List (List ℕ × X)
  from_start es = entries_between list_order start Unbounded es

  not_later : (a t q : Bool) → (a ≡ true → q ≡ true) → q ≡ false → (t && a) ≡ false
  not_later true t q h off = absurd (let both : true ≡ false = sym (h refl) ∙ off in cc)
  not_later false true q h off = refl
  not_later false false q h off = refl

  pub later_kept : (es : List (List ℕ × X)) → All (λ k. is_after after k ≡ true → range_contains list_order start Unbounded k ≡ true) (keys_of es) → later (from_start es) ≡ later es
  later_kept [] low = refl
  later_kept (e ∷ es) low =
      let mark : List ℕ × Bool = (e.0, flag e) in
      let rest = later_kept es (All-tail (λ k. is_after after k ≡ true → range_contains list_order start Unbounded k ≡ true) e.0 (keys_of es) low) in
      elim (cases_Bool (range_contains list_order start Unbounded e.0)) [
        | inl on ↦
            ap (λ b. later (cond b (e ∷ from_start es) (from_start es))) on
            ∙ ap (λ xs. cond (is_later test after mark) (mark ∷ xs) xs) rest
        | inr off ↦
            let gone = not_later (is_after after e.0) (test (Some (flag e))) (range_contains list_order start Unbounded e.0) (All-head (λ k. is_after after k ≡ true → range_contains list_order start Unbounded k ≡ true) e.0 (keys_of es) low) off in
            ap (λ b. later (cond b (e ∷ from_start es) (from_start es))) off ∙ rest ∙ sym (ap (λ b. cond b (mark ∷ later es) (later es)) gone)
      ]

pub later_behind : {X : Type 0} (flag : List ℕ × X → Bool) (test : Option Bool → Bool) (a least : List ℕ) (es : List (List ℕ × X)) → length a ≤ length least → All (λ k. is_gt (list_order least k) ≡ false) (keys_of es)
    → filter (is_later test (Some a)) (marked flag (entries_between list_order (Excluded a) Unbounded es)) ≡ filter (is_later test (Some a)) (marked flag es)
later_behind flag test a least es few low =
    later_kept flag test (Some a) (Excluded a) es (λ j d h later. ap (λ b. b && true) (behind_after a (get_or (keys_of es) j d) (omega (arith, few, least_axes least (get_or (keys_of es) j d) (low j d h))) later))

pub later_all : {X : Type 0} (flag : List ℕ × X → Bool) (test : Option Bool → Bool) (after : Option (List ℕ)) (es : List (List ℕ × X)) → filter (is_later test after) (marked flag (entries_between list_order Unbounded Unbounded es)) ≡ filter (is_later test after) (marked flag es)
later_all flag test after es = later_kept flag test after Unbounded es (λ j d h later. refl)
