-- The chunks that a write adds.
use Rattle.std.proofs.Common.{◌≡◌, ◌≢◌, ℕ, zero, suc, ◌+◌, ◌<◌, ◌||◌, ◌&&◌, not, Bool, true, false, cond, is_some, bytes_eq, List, [], ◌∷◌, length, get_or, Option, Some, Less, inl, inr, refl, sym, ap, ◌∙◌, arith}
use Rattle.std.specs.BTreeMap.{BTreeMap}
use Rattle.std.specs.List.{AllByRecursion, list_any}
use Rattle.std.specs.List.Sorted.{IsStrictlySortedBy}
use Rattle.std.specs.Map.{keys_of, lookup}
use Rattle.std.proofs.lemmas.Bool.{cases_Bool, cases_lt}
use Rattle.std.proofs.lemmas.Map.Keys.{sorted_head, sorted_tail}
use Rattle.std.proofs.lemmas.Slice.Eq.{bytes_eq-Decides}
use Rattle.containers.specs.ShortLists.Order.{list_order}
use Rattle.chunk_layout.specs.Chunks.{quotients}
use Rattle.shapes.specs.RowMajor.{cell_count}
use Rattle.hyperslab.specs.Selected.{FitsIn, IsSlab, axes_of, extents, selected}
use Rattle.hyperslab.specs.declared.Slab.{Slab}
use Rattle.hyperslab.proofs.SelectLemmas.{selected_count}
use Rattle.hyperslab.proofs.CellLemmas.{cell_listed}
use Rattle.chunk_store.specs.Additions.{AreNew}
use Rattle.chunk_store.specs.Cells.{find_in, has, put}
use Rattle.chunk_store.specs.Listed.{IsOnce}
use Rattle.chunk_store.specs.Marks.{touches}
use Rattle.chunk_store.specs.Touched.{AreTouched, touched_at, touched_count}
use Rattle.chunk_store.proofs.BufferLemmas.{Chunks}
use Rattle.chunk_store.proofs.MarkLemmas.{touches_at}
use Rattle.chunk_store.proofs.NextLemmas.{less_apart}
use Rattle.chunk_store.proofs.SlabLemmas.{chunk_touched}

-- ---- tests

same_tests : (a b : Bool) → (a ≡ true → b ≡ true) → (b ≡ true → a ≡ true) → a ≡ b
same_tests true b h k = sym (h refl)
same_tests false true h k = k refl
same_tests false false h k = refl

or_case : (a b : Bool) → (a || b) ≡ true → (P : Type 0) → (a ≡ true → P) → (b ≡ true → P) → P
or_case true b e P h k = h refl
or_case false b e P h k = k e

and_both : (a b : Bool) → (a && b) ≡ true → (a ≡ true) × (b ≡ true)
and_both true b e = (refl, e)
and_both false b e = absurd (let both : false ≡ true = e in cc)

-- ---- the chunks so far

-- the map has those of the first `k` chunks that are not held
pub record AreNewTo {X : Type 0} (m : Chunks) (at : ℕ → List ℕ) (k : ℕ) (new : BTreeMap (List ℕ) X) : Type 0 where
  pub from : (i : List ℕ) → has new i ≡ true → (not (has m i) ≡ true) × ((b : ℕ) × (b < k) × (at b ≡ i))
  pub all : (b : ℕ) → b < k → not (has m (at b)) ≡ true → has new (at b) ≡ true

pub none_new : {X : Type 0} (m : Chunks) (at : ℕ → List ℕ) (new : BTreeMap (List ℕ) X) → new.entries ≡ [] → AreNewTo m at 0 new
none_new m at new empty = record {
  from = λ i there. absurd (let both : false ≡ true = sym (ap (λ es. is_some (lookup (bytes_eq i) es)) empty) ∙ there in cc);
  all = λ b low. absurd (omega (arith, low));
}

pub one_new : {X : Type 0} (m : Chunks) (at : ℕ → List ℕ) (k : ℕ) (index : List ℕ) (old new : BTreeMap (List ℕ) X) → index ≡ at k → ((i : List ℕ) → has new i ≡ (has old i || (bytes_eq index i && not (has m i)))) → AreNewTo m at k old → AreNewTo m at (k + 1) new
one_new m at k index old new is each h = record {
  from = λ i there. or_case (has old i) (bytes_eq index i && not (has m i)) (sym (each i) ∙ there) ((not (has m i) ≡ true) × ((b : ℕ) × (b < k + 1) × (at b ≡ i)))
      (λ before. let was = h.from i before in (was.0, (was.1.0, omega (arith, was.1.1), was.1.2)))
      (λ now. let both = and_both (bytes_eq index i) (not (has m i)) now in (both.1, (k, omega arith, sym is ∙ (bytes_eq-Decides index i).0 both.0)));
  all = λ b low out. elim (cases_lt b k) [
    | inl less ↦ each (at b) ∙ ap (λ x. x || (bytes_eq index (at b) && not (has m (at b)))) (h.all b less out)
    | inr past ↦
        let same : k ≡ b = omega (arith, low, past) in
        each (at b) ∙ ap (λ x. has old (at b) || (x && not (has m (at b)))) ((bytes_eq-Decides index (at b)).1 (is ∙ ap at same)) ∙ ap (λ x. has old (at b) || x) out ∙ or_true (has old (at b))
  ];
}
  where
    or_true : (a : Bool) → (a || true) ≡ true
    or_true true = refl
    or_true false = refl

-- these are all
pub all_new : {X : Type 0} (m : Chunks) (at : ℕ → List ℕ) (k : ℕ) (new : BTreeMap (List ℕ) X) (chunk : List ℕ) (ats : List (List ℕ)) → ((b : ℕ) → b < k → touches chunk ats (at b) ≡ true) → ((i : List ℕ) → touches chunk ats i ≡ true → (b : ℕ) × (b < k) × (at b ≡ i)) → AreNewTo m at k new → AreNew m chunk ats new
all_new m at k new chunk ats inside covers h i = same_tests (has new i) (touches chunk ats i && not (has m i))
    (λ there.
    let f = h.from i there in
    ap (λ x. x && not (has m i)) (ap (touches chunk ats) (sym f.1.2) ∙ inside f.1.0 f.1.1) ∙ f.0)
    (λ both.
    let parts = and_both (touches chunk ats i) (not (has m i)) both in
    let b = covers i parts.0 in
    ap (has new) (sym b.2) ∙ h.all b.0 b.1 (ap (λ x. not (has m x)) b.2 ∙ parts.1))

-- ---- points and selections

touched_from : (chunk : List ℕ) (ats : List (List ℕ)) (i : List ℕ) → touches chunk ats i ≡ true → (b : ℕ) × (b < length ats) × (quotients (get_or ats b []) chunk ≡ i)
touched_from chunk [] i t = absurd (let both : false ≡ true = t in cc)
touched_from chunk (at ∷ ats) i t = or_case (bytes_eq (quotients at chunk) i) (touches chunk ats i) t ((b : ℕ) × (b < suc (length ats)) × (quotients (get_or (at ∷ ats) b []) chunk ≡ i))
    (λ here. (0, omega arith, (bytes_eq-Decides (quotients at chunk) i).0 here))
    (λ later. let f = touched_from chunk ats i later in (suc f.0, omega (arith, f.1), f.2))

-- the chunk of a point
abbrev pub chunk_of_point : List ℕ → List (List ℕ) → ℕ → List ℕ
chunk_of_point chunk ats b = quotients (get_or ats b []) chunk

pub points_new : {X : Type 0} (m : Chunks) (chunk : List ℕ) (ats : List (List ℕ)) (k : ℕ) (new : BTreeMap (List ℕ) X) → k ≡ length ats → AreNewTo m (chunk_of_point chunk ats) k new → AreNew m chunk ats new
points_new m chunk ats k new is h = all_new m (chunk_of_point chunk ats) k new chunk ats (λ b low. touches_at chunk ats b (omega (arith, low, is))) (λ i t. let f = touched_from chunk ats i t in (f.0, omega (arith, f.1, is), f.2)) h

pub slab_new : {X : Type 0} (m : Chunks) (s : Slab) (chunk : List ℕ) (k : ℕ) (new : BTreeMap (List ℕ) X) → IsSlab s → AreTouched s chunk → k ≡ touched_count s chunk → AreNewTo m (touched_at s chunk) k new → (dims : List ℕ) → FitsIn s dims → AreNew m chunk (selected s dims) new
slab_new m s chunk k new slab t is h dims fits =
    all_new m (touched_at s chunk) k new chunk (selected s dims)
    (λ b low. chunk_touched s chunk b slab t (omega (arith, low, is)) dims fits)
    (λ i touched.
    let f = touched_from chunk (selected s dims) i touched in
    let many = selected_count (axes_of s) dims slab.sound fits in
    let within : f.0 < cell_count (extents s) = omega (arith, f.1, many) in
    let b = t.each f.0 within in
    (b.0, omega (arith, b.1, is), b.2 ∙ ap (λ x. quotients x chunk) (sym (cell_listed s dims f.0 slab fits within)) ∙ f.2)) h

-- ---- the keys of a map, each once

pub key_there : {X : Type 0} (es : List (List ℕ × X)) (i : List ℕ) → list_any (bytes_eq i) (keys_of es) ≡ is_some (lookup (bytes_eq i) es)
key_there [] i = refl
key_there (e ∷ es) i = ap (λ b. bytes_eq i e.0 || b) (key_there es i) ∙ found (bytes_eq i e.0) e.1 (lookup (bytes_eq i) es)
  where
    found : {X : Type 0} (b : Bool) (x : X) (o : Option X) → (b || is_some o) ≡ is_some (cond b (Some x) o)
    found true x o = refl
    found false x o = refl

key_apart : (k : List ℕ) (ks : List (List ℕ)) (j : ℕ) → AllByRecursion (λ x. list_order k x ≡ Less) ks → j < length ks → k ≢ get_or ks j []
key_apart k [] j low below e = absurd (omega (arith, below))
key_apart k (x ∷ ks) zero low below e = let both : true ≡ false = sym ((bytes_eq-Decides x k).1 (sym e)) ∙ less_apart k x low.0 in cc
key_apart k (x ∷ ks) (suc j) low below e = key_apart k ks j low.1 (omega (arith, below)) e

pub keys_once : (ks : List (List ℕ)) → IsStrictlySortedBy list_order ks → IsOnce ks
keys_once [] sorted j k less low = absurd (omega (arith, low))
keys_once (x ∷ ks) sorted zero zero less low = absurd (omega (arith, less))
keys_once (x ∷ ks) sorted zero (suc k) less low = key_apart x ks k (sorted_head list_order x ks sorted) (omega (arith, low))
keys_once (x ∷ ks) sorted (suc j) zero less low = absurd (omega (arith, less))
keys_once (x ∷ ks) sorted (suc j) (suc k) less low = keys_once ks (sorted_tail list_order x ks sorted) j k (omega (arith, less)) (omega (arith, low))

pub length-keys : {X : Type 0} (es : List (List ℕ × X)) → length (keys_of es) ≡ length es
length-keys [] = refl
length-keys (e ∷ es) = ap suc (length-keys es)

-- no cell touches a chunk
pub no_cells_new : {X : Type 0} (m : Chunks) (chunk : List ℕ) (ats : List (List ℕ)) (new : BTreeMap (List ℕ) X) → 0 ≡ length ats → new.entries ≡ [] → AreNew m chunk ats new
no_cells_new m chunk [] new none empty i = ap (λ es. is_some (lookup (bytes_eq i) es)) empty
no_cells_new m chunk (at ∷ ats) new none empty i = absurd (omega (arith, none))

-- ---- one chunk

or_none : (a b c : Bool) → c ≡ true → a ≡ (a || (b && not c))
or_none true b c e = refl
or_none false true c e = sym (ap not e)
or_none false false c e = refl

-- it is held, so nothing is noted
pub noted_held : {X : Type 0} (m : Chunks) (new : BTreeMap (List ℕ) X) (k : List ℕ) → has m k ≡ true → (i : List ℕ) → has new i ≡ (has new i || (bytes_eq k i && not (has m i)))
noted_held m new k there i = elim (cases_Bool (bytes_eq k i)) [
  | inl same ↦ or_none (has new i) (bytes_eq k i) (has m i) (ap (has m) (sym ((bytes_eq-Decides k i).0 same)) ∙ there)
  | inr other ↦ or_off (has new i) ∙ sym (ap (λ b. has new i || (b && not (has m i))) other)
]
  where
    or_off : (a : Bool) → a ≡ (a || false)
    or_off true = refl
    or_off false = refl

-- it is not held
pub noted_new : {X : Type 0} (m : Chunks) (old new : BTreeMap (List ℕ) X) (k : List ℕ) (v : X) → has m k ≡ false → ((i : List ℕ) → find_in new i ≡ put (find_in old) k (Some v) i) → (i : List ℕ) → has new i ≡ (has old i || (bytes_eq k i && not (has m i)))
noted_new m old new k v none each i = elim (cases_Bool (bytes_eq k i)) [
  | inl same ↦
      ap is_some (each i) ∙ ap (λ b. is_some (cond b (Some v) (find_in old i))) same
      ∙ sym (ap (λ b. has old i || (b && not (has m i))) same ∙ ap (λ b. has old i || not b) (ap (has m) (sym ((bytes_eq-Decides k i).0 same)) ∙ none) ∙ or_on (has old i))
  | inr other ↦
      ap is_some (each i) ∙ ap (λ b. is_some (cond b (Some v) (find_in old i))) other
      ∙ or_off (has old i) ∙ sym (ap (λ b. has old i || (b && not (has m i))) other)
]
  where
    or_off : (a : Bool) → a ≡ (a || false)
    or_off true = refl
    or_off false = refl

    or_on : (a : Bool) → (a || true) ≡ true
    or_on true = refl
    or_on false = refl
