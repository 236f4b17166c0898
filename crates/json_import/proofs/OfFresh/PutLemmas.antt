-- The values of a map, each seen as something else and put at its key.
use Rattle.std.proofs.Common.{◌≡◌, ◌+◌, ◌<◌, ◌≤◌, ℕ, true, false, cond, List, map, length, Option, Some, None, is_eq, is_lt, refl, sym, ap, subst, ◌∙◌, arith}
use Rattle.std.specs.Cmp.Lexicographic.{nat_list_cmp_total}
use Rattle.std.specs.FinMap.{FinMap, empty, entries, get, get-insert, len}
use Rattle.std.specs.Ordering.{eq_by_cmp, ordering_reverse}
use Rattle.containers.specs.TextMaps.Keyed.{text_order, with_values, with_entries}
use Rattle.containers.specs.TextMaps.Nexts.{IsKeyStep, is_behind, left}
use Rattle.containers.proofs.Passing.{lt_less}
use Rattle.containers.proofs.TextMaps.ValueMaps.{entries-values}
use Rattle.object_ids.proofs.PutLemmas.{insert_most}
use Rattle.json_import.specs.Fresh.Taking.{put_at}
use Rattle.json_import.proofs.OfFresh.TakingLemmas.{left_all}
use Rattle.containers.proofs.TextMaps.PutLemmas.{put_entries}

module _ {X Y : Type 0} (h : X → Y) where
  abbrev pub entry_as : List ℕ × X → List ℕ × Y
  entry_as e = (e.0, h e.1)

  put_all : (m : FinMap text_order X) → with_entries empty (map entry_as (entries m)) ≡ with_values h m
  put_all m = ap (λ es. with_entries empty es) (sym (entries-values nat_list_cmp_total h m)) ∙ put_entries (with_values h m)

  -- what is put so far, with what is left of a walk
  abbrev pub put_left : FinMap text_order Y → Option (List ℕ) → FinMap text_order X → FinMap text_order Y
  put_left made after m = with_entries made (map entry_as (left text_order after (entries m)))

  pub put_first : (m : FinMap text_order X) → put_left empty None m ≡ with_values h m
  put_first m = ap (λ es. with_entries empty (map entry_as es)) (left_all (entries m)) ∙ put_all m

  pub put_more : (m : FinMap text_order X) (after : Option (List ℕ)) (k : List ℕ) (old new : FinMap text_order Y) → IsKeyStep m after (Some k) → new ≡ put_at h k (get m k) old
      → put_left old after m ≡ with_values h m → put_left new (Some k) m ≡ with_values h m
  put_more m after k old new step made so_far =
      ap (λ n. put_left n (Some k) m) (made ∙ ap (λ o. put_at h k o old) step.1)
      ∙ ap (λ es. with_entries old (map entry_as es)) (sym step.2) ∙ so_far

  pub put_last : (m : FinMap text_order X) (after : Option (List ℕ)) (made : FinMap text_order Y) → IsKeyStep m after None → put_left made after m ≡ with_values h m → made ≡ with_values h m
  put_last m after made none so_far = ap (λ es. with_entries made (map entry_as es)) (sym none) ∙ so_far

  -- nothing is put yet at what is left
  abbrev pub IsNewBehind : FinMap text_order Y → Option (List ℕ) → Type 0
  IsNewBehind made after = (q : List ℕ) → is_behind text_order after q ≡ true → get made q ≡ None

  later_behind : (after : Option (List ℕ)) (k q : List ℕ) → is_behind text_order after k ≡ true → is_behind text_order (Some k) q ≡ true → is_behind text_order after q ≡ true
  later_behind None k q behind later = refl
  later_behind (Some a) k q behind later = ap is_lt (nat_list_cmp_total.trans a k q (lt_less (text_order a k) behind) (lt_less (text_order k q) later))

  pub new_more : (after : Option (List ℕ)) (k : List ℕ) (o : Option X) (old new : FinMap text_order Y) → is_behind text_order after k ≡ true → new ≡ put_at h k o old
      → IsNewBehind old after → IsNewBehind new (Some k)
  new_more after k o old new behind made none = λ q later. ap (λ m. get m q) made ∙ at q later o where
    apart : (q : List ℕ) → is_behind text_order (Some k) q ≡ true → eq_by_cmp text_order q k ≡ false
    apart q later = ap is_eq (nat_list_cmp_total.antisymm q k ∙ ap ordering_reverse (lt_less (text_order k q) later))

    at : (q : List ℕ) → is_behind text_order (Some k) q ≡ true → (o : Option X) → get (put_at h k o old) q ≡ None
    at q later None = none q (later_behind after k q behind later)
    at q later (Some x) =
        get-insert nat_list_cmp_total old k (h x) q
        ∙ ap (λ b. cond b (Some (h x)) (get old q)) (apart q later)
        ∙ none q (later_behind after k q behind later)

  -- at most one more is there
  pub one_more : (k : List ℕ) (o : Option X) (old new : FinMap text_order Y) → new ≡ put_at h k o old → len new ≤ len old + 1
  one_more k o old new made = subst (λ m. len m ≤ len old + 1) (sym made) (at o) where
    at : (o : Option X) → len (put_at h k o old) ≤ len old + 1
    at None = omega arith
    at (Some x) = insert_most (len old + 1) old k (h x) (omega arith)

-- each step leaves less
pub less_left : {X : Type 0} (m : FinMap text_order X) (after : Option (List ℕ)) (k : List ℕ) → IsKeyStep m after (Some k)
    → length (left text_order (Some k) (entries m)) < length (left text_order after (entries m))
less_left m after k step = let e = ap length step.2 in omega (arith, e)
