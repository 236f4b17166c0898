-- The default chunk is the one after the fewest halvings.
use Rattle.std.proofs.Common.{◌≡◌, ℕ, zero, suc, ◌*◌, ◌≤◌, Bool, true, false, cond, List, [], ◌∷◌, ◌+◌, sum, nat_lt, refl, sym, ap, ◌∙◌, arith}
use Rattle.std.proofs.lemmas.Bool.{lt-ltb, ltb-true, false≢true, and_parts}
use Rattle.std.proofs.lemmas.List.Sums.{sum_by-cons}
use Rattle.shapes.specs.RowMajor.{cell_count}
use Rattle.chunk_layout.specs.declared.TheConstants.{DEFAULT_CHUNK_BYTES}
use Rattle.chunk_layout.specs.Defaults.{at_least_one, largest, halved, IsLarge, IsHalvedDown, IsDefault}
use Rattle.chunk_layout.proofs.DefaultLemmas.{IsOnWay, one_end, way_begins, way_goes, way_ends, halve_falls, total}
use Rattle.chunk_layout.specs.DefaultChunks.Halving.{default_chunk, halved_while, is_large}

large : (size : ℕ) (chunk : List ℕ) → is_large size chunk ≡ true → IsLarge size chunk
large size chunk e =
    let both = and_parts (nat_lt DEFAULT_CHUNK_BYTES (size * cell_count chunk)) (nat_lt 1 (largest chunk)) e in
    (ltb-true DEFAULT_CHUNK_BYTES (size * cell_count chunk) both.0, ltb-true 1 (largest chunk) both.1)

not_large : (size : ℕ) (chunk : List ℕ) → is_large size chunk ≡ false → IsLarge size chunk → ⊥
not_large size chunk e h =
    let is : is_large size chunk ≡ true = rw (lt-ltb DEFAULT_CHUNK_BYTES (size * cell_count chunk) h.0, lt-ltb 1 (largest chunk) h.1) refl in
    false≢true (sym e ∙ is)

way_at : (b : Bool) (k size : ℕ) (start chunk : List ℕ) → is_large size chunk ≡ b → IsOnWay size start chunk → total chunk ≤ suc k
    → (IsOnWay size start (halved chunk) → total (halved chunk) ≤ k → IsHalvedDown size start (halved_while k size (halved chunk)))
    → IsHalvedDown size start (cond b (halved_while k size (halved chunk)) chunk)
way_at true k size start chunk e way h next =
    let big = large size chunk e in
    let less = halve_falls (largest chunk) chunk big.1 refl in
    next (way_goes size start chunk way big) (omega (arith, less, h))
way_at false k size start chunk e way h next = way_ends size start chunk way (not_large size chunk e)

on_way : (fuel size : ℕ) (start chunk : List ℕ) → IsOnWay size start chunk → total chunk ≤ fuel → IsHalvedDown size start (halved_while fuel size chunk)
on_way zero size start chunk way h =
    way_ends size start chunk way (λ big. let less = halve_falls (largest chunk) chunk big.1 refl in omega (arith, less, h))
on_way (suc k) size start chunk way h = way_at (is_large size chunk) k size start chunk refl way h (λ w l. on_way k size start (halved chunk) w l)

total_sum : (ns : List ℕ) → total ns ≡ sum ns
total_sum [] = refl
total_sum (n ∷ ns) = ap (λ k. n + k) (total_sum ns) ∙ sym (sum_by-cons (λ (m : ℕ). m) n ns)

pub default_is : (size : ℕ) (dims : List ℕ) → IsDefault size dims (default_chunk size dims)
unfolding default_chunk
default_is size dims =
    let start = at_least_one dims in
    on_way (sum start) size start start (way_begins size start) (omega (arith, total_sum start))

-- a default chunk is this one
pub default_only : (size : ℕ) (dims chunk : List ℕ) → IsDefault size dims chunk → default_chunk size dims ≡ chunk
default_only size dims chunk is = one_end size (at_least_one dims) (default_chunk size dims) chunk (default_is size dims) is

-- an array without axes has a chunk without axes
pub no_default : (size : ℕ) → default_chunk size [] ≡ []
unfolding default_chunk
no_default size = refl
