-- Capped products.
use Rattle.std.proofs.Common.{◌≡◌, ℕ, ◌*◌, ◌-◌, ◌^◌, ◌≤◌, ◌&&◌, min, List, length, drop, nat_lt, ap, ◌∙◌, arith}
use Rattle.std.proofs.lemmas.Bool.Decides.{nat_tests}
use Rattle.std.proofs.lemmas.List.{drop_all}
use Rattle.shapes.specs.RowMajor.{cell_count}
use Rattle.shapes.specs.declared.TheConstants.{MAX_CHUNK_BYTES}

pub bytes_end : (t i m : ℕ) (ns : List ℕ) → length ns ≤ i → t ≤ m → t ≡ min (t * cell_count (drop i ns)) m
bytes_end t i m ns h k = rw (drop_all i ns h) (omega (arith, k))

-- a cap above the limits doesn't hide them
pub cap_hides_none : (p c : ℕ) → (nat_lt MAX_CHUNK_BYTES (min p (2 ^ 64 - 1)) && nat_lt 1 (min (1 * c) (2 ^ 64 - 1))) ≡ (nat_lt MAX_CHUNK_BYTES p && nat_lt 1 c)
cap_hides_none p c = ap (λ b. b && nat_lt 1 (min (1 * c) (2 ^ 64 - 1))) (first p) ∙ ap (λ b. nat_lt MAX_CHUNK_BYTES p && b) (second c)
  where
    first : (p : ℕ) → nat_lt MAX_CHUNK_BYTES (min p (2 ^ 64 - 1)) ≡ nat_lt MAX_CHUNK_BYTES p
    first p = grind (arith, nat_tests)

    second : (c : ℕ) → nat_lt 1 (min (1 * c) (2 ^ 64 - 1)) ≡ nat_lt 1 c
    second c = grind (arith, nat_tests)
