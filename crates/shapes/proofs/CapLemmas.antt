-- Capped products.
use Rattle.std.proofs.Common.{◌≡◌, ℕ, zero, suc, ◌+◌, ◌*◌, ◌<◌, ◌≤◌, min, List, length, drop, get_or, inl, inr, sym, ap, ◌∙◌, arith, mul_assoc}
use Rattle.std.proofs.lemmas.Bool.{cases_lt}
use Rattle.std.proofs.lemmas.List.{drop_more}
use Rattle.std.proofs.lemmas.Nat.{mul-le}
use Rattle.shapes.specs.RowMajor.{cell_count}

capped : (t n r m : ℕ) → min (min (t * n) m * r) m ≡ min (t * (n * r)) m
capped t n zero m = omega arith
capped t n (suc r) m =
    let whole = mul_assoc t n (suc r) in
    elim (cases_lt m (t * n)) [
      | inl high ↦
          let top : min (t * n) m ≡ m = omega (arith, high) in
          let full : m * 1 ≤ m * suc r = mul-le m 1 m (suc r) (omega arith) (omega arith) in
          let more : (t * n) * 1 ≤ (t * n) * suc r = mul-le (t * n) 1 (t * n) (suc r) (omega arith) (omega arith) in
          ap (λ x. min (x * suc r) m) top ∙ omega (arith, full, more, whole, high)
      | inr low ↦
          let plain : min (t * n) m ≡ t * n = omega (arith, low) in
          ap (λ x. min (x * suc r) m) plain ∙ ap (λ x. min x m) whole
    ]

-- the capped product, one dim further
pub capped_next : (t i m : ℕ) (ns : List ℕ) → i < length ns → min (min (t * get_or ns i 0) m * cell_count (drop (i + 1) ns)) m ≡ min (t * cell_count (drop i ns)) m
capped_next t i m ns h = capped t (get_or ns i 0) (cell_count (drop (i + 1) ns)) m ∙ ap (λ xs. min (t * cell_count xs) m) (sym (drop_more ns i 0 h))
