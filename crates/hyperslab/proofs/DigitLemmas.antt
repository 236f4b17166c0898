-- Numbers of few digits are small.
use Rattle.std.proofs.Common.{◌≡◌, ℕ, zero, suc, ◌≤◌, inl, inr, ap, arith}
use Rattle.std.proofs.lemmas.Bool.{cases_lt}
use Rattle.hyperslab.specs.Steps.{ten_to}

pub ten_below : (c k : ℕ) → c ≤ k → ten_to c ≤ ten_to k
ten_below c zero h =
    let none : c ≡ 0 = omega arith in
    omega (arith, ap ten_to none)
ten_below c (suc k) h = elim (cases_lt k c) [
  | inl top ↦
      let same : c ≡ suc k = omega arith in
      omega (arith, ap ten_to same)
  | inr low ↦ omega (arith, ten_below c k low)
]
