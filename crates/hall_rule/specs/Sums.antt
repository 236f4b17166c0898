-- Sums over lists, and numbers below a bound.
--     total f xs         the sum of f over a list
--     times x xs         how often a number stands in a list
--     once_below x n     1 where x is below n, else 0
--     upward a n         the n numbers from a on
use Rattle.std.specs.Prelude.{ℕ, zero, suc, ◌+◌, List, [], ◌∷◌, cond, ◌==◌, nat_lt}

abbrev pub total : {X : Type 0} → (X → ℕ) → List X → ℕ
total f [] = 0
total f (x ∷ xs) = f x + total f xs

abbrev pub times : ℕ → List ℕ → ℕ
times x [] = 0
times x (y ∷ ys) = cond (y == x) 1 0 + times x ys

-- 1 where x is below n
abbrev pub once_below : ℕ → ℕ → ℕ
once_below x n = cond (nat_lt x n) 1 0

-- the numbers from a on, n of them
abbrev pub upward : ℕ → ℕ → List ℕ
upward a zero = []
upward a (suc n) = a ∷ upward (a + 1) n
