-- Sums over the views, and how often a number stands in a list.
use Rattle.std.proofs.Common.{◌≡◌, ◌≢◌, ℕ, zero, suc, ◌+◌, ◌<◌, ◌≤◌, List, [], ◌∷◌, ◌++◌, set, length, cond, Bool, true, false, eqb, eq-eqb}
use Rattle.std.proofs.Common.{ne_eqb, refl, sym, ap, ◌∙◌, arith}
use Rattle.std.specs.Prelude.{nat_lt}
use mathlib.Core.Option.{some, some-ne-none, some-injective}
use mathlib.Core.Logic.{dite}
use native.Mathlib.Decide.{ℕ_discrete, dec_le}
use Rattle.std.proofs.lemmas.Bool.{lt-ltb, le-ltb}
use lib.ListN.{get_elem?}
use Rattle.hall_rule.specs.Sums.{total, times, once_below, upward}

module _ {X : Type 0} (f : X → ℕ) where
  pub total_set : (xs : List X) (i : ℕ) (v w : X) → get_elem? xs i ≡ some v → total f (set xs i w) + f v ≡ total f xs + f w
  total_set [] i v w e = absurd (some-ne-none v (sym e))
  total_set (x ∷ xs) zero v w e = let same : f x ≡ f v = ap f (some-injective x v e) in omega arith
  total_set (x ∷ xs) (suc i) v w e = let more = total_set xs i v w e in omega arith

  pub total_push : (xs : List X) (x : X) → total f (xs ++ x ∷ []) ≡ total f xs + f x
  total_push [] x = omega arith
  total_push (y ∷ xs) x = let more = total_push xs x in omega arith

  pub total_one : (xs : List X) (i : ℕ) (v : X) → get_elem? xs i ≡ some v → f v ≤ total f xs
  total_one [] i v e = absurd (some-ne-none v (sym e))
  total_one (x ∷ xs) zero v e = let same : f x ≡ f v = ap f (some-injective x v e) in omega arith
  total_one (x ∷ xs) (suc i) v e = let more = total_one xs i v e in omega arith

  pub total_two : (xs : List X) (i j : ℕ) (v w : X) → i ≢ j → get_elem? xs i ≡ some v → get_elem? xs j ≡ some w → f v + f w ≤ total f xs
  total_two [] i j v w n a b = absurd (some-ne-none v (sym a))
  total_two (x ∷ xs) zero zero v w n a b = absurd (n refl)
  total_two (x ∷ xs) zero (suc j) v w n a b = let same : f x ≡ f v = ap f (some-injective x v a) in let more = total_one xs j w b in
      omega arith
  total_two (x ∷ xs) (suc i) zero v w n a b = let same : f x ≡ f w = ap f (some-injective x w b) in let more = total_one xs i v a in
      omega arith
  total_two (x ∷ xs) (suc i) (suc j) v w n a b = let more = total_two xs i j v w (λ e. n (ap suc e)) a b in omega arith

pub total_le : {X : Type 0} (f g : X → ℕ) → (xs : List X) → ((i : ℕ) (v : X) → get_elem? xs i ≡ some v → f v ≤ g v)
    → total f xs ≤ total g xs
total_le f g [] h = omega arith
total_le f g (x ∷ xs) h = let here : f x ≤ g x = h 0 x refl in let more = total_le f g xs (λ i v e. h (suc i) v e) in omega arith

pub times_append : (x : ℕ) (xs ys : List ℕ) → times x (xs ++ ys) ≡ times x xs + times x ys
times_append x [] ys = omega arith
times_append x (y ∷ xs) ys = let more = times_append x xs ys in omega arith

pub times_here : (x : ℕ) (xs : List ℕ) → times x (x ∷ xs) ≡ times x xs + 1
times_here x xs = ap (λ (b : Bool). cond b 1 0 + times x xs) (eq-eqb x x refl) ∙ omega arith

pub once_le : (x n : ℕ) → once_below x n ≤ 1
once_le x n = elim (nat_lt x n) as (λ b. cond b 1 0 ≤ 1) [ true ↦ omega arith | false ↦ omega arith ]

pub total_only : {X : Type 0} (f : X → ℕ) → (xs : List X) (i : ℕ) (v : X) → get_elem? xs i ≡ some v
    → ((j : ℕ) (u : X) → j ≢ i → get_elem? xs j ≡ some u → f u ≡ 0) → total f xs ≡ f v
total_only f [] i v e none_else = absurd (some-ne-none v (sym e))
total_only f (x ∷ xs) zero v e none_else = let same : f x ≡ f v = ap f (some-injective x v e) in
    let more = total_none f xs (λ j u at. none_else (suc j) u (λ z. let h : suc j ≡ 0 = z in omega arith) at) in omega arith
  where
    total_none : {X : Type 0} (f : X → ℕ) → (xs : List X) → ((j : ℕ) (u : X) → get_elem? xs j ≡ some u → f u ≡ 0) → total f xs ≡ 0
    total_none f [] h = refl
    total_none f (x ∷ xs) h = let here : f x ≡ 0 = h 0 x refl in let more = total_none f xs (λ j u at. h (suc j) u at) in omega arith
total_only f (x ∷ xs) (suc i) v e none_else = let here : f x ≡ 0 = none_else 0 x (λ z. let h : 0 ≡ suc i = z in omega arith) refl in
    let more = total_only f xs i v e (λ j u other at. none_else (suc j) u (λ z. other (let h : suc j ≡ suc i = z in omega arith)) at) in
    omega arith

pub once_yes : (x n : ℕ) → x < n → once_below x n ≡ 1
once_yes x n h = ap (λ (b : Bool). cond b 1 0) (lt-ltb x n h)

pub once_no : (x n : ℕ) → n ≤ x → once_below x n ≡ 0
once_no x n h = ap (λ (b : Bool). cond b 1 0) (le-ltb x n h)

pub once_same : (a b : ℕ) → ((n : ℕ) → once_below n a ≡ once_below n b) → a ≡ b
once_same a b same = dite (dec_le b a)
    (λ le. dite (dec_le a b) (λ ge. omega arith)
    (λ gt. let x = once_yes b a (omega arith) in let y = once_no b b (omega arith) in let z = same b in absurd (omega arith)))
    (λ lt. let x = once_yes a b (omega arith) in let y = once_no a a (omega arith) in let z = same a in absurd (omega arith))

pub once_step : (x n : ℕ) → once_below x (n + 1) ≡ once_below x n + cond (eqb n x) 1 0
once_step x n = dite (ℕ_discrete n x)
    (λ e. let a = once_yes x (n + 1) (omega arith) in let b = once_no x n (omega arith) in
    let c : cond {A = ℕ} (eqb n x) 1 0 ≡ 1 = ap (λ (b : Bool). cond {A = ℕ} b 1 0) (eq-eqb n x e) in
    a ∙ sym (ap (λ (k : ℕ). once_below x n + k) c ∙ ap (λ (k : ℕ). k + 1) b))
    (λ ne. let c : cond {A = ℕ} (eqb n x) 1 0 ≡ 0 = ap (λ (b : Bool). cond {A = ℕ} b 1 0) (ne_eqb n x ne) in dite (dec_le n x)
    (λ le. let apart : n ≢ x = ne in once_no x (n + 1) (omega arith)
    ∙ sym (ap (λ (k : ℕ). once_below x n + k) c ∙ ap (λ (k : ℕ). k + 0) (once_no x n le)))
    (λ gt. once_yes x (n + 1) (omega arith) ∙ sym (ap (λ (k : ℕ). once_below x n + k) c
    ∙ ap (λ (k : ℕ). k + 0) (once_yes x n (omega arith)))))

pub times_upward : (x a n : ℕ) → times x (upward a n) + once_below x a ≡ once_below x (a + n)
times_upward x a zero = let same : once_below x a
    ≡ once_below x (a + 0) = ap (λ (k : ℕ). once_below x k) (let h : a ≡ a + 0 = omega arith in h) in omega arith
times_upward x a (suc n) =
    let more = times_upward x (a + 1) n in
    let step = once_step x a in
    let same : once_below x ((a + 1) + n) ≡ once_below x (a + suc n) =
    ap (once_below x) (let h : (a + 1) + n ≡ a + suc n = omega arith in h) in
    omega arith

pub length_upward : (a n : ℕ) → length (upward a n) ≡ n
length_upward a zero = refl
length_upward a (suc n) = let more = length_upward (a + 1) n in omega arith

pub once_le_once : (x a b : ℕ) → a ≤ b → once_below x a ≤ once_below x b
once_le_once x a b le = dite (dec_le a x) (λ out. let z = once_no x a out in omega arith)
    (λ into. let one = once_yes x a (omega arith) in let other = once_yes x b (omega arith) in omega arith)

pub total_same : {X : Type 0} (f g : X → ℕ) → (xs : List X) → ((x : X) → f x ≡ g x) → total f xs ≡ total g xs
total_same f g [] h = refl
total_same f g (x ∷ xs) h = let here : f x ≡ g x = h x in let more = total_same f g xs h in omega arith

pub total_append : {X : Type 0} (f : X → ℕ) → (xs ys : List X) → total f (xs ++ ys) ≡ total f xs + total f ys
total_append f [] ys = omega arith
total_append f (x ∷ xs) ys = let more = total_append f xs ys in omega arith

pub total_sum : {X : Type 0} (f g : X → ℕ) → (xs : List X) → total (λ x. f x + g x) xs ≡ total f xs + total g xs
total_sum f g [] = refl
total_sum f g (x ∷ xs) = let more = total_sum f g xs in omega arith

pub total_up : {X : Type 0} (f g : X → ℕ) → (xs : List X) → ((x : X) → f x ≤ g x) → total f xs ≤ total g xs
total_up f g [] h = omega arith
total_up f g (x ∷ xs) h = let here : f x ≤ g x = h x in let more = total_up f g xs h in omega arith

pub total_zero : {X : Type 0} (f : X → ℕ) → (xs : List X) → ((j : ℕ) (u : X) → get_elem? xs j ≡ some u → f u ≡ 0) → total f xs ≡ 0
total_zero f [] h = refl
total_zero f (x ∷ xs) h = let here : f x ≡ 0 = h 0 x refl in let more = total_zero f xs (λ j u at. h (suc j) u at) in omega arith
