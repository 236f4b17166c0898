-- Lists that grow, and what holds of their parts.
use Rattle.std.proofs.Common.{◌≡◌, ◌⊎◌, inl, inr, ⊎_elim, ℕ, zero, suc, ◌≤◌, List, [], ◌∷◌, ◌++◌, length, take, drop, refl, ap, sym, subst, arith}
use Rattle.std.specs.List.{AllByRecursion}
use Rattle.lane_histories.specs.Histories.{IsIn, StartsWith}

module _ {X : Type 0} where
  pub nothing_more : (xs : List X) → xs ++ [] ≡ xs
  nothing_more [] = refl
  nothing_more (x ∷ xs) = ap (λ l. x ∷ l) (nothing_more xs)

  pub starts_itself : (xs : List X) → StartsWith xs xs
  starts_itself xs = ([], sym (nothing_more xs))

  -- ---- elements

  pub in_front : (xs ys : List X) (x : X) → IsIn xs x → IsIn (xs ++ ys) x
  in_front [] ys x here = absurd here
  in_front (y ∷ xs) ys x here = ⊎_elim (λ same. inl same) (λ later. inr (in_front xs ys x later)) here

  pub in_back : (xs ys : List X) (x : X) → IsIn ys x → IsIn (xs ++ ys) x
  in_back [] ys x here = here
  in_back (y ∷ xs) ys x here = inr (in_back xs ys x here)

  pub in_either : (xs ys : List X) (x : X) → IsIn (xs ++ ys) x → IsIn xs x ⊎ IsIn ys x
  in_either [] ys x here = inr here
  in_either (y ∷ xs) ys x here = ⊎_elim (λ same. inl (inl same)) (λ later. ⊎_elim (λ a. inl (inr a)) (λ b. inr b) (in_either xs ys x later)) here

  pub in_last : (xs : List X) (y x : X) → IsIn (xs ++ y ∷ []) x → IsIn xs x ⊎ (y ≡ x)
  in_last xs y x here = ⊎_elim (λ a. inl a) (λ b. ⊎_elim (λ same. inr same) (λ none. absurd none) b) (in_either xs (y ∷ []) x here)

  pub in_longer : (xs front : List X) (x : X) → StartsWith xs front → IsIn front x → IsIn xs x
  in_longer xs front x starts here = subst (λ l. IsIn l x) (sym starts.1) (in_front front starts.0 x here)

  pub in_split : (xs : List X) (x : X) → IsIn xs x → (front : List X) × (back : List X) × (xs ≡ front ++ x ∷ back)
  in_split [] x here = absurd here
  in_split (y ∷ xs) x here = ⊎_elim
      (λ same. ([], xs, ap (λ z. z ∷ xs) same))
      (λ later. let split = in_split xs x later in (y ∷ split.0, split.1, ap (λ l. y ∷ l) split.2))
      here

  pub head_is : (x y : X) (xs ys : List X) → x ∷ xs ≡ y ∷ ys → y ≡ x
  head_is x y xs ys e = cc

  pub tail_is : (x y : X) (xs ys : List X) → x ∷ xs ≡ y ∷ ys → xs ≡ ys
  tail_is x y xs ys e = cc

  -- ---- what holds of all

  pub all_both : (P : X → Type 0) (xs ys : List X) → AllByRecursion P xs → AllByRecursion P ys → AllByRecursion P (xs ++ ys)
  all_both P [] ys a b = b
  all_both P (x ∷ xs) ys a b = (a.0, all_both P xs ys a.1 b)

  pub all_front : (P : X → Type 0) (xs ys : List X) → AllByRecursion P (xs ++ ys) → AllByRecursion P xs
  all_front P [] ys a = tt
  all_front P (x ∷ xs) ys a = (a.0, all_front P xs ys a.1)

  pub all_back : (P : X → Type 0) (xs ys : List X) → AllByRecursion P (xs ++ ys) → AllByRecursion P ys
  all_back P [] ys a = a
  all_back P (x ∷ xs) ys a = all_back P xs ys a.1

  pub all_at : (P : X → Type 0) (xs : List X) (x : X) → AllByRecursion P xs → IsIn xs x → P x
  all_at P [] x a here = absurd here
  all_at P (y ∷ xs) x a here = ⊎_elim (λ same. subst P same a.0) (λ later. all_at P xs x a.1 later) here

  pub all_weaker : (P Q : X → Type 0) (xs : List X) → ((x : X) → P x → Q x) → AllByRecursion P xs → AllByRecursion Q xs
  all_weaker P Q [] f a = tt
  all_weaker P Q (x ∷ xs) f a = (f x a.0, all_weaker P Q xs f a.1)

  pub all_in : (P : X → Type 0) (xs : List X) → ((x : X) → IsIn xs x → P x) → AllByRecursion P xs
  all_in P [] f = tt
  all_in P (x ∷ xs) f = (f x (inl refl), all_in P xs (λ y here. f y (inr here)))

  pub all_always : (P : X → Type 0) (xs : List X) → ((x : X) → P x) → AllByRecursion P xs
  all_always P [] f = tt
  all_always P (x ∷ xs) f = (f x, all_always P xs f)

  -- ---- the first k elements

  pub take_front : (k : ℕ) (xs ys : List X) → k ≤ length xs → take k (xs ++ ys) ≡ take k xs
  take_front zero xs ys few = refl
  take_front (suc k) [] ys few = absurd (omega arith)
  take_front (suc k) (x ∷ xs) ys few = ap (λ l. x ∷ l) (take_front k xs ys (omega arith))

  pub drop_front : (k : ℕ) (xs ys : List X) → k ≤ length xs → drop k (xs ++ ys) ≡ drop k xs ++ ys
  drop_front zero xs ys few = refl
  drop_front (suc k) [] ys few = absurd (omega arith)
  drop_front (suc k) (x ∷ xs) ys few = drop_front k xs ys (omega arith)

  pub take_all : (xs : List X) → take (length xs) xs ≡ xs
  take_all [] = refl
  take_all (x ∷ xs) = ap (λ l. x ∷ l) (take_all xs)

  pub take_drop : (k : ℕ) (xs : List X) → take k xs ++ drop k xs ≡ xs
  take_drop zero xs = refl
  take_drop (suc k) [] = refl
  take_drop (suc k) (x ∷ xs) = ap (λ l. x ∷ l) (take_drop k xs)

  pub in_take : (k : ℕ) (xs : List X) (x : X) → IsIn (take k xs) x → IsIn xs x
  in_take k xs x here = subst (λ l. IsIn l x) (take_drop k xs) (in_front (take k xs) (drop k xs) x here)

  -- of two beginnings of a list the shorter is one of the longer
  pub begins : (a b p r : List X) → a ++ p ≡ b ++ r → length a ≤ length b → StartsWith b a
  begins [] b p r e few = (b, refl)
  begins (x ∷ a) [] p r e few = absurd (omega arith)
  begins (x ∷ a) (y ∷ b) p r e few =
      let heads : x ≡ y = cc in
      let tails : a ++ p ≡ b ++ r = cc in
      let more = begins a b p r tails (omega arith) in
      (more.0, (λ i. sym heads i ∷ more.1 i))
