-- What holds of each element of a list, by recursion.
use Rattle.std.proofs.Common.{ℕ, zero, suc, ◌<◌, List, [], ◌∷◌, ◌++◌, length, get_or, arith}
use Rattle.std.specs.List.{AllByRecursion}

pub all_at : {A : Type 0} (F : A → Type 0) (xs : List A) (i : ℕ) (d : A) → i < length xs → AllByRecursion F xs → F (get_or xs i d)
all_at F [] i d h k = absurd (omega arith)
all_at F (x ∷ xs) zero d h k = k.0
all_at F (x ∷ xs) (suc i) d h k = all_at F xs i d (omega arith) k.1

pub all_append : {A : Type 0} (F : A → Type 0) (xs ys : List A) → AllByRecursion F xs → AllByRecursion F ys → AllByRecursion F (xs ++ ys)
all_append F [] ys h k = k
all_append F (x ∷ xs) ys h k = (h.0, all_append F xs ys h.1 k)

pub all_weaker : {A : Type 0} (P Q : A → Type 0) → ((x : A) → P x → Q x) → (xs : List A) → AllByRecursion P xs → AllByRecursion Q xs
all_weaker P Q weaker [] h = tt
all_weaker P Q weaker (x ∷ xs) h = (weaker x h.0, all_weaker P Q weaker xs h.1)
