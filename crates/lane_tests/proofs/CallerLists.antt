-- What holds of each caller of a list.
use Rattle.std.proofs.Common.{◌≡◌, ℕ, suc, List, [], ◌∷◌, ◌++◌, length, map, Some, refl, sym, subst, arith}
use Rattle.std.specs.Prelude.{All}
use Rattle.std.specs.List.{slice_get}
use Rattle.std.proofs.lemmas.List.Elements.{All-head, All-tail, All-append, All-cons}

pub all_none : {X : Type 0} (P : X → Type 0) → All P []
all_none P = λ k d lt. absurd (omega arith)

pub all_push : {X : Type 0} (P : X → Type 0) (xs : List X) (x : X) → All P xs → P x → All P (xs ++ x ∷ [])
all_push P xs x h p = All-append P xs (x ∷ []) h (All-cons P x [] p (all_none P))

pub all_last : {X : Type 0} (P : X → Type 0) (xs : List X) (x : X) → All P (xs ++ x ∷ []) → P x
all_last P [] x h = All-head P x [] h
all_last P (z ∷ xs) x h = all_last P xs x (All-tail P z (xs ++ x ∷ []) h)

pub all_front : {X : Type 0} (P : X → Type 0) (xs ys : List X) → All P (xs ++ ys) → All P xs
all_front P [] ys h = all_none P
all_front P (x ∷ xs) ys h = All-cons P x xs (All-head P x (xs ++ ys) h) (all_front P xs ys (All-tail P x (xs ++ ys) h))

-- what holds of each by its place, holds of all
pub all_same : {X : Type 0} (P : X → Type 0) (xs ys : List X) → length ys ≡ length xs → ((i : ℕ) (x y : X) → slice_get xs i ≡ Some x → slice_get ys i ≡ Some y → P y) → All P ys
all_same P xs [] e h = all_none P
all_same P [] (y ∷ ys) e h = absurd (omega arith)
all_same P (x ∷ xs) (y ∷ ys) e h = All-cons P y ys (h 0 x y refl refl) (all_same P xs ys (omega arith) (λ i a b p q. h (suc i) a b p q))

pub all_map : {X Y : Type 0} (P : Y → Type 0) (f : X → Y) (xs : List X) → All P (map f xs) → All (λ x. P (f x)) xs
all_map P f [] h = all_none (λ x. P (f x))
all_map P f (x ∷ xs) h = All-cons (λ x. P (f x)) x xs (All-head P (f x) (map f xs) h) (all_map P f xs (All-tail P (f x) (map f xs) h))

pub all_images : {X Y : Type 0} (P : Y → Type 0) (f : X → Y) (xs : List X) → All (λ x. P (f x)) xs → All P (map f xs)
all_images P f [] h = all_none P
all_images P f (x ∷ xs) h = All-cons P (f x) (map f xs) (All-head (λ z. P (f z)) x xs h) (all_images P f xs (All-tail (λ z. P (f z)) x xs h))

pub all_on : {X : Type 0} (P Q : X → Type 0) (xs : List X) → ((x : X) → P x → Q x) → All P xs → All Q xs
all_on P Q [] on h = all_none Q
all_on P Q (x ∷ xs) on h = All-cons Q x xs (on x (All-head P x xs h)) (all_on P Q xs on (All-tail P x xs h))

pub all_both : {X : Type 0} (P Q R : X → Type 0) (xs : List X) → ((x : X) → P x → Q x → R x) → All P xs → All Q xs → All R xs
all_both P Q R [] on h k = all_none R
all_both P Q R (x ∷ xs) on h k =
    All-cons R x xs (on x (All-head P x xs h) (All-head Q x xs k)) (all_both P Q R xs on (All-tail P x xs h) (All-tail Q x xs k))

-- of two, and no others
pub all_two_alone : {X : Type 0} (P : X → Type 0) (xs : List X) (a b : X) → xs ≡ ([] ++ a ∷ []) ++ b ∷ [] → P a → P b → All P xs
all_two_alone P xs a b e p q = subst (All P) (sym e) (All-cons P a (b ∷ []) p (All-cons P b [] q (all_none P)))
