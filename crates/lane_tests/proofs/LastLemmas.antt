-- The last of some lanes.
use Rattle.std.proofs.Common.{◌≡◌, ℕ, suc, ◌+◌, List, [], ◌∷◌, ◌++◌, length, subst, ap, ◌∙◌, arith}
use Rattle.std.proofs.lemmas.List.{length-append}
use Rattle.chunk_owner.specs.Lanes.{Lane}
use Rattle.chunk_owner.specs.Owners.Joined.{AreLanes, IsLane}

last_from : (n k m : ℕ) (ls : List Lane) (l : Lane) → k + length ls ≡ m → AreLanes n k (ls ++ l ∷ []) → IsLane n m l
last_from n k m [] l at h = let e : k ≡ m = omega (arith, at) in subst (λ (i : ℕ). IsLane n i l) e h.0
last_from n k m (x ∷ xs) l at h = last_from n (suc k) m xs l (omega (arith, at)) h.1

front_from : (n k : ℕ) (ls : List Lane) (l : Lane) → AreLanes n k (ls ++ l ∷ []) → AreLanes n k ls
front_from n k [] l h = tt
front_from n k (x ∷ xs) l h = (h.0, front_from n (suc k) xs l h.1)

pub is_last : (n m : ℕ) (all ls : List Lane) (l : Lane) → all ≡ ls ++ l ∷ [] → AreLanes n 0 all → length all ≡ m + 1 → IsLane n m l
is_last n m all ls l parts h count =
    let long : length all ≡ length ls + 1 = ap length parts ∙ length-append ls (l ∷ []) in
    let few : 0 + length ls ≡ m = omega (arith, long, count) in
    last_from n 0 m ls l few (subst (λ (os : List Lane). AreLanes n 0 os) parts h)

pub are_front : (n : ℕ) (all ls : List Lane) (l : Lane) → all ≡ ls ++ l ∷ [] → AreLanes n 0 all → AreLanes n 0 ls
are_front n all ls l parts h = front_from n 0 ls l (subst (λ (os : List Lane). AreLanes n 0 os) parts h)
