-- Lists of so many lanes.
use Rattle.std.proofs.Common.{◌≡◌, ℕ, zero, suc, List, [], ◌∷◌, length, replicate, refl, sym, ap, ◌∙◌}
use Rattle.std.specs.Prelude.{get_or}
use Rattle.chunk_owner.specs.Lanes.{Lane}
use Rattle.hall_rule.specs.Seen.{history_of, lane_of, nothing}
use Rattle.service_histories.specs.ArrayServices.{array_service}
use Rattle.hall.specs.Answers.{ArrayLists}
use Rattle.hall.specs.Notes.{AreOfLanes, listed, no_owner, of_lanes, owner_at}

listed_all : {X : Type 0} (d : X) (xs : List X) → listed (length xs) (λ l. get_or xs l d) ≡ xs
listed_all d [] = refl
listed_all d (x ∷ xs) = ap (λ ys. x ∷ ys) (listed_all d xs)

pub of_all : (n : ℕ) (h : ArrayLists) → length h.lanes ≡ n → length h.was ≡ n → of_lanes n h ≡ h
of_all n h lanes owners = λ i. record {
  register = h.register;
  lanes = (ap (λ k. listed k (λ l. lane_of h.lanes l)) (sym lanes) ∙ listed_all [] h.lanes) i;
  keepings = h.keepings;
  was = (ap (λ k. listed k (λ l. owner_at h.was l)) (sym owners) ∙ listed_all no_owner h.was) i;
}

pub are_of_lanes : (n : ℕ) (h : ArrayLists) → of_lanes n h ≡ h → AreOfLanes n h
are_of_lanes n h same = record {
  lists = ap (λ (g : ArrayLists). history_of (array_service n) g) same;
  was = ap (λ (g : ArrayLists). owner_at g.was) same;
}

replicated : {X : Type 0} (n : ℕ) (x : X) → length (replicate n x) ≡ n
replicated zero x = refl
replicated (suc n) x = ap suc (replicated n x)

pub of_nothing : (n : ℕ) (owners : List Lane) → length owners ≡ n → of_lanes n (nothing owners) ≡ nothing owners
of_nothing n owners count = of_all n (nothing owners) (replicated (length owners) [] ∙ count) count
