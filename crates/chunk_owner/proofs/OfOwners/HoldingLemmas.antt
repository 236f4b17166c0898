-- Lanes of which nothing changed, and what is held of them.
use Rattle.std.proofs.Common.{◌≡◌, ◌⊎◌, ⊎_elim, ℕ, suc, ◌+◌, ◌<◌, ◌≤◌, List, [], ◌∷◌, length, Option, Some, refl, sym, ap, subst, ◌∙◌, arith}
use Rattle.std.specs.FinMap.{get}
use Rattle.std.specs.List.{AllByRecursion}
use Rattle.flush_journal.specs.Records.{Held}
use Rattle.object_ids.specs.IdValues.{Id}
use Rattle.object_ids.specs.Ids.{InRange, lane_of}
use Rattle.object_acts.specs.declared.objects.Object.{Object}
use Rattle.chunk_owner.specs.Slots.Slots.{AreStill, Describes, Says}
use Rattle.chunk_owner.specs.Installs.Records.{IsWholeObject}
use Rattle.chunk_owner.specs.Lanes.{Lane}
use Rattle.chunk_owner.specs.Owners.Joined.{AreLanes, whole}
use Rattle.chunk_owner.specs.Owners.Records.{AreStillIn, DescribesObjects, LanesSay}
use Rattle.chunk_owner.proofs.OfOwners.WholeLemmas.{at_home, get-whole, or_else}

-- where nothing of a lane changed, what says what stands there describes it
abbrev pub IsTold : Lane → Type 0
IsTold l = AreStill l.slots → (id : Id) (held : Held) → Says (get l.slots id) id held → Describes held id (get l.objects id)

abbrev pub WholeAt : Id → Object → Type 0
WholeAt id o = InRange id × IsWholeObject (Some o)

module _ (n : ℕ) (held : Held) (id : Id) (range : InRange id) where
  described : (k : ℕ) (ls : List Lane) → AreLanes n k ls → AllByRecursion IsTold ls → AreStillIn ls → LanesSay ls held → k ≤ lane_of n id → lane_of n id < k + length ls → Describes held id (get (whole ls) id)
  described k [] lanes told still said low high = absurd (omega arith)
  described k (l ∷ ls) lanes told still said low high = ⊎_elim
      (λ here. subst (λ (o : Option Object). Describes held id o) (sym (at_home n k 0 (l ∷ ls) l lanes id (omega (arith, here)) (omega arith) refl))
      (told.0 still.0 id held (said.0 id range (ap (λ j. lane_of j id) lanes.0.lanes ∙ here ∙ sym lanes.0.lane))))
      (λ later. subst (λ (o : Option Object). Describes held id o) (sym (get-whole l ls id ∙ ap (λ o. or_else o (get (whole ls) id)) (lanes.0.own id (λ same. omega (arith, same, later)))))
      (described (suc k) ls lanes.1 told.1 still.1 said.1 (omega (arith, later)) (omega (arith, high))))
      (here_or (lane_of n id) low) where
        here_or : (j : ℕ) → k ≤ j → (j ≡ k) ⊎ (suc k ≤ j)
        here_or j low = grind (arith, low)

-- an id is in one of the lanes
pub all_described : (n : ℕ) (ls : List Lane) → n ≡ length ls → 0 < n → AreLanes n 0 ls → AllByRecursion IsTold ls → AreStillIn ls → (held : Held) → LanesSay ls held → DescribesObjects held (whole ls)
all_described n ls count some lanes told still held said id range = described n held id range 0 ls lanes told still said (omega arith) (below count some) where
  below : n ≡ length ls → 0 < n → lane_of n id < 0 + length ls
  below count some = let low : lane_of n id < n = omega (arith, some) in omega (arith, count, low)
