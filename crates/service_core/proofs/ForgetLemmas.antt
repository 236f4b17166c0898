-- The objects of a domain are dropped lane by lane.
use Rattle.std.proofs.Common.{◌≡◌, ℕ, zero, suc, ◌<◌, ◌≤◌, ◌==◌, Bool, true, false, not, cond, List, [], ◌∷◌, length, get_or, Option, Some, None, refl, sym, ap, subst, ◌∙◌, arith}
use Rattle.std.specs.Prelude.{slice_set}
use Rattle.std.specs.List.{filter}
use Rattle.std.specs.Ordering.{eq_by_cmp}
use Rattle.std.specs.FinMap.{entries, find, get, get-empty, get-entries, get-from_entries, same_map}
use Rattle.object_ids.specs.IdValues.{Id}
use Rattle.object_ids.specs.IdOrder.{id_order}
use Rattle.object_ids.proofs.IdOrders.{id_order_once, id_order_total, tied_ids}
use Rattle.object_acts.specs.declared.objects.Object.{Object}
use Rattle.chunk_owner.specs.Lanes.{Forgets, IsSameLane, Lane}
use Rattle.register.specs.Tickets.{AreEach}
use Rattle.register.specs.declared.tickets.Turn.{Turn}
use Rattle.chunk_owner.specs.Owners.Joined.{AreLanes, IsLane, whole}
use Rattle.service_core.specs.Steps.{without_domain}
use Rattle.chunk_owner.proofs.OfOwners.WholeLemmas.{get-whole, or_else}
use Rattle.object_acts.specs.Objects.{Objects}

abbrev absent : Option Object
absent = None

pub each_le : (n k : ℕ) (ts : List Turn) → AreEach n k ts → k ≤ n
each_le n k [] h = omega (arith, h)
each_le n k (t ∷ ts) h = omega (arith, each_le n (suc k) ts h.1)

module _ (number : ℕ) where
  -- ---- the objects without those of a domain

  abbrev is_other : Id × Object → Bool
  is_other e = not (e.0.domain == number)

  dropped_or : (q : Id) (e : Id × Object) (es : List (Id × Object)) (tied own : Bool) → eq_by_cmp id_order q e.0 ≡ tied → (e.0.domain == number) ≡ own
      → find id_order q (filter is_other es) ≡ cond (q.domain == number) None (find id_order q es)
      → find id_order q (cond (not own) (e ∷ filter is_other es) (filter is_other es)) ≡ cond (q.domain == number) None (cond tied (Some e.1) (find id_order q es))
  dropped_or q e es true true t o h = h ∙ at (ap (λ i. i.domain == number) (tied_ids q e.0 t) ∙ o) where
    at : (q.domain == number) ≡ true → cond (q.domain == number) None (find id_order q es) ≡ cond (q.domain == number) None (Some e.1)
    at b = ap (λ c. cond c None (find id_order q es)) b ∙ sym (ap (λ c. cond c None (Some e.1)) b)
  dropped_or q e es false true t o h = h
  dropped_or q e es true false t o h =
      ap (λ c. cond c (Some e.1) (find id_order q (filter is_other es))) t ∙ sym (ap (λ c. cond c None (Some e.1)) (ap (λ i. i.domain == number) (tied_ids q e.0 t) ∙ o))
  dropped_or q e es false false t o h = ap (λ c. cond c (Some e.1) (find id_order q (filter is_other es))) t ∙ h

  none_either : (b : Bool) → absent ≡ cond b None None
  none_either true = refl
  none_either false = refl

  find-filter : (q : Id) (es : List (Id × Object)) → find id_order q (filter is_other es) ≡ cond (q.domain == number) None (find id_order q es)
  find-filter q [] = none_either (q.domain == number)
  find-filter q (e ∷ es) = dropped_or q e es (eq_by_cmp id_order q e.0) (e.0.domain == number) refl refl (find-filter q es)

  pub get-without : (m : Objects) (q : Id) → get (without_domain number m) q ≡ cond (q.domain == number) None (get m q)
  get-without m q = get-from_entries id_order_total (filter is_other (entries m)) q ∙ find-filter q (entries m) ∙ ap (cond (q.domain == number) None) (sym (get-entries m q))

  -- ---- lane by lane

  pub record IsForgotten (old new : Lane) : Type 0 where
    pub same : IsSameLane old new
    pub rest : Forgets number old.objects new.objects

  -- the first `k` lanes have dropped the objects, and the others are as they were
  abbrev pub Forgetting : ℕ → List Lane → List Lane → Type 0
  Forgetting k [] [] = Unit {0}
  Forgetting k [] (l ∷ ls) = ⊥
  Forgetting k (o ∷ os) [] = ⊥
  Forgetting zero (o ∷ os) (l ∷ ls) = (l ≡ o) × Forgetting zero os ls
  Forgetting (suc k) (o ∷ os) (l ∷ ls) = IsForgotten o l × Forgetting k os ls

  pub begun : (ls : List Lane) → Forgetting zero ls ls
  begun [] = tt
  begun (l ∷ ls) = (refl, begun ls)

  pub more : (k : ℕ) (os ls : List Lane) (l new : Lane) → k < length ls → get_or ls k l ≡ l → Forgetting k os ls → IsForgotten l new → Forgetting (suc k) os (slice_set ls k new)
  more k [] [] l new few is h said = absurd (omega arith)
  more k [] (x ∷ ls) l new few is h said = absurd h
  more k (o ∷ os) [] l new few is h said = absurd h
  more zero (o ∷ os) (x ∷ ls) l new few is h said = (subst (λ (y : Lane). IsForgotten y new) (sym is ∙ h.0) said, h.1)
  more (suc k) (o ∷ os) (x ∷ ls) l new few is h said = (h.0, more k os ls l new (omega arith) is h.1 said)

  gone_or : (b : Bool) (p j : Option Object) → or_else (cond b None p) (cond b None j) ≡ cond b None (or_else p j)
  gone_or true p j = refl
  gone_or false p j = refl

  get-forgotten : (k : ℕ) (os ls : List Lane) → length os ≤ k → Forgetting k os ls → (q : Id) → get (whole ls) q ≡ cond (q.domain == number) None (get (whole os) q)
  get-forgotten k [] [] all h q = get-empty id_order q ∙ none_either (q.domain == number) ∙ ap (cond (q.domain == number) None) (sym (get-empty id_order q))
  get-forgotten k [] (l ∷ ls) all h q = absurd h
  get-forgotten k (o ∷ os) [] all h q = absurd h
  get-forgotten zero (o ∷ os) (l ∷ ls) all h q = absurd (omega arith)
  get-forgotten (suc k) (o ∷ os) (l ∷ ls) all h q =
      get-whole l ls q
      ∙ ap (λ p. or_else p (get (whole ls) q)) (h.0.rest q)
      ∙ ap (or_else (cond (q.domain == number) None (get o.objects q))) (get-forgotten k os ls (omega arith) h.1 q)
      ∙ gone_or (q.domain == number) (get o.objects q) (get (whole os) q)
      ∙ ap (cond (q.domain == number) None) (sym (get-whole o os q))

  -- once each lane has dropped them
  pub forgotten_all : (k : ℕ) (os ls : List Lane) → length os ≤ k → Forgetting k os ls → whole ls ≡ without_domain number (whole os)
  forgotten_all k os ls all h = same_map id_order_total id_order_once _ _ (λ q. get-forgotten k os ls all h q ∙ sym (get-without (whole os) q))

  still_none : (b : Bool) (p : Option Object) → p ≡ None → cond b None p ≡ None
  still_none true p e = refl
  still_none false p e = e

  lane_left : (n i : ℕ) (o l : Lane) → IsForgotten o l → IsLane n i o → IsLane n i l
  lane_left n i o l said h = record {
    lane = said.same.lane ∙ h.lane;
    lanes = said.same.lanes ∙ h.lanes;
    own = λ q far. said.rest q ∙ still_none (q.domain == number) (get o.objects q) (h.own q far);
  }

  pub lanes_left : (n i k : ℕ) (os ls : List Lane) → Forgetting k os ls → AreLanes n i os → AreLanes n i ls
  lanes_left n i k [] [] h lanes = tt
  lanes_left n i k [] (l ∷ ls) h lanes = absurd h
  lanes_left n i k (o ∷ os) [] h lanes = absurd h
  lanes_left n i zero (o ∷ os) (l ∷ ls) h lanes = (subst (λ (y : Lane). IsLane n i y) (sym h.0) lanes.0, lanes_left n (suc i) zero os ls h.1 lanes.1)
  lanes_left n i (suc k) (o ∷ os) (l ∷ ls) h lanes = (lane_left n i o l h.0 lanes.0, lanes_left n (suc i) k os ls h.1 lanes.1)

  -- ---- one turn of each

  pub record SoFar (n : ℕ) (old now : List Lane) (left : List Turn) : Type 0 where
    pub count : ℕ
    pub each : AreEach n count left
    pub lanes : Forgetting count old now

  pub started : (n : ℕ) (ls : List Lane) (ts : List Turn) → AreEach n zero ts → SoFar n ls ls ts
  started n ls ts each = record { count = zero; each = each; lanes = begun ls }

  -- the next turn is of the next lane
  pub turn_next : (n : ℕ) (old ls : List Lane) (left rest : List Turn) (t : Turn) → left ≡ t ∷ rest → (s : SoFar n old ls left) → (t.lane ≡ s.count) × AreEach n (suc s.count) rest
  turn_next n old ls left rest t is s = subst (λ (ts : List Turn). AreEach n s.count ts) is s.each

  pub turn_below : (n : ℕ) (old ls : List Lane) (left rest : List Turn) (t : Turn) → left ≡ t ∷ rest → SoFar n old ls left → t.lane < n
  turn_below n old ls left rest t is s = let next = turn_next n old ls left rest t is s in omega (arith, next.0, each_le n (suc s.count) rest next.1)

  pub went : (n : ℕ) (old ls : List Lane) (left rest : List Turn) (t : Turn) (l new : Lane) → left ≡ t ∷ rest → length ls ≡ n → get_or ls t.lane l ≡ l → IsForgotten l new
      → SoFar n old ls left → SoFar n old (slice_set ls t.lane new) rest
  went n old ls left rest t l new is count at said s =
      let next = turn_next n old ls left rest t is s in
      record {
        count = suc s.count;
        each = next.1;
        lanes = subst (λ (j : ℕ). Forgetting (suc s.count) old (slice_set ls j new)) (sym next.0)
            (more s.count old ls l new (omega (arith, count, each_le n (suc s.count) rest next.1)) (ap (λ j. get_or ls j l) (sym next.0) ∙ at) s.lanes said);
      }

  count_all : (n : ℕ) (old ls : List Lane) (left : List Turn) → left ≡ [] → (s : SoFar n old ls left) → s.count ≡ n
  count_all n old ls left is s = subst (λ (ts : List Turn). AreEach n s.count ts) is s.each

  pub forgot : (old ls : List Lane) (left : List Turn) → left ≡ [] → SoFar (length old) old ls left → whole ls ≡ without_domain number (whole old)
  forgot old ls left is s = forgotten_all s.count old ls (omega (arith, count_all (length old) old ls left is s)) s.lanes
