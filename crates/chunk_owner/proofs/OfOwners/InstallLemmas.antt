-- Lanes that are made from records.
use Rattle.std.proofs.Common.{◌≡◌, ◌≢◌, ℕ, ◌+◌, ◌<◌, ◌≤◌, ◌⊎◌, ⊎_elim, List, [], ◌∷◌, ◌++◌, length, Option, Some, refl, sym, ap, subst, ◌∙◌, arith}
use Rattle.std.specs.FinMap.{get}
use Rattle.std.proofs.lemmas.List.{get_or_push, length_push}
use Rattle.object_ids.specs.IdValues.{Id}
use Rattle.object_ids.specs.Ids.{InRange, lane_of}
use Rattle.object_acts.specs.declared.objects.Object.{Object}
use Rattle.flush_journal.specs.Records.{Held}
use Rattle.chunk_owner.specs.Slots.Slots.{AreStill, Describes, Says}
use Rattle.chunk_owner.specs.Installs.Records.{IsFault, IsWholeObject}
use Rattle.chunk_owner.specs.Lanes.{AreWholeObjects, IsWhole, Lane}
use Rattle.chunk_owner.proofs.Eaches.{each_empty}
use Rattle.chunk_owner.specs.Owners.Joined.{AreLanes, IsLane, whole}
use Rattle.chunk_owner.specs.Owners.Records.{AreFaultless, AreGivenUpTo, AreStillIn, LaneSays, LanesSay}
use Rattle.chunk_owner.proofs.OfOwners.WholeLemmas.{at_home, each_push, get-push, lanes_push, or_else, or_none, own_of_whole}
use Rattle.json_trees.proofs.ListLemmas.{all_append}

module _ (n run next : ℕ) (held : Held) where
  -- the records of the lane of a number made it
  pub record IsMade (k : ℕ) (l : Lane) : Type 0 where
    pub lane : l.lane ≡ k
    pub lanes : l.lanes ≡ n
    pub described : (id : Id) → InRange id → lane_of n id ≡ k → Describes held id (get l.objects id)
    pub says : (id : Id) → InRange id → lane_of n id ≡ k → Says (get l.slots id) id held
    pub still : AreStill l.slots
    pub given : (id : Id) (o : Object) → get l.objects id ≡ Some o → InRange id × (id.run ≤ run) × (id.domain < next)
    pub spelled : (id : Id) (o : Object) → get l.objects id ≡ Some o → InRange id × IsWholeObject (Some o)
    pub faultless : (key : List ℕ) → IsFault n k run next held key → ⊥
    pub sound : IsWhole l

  -- so the first lanes were made
  pub record AreMade (ls : List Lane) : Type 0 where
    pub lanes : AreLanes n 0 ls
    pub described : (id : Id) → InRange id → lane_of n id < length ls → Describes held id (get (whole ls) id)
    pub says : LanesSay ls held
    pub still : AreStillIn ls
    pub given : AreGivenUpTo run next (whole ls)
    pub spelled : AreWholeObjects (whole ls)
    pub faultless : (lane : ℕ) → lane < length ls → (key : List ℕ) → IsFault n lane run next held key → ⊥

  pub made_none : (ls : List Lane) → ls ≡ [] → AreMade ls
  made_none ls none = subst (λ (xs : List Lane). AreMade xs) (sym none) (record {
    lanes = tt;
    described = λ id range few. absurd (omega arith);
    says = tt;
    still = tt;
    given = each_empty (λ id o. (id.run ≤ run) × (id.domain < next));
    spelled = each_empty (λ id o. InRange id × IsWholeObject (Some o));
    faultless = λ lane few. absurd (omega arith);
  })

  last_or_before : (j k : ℕ) → j < k + 1 → (j ≡ k) ⊎ (j < k)
  last_or_before j k less = grind arith

  module _ (ls : List Lane) (l : Lane) (h : AreMade ls) (made : IsMade (length ls) l) where
    is_lane : IsLane n (length ls) l
    is_lane = own_of_whole n (length ls) l made.lane made.lanes made.sound

    lanes_more : AreLanes n 0 (ls ++ l ∷ [])
    lanes_more = lanes_push n 0 ls l h.lanes (let e : length ls ≡ 0 + length ls = omega arith in subst (λ (j : ℕ). IsLane n j l) e is_lane)

    get-last : (q : Id) → lane_of n q ≡ length ls → get (whole (ls ++ l ∷ [])) q ≡ get l.objects q
    get-last q at = at_home n 0 (length ls) (ls ++ l ∷ []) l lanes_more q (omega (arith, at)) (omega (arith, length_push ls l)) (get_or_push ls l l (length ls) refl)

    get-before : (q : Id) → lane_of n q ≢ length ls → get (whole (ls ++ l ∷ [])) q ≡ get (whole ls) q
    get-before q far = get-push ls l q ∙ ap (or_else (get (whole ls) q)) (is_lane.own q far) ∙ or_none (get (whole ls) q)

    described_more : (id : Id) → InRange id → lane_of n id < length (ls ++ l ∷ []) → Describes held id (get (whole (ls ++ l ∷ [])) id)
    described_more id range few = ⊎_elim
        (λ at. subst (λ (o : Option Object). Describes held id o) (sym (get-last id at)) (made.described id range at))
        (λ less. subst (λ (o : Option Object). Describes held id o) (sym (get-before id (λ same. omega (arith, same, less)))) (h.described id range less))
        (last_or_before (lane_of n id) (length ls) (omega (arith, few, length_push ls l)))

    says_here : LaneSays held l
    says_here q range home = made.says q range (ap (λ j. lane_of j q) (sym made.lanes) ∙ home ∙ made.lane)

    faultless_more : (lane : ℕ) → lane < length (ls ++ l ∷ []) → (key : List ℕ) → IsFault n lane run next held key → ⊥
    faultless_more lane few key = ⊎_elim
        (λ (at : lane ≡ length ls). subst (λ (j : ℕ). IsFault n j run next held key → ⊥) (sym at) (made.faultless key))
        (λ (less : lane < length ls). h.faultless lane less key)
        (last_or_before lane (length ls) (omega (arith, few, length_push ls l)))

    pub made_more : (more : List Lane) → more ≡ ls ++ l ∷ [] → AreMade more
    made_more more e = subst (λ (xs : List Lane). AreMade xs) (sym e) (record {
      lanes = lanes_more;
      described = described_more;
      says = all_append (LaneSays held) ls (l ∷ []) h.says (says_here, tt);
      still = all_append (λ x. AreStill x.slots) ls (l ∷ []) h.still (made.still, tt);
      given = each_push (λ id o. (id.run ≤ run) × (id.domain < next)) ls l h.given (λ id o there. let g = made.given id o there in (g.1, g.2));
      spelled = each_push (λ id o. InRange id × IsWholeObject (Some o)) ls l h.spelled made.spelled;
      faultless = faultless_more;
    })

  -- once all lanes were made
  pub faultless_all : (ls : List Lane) → AreMade ls → length ls ≡ n → AreFaultless n run next held
  faultless_all ls h all lane few key = h.faultless lane (omega (arith, few, all)) key
