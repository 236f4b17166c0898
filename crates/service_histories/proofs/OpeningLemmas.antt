-- A world before its first request.
use Rattle.std.proofs.Common.{◌≡◌, ◌≢◌, ⊎_elim, ℕ, zero, suc, ◌+◌, ◌<◌, List, [], ◌∷◌, length, get_or, Some, None, refl, sym, ap, subst, ◌∙◌, arith}
use Rattle.std.specs.Prelude.{slice_get}
use Rattle.std.specs.FinMap.{get, get-empty}
use Rattle.std.proofs.Math.Nat.{mod-lt}
use Rattle.std.proofs.lemmas.Bool.Decides.{eqb_tells}
use Rattle.std.proofs.lemmas.Option.{none-some}
use Rattle.domains.specs.Contents.{IsCatalogue}
use Rattle.flush_journal.specs.Records.{Held}
use Rattle.object_ids.specs.IdOrder.{id_order}
use Rattle.object_ids.specs.IdValues.{Id}
use Rattle.object_ids.specs.Ids.{lane_of}
use Rattle.object_acts.specs.declared.objects.Object.{Object}
use Rattle.object_acts.specs.Objects.{Objects}
use Rattle.chunk_owner.proofs.OfOwners.WholeLemmas.{at_home}
use Rattle.chunk_owner.specs.Lanes.{Lane}
use Rattle.chunk_owner.specs.Owners.Joined.{AreLanes, whole}
use Rattle.chunk_owner.specs.Owners.Records.{LanesSay}
use Rattle.register.specs.Decided.{IsRegister, RegisterState}
use Rattle.register.specs.Kept.{RegisterSays}
use Rattle.service_core.specs.Steps.{IsGiven}
use Rattle.service_core.specs.Worlds.{IsBuilt, State}
use Rattle.service_histories.specs.Markings.{SaysOwner}
use Rattle.service_histories.specs.Tellings.{IsOpening, KeptRegistersAreSince, OwnersAreSaid, WorldsOpen, objects_in}

-- the lane of a number
pub record IsAt (ls : List Lane) (i : ℕ) : Type 0 where
  pub lane : Lane
  pub here : get_or ls i lane ≡ lane
  pub objects : objects_in ls i ≡ lane.objects

pub lane_at : (ls : List Lane) (i : ℕ) → i < length ls → IsAt ls i
lane_at [] i few = absurd (omega arith)
lane_at (l ∷ ls) zero few = record { lane = l; here = refl; objects = refl }
lane_at (l ∷ ls) (suc i) few = let a = lane_at ls i (omega arith) in record { lane = a.lane; here = a.here; objects = a.objects }

module _ (n : ℕ) where
  -- of another lane no object stands in one
  others_none : (k i : ℕ) (ls : List Lane) → AreLanes n k ls → (q : Id) → lane_of n q ≢ k + i → get (objects_in ls i) q ≡ None
  others_none k i [] are q far = get-empty id_order q
  others_none k zero (l ∷ ls) are q far = are.0.own q (λ same. far (same ∙ (let e : k ≡ k + 0 = omega arith in e)))
  others_none k (suc i) (l ∷ ls) are q far = others_none (suc k) i ls are.1 q (λ same. far (same ∙ (let e : suc k + i ≡ k + suc i = omega arith in e)))

  pub looked_up : (ls : List Lane) → length ls ≡ n → 0 < n → AreLanes n 0 ls → (q : Id) → get (whole ls) q ≡ get (objects_in ls (lane_of n q)) q
  looked_up ls count some are q =
      let below : lane_of n q < n = mod-lt q.serial some in
      let few : lane_of n q < length ls = omega (arith, below, count) in
      let a = lane_at ls (lane_of n q) few in
      at_home n 0 (lane_of n q) ls a.lane are q (let e : lane_of n q ≡ 0 + lane_of n q = omega arith in e) few a.here ∙ ap (λ (m : Objects). get m q) (sym a.objects)

  said_at : (held : Held) (k i : ℕ) (ls : List Lane) (owner : Lane) → AreLanes n k ls → LanesSay ls held → slice_get ls i ≡ Some owner → SaysOwner n (k + i) held owner
  said_at held k i [] owner are said at = absurd (none-some owner at)
  said_at held k zero (l ∷ ls) owner are said at =
      let same : l ≡ owner = (let both : Some l ≡ Some owner = at in cc) in
      subst (SaysOwner n (k + 0) held) same (record { lane_is = are.0.lane ∙ (let e : k ≡ k + 0 = omega arith in e); lanes_are = are.0.lanes; says = said.0 })
  said_at held k (suc i) (l ∷ ls) owner are said at =
      subst (λ (j : ℕ). SaysOwner n j held owner) (let e : suc k + i ≡ k + suc i = omega arith in e) (said_at held (suc k) i ls owner are.1 said.1 at)

module _ (lanes : ℕ) where
  module _ (s : State) (count : length s.register.issued ≡ lanes) (built : IsBuilt s.register s.lanes) (register : IsRegister s.register) (catalogue : IsCatalogue s.register.catalogue) where
    many : length s.lanes ≡ lanes
    many = built.count ∙ count

    some : 0 < lanes
    some = subst (λ (n : ℕ). 0 < n) count register.some_lane

    are : AreLanes lanes 0 s.lanes
    are = subst (λ (n : ℕ). AreLanes n 0 s.lanes) many built.lanes

    seen_at : (q : Id) → get (whole s.lanes) q ≡ get (objects_in s.lanes (lane_of lanes q)) q
    seen_at = looked_up lanes s.lanes many some are

    given_in : (l : ℕ) (id : Id) (o : Object) → get (objects_in s.lanes l) id ≡ Some o → IsGiven s.register id
    given_in l id o at = ⊎_elim
        (λ same. built.given id o (seen_at id ∙ ap (λ (k : ℕ). get (objects_in s.lanes k) id) same.1 ∙ at))
        (λ far. absurd (none-some o (sym (others_none lanes 0 l s.lanes are id (λ e. far.1 (e ∙ (let z : 0 + l ≡ l = omega arith in z)))) ∙ at)))
        (eqb_tells (lane_of lanes id) l)

    pub opening_is : IsOpening lanes s
    opening_is = record {
      given = λ l. record {
        some_lane = some;
        lanes_are = count;
        roots = register.roots;
        numbers = λ path number root at. let group = catalogue.roots path number root at in (catalogue.below path number root at, group.1, group.0);
        objects = given_in l;
      };
      seen = record { register = refl; objects = seen_at };
    }

  pub worlds_open : WorldsOpen lanes
  worlds_open s count built register catalogue = opening_is s count built register catalogue

  pub owners_are_said : OwnersAreSaid lanes
  owners_are_said s held count built said l owner at =
      subst (λ (j : ℕ). SaysOwner lanes j held owner) (let e : 0 + l ≡ l = omega arith in e)
      (said_at lanes held 0 l s.lanes owner (subst (λ (n : ℕ). AreLanes n 0 s.lanes) (built.count ∙ count) built.lanes) said.lanes at)

pub kept_registers_are_since : KeptRegistersAreSince
kept_registers_are_since d kept held said = subst (λ (e : RegisterState). RegisterSays e held) (sym kept) (record { run = said.run; next = said.next; nodes = said.nodes })
