-- What is said of a hall's register and lanes is said whatever its desk is.
use Rattle.std.proofs.Common.{◌≡◌, ℕ, Bool, zero, suc, List, [], ◌∷◌, refl, sym, ◌∙◌, subst}
use Rattle.chunk_owner.specs.Lanes.{Lane}
use Rattle.object_ops.specs.declared.replies.Reply.{Reply}
use Rattle.register.specs.declared.verdicts.Verdict.{Verdict}
use Rattle.lane_histories.specs.Histories.{History}
use Rattle.lane_histories.specs.Legal.{IsLegal}
use Rattle.lane_histories.specs.Services.{World}
use Rattle.lane_histories.specs.declared.items.Outcome.{Outcome}
use Rattle.lane_histories.specs.declared.items.Part.{Part}
use Rattle.hall_rule.specs.Joins.{HasJoined}
use Rattle.hall_rule.specs.Machines.{objects_in as rule_objects, world_of}
use Rattle.hall_rule.specs.Seen.{Item, SeenLists}
use Rattle.hall_rule.specs.Standing.{IsFresh}
use Rattle.hall_rule.specs.Steps.{HasGrown, WasAdded}
use Rattle.hall_rule.specs.WholeTurns.{HasActed, HasCutLane, HasCutRegister, HasDecided, HasDrawnCut, HasTurned}
use Rattle.hall_rule.specs.declared.queue.Claim.{Claim}
use Rattle.service_histories.specs.ArrayServices.{Asked, array_service}
use Rattle.service_histories.specs.Tellings.{objects_in}
use Rattle.service_histories.specs.declared.tasks.Task.{Task}
use Rattle.hall.specs.Answers.{ArrayStart, ArrayView}
use Rattle.hall.specs.ArrayMachines.{desk_machines, machines}
use Rattle.hall.specs.declared.desk.AtDesk.{Ghosts}

-- the lanes' objects, as the rule of halls has them
pub plain_objects : (K : Type 0) (n : ℕ) (os : List Lane) (l : ℕ) → rule_objects (machines {K = K} n) os l ≡ objects_in os l
unfolding machines
plain_objects K n [] l = refl
plain_objects K n (o ∷ os) zero = refl
plain_objects K n (o ∷ os) (suc l) = plain_objects K n os l

pub desk_objects : {D K : Type 0} (met : Ghosts D K) (n : ℕ) (os : List Lane) (l : ℕ) → rule_objects (desk_machines met n) os l ≡ objects_in os l
unfolding desk_machines
desk_objects met n [] l = refl
desk_objects met n (o ∷ os) zero = refl
desk_objects met n (o ∷ os) (suc l) = desk_objects met n os l

module _ {D K : Type 0} (met : Ghosts D K) (n : ℕ) (start : ArrayStart K) where
  pub same_world : world_of (desk_machines met n) start ≡ world_of (machines n) start
  unfolding machines desk_machines
  same_world = λ i. record {
    register = start.register;
    objects = λ l. (desk_objects met n start.owners l ∙ sym (plain_objects K n start.owners l)) i;
  }

  legal_so : (h : History (array_service n)) → IsLegal (array_service n) (world_of (desk_machines met n) start) h
      → IsLegal (array_service n) (world_of (machines n) start) h
  legal_so h = subst (λ (w : World (array_service n)). IsLegal (array_service n) w h) same_world

  pub fresh_so : IsFresh (machines n) start → IsFresh (desk_machines met n) start
  unfolding machines desk_machines
  fresh_so f = record { register = f.register; owners = f.owners }

  pub grown_so : (v : ArrayView K) (h : SeenLists (array_service n) Lane) → HasGrown (desk_machines met n) start v h → HasGrown (machines n) start v h
  grown_so v h g = record {
    start_is = g.start_is;
    legal = legal_so _ g.legal;
    begins = g.begins;
    owns = g.owns;
    guest_begins = g.guest_begins;
    guest_owns = g.guest_owns;
    unused = g.unused;
  }

  added_so : (item : Item Asked Verdict Task Reply Lane) (front seen : SeenLists (array_service n) Lane)
      → WasAdded (desk_machines met n) start item front seen → WasAdded (machines n) start item front seen
  added_so item front seen a = record { mid = a.mid; begins = a.begins; legal = legal_so _ a.legal; seen_is = a.seen_is }

  turned_so : (item : Item Asked Verdict Task Reply Lane) (others : List Claim) (v w : ArrayView K)
      → HasTurned (desk_machines met n) start item others v w → HasTurned (machines n) start item others v w
  unfolding added_so
  turned_so item others v w t = record {
    before = t.before;
    seen = t.seen;
    is = t.is;
    begins = t.begins;
    own_before = t.own_before;
    same = t.same;
    longer = t.longer;
    own_after = t.own_after;
    legal = legal_so _ t.legal;
    unused = t.unused;
    kept = t.kept;
    added = added_so item v.seen t.seen t.added;
    alone = t.alone;
    uncut = t.uncut;
  }

  -- a turn of the register in which it decided a request
  pub decided_so : (place : ℕ) (asked : Asked) (verdict : Verdict) (v w : ArrayView K)
      → HasDecided (desk_machines met n) start place asked verdict v w → HasDecided (machines n) start place asked verdict v w
  unfolding machines desk_machines turned_so
  decided_so place asked verdict v w d = record {
    before = d.before;
    turned = turned_so _ v.claims v w d.turned;
    before_is = d.before_is;
    place_is = d.place_is;
    early = d.early;
    may = d.may;
    legal = legal_so _ d.legal;
  }

  -- and one of a lane
  pub acted_so : (lane place : ℕ) (part : Part) (task : Task) (outcome : Outcome Reply) (v w : ArrayView K)
      → HasActed (desk_machines met n) start lane place part task outcome v w → HasActed (machines n) start lane place part task outcome v w
  acted_so lane place part task outcome v w a = record { owner = a.owner; turned = turned_so _ _ v w a.turned; longer = a.longer; here = a.here }

  -- those in which a cut is drawn, the register is cut, and a lane
  pub drawn_so : (place : ℕ) (v w : ArrayView K) → HasDrawnCut (desk_machines met n) start place v w → HasDrawnCut (machines n) start place v w
  unfolding turned_so
  drawn_so place v w d = record {
    before = d.before;
    turned = turned_so _ v.claims v w d.turned;
    before_is = d.before_is;
    place_is = d.place_is;
    is_claims = d.is_claims;
  }

  pub cut_register_so : (place : ℕ) (found : Bool) (v w : ArrayView K)
      → HasCutRegister (desk_machines met n) start place found v w → HasCutRegister (machines n) start place found v w
  unfolding turned_so
  cut_register_so place found v w d = record {
    before = d.before;
    turned = turned_so _ v.claims v w d.turned;
    before_is = d.before_is;
    place_is = d.place_is;
    is_claims = d.is_claims;
  }

  pub cut_lane_so : (lane cut place : ℕ) (found : Bool) (owner : Lane) (v w : ArrayView K)
      → HasCutLane (desk_machines met n) start lane cut place found owner v w → HasCutLane (machines n) start lane cut place found owner v w
  unfolding turned_so
  cut_lane_so lane cut place found owner v w d = record { turned = turned_so _ _ v w d.turned; longer = d.longer; here = d.here }

  -- with the lists as they were when their turns were taken
  pub before_drawn : (place : ℕ) (v w : ArrayView K) (d : HasDrawnCut (desk_machines met n) start place v w) (h : SeenLists (array_service n) Lane)
      → d.before ≡ h → (k : HasDrawnCut (machines n) start place v w) × (k.before ≡ h)
  unfolding drawn_so
  before_drawn place v w d h is = (drawn_so place v w d, is)

  pub before_register : (place : ℕ) (found : Bool) (v w : ArrayView K) (d : HasCutRegister (desk_machines met n) start place found v w)
      (h : SeenLists (array_service n) Lane) → d.before ≡ h → (k : HasCutRegister (machines n) start place found v w) × (k.before ≡ h)
  unfolding cut_register_so
  before_register place found v w d h is = (cut_register_so place found v w d, is)

  pub before_lane : (lane cut place : ℕ) (found : Bool) (owner : Lane) (v w : ArrayView K)
      (d : HasCutLane (desk_machines met n) start lane cut place found owner v w) (h : SeenLists (array_service n) Lane) → d.turned.before ≡ h
      → (k : HasCutLane (machines n) start lane cut place found owner v w) × (k.turned.before ≡ h)
  unfolding cut_lane_so turned_so
  before_lane lane cut place found owner v w d h is = (cut_lane_so lane cut place found owner v w d, is)

  pub joined_so : (v w u : ArrayView K) → HasJoined (desk_machines met n) start v w u → HasJoined (machines n) start v w u
  joined_so v w u j = record {
    seen = j.seen;
    is = j.is;
    mine_begin = j.mine_begin;
    theirs_begin = j.theirs_begin;
    mine_same = j.mine_same;
    theirs_same = j.theirs_same;
    legal = legal_so _ j.legal;
    both_names = j.both_names;
    as_many = j.as_many;
  }
