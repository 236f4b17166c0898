-- How a hall begins with a world, and ends as one.
use Rattle.std.proofs.Common.{◌≡◌, ◌⊎◌, ℕ, zero, suc, ◌+◌, true≢false, List, [], ◌∷◌, length, Option, Some, refl, sym, ap, subst, ◌∙◌, arith}
use Rattle.std.specs.List.{AllByRecursion}
use mathlib.Core.Option.{some, some-ne-none, some-injective}
use lib.ListN.{get_elem?}
use Rattle.std.specs.Prelude.{slice_get}
use Rattle.std.proofs.lemmas.Option.{slice_get_within}
use Rattle.chunk_owner.specs.Lanes.{IsWhole, Lane}
use Rattle.chunk_owner.specs.Owners.Joined.{AreLanes}
use Rattle.chunk_owner.specs.Owners.Records.{AreStillIn}
use Rattle.register.specs.Decided.{RegisterState}
use Rattle.service_core.specs.Worlds.{IsBuilt, State}
use Rattle.lane_histories.specs.Cuts.{register_cut}
use Rattle.lane_histories.specs.Histories.{IsIn, RegisterList, objects_after, register_at}
use Rattle.lane_histories.specs.declared.items.RegisterItem.{RegisterItem}
use Rattle.lane_histories.specs.declared.items.RegisterItem.TheVariants.{DrawnCut, Entered, RegisterCut}
use Rattle.hall_rule.specs.Closes.{HasClosed}
use Rattle.hall_rule.specs.Machines.{objects_in as rule_objects, world_of}
use Rattle.hall_rule.specs.Seen.{GrowsUncut, IsNoRegisterCut, history_of, lane_of, nothing}
use Rattle.hall_rule.specs.Standing.{IsFreshDesk}
use Rattle.service_histories.specs.ArrayServices.{array_service, cut_drawn, cut_recorded, kept_part}
use Rattle.service_histories.specs.Closings.{AreOwnersAfter, IsWorldSince, WorldsClose}
use Rattle.service_histories.specs.Cuttings.{IsOwnerSince, IsRegisterSince, no_item}
use Rattle.service_histories.specs.Readies.{IsGivenIn}
use Rattle.service_histories.specs.Tellings.{IsOpening, KeptRegistersAreSince}
use Rattle.hall.specs.Answers.{ArrayStart, ArrayView}
use Rattle.hall.specs.ArrayMachines.{IsOpened, desk_machines, lanes_in, machines}
use Rattle.hall.specs.Passes.{HasEnded, IsDeskAtEnd, IsNewWorld, IsSinceCuts}
use Rattle.hall.specs.declared.desk.AtDesk.{Ghosts}
use Rattle.hall.proofs.PlainLemmas.{desk_objects, grown_so}
use Rattle.hall.specs.declared.desk.NotedDesk.{NotedDesk}

in_slice : {X : Type 0} (xs : List X) (i : ℕ) (x : X) → get_elem? xs i ≡ some x → slice_get xs i ≡ Some x
in_slice [] i x e = absurd (some-ne-none x (sym e))
in_slice (y ∷ xs) zero x e = ap Some (some-injective y x e)
in_slice (y ∷ xs) (suc i) x e = in_slice xs i x e

pub same_value : {X : Type 0} (a b : X) → ◌≡◌ {A = Option X} (Some a) (Some b) → a ≡ b
same_value a b e = cc

-- ---- the beginning

-- an owner of which nothing is marked is since itself
owner_since : (n k i : ℕ) (ls : List Lane) (o : Lane) → AreLanes n k ls → AreStillIn ls → get_elem? ls i ≡ some o → IsOwnerSince n (k + i) o o
owner_since n k i [] o are still at = absurd (some-ne-none o (sym at))
owner_since n k zero (l ∷ ls) o are still at =
    subst (λ (x : Lane). IsOwnerSince n (k + 0) x x) (some-injective l o at) (record {
      lane_is = are.0.lane ∙ (let e : k ≡ k + 0 = omega arith in e);
      lanes_are = are.0.lanes;
      same = record { lane = refl; lanes = refl };
      still = still.0;
      since = λ held said. said;
    })
owner_since n k (suc i) (l ∷ ls) o are still at =
    subst (λ (j : ℕ). IsOwnerSince n j o o) (let e : suc k + i ≡ k + suc i = omega arith in e)
    (owner_since n (suc k) i ls o are.1 still.1 at)

module _ {D : Type 0} (s : State) (new : IsNewWorld s) (built : IsBuilt s.register s.lanes) (opening : IsOpening (length s.lanes) s)
    (since : KeptRegistersAreSince) where
  begun : D → ArrayStart D
  begun desk = record { register = s.register; owners = s.lanes; desk = desk }

  begun_opened : (desk : D) → IsOpened (begun desk)
  unfolding machines begun
  begun_opened desk =
      let n = length s.lanes in record {
        some_lane = (opening.given 0).some_lane;
        lanes = sym built.count;
        register = new.counts;
        given = opening.given;
        fresh = record {
          register = since s.register new.kept.register;
          owners = λ lane o at. record {
            owner = subst (λ (j : ℕ). IsOwnerSince n j o o) (let e : 0 + lane ≡ lane = omega arith in e)
                (owner_since n 0 lane s.lanes o built.lanes new.kept.lanes at);
            alone = no_item;
          };
        };
      }

  pub opened : (start : ArrayStart D) → start.register ≡ s.register → start.owners ≡ s.lanes → IsOpened start
  unfolding begun
  opened start registers owners =
      subst IsOpened (λ i. record { register = sym registers i; owners = sym owners i; desk = start.desk }) (begun_opened start.desk)

-- the desk tells with what the hall began
module _ {D K : Type 0} (met : Ghosts D K) (s : State) (start : ArrayStart K) (desk : NotedDesk D) where
  pub noted : start.desk ≡ met.known desk.desk → desk.register.value ≡ start.register → desk.owners.value.items ≡ start.owners
      → start.register ≡ s.register → start.owners ≡ s.lanes
      → met.IsSince desk.desk (record { register = s.register; owners = s.lanes; desk = met.known desk.desk })
      → met.note desk.desk s.lanes ≡ nothing s.lanes → met.HasTold desk.desk (met.known desk.desk) [] → IsFreshDesk (desk_machines met (lanes_in start)) start desk
  unfolding desk_machines
  noted known registers owners register_is owners_are since note none = record {
    known_by = subst (met.IsSince desk.desk)
        (λ i. record { register = sym (registers ∙ register_is) i; owners = sym (owners ∙ owners_are) i; desk = sym known i }) since;
    told = subst (λ (first : K). met.HasTold desk.desk first []) (sym known) none;
    note = subst (λ (os : List Lane). met.note desk.desk os ≡ nothing os) (sym (owners ∙ owners_are)) note
        ∙ ap nothing owners;
    register = registers;
    owners = owners;
  }

-- ---- the end

-- where no item is a cut, the register is since the beginning
pub never_cut : {Q V : Type 0} (items : List (RegisterItem Q V)) → AllByRecursion IsNoRegisterCut items → register_cut items ≡ 0
never_cut [] none = refl
never_cut (Entered e ∷ items) none = never_cut items none.1
never_cut (DrawnCut number c ∷ items) none = never_cut items none.1
never_cut (RegisterCut p found ∷ items) none = absurd (true≢false none.0)

pub cut_first : (n : ℕ) (d : RegisterState) (items : RegisterList (array_service n))
    → kept_part (register_at (array_service n) 0 d items) ≡ kept_part d
cut_first n d [] = refl
cut_first n d (Entered e ∷ items) = refl
cut_first n d (DrawnCut number c ∷ items) = cut_first n (cut_drawn d) items
cut_first n d (RegisterCut p found ∷ items) = cut_first n (cut_recorded found d) items ∙ (array_service n).catalogue_recorded found d

module _ {D K : Type 0} (met : Ghosts D K) (start : ArrayStart K) (opened : IsOpened start) (v : ArrayView K) (register : RegisterState)
    (owners : List Lane) (desk : NotedDesk D) (closed : HasClosed (desk_machines met (lanes_in start)) start v register owners desk)
    (whole : (l : ℕ) (o : Lane) → slice_get owners l ≡ Some o → IsWhole o) where
  given : (l : ℕ) → IsGivenIn (lanes_in start) start.register (rule_objects (desk_machines met (lanes_in start)) start.owners l)
  given l = subst (IsGivenIn (lanes_in start) start.register) (sym (desk_objects met (lanes_in start) start.owners l)) (opened.given l)

  after : AreOwnersAfter (lanes_in start) (world_of (desk_machines met (lanes_in start)) start)
      (history_of (array_service (lanes_in start)) closed.seen) owners
  unfolding desk_machines
  after = record {
    count = closed.count;
    each = λ l owner at.
        let is = closed.owners_are l (let few = slice_get_within owners l owner at in let count = closed.count in omega arith) in
        let same = same_value is.0 owner (sym (in_slice owners l is.0 is.1) ∙ at) in record {
          lane_is = ap (λ (o : Lane). o.lane) (sym same) ∙ is.2.since.owner.lane_is;
          lanes_are = ap (λ (o : Lane). o.lanes) (sym same) ∙ is.2.since.owner.lanes_are;
          whole = whole l owner at;
          objects = ap (λ (o : Lane). o.objects) (sym same) ∙ is.2.now;
        };
  }

  pub built : WorldsClose (lanes_in start) → IsBuilt register owners
  unfolding desk_machines
  built closes =
      subst (λ (d : RegisterState). IsBuilt d owners) (sym closed.register_is.now)
      (closes (world_of (desk_machines met (lanes_in start)) start) (history_of (array_service (lanes_in start)) closed.seen) owners
      closed.grown.legal given after)

  since : IsSinceCuts start closed.seen (record { register = register; lanes = owners })
  unfolding desk_machines
  since = record {
    register = closed.register_is.since;
    owners = λ l first last at here.
        let is = closed.owners_are l
        (let few = slice_get_within owners l last here in let count = closed.count in omega arith) in
        let same_last = same_value is.0 last (sym (in_slice owners l is.0 is.1) ∙ here) in
        let same_first = same_value is.2.was first (sym (in_slice closed.seen.was l is.2.was is.2.was_is) ∙ at) in
        subst (λ (x : Lane × Lane). IsOwnerSince (lanes_in start) l x.0 x.1) (λ i. (same_first i, same_last i)) is.2.since.owner;
  }

  ended : HasEnded start v (record { register = register; lanes = owners })
  unfolding desk_machines
  ended = record {
    seen = closed.seen;
    grown = grown_so met (lanes_in start) start v closed.seen closed.grown;
    all_seen = closed.all_seen;
    named = closed.named;
    strangers = closed.strangers;
    all_passed = closed.all_passed;
    register = closed.register_is.now;
    count = closed.count;
    owners = λ l few.
        let is = closed.owners_are l few in (
          is.0,
          in_slice owners l is.0 is.1,
          is.2.now ∙ ap (λ m. objects_after (array_service (lanes_in start)) m (lane_of closed.seen.lanes l))
              (desk_objects met (lanes_in start) start.owners l),
        );
    since = since;
  }

  -- what stands of the desk, in the words of its own kind
  desk_ended : IsDeskAtEnd met start closed.seen desk.desk
  unfolding desk_machines
  desk_ended =
      let is = closed.desk_is in
      let owners_are : desk.owners.value.items ≡ start.owners = is.owners in record {
        since = subst (met.IsSince desk.desk) (λ i. record { register = is.register i; owners = owners_are i; desk = start.desk }) is.since;
        uncut = subst (λ (os : List Lane). GrowsUncut closed.seen (met.note desk.desk os)) owners_are is.uncut;
        far = is.far;
        told = is.told;
        kept = λ k here ok. subst (λ (os : List Lane). IsIn (met.note desk.desk os).keepings k
            ⊎ ((k.own ≡ met.reach desk.desk) × (k.moment ≡ met.moment desk.desk))) owners_are (is.kept k here ok);
      }

  pub both_ended : (end : HasEnded start v (record { register = register; lanes = owners })) × IsDeskAtEnd met start end.seen desk.desk
  unfolding ended
  both_ended = (ended, desk_ended)

-- ---- where nobody cut

module _ {K : Type 0} (start : ArrayStart K) (v : ArrayView K) (last : State) (end : HasEnded start v last)
    (uncut : GrowsUncut end.seen (nothing start.owners)) where
  -- each change since the hall began is marked
  pub uncut_since : IsWorldSince (lanes_in start) (record { register = start.register; lanes = start.owners }) last
  uncut_since =
      let more = uncut.register in
      let none : register_cut end.seen.register ≡ 0 = ap register_cut more.1 ∙ never_cut more.0 more.2 in record {
        register = subst (λ c. IsRegisterSince c last.register)
            (ap (λ (n : ℕ). kept_part (register_at (array_service (lanes_in start)) n start.register end.seen.register)) none
            ∙ cut_first (lanes_in start) start.register end.seen.register) end.since.register;
        count = end.count;
        owners = λ l was now at here. end.since.owners l was now (ap (λ os. slice_get os l) uncut.was ∙ at) here;
      }
