-- What a crash leaves tells one world, with the objects of all lanes.
use Rattle.std.proofs.Common.{◌≡◌, ◌≢◌, ℕ, zero, suc, ◌+◌, ◌<◌, List, [], ◌∷◌, length, Option, Some, None, refl, ap, ◌∙◌, arith}
use Rattle.std.specs.FinMap.{empty, get}
use Rattle.std.proofs.Math.Nat.{mod-lt}
use Rattle.flush_journal.specs.Records.{Held}
use Rattle.object_ids.specs.IdValues.{Id}
use Rattle.object_ids.specs.Ids.{lane_of}
use Rattle.object_acts.specs.declared.objects.Object.{Object}
use Rattle.object_acts.specs.Objects.{Objects}
use Rattle.chunk_owner.specs.Lanes.{Lane}
use Rattle.chunk_owner.specs.Owners.Joined.{AreLanes, whole}
use Rattle.service_core.specs.Described.Faultless.{WorldsStand}
use Rattle.service_core.specs.Steps.{World}
use Rattle.lane_histories.specs.JournalContents.{TellsAll}
use Rattle.lane_histories.specs.Kept.{ToldWorld}
use Rattle.lane_histories.specs.Laws.{CoresAreLegal, ImagesAreKept}
use Rattle.lane_histories.specs.Core.{history}
use Rattle.service_histories.specs.ArrayServices.{array_service}
use Rattle.service_histories.specs.Images.{ImagesOpen}
use Rattle.service_histories.specs.JournalParts.{array_contents, kept_register}
use Rattle.service_histories.specs.Tellings.{IsWorldOfTold, KeptWorldsAreDescribed, objects_in}
use Rattle.service_histories.proofs.OpeningLemmas.{looked_up}

-- the lanes with these objects, from a number on
lanes_with : ℕ → ℕ → ℕ → (ℕ → Objects) → List Lane
lanes_with n k zero o = []
lanes_with n k (suc more) o = record { lane = k; lanes = n; objects = o k; slots = empty } ∷ lanes_with n (suc k) more o

module _ (n : ℕ) (o : ℕ → Objects) (home : (l : ℕ) → l < n → (id : Id) (x : Object) → get (o l) id ≡ Some x → lane_of n id ≡ l) where
  away : (l : ℕ) → l < n → (id : Id) → lane_of n id ≢ l → (p : Option Object) → get (o l) id ≡ p → get (o l) id ≡ None
  away l few id far None at = at
  away l few id far (Some x) at = absurd (far (home l few id x at))

  are_lanes : (k more : ℕ) → k + more ≡ n → AreLanes n k (lanes_with n k more o)
  unfolding lanes_with
  are_lanes k zero e = tt
  are_lanes k (suc more) e = (
    record { lane = refl; lanes = refl; own = λ id far. away k (omega (arith, e)) id (λ same. far same) (get (o k) id) refl },
    are_lanes (suc k) more (omega (arith, e)),
  )

  count : (k more : ℕ) → length (lanes_with n k more o) ≡ more
  unfolding lanes_with
  count k zero = refl
  count k (suc more) = ap suc (count (suc k) more)

  at_index : (k more i : ℕ) → i < more → objects_in (lanes_with n k more o) i ≡ o (k + i)
  unfolding lanes_with
  at_index k zero i few = absurd (omega arith)
  at_index k (suc more) zero few = ap o (let e : k ≡ k + 0 = omega arith in e)
  at_index k (suc more) (suc i) few = at_index (suc k) more i (omega arith) ∙ ap o (let e : suc k + i ≡ k + suc i = omega arith in e)

module _ (lanes : ℕ) (held : Held) (w : ToldWorld (array_service lanes)) (some : 0 < lanes) (told : TellsAll (array_contents lanes) held w) where
  all_lanes : List Lane
  all_lanes = lanes_with lanes 0 lanes w.objects

  home : (l : ℕ) → l < lanes → (id : Id) (x : Object) → get (w.objects l) id ≡ Some x → lane_of lanes id ≡ l
  home l few id x at = (told.lanes l few).home id x at

  one_world : World
  unfolding all_lanes
  one_world = record { register = kept_register w.catalogue; objects = whole all_lanes }

  is_told : IsWorldOfTold lanes w one_world
  unfolding all_lanes one_world
  is_told = record {
    catalogue = refl;
    objects = λ id.
        let below : lane_of lanes id < lanes = mod-lt id.serial some in
        looked_up lanes all_lanes (count lanes w.objects home 0 lanes) some (are_lanes lanes w.objects home 0 lanes (let e : 0 + lanes ≡ lanes = omega arith in e)) id
        ∙ ap (λ (m : Objects). get m id) (at_index lanes w.objects home 0 lanes (lane_of lanes id) below ∙ ap w.objects (let e : 0 + lane_of lanes id ≡ lane_of lanes id = omega arith in e));
  }

pub images_open : (lanes : ℕ) → CoresAreLegal (array_service lanes) (array_contents lanes) → ImagesAreKept (array_service lanes) (array_contents lanes)
    → KeptWorldsAreDescribed lanes → WorldsStand → ImagesOpen lanes
images_open lanes legal kept described stand start opened core events some given opens runs x image bodies key fault =
    let k = kept start opened core events opens runs x image in
    let w = k.tells.world in
    let v = one_world lanes x w some k.tells.told in
    let is = described start (history core) x w v k.reach (legal start opened core events opens runs) given some k.tells.told k.tells.kept (is_told lanes x w some k.tells.told) in
    stand x w.catalogue.run v bodies is lanes key fault
