-- What is held of a world of which all is kept, and of one that is installed.
use Rattle.std.proofs.Common.{◌≡◌, ◌≢◌, ⊎_elim, ℕ, zero, suc, ◌+◌, ◌<◌, List, [], ◌∷◌, length, Option, Some, None, refl, sym, ap, subst, ◌∙◌, arith}
use Rattle.std.proofs.lemmas.Bool.Decides.{eqb_tells}
use Rattle.std.proofs.Math.Nat.{mod-lt}
use Rattle.std.specs.FinMap.{get}
use Rattle.std.specs.List.{AllByRecursion}
use Rattle.domains.specs.Contents.{Contents}
use Rattle.flush_journal.specs.Records.{Held}
use Rattle.object_ids.specs.IdValues.{Id}
use Rattle.object_ids.specs.Ids.{InRange, lane_of}
use Rattle.object_acts.specs.declared.objects.Object.{Object}
use Rattle.object_acts.specs.Objects.{Objects}
use Rattle.chunk_owner.specs.Installs.Records.{IsWholeObject}
use Rattle.chunk_owner.specs.Lanes.{Lane}
use Rattle.chunk_owner.specs.Owners.Joined.{AreLanes, whole}
use Rattle.chunk_owner.specs.Owners.Records.{AreStillIn, LanesSay}
use Rattle.chunk_owner.specs.Slots.Slots.{Describes}
use Rattle.register.specs.Decided.{RegisterState}
use Rattle.register.specs.Installed.Registers.{DescribesRegister}
use Rattle.register.specs.Kept.{RegisterSays, all_kept}
use Rattle.service_core.specs.Described.Told.{AreWhole, RegistersAreOne}
use Rattle.service_core.specs.Records.{DescribesWorld, IsWorldOf}
use Rattle.service_core.specs.Steps.{World}
use Rattle.service_core.specs.Worlds.{State}
use Rattle.lane_histories.specs.JournalContents.{TellsAll}
use Rattle.lane_histories.specs.Histories.{History, register_at}
use Rattle.lane_histories.specs.Kept.{IsKept, ToldWorld}
use Rattle.lane_histories.specs.Legal.{IsLegal}
use Rattle.lane_histories.specs.Ready.{GivesOut, KeptIsGiven}
use Rattle.lane_histories.specs.Services.{World as LaneWorld}
use Rattle.lane_histories.specs.declared.items.Reach.{Reach}
use Rattle.service_histories.specs.ArrayServices.{IsSameOrGone, KeptPart, array_service, gone, same}
use Rattle.service_histories.specs.Readies.{IsGivenIn, array_readiness}
use Rattle.service_core.specs.Steps.{IsGiven}
use Rattle.service_histories.specs.JournalParts.{TellsLane, TellsRegister, array_contents}
use Rattle.service_histories.specs.Markings.{IsOwner}
use Rattle.service_histories.specs.Tellings.{InstallsAreTold, IsInstalledAs, IsWorldOfTold, KeptWorldsAreDescribed, KeptWorldsAreTold, WorldsToldAreOne, objects_in}
use Rattle.service_histories.proofs.CutLemmas.{says_all}

-- records tell one object at an id
abbrev pub TellsOne : Type 0
TellsOne = (held : Held) (id : Id) (a b : Option Object) → IsWholeObject a → IsWholeObject b → Describes held id a → Describes held id b → a ≡ b

module _ (lanes : ℕ) where
  -- ---- a world of which all is kept

  abbrev Tells : Held → ℕ → List Lane → Type 0
  Tells held k ls = (i : ℕ) → i < length ls → TellsLane lanes (k + i) held (objects_in ls i)

  lanes_told : (k : ℕ) (ls : List Lane) (held : Held) → AreLanes lanes k ls → AllByRecursion IsOwner ls → AreStillIn ls → LanesSay ls held → Tells held k ls
  lanes_told k [] held are owners still said i few = absurd (omega arith)
  lanes_told k (l ∷ ls) held are owners still said zero few =
      subst (λ n. TellsLane lanes n held l.objects) (let e : k ≡ k + 0 = omega arith in e)
      (says_all lanes held k l (record { owner = owners.0; still = still.0 }) (record { lane_is = are.0.lane; lanes_are = are.0.lanes; says = said.0 }))
  lanes_told k (l ∷ ls) held are owners still said (suc i) few =
      subst (λ n. TellsLane lanes n held (objects_in ls i)) (let e : suc k + i ≡ k + suc i = omega arith in e)
      (lanes_told (suc k) ls held are.1 owners.1 still.1 said.1 i (omega arith))

  pub kept_worlds_are_told : KeptWorldsAreTold lanes
  kept_worlds_are_told s held sound kept said =
      let many : length s.lanes ≡ lanes = sound.built.count ∙ sound.count in
      let says : RegisterSays (all_kept s.register) held = subst (λ (d : RegisterState). RegisterSays d held) kept.register said.register in
      record {
        catalogue = record { says = record { run = says.run; next = says.next; nodes = says.nodes }; strays = said.strays; sound = sound.register };
        lanes = λ l few. subst (λ n. TellsLane lanes n held (objects_in s.lanes l)) (let e : 0 + l ≡ l = omega arith in e)
            (lanes_told 0 s.lanes held (subst (λ n. AreLanes n 0 s.lanes) many sound.built.lanes) sound.owners kept.lanes said.lanes l (omega (arith, few, many)));
      }

  -- ---- a world that is installed

  module _ (one_register : RegistersAreOne) (one_object : TellsOne) (held : Held) (w : ToldWorld (array_service lanes)) (s : State)
      (some : 0 < lanes) (told : TellsAll (array_contents lanes) held w) (whole_ones : AreWhole (whole s.lanes)) (is : IsWorldOf held lanes s) where
    same_register : (is.register.kept ≡ w.catalogue.run) × (s.register.catalogue ≡ w.catalogue.contents)
    same_register = one_register held w.catalogue.run is.register.kept w.catalogue.contents s.register.catalogue (told.catalogue.sound held told.catalogue.says) is.register.described

    abbrev home : Id → ℕ
    home id = lane_of lanes id

    there : (id : Id) → InRange id → get (whole s.lanes) id ≡ get (w.objects (home id)) id
    there id range =
        let lane = told.lanes (home id) (mod-lt id.serial some) in
        one_object held id (get (whole s.lanes) id) (get (w.objects (home id)) id) (whole_ones.parts id) (lane.parts id) (is.describes.objects id range) (lane.described id range refl)

    pub installed : IsInstalledAs lanes w s
    installed = record {
      catalogue = same_register.1;
      run = ap (λ (d : RegisterState). d.run) is.register.begins ∙ ap (λ n. n + 1) same_register.0;
      objects = there;
    }

  pub installs_are_told : RegistersAreOne → TellsOne → InstallsAreTold lanes
  installs_are_told one_register one_object held w s some told whole_ones is = installed one_register one_object held w s some told whole_ones is

  -- ---- one world is told

  away : (l : ℕ) (held : Held) (m : Objects) → TellsLane lanes l held m → (id : Id) → lane_of lanes id ≢ l → (p : Option Object) → get m id ≡ p → get m id ≡ None
  away l held m told id far None at = at
  away l held m told id far (Some o) at = absurd (far (told.home id o at))

  module _ (one_object : TellsOne) (l : ℕ) (held : Held) (m n : Objects) (told : TellsLane lanes l held m) (again : TellsLane lanes l held n) where
    same_object : (id : Id) → InRange id → get n id ≡ get m id
    same_object id range = ⊎_elim
        (λ here. one_object held id (get n id) (get m id) (again.parts id) (told.parts id) (again.described id range here.1) (told.described id range here.1))
        (λ far. away l held n again id far.1 (get n id) refl ∙ sym (away l held m told id far.1 (get m id) refl))
        (eqb_tells (lane_of lanes id) l)

  module _ (one_register : RegistersAreOne) (held : Held) (c d : KeptPart) (told : TellsRegister held c) (again : TellsRegister held d) where
    same_part : d ≡ c
    same_part =
        let one = one_register held c.run d.run c.contents d.contents (told.sound held told.says) (again.sound held again.says) in
        λ i. record { contents = one.1 i; run = one.0 i }

  pub worlds_told_are_one : RegistersAreOne → TellsOne → WorldsToldAreOne lanes
  worlds_told_are_one one_register one_object held w v told again = record {
    catalogue = same_part one_register held w.catalogue v.catalogue told.catalogue again.catalogue;
    objects = λ l few id range. same_object one_object l held (w.objects l) (v.objects l) (told.lanes l few) (again.lanes l few) id range;
  }

  -- ---- a world that is kept

  module _ (given : KeptIsGiven (array_service lanes) (array_readiness lanes)) (gives : GivesOut (array_service lanes) (array_readiness lanes))
      (start : LaneWorld (array_service lanes)) (h : History (array_service lanes)) (held : Held) (w : ToldWorld (array_service lanes)) (v : World) (reach : Reach)
      (legal : IsLegal (array_service lanes) start h) (given_first : (l : ℕ) → IsGivenIn lanes start.register (start.objects l)) (some : 0 < lanes)
      (told : TellsAll (array_contents lanes) held w) (kept : IsKept (array_service lanes) start h w reach) (is : IsWorldOfTold lanes w v) where
    abbrev at_p : RegisterState
    at_p = register_at (array_service lanes) reach.p start.register h.register

    in_lane : (id : Id) → lane_of lanes id < lanes
    in_lane id = mod-lt id.serial some

    -- what stands in the world stood in the history then
    was_there : (id : Id) (o : Object) (one other : Objects) → IsSameOrGone w.catalogue.contents one other id → get one id ≡ Some o → get other id ≡ Some o
    was_there id o one other (same e) at = sym e ∙ at
    was_there id o one other (gone far none) at = absurd (let never : None ≡ Some o = sym none ∙ at in cc)

    id_given : (id : Id) (o : Object) → get v.objects id ≡ Some o → IsGiven at_p id
    id_given id o at =
        let l = lane_of lanes id in
        let lane = kept.kept.lanes l (in_lane id) in
        let all = given gives start h legal given_first l (kept.k l) reach.p lane.below in
        all.objects id o (was_there id o (w.objects l) _ (lane.objects id) (sym (is.objects id) ∙ at))

    pub kept_world_described : DescribesWorld held w.catalogue.run v
    kept_world_described = record {
      register = subst (DescribesRegister held w.catalogue.run) (sym is.catalogue) (told.catalogue.sound held told.catalogue.says);
      objects = λ id range. subst (Describes held id) (sym (is.objects id)) ((told.lanes (lane_of lanes id) (in_lane id)).described id range refl);
      given = λ id o at.
          let was = id_given id o at in
          let run : w.catalogue.run ≡ at_p.run = ap (λ (k : KeptPart). k.run) kept.kept.catalogue in
          let next : v.register.catalogue.next ≡ at_p.catalogue.next = ap (λ (c : Contents). c.next) is.catalogue ∙ ap (λ (k : KeptPart). k.contents.next) kept.kept.catalogue in
          (omega (arith, was.out.run, run), omega (arith, was.number, next));
      strays = told.catalogue.strays;
    }

  pub kept_worlds_are_described : KeptIsGiven (array_service lanes) (array_readiness lanes) → GivesOut (array_service lanes) (array_readiness lanes) → KeptWorldsAreDescribed lanes
  kept_worlds_are_described given gives start h held w v reach legal first some told kept is =
      kept_world_described given gives start h held w v reach legal first some told kept is
