-- A world that records describe.
use Rattle.std.proofs.Common.{◌≡◌, ℕ, ◌+◌, ◌≤◌, ◌<◌, List, Option, Some, None, refl, sym, ap, subst, ◌∙◌}
use Rattle.std.specs.FinMap.{get, same_map}
use Rattle.flush_journal.specs.Records.{Held, IsRecordMap}
use Rattle.object_ids.specs.IdValues.{Id}
use Rattle.object_ids.specs.Ids.{InRange}
use Rattle.object_ids.proofs.IdOrders.{id_order_once, id_order_total}
use Rattle.object_acts.specs.declared.objects.Object.{Object}
use Rattle.chunk_owner.specs.Slots.Slots.{Describes}
use Rattle.chunk_owner.specs.Installs.Records.{AreHeld, IsFault, IsWholeObject}
use Rattle.chunk_owner.specs.Owners.Records.{AreGivenUpTo, IsFirstFault}
use Rattle.register.specs.Installed.Registers.{IsNextNumber, IsRun}
use Rattle.register.proofs.OfInstalled.NodeWalks.{one_next}
use Rattle.register.proofs.Installing.{one_run as same_run}
use Rattle.register.specs.Kept.{installed}
use Rattle.domains.specs.Contents.{Contents}
use Rattle.service_core.specs.Records.{DescribesWorld, IsWorldFault, of_lane, of_none, of_register}
use Rattle.service_core.specs.Steps.{World}
use Rattle.service_core.specs.Worlds.{seen}
use Rattle.service_core.specs.Described.Faultless.{WorldsStand}
use Rattle.service_core.specs.Described.Told.{AreOne, AreWhole, InstallsAreOne, WorldsAreOne}
use Rattle.service_core.proofs.OfDescribed.RegisterLemmas.{registers_are_one, registers_stand}

-- ---- no key at fault

module _ (lanes_stand : (lanes lane run next : ℕ) (held : Held) (objects : Id → Option Object) → AreHeld lanes lane run next held objects → (key : List ℕ) → IsFault lanes lane run next held key → ⊥) where
  module _ (held : Held) (run : ℕ) (w : World) (kept : IsRecordMap held) (told : DescribesWorld held run w) where
    given_to : (last next : ℕ) → IsRun held last → IsNextNumber held next → AreGivenUpTo last next w.objects
    given_to last next is_run is_next id o there = let given = told.given id o there in (
      subst (λ (n : ℕ). id.run ≤ n) (same_run held run last told.register.kept is_run) given.0,
      subst (λ (n : ℕ). id.domain < n) (one_next held w.register.catalogue.next next told.register.next is_next) given.1,
    )

    no_lane : (lanes last next : ℕ) (key : List ℕ) → IsRun held last → IsNextNumber held next → IsFirstFault lanes last next held key → ⊥
    no_lane lanes last next key is_run is_next first = lanes_stand lanes first.lane last next held (λ id. get w.objects id)
        (record { bodies = kept; described = λ id range own. told.objects id range; given = given_to last next is_run is_next }) key first.least.has

    none_at : (lanes : ℕ) (key : List ℕ) → IsWorldFault lanes held key → ⊥
    none_at lanes key (of_register least) = registers_stand held run w.register.catalogue told.register key least.has
    none_at lanes key (of_lane last next is_run is_next none first) = no_lane lanes last next key is_run is_next first
    none_at lanes key (of_none last next is_run is_next none all least) = told.strays key least.has

  pub worlds_stand : WorldsStand
  worlds_stand held run w kept told = none_at held run w kept told

-- ---- one world

module _ (objects_are_one : (held : Held) (id : Id) (a b : Option Object) → IsWholeObject a → IsWholeObject b → Describes held id a → Describes held id b → a ≡ b) where
  module _ (held : Held) (run other : ℕ) (w v : World) (ws : AreWhole w.objects) (vs : AreWhole v.objects) (x : DescribesWorld held run w) (y : DescribesWorld held other v) where
    at_id : (id : Id) → get v.objects id ≡ get w.objects id
    at_id id = at (get w.objects id) (get v.objects id) refl refl where
      told : InRange id → get v.objects id ≡ get w.objects id
      told range = objects_are_one held id (get v.objects id) (get w.objects id) (vs.parts id) (ws.parts id) (y.objects id range) (x.objects id range)

      at : (o p : Option Object) → get w.objects id ≡ o → get v.objects id ≡ p → get v.objects id ≡ get w.objects id
      at (Some a) p is also = told (ws.ids id a is)
      at None (Some b) is also = told (vs.ids id b also)
      at None None is also = also ∙ sym is

    one_world : AreOne run other w v
    one_world = record {
      run = registers.0;
      catalogue = registers.1;
      objects = same_map id_order_total id_order_once v.objects w.objects at_id;
    } where
      registers : (other ≡ run) × (v.register.catalogue ≡ w.register.catalogue)
      registers = registers_are_one held run other w.register.catalogue v.register.catalogue x.register y.register

  pub worlds_are_one : WorldsAreOne
  worlds_are_one held run other w v ws vs x y = one_world held run other w v ws vs x y

  pub installs_are_one : InstallsAreOne
  installs_are_one held lanes s t ss ts x y = λ i. record { register = register i; objects = one.objects i } where
    one : AreOne x.register.kept y.register.kept (seen s) (seen t)
    one = one_world held x.register.kept y.register.kept (seen s) (seen t) ss ts x.describes y.describes

    register : t.register ≡ s.register
    register = y.register.begins ∙ ap (λ (c : Contents). installed c lanes (y.register.kept + 1)) one.catalogue
        ∙ ap (λ (n : ℕ). installed s.register.catalogue lanes (n + 1)) one.run ∙ sym x.register.begins
