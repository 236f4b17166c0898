-- A new domain, and what stands in it.
use Rattle.std.proofs.Common.{◌≡◌, ℕ, ◌+◌, ◌<◌, max, List, length, Option, Some, None, IfSome, option_map, refl, sym, ap, ◌∙◌, arith}
use Rattle.std.proofs.Math.Nat.{le-max_right}
use Rattle.std.specs.FinMap.{get}
use Rattle.object_ids.specs.IdValues.{Id}
use Rattle.object_ids.specs.declared.ids.Kind.TheVariants.{Group as GroupKind}
use Rattle.domains.specs.Changes.{new_domain}
use Rattle.object_acts.specs.Objects.{kind_of_body}
use Rattle.object_acts.specs.declared.objects.Object.{Object}
use Rattle.register.specs.Decided.{RegisterState, domain_added}
use Rattle.service_core.specs.Steps.{AreGiven, IsGiven, World}
use Rattle.service_core.specs.Worlds.{State, seen}
use Rattle.documents.specs.declared.reader.loaded.Group.{Group}
use Rattle.documents.specs.declared.reader.loaded.Loaded.{Loaded}
use Rattle.json_import.specs.Fresh.Names.{Names, with_each, with_root}
use Rattle.json_import.specs.Fresh.Renamed.{group_object, numbered, other_count, other_objects, root_object}
use Rattle.json_import.proofs.OfFresh.StandingLemmas.{text_put}
use Rattle.json_import.specs.Adoption.Adopted.{drawn, objects_adopted, register_adopted, root_at}
use Rattle.json_import.specs.Adoption.Placing.{placed_each}
use Rattle.json_import.proofs.OfAdoption.PlacingLemmas.{placed_all}

-- ---- the root

pub below_next : (n : ℕ) → n < max n (n + 1)
below_next n = omega (arith, le-max_right n (n + 1))

no_less : (n : ℕ) → n < n → ⊥
no_less n h = omega (arith, h)

-- its id was given with the domain
pub root_given : (d : RegisterState) (path owner : List ℕ) → IsGiven (domain_added d path owner) (root_at d)
root_given d path owner = record {
  number = below_next d.catalogue.next;
  out = record { run = omega arith; serial = λ same. omega arith };
}

-- and no object has it yet
pub root_new : (w : World) → AreGiven w.register w.objects → get w.objects (root_at w.register) ≡ None
root_new w given = at (get w.objects (root_at w.register)) refl where
  at : (o : Option Object) → get w.objects (root_at w.register) ≡ o → get w.objects (root_at w.register) ≡ None
  at None e = e
  at (Some o) e = absurd (no_less w.register.serial ((given (root_at w.register) o e).out.serial refl))

pub root_kind : (names : Names) (root : Id) (g : Option Group) → IfSome (option_map (group_object names root) g) (λ o. kind_of_body o.body ≡ GroupKind)
root_kind names root None = tt
root_kind names root (Some g) = refl

-- ---- the whole

-- a domain was added, its root was put, and then the others
pub adopted_register : (old : State) (path owner : List ℕ) (l : Loaded) (w new : World) (others : List Object)
    → w.register ≡ domain_added old.register path owner → length others ≡ other_count l
    → new ≡ placed_each old.register.catalogue.next w others → new.register ≡ register_adopted old.register path owner l
adopted_register old path owner l w new others register many put =
    ap (λ (x : World). x.register) (put ∙ placed_all old.register.catalogue.next others w (root_at old.register) refl (sym (ap (λ (d : RegisterState). d.run) register)) (ap (λ (d : RegisterState). d.serial) register))
    ∙ (λ i. drawn (register i) (many i))

pub adopted_objects : (old : State) (path owner : List ℕ) (l : Loaded) (w new : World) (others : List Object)
    → w.register ≡ domain_added old.register path owner → w.objects ≡ with_root (seen old).objects (root_at old.register) (root_object l (root_at old.register))
    → others ≡ other_objects l (root_at old.register)
    → new ≡ placed_each old.register.catalogue.next w others → new.objects ≡ objects_adopted old.register l (seen old).objects
adopted_objects old path owner l w new others register root are put =
    ap (λ (x : World). x.objects) (put ∙ placed_all old.register.catalogue.next others w (root_at old.register) refl (sym (ap (λ (d : RegisterState). d.run) register)) (ap (λ (d : RegisterState). d.serial) register))
    ∙ (λ i. with_each (root i) (numbered (root_at old.register) (are i)))

-- the domain stands at its path
pub domain_there : (old new : RegisterState) (path owner : List ℕ) (l : Loaded) → new ≡ register_adopted old path owner l
    → get new.catalogue.nodes path ≡ Some (new_domain old.catalogue.next old.run old.serial owner)
domain_there old new path owner l is =
    ap (λ (d : RegisterState). get d.catalogue.nodes path) is
    ∙ text_put old.catalogue.nodes path (new_domain old.catalogue.next old.run old.serial owner)
