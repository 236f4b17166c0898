-- A new domain has room for the objects of a document, and nothing is held of it before.
use Rattle.std.proofs.Common.{◌≡◌, ◌≤◌, ◌<◌, ◌+◌, ◌-◌, ℕ, Bool, true, false, nat_lt, cond, List, Option, Some, None, refl, sym, subst, arith, option_map, ap}
use Rattle.std.specs.FinMap.{get}
use Rattle.std.proofs.lemmas.Bool.{ltb-false, ltb-true}
use Rattle.object_ids.specs.declared.limits.LimitKind.TheVariants as limit
use Rattle.domains.specs.Changes.{domain_fault, make_fault, number_fault, number_limit, new_domain}
use Rattle.domains.specs.Contents.{Contents, class_at}
use Rattle.domains.specs.declared.classes.Node.{Node}
use Rattle.domains.specs.declared.faults.CatFault.{CatFault}
use Rattle.domains.specs.declared.faults.CatFault.TheVariants as cat
use Rattle.register.specs.Decided.{IsRegister, RegisterState, serial_limit}
use Rattle.service_core.specs.Steps.{AreGiven, IsWorld, World}
use Rattle.json_export.specs.Documents.{home_of as home_of_class}
use Rattle.documents.specs.Reader.Loads.{Loads}
use Rattle.documents.specs.declared.reader.loaded.Loaded.{Loaded}
use Rattle.documents.specs.Domains.Documents.{document_tree}
use Rattle.json_import.specs.Fresh.Renamed.{other_count}
use Rattle.json_import.specs.RoundTrips.Laws.{DocumentsReadBack, HasRoom, IsAlone, home_of}
use Rattle.json_import.specs.RoundTrips.Renamed.{renamed}
use Rattle.json_import.specs.Adoption.Adopted.{IsReadBack, objects_adopted, root_at}
use Rattle.json_import.specs.Adoption.Faults.{adopt_fault, fault_or, serial_fault, told}
use Rattle.json_import.specs.declared.adoption.faults.AdoptFault.{AdoptFault}
use Rattle.json_import.specs.declared.adoption.faults.AdoptFault.TheVariants.{Limit}

-- ---- no fault

no_first : (first : Option CatFault) (later : Option AdoptFault) → fault_or first later ≡ None → (first ≡ None) × (later ≡ None)
no_first None later e = (refl, e)
no_first (Some fault) later e = let never : Some (told fault) ≡ None = e in absurd (cc)

enough : (b : Bool) → cond b (Some (Limit limit.Serial)) None ≡ None → b ≡ false
enough true e = let never : Some (Limit limit.Serial) ≡ None = e in absurd (cc)
enough false e = refl

serials_enough : (d : RegisterState) (many : ℕ) → serial_fault d many ≡ None → many ≤ serial_limit - d.serial
serials_enough d many e = ltb-false (serial_limit - d.serial) many (enough (nat_lt (serial_limit - d.serial) many) e)

numbered_low : (b : Bool) (fault : CatFault) → cond b None (Some fault) ≡ None → b ≡ true
numbered_low true fault e = refl
numbered_low false fault e = let never : Some fault ≡ None = e in absurd (cc)

number_left : (first : Option CatFault) (next : ℕ) → number_fault first next ≡ None → next < number_limit
number_left None next e = ltb-true next number_limit (numbered_low (nat_lt next number_limit) (cat.Limit limit.Domain) e)
number_left (Some fault) next e = let never : Some fault ≡ None = e in absurd (cc)

-- ---- the new domain

pub is_free : (d : RegisterState) (path : List ℕ) (l : Loaded) → adopt_fault d path l ≡ None → domain_fault d.catalogue path ≡ None
is_free d path l none = (no_first (domain_fault d.catalogue path) (serial_fault d (1 + other_count l)) none).0

pub has_room : (d : RegisterState) (path : List ℕ) (l : Loaded) → IsRegister d → adopt_fault d path l ≡ None → HasRoom (root_at d) (other_count l)
has_room d path l register none =
    let faults = no_first (domain_fault d.catalogue path) (serial_fault d (1 + other_count l)) none in
    let number = number_left (make_fault d.catalogue path) d.catalogue.next faults.0 in
    let serials = serials_enough d (1 + other_count l) faults.1 in
    record {
      group = refl;
      range = record { domain = omega (arith, number); run = register.run; serial = omega (arith, serials) };
      left = omega (arith, serials);
    }

-- each object's number is below that of the next domain
is_alone : (w : World) → AreGiven w.register w.objects → IsAlone (root_at w.register) w.objects
is_alone w given = λ q o is same. let below = (given q o is).number in absurd (omega (arith, below, same))

-- the domain that stands at the path is the one of the root's id
home_there : (c : Contents) (path owner : List ℕ) (d : RegisterState)
    → get c.nodes path ≡ Some (new_domain d.catalogue.next d.run d.serial owner)
    → home_of_class (class_at c path) ≡ Some (home_of (root_at d))
home_there c path owner d is = ap (λ (n : Option Node). home_of_class (option_map (λ node. node.class) n)) is

pub read_back : DocumentsReadBack → (w new : World) (path owner : List ℕ) (l : Loaded) → IsWorld w → IsRegister w.register
    → adopt_fault w.register path l ≡ None
    → get new.register.catalogue.nodes path ≡ Some (new_domain w.register.catalogue.next w.register.run w.register.serial owner)
    → new.objects ≡ objects_adopted w.register l w.objects → IsReadBack w.register l new path
read_back law w new path owner l whole register none domain put = λ tree loads. (
  document_tree new.objects (home_of (root_at w.register)),
  ap (option_map (document_tree new.objects)) (home_there new.register.catalogue path owner w.register domain),
  subst (λ m. Loads (document_tree m (home_of (root_at w.register))) (renamed l (root_at w.register))) (sym put)
      (law tree l (root_at w.register) w.objects loads (has_room w.register path l register none) (is_alone w whole.given)),
)
