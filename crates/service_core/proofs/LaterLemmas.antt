-- A register that gave out more, or of which more is kept, over the same lanes.
use Rattle.std.proofs.Common.{◌≡◌, ℕ, ◌+◌, Bool, true, false, cond, List, length, Option, Some, None, Result, Ok, Err, OnOk, OnErr, nat_lt, refl, sym, ap, subst, ◌∙◌, arith}
use Rattle.std.proofs.Math.Nat.{le-max_left}
use Rattle.object_ids.specs.IdValues.{Id}
use Rattle.object_ids.specs.declared.ids.Kind.{Kind}
use Rattle.chunk_owner.specs.Lanes.{Lane}
use Rattle.register.specs.Decided.{RegisterState, domain_added, fresh_given, serial_limit}
use Rattle.register.specs.Kept.{run_kept}
use Rattle.service_core.specs.Steps.{IsGiven}
use Rattle.service_core.specs.Worlds.{IsBuilt}

-- what was given before was given
built_later : (d new : RegisterState) (owners : List Lane) → length new.issued ≡ length d.issued → ((id : Id) → IsGiven d id → IsGiven new id) → IsBuilt d owners → IsBuilt new owners
built_later d new owners same later built = record { count = built.count ∙ sym same; lanes = built.lanes; given = λ id o there. later id (built.given id o there) }

-- one serial more
one_more : (d : RegisterState) (id : Id) → IsGiven d id → IsGiven (record d { serial = d.serial + 1 }) id
one_more d id h = record { number = h.number; out = record { run = h.out.run; serial = λ same. let before = h.out.serial same in omega (arith, before) } }

abbrev taken_if : RegisterState → Option Id → Bool → Option Id × RegisterState
taken_if d some few = cond few (some, record d { serial = d.serial + 1 }) (None, d)

fresh_later : (d : RegisterState) (some : Option Id) (few : Bool) (owners : List Lane) → IsBuilt d owners → IsBuilt (taken_if d some few).1 owners
fresh_later d some true owners built = built_later d (record d { serial = d.serial + 1 }) owners refl (one_more d) built
fresh_later d some false owners built = built

pub built_fresh : (d new : RegisterState) (owners : List Lane) (k : Kind) (number : ℕ) (result : Option Id) → (result, new) ≡ fresh_given d k number → IsBuilt d owners → IsBuilt new owners
built_fresh d new owners k number result is built =
    subst (λ (x : RegisterState). IsBuilt x owners) (sym (ap (λ p. p.1) is))
    (fresh_later d (Some (record { kind = k; domain = number; run = d.run; serial = d.serial })) (nat_lt d.serial serial_limit) owners built)

pub built_domain : {A E : Type 0} (r : Result A E) (d new : RegisterState) (owners : List Lane) (path owner : List ℕ) → OnOk r (new ≡ domain_added d path owner) → OnErr r (new ≡ d) → IsBuilt d owners → IsBuilt new owners
built_domain (Ok a) d new owners path owner ok err built =
    subst (λ (x : RegisterState). IsBuilt x owners) (sym ok) (built_later d (domain_added d path owner) owners refl (λ id h. record {
      number = let more = le-max_left d.catalogue.next (d.catalogue.next + 1) in let small = h.number in omega (arith, more, small);
      out = (one_more d id h).out;
    }) built)
built_domain (Err e) d new owners path owner ok err built = subst (λ (x : RegisterState). IsBuilt x owners) (sym err) built

pub built_kept : (d new : RegisterState) (owners : List Lane) → new ≡ run_kept d → IsBuilt d owners → IsBuilt new owners
built_kept d new owners is built = subst (λ (x : RegisterState). IsBuilt x owners) (sym is) (built_later d (run_kept d) owners refl (λ id h. record { number = h.number; out = record { run = h.out.run; serial = h.out.serial } }) built)
