-- Objects at the serials that are next.
use Rattle.std.proofs.Common.{◌≡◌, ℕ, suc, ◌+◌, List, [], ◌∷◌, length, Bool, true, false, cond, nat_lt, Option, Some, None, refl, sym, ap, ◌∙◌, arith}
use Rattle.std.specs.FinMap.{insert}
use Rattle.object_ids.specs.IdValues.{Id}
use Rattle.object_ids.specs.declared.ids.Kind.{Kind}
use Rattle.object_acts.specs.Objects.{kind_of_body, unmarked}
use Rattle.object_acts.specs.declared.objects.Object.{Object}
use Rattle.register.specs.Decided.{RegisterState, fresh_given, serial_limit}
use Rattle.service_core.specs.Steps.{World}
use Rattle.service_core.specs.Worlds.{State, seen, with_object, with_register}
use Rattle.json_import.specs.Fresh.Names.{behind, with_each}
use Rattle.json_import.specs.Fresh.Renamed.{numbered}
use Rattle.json_import.specs.Adoption.Adopted.{drawn}
use Rattle.json_import.specs.Adoption.Placing.{next_id, placed, placed_each}

-- ---- one object

module _ (d : RegisterState) (kind : Kind) (number : ℕ) (id : Id) where
  abbrev given : Bool → Option Id × RegisterState
  given b = cond b (Some (next_id d number kind), drawn d 1) (None, d)

  given_at : (b : Bool) → Some id ≡ (given b).0 → (id ≡ next_id d number kind) × ((given b).1 ≡ drawn d 1)
  given_at true e =
      let both : Some id ≡ Some (next_id d number kind) = e in
      let same : id ≡ next_id d number kind = cc in
      (same, refl)
  given_at false e = let both : Some id ≡ None = e in absurd (cc)

  fresh_drawn : Some id ≡ (fresh_given d kind number).0 → (id ≡ next_id d number kind) × ((fresh_given d kind number).1 ≡ drawn d 1)
  fresh_drawn e = given_at (nat_lt d.serial serial_limit) e

pub put_placed : (number : ℕ) (old mid : State) (new : World) (kind : Kind) (id : Id) (o x : Object) → Some id ≡ (fresh_given old.register kind number).0
    → mid ≡ with_register old (fresh_given old.register kind number).1 → kind ≡ kind_of_body o.body → unmarked x ≡ o
    → new ≡ with_object (seen mid) id (unmarked x) → new ≡ placed number (seen old) o
put_placed number old mid new kind id o x given register of_kind same put =
    let fresh = fresh_drawn old.register kind number id given in
    let at : id ≡ next_id old.register number (kind_of_body o.body) = fresh.0 ∙ ap (next_id old.register number) of_kind in
    let stands : seen mid ≡ record { register = drawn old.register 1; objects = (seen old).objects } =
    ap seen register ∙ ap (λ d. seen (with_register old d)) fresh.1 in
    put ∙ (λ i. with_object (stands i) (at i) (same i))

-- ---- all

drawn_none : (s : ℕ) → s ≡ s + 0
drawn_none s = omega arith

drawn_more : (s n : ℕ) → (s + 1) + n ≡ s + suc n
drawn_more s n = omega arith

module _ (number : ℕ) where
  -- their ids are those behind the last
  pub placed_all : (os : List Object) (w : World) (last : Id) → last.domain ≡ number → last.run ≡ w.register.run → w.register.serial ≡ last.serial + 1
      → placed_each number w os ≡ record { register = drawn w.register (length os); objects = with_each w.objects (numbered last os) }
  placed_all [] w last domain run serial = λ i. record { register = record w.register { serial = drawn_none w.register.serial i }; objects = w.objects }
  placed_all (o ∷ os) w last domain run serial =
      let kind = kind_of_body o.body in
      let id : next_id w.register number kind ≡ behind last kind = λ i. record { kind = kind; domain = sym domain i; run = sym run i; serial = serial i } in
      placed_all os (placed number w o) (behind last kind) domain run (ap (λ s. s + 1) serial)
      ∙ (λ i. record { register = record w.register { serial = drawn_more w.register.serial (length os) i }; objects = with_each (insert w.objects (id i) o) (numbered (behind last kind) os) })
