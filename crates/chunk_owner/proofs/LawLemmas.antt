-- The laws of all steps.
use Rattle.std.proofs.Common.{◌≡◌, ◌<◌, ◌⊎◌, inl, inr, ⊎_elim, Bool, true, false, ◌&&◌, ◌==◌, nat_lt, cond, Option, Some, None, sym, ap, refl, ◌∙◌, eq-eqb, ne_eqb, eqb-true, lt-ltb, ltb-true}
use Rattle.std.specs.Ordering.{eq_by_cmp}
use Rattle.std.specs.FinMap.{get, get-insert, get-remove}
use Rattle.std.proofs.lemmas.Bool.{or_right, and_from, or_left, and_parts, or_cases}
use Rattle.object_ids.specs.IdOrder.{id_order}
use Rattle.object_ids.specs.IdValues.{Id}
use Rattle.object_ids.proofs.IdOrders.{id_order_total, tied_ids}
use Rattle.object_ops.specs.declared.grants.Grant.{Grant}
use Rattle.object_ops.specs.declared.refusals.Refusal.TheVariants.{NoObject, Gone}
use Rattle.object_ops.specs.declared.replies.Reply.{Reply}
use Rattle.object_ops.specs.declared.replies.Reply.TheVariants.{Refused}
use Rattle.object_acts.specs.declared.objects.Object.{Object}
use Rattle.chunk_owner.specs.Lanes.{set_at}
use Rattle.chunk_owner.specs.Acts.{is_used, missing, act, on_touched, read_by, changed_by, touched}
use Rattle.chunk_owner.specs.Laws.{GoneWhereGiven, NoObjectElsewhere, OthersAreHidden, OthersStay, WasGiven}
use Rattle.chunk_owner.proofs.AtIds.{here_foreign}
use Rattle.containers.proofs.Plain.{passed_over}
use Rattle.object_acts.specs.Objects.{Objects}

is_gone : (b : Bool) (id : Id) → cond b (Gone id) (NoObject id) ≡ Gone id → b ≡ true
is_gone true id e = refl
is_gone false id e = let both : NoObject id ≡ Gone id = e in absurd (cc)

used_given : (g : Grant) (id : Id) → is_used g id ≡ true → (id.run < g.run) ⊎ ((id.run ≡ g.run) × (id.serial < g.serial))
used_given g id e = ⊎_elim
    (λ (r : nat_lt id.run g.run ≡ true). inl (ltb-true id.run g.run r))
    (λ (s : (id.run == g.run && nat_lt id.serial g.serial) ≡ true). let p = and_parts (id.run == g.run) (nat_lt id.serial g.serial) s in inr (eqb-true id.run g.run p.0, ltb-true id.serial g.serial p.1))
    (or_cases (nat_lt id.run g.run) (id.run == g.run && nat_lt id.serial g.serial) e)

given_used : (g : Grant) (id : Id) → ((id.run < g.run) ⊎ ((id.run ≡ g.run) × (id.serial < g.serial))) → is_used g id ≡ true
given_used g id h = ⊎_elim
    (λ (r : id.run < g.run). or_left (nat_lt id.run g.run) (id.run == g.run && nat_lt id.serial g.serial) (lt-ltb id.run g.run r))
    (λ (s : (id.run ≡ g.run) × (id.serial < g.serial)). or_right (nat_lt id.run g.run) (id.run == g.run && nat_lt id.serial g.serial)
    (and_from (id.run == g.run) (nat_lt id.serial g.serial) (eq-eqb id.run g.run s.0) (lt-ltb id.serial g.serial s.1)))
    h

test_given : (g : Grant) (id : Id) → (id.domain == g.number && is_used g id) ≡ true → WasGiven g id
test_given g id e = let p = and_parts (id.domain == g.number) (is_used g id) e in (eqb-true id.domain g.number p.0, used_given g id p.1)

pub gone_where_given : GoneWhereGiven
gone_where_given g id = (
  λ e. test_given g id (is_gone (id.domain == g.number && is_used g id) id e),
  λ h. ap (λ b. cond b (Gone id) (NoObject id)) (and_from (id.domain == g.number) (is_used g id) (eq-eqb id.domain g.number h.0) (given_used g id h.1)),
)

pub refuted : (b : Bool) (P : Type 0) → (b ≡ true → P) → (P → ⊥) → b ≡ false
refuted true P f none = absurd (none (f refl))
refuted false P f none = refl

pub no_object_elsewhere : NoObjectElsewhere
no_object_elsewhere g id never =
    ap (λ b. cond b (Gone id) (NoObject id)) (refuted (id.domain == g.number && is_used g id) (WasGiven g id) (test_given g id) never)

pub others_are_hidden : OthersAreHidden
others_are_hidden g id o f h other =
    let none = here_foreign g id o (ne_eqb id.domain g.number other) in
    let said = no_object_elsewhere g id (λ w. other w.0) in
    (λ i. ((ap (read_by f (missing g id)) none ∙ ap Refused said) i, o), ap (changed_by h (missing g id) o) none ∙ (λ i. (Refused (said i), o)))

set_other : (m : Objects) (at : Id) (o : Option Object) (id : Id) → (at ≡ id → ⊥) → get (set_at m at o) id ≡ get m id
set_other m at None id other = get-remove id_order_total m at id ∙ passed_over (eq_by_cmp id_order id at) None (get m id) (λ e. other (sym (tied_ids id at e)))
set_other m at (Some o) id other = get-insert id_order_total m at o id ∙ passed_over (eq_by_cmp id_order id at) (Some o) (get m id) (λ e. other (sym (tied_ids id at e)))

others_at : (t : Option Id) (f : Id → Option Object → Reply × Option Object) (m : Objects) (id : Id) → (t ≡ Some id → ⊥) → get (on_touched t f m).1 id ≡ get m id
others_at None f m id other = refl
others_at (Some at) f m id other = set_other m at (f at (get m at)).1 id (λ e. other (ap (λ x. Some x) e))

pub others_stay : OthersStay
others_stay g op s objects id other = others_at (touched g op s) (act g op s) objects id other
