-- The ids of objects were given, also after a request.
use Rattle.std.proofs.Common.{◌≡◌, ℕ, ◌+◌, ◌<◌, ◌==◌, nat_lt, IfSome, Bool, true, false, cond, List, [], ◌∷◌, Option, Some, None, refl, sym, ap, subst, ◌∙◌, arith, eqb-true}
use Rattle.std.specs.FinMap.{get}
use Rattle.std.proofs.lemmas.Option.{none-some}
use Rattle.std.proofs.lemmas.Bool.{and_parts}
use Rattle.object_ids.specs.IdValues.{Id}
use Rattle.object_ids.specs.declared.ids.Kind.{Kind}
use Rattle.object_ids.specs.IdOrder.{id_eq}
use Rattle.object_ops.specs.declared.ops.Op.{Op}
use Rattle.object_ops.specs.declared.ops.Op.TheVariants.{DropNode, DropObject, MakeObject}
use Rattle.object_ops.specs.declared.ops.Make.{Make}
use Rattle.object_ops.specs.declared.ops.LinkPlace.{LinkPlace}
use Rattle.object_ops.specs.declared.grants.Grant.{Grant}
use Rattle.object_ops.specs.declared.grants.Step.{Step}
use Rattle.object_ops.specs.declared.grants.Step.TheVariants.{Only, Link, Make as Making}
use Rattle.object_ops.specs.declared.replies.Reply.{Reply}
use Rattle.object_ops.specs.declared.replies.Reply.TheVariants.{Refused}
use Rattle.object_acts.specs.declared.objects.Object.{Object}
use Rattle.object_acts.specs.Objects.{empty_group, Objects}
use Rattle.object_acts.specs.Acts.{change_of, reads_object, reply_of}
use Rattle.chunk_owner.specs.Lanes.{set_at}
use Rattle.chunk_owner.specs.Acts.{act, changed_by, changing, group_of, linking, link_to, make_act, missing, on_touched, reading, removed, object_here, touched, touched_by_make}
use Rattle.chunk_owner.proofs.Eaches.{each_insert, each_remove, stays}
use Rattle.register.specs.Decided.{RegisterState, fresh_given, serial_limit}
use Rattle.register.specs.Tickets.{Issue}
use Rattle.register.specs.declared.tickets.Turn.{Turn}
use Rattle.register.specs.declared.verdicts.Verdict.{Verdict}
use Rattle.register.specs.declared.verdicts.Verdict.TheVariants as verdict
use Rattle.service_core.specs.declared.answers.What.{What}
use Rattle.service_core.specs.declared.answers.What.TheVariants.{Replied, Denied, NoMemory}
use Rattle.service_core.specs.Steps.{AreGiven, IsGiven, Obeys, StopsIn, run_on, served, started, step_taken, without_domain}
use Rattle.service_core.specs.Worlds.{IsFreshId}
use Rattle.service_core.proofs.ForgetLemmas.{get-without}
use Rattle.object_ops.specs.Replies.{was_done}

-- ids of one number, run and serial are given together
pub given_same : (d : RegisterState) (id root : Id) → id_eq id root ≡ true → IsGiven d root → IsGiven d id
given_same d id root e h =
    let a = and_parts _ _ e in
    let b = and_parts _ _ a.1 in
    let c = and_parts _ _ b.1 in
    let domain : id.domain ≡ root.domain = eqb-true id.domain root.domain b.0 in
    let run : id.run ≡ root.run = eqb-true id.run root.run c.0 in
    let serial : id.serial ≡ root.serial = eqb-true id.serial root.serial c.1 in
    record { number = omega (arith, h.number, domain); out = record { run = omega (arith, h.out.run, run); serial = λ same. omega (arith, h.out.serial (sym run ∙ same), serial) } }

given_set : (d : RegisterState) (m : Objects) (k : Id) (w : Option Object) → ((o : Object) → w ≡ Some o → IsGiven d k) → AreGiven d m → AreGiven d (set_at m k w)
given_set d m k None h all = each_remove (λ id o. IsGiven d id) m k all
given_set d m k (Some o) h all = each_insert (λ id o. IsGiven d id) m k o (h o refl) all

module _ (d : RegisterState) (g : Grant) (root : IsGiven d g.root) (fresh : (id : Id) → g.fresh ≡ Some id → IsGiven d id) where
  -- ---- what one step leaves where no object was

  -- a change leaves an object of a root alone
  module _ (id : Id) (f : Object → Reply × Object) where
    changed_none : (own same : Bool) → (same ≡ true → IsGiven d id) → (o : Object)
        → (changed_by f (missing g id) None (cond own (cond same (Some empty_group) None) None)).1 ≡ Some o → IsGiven d id
    changed_none true true h o e = h refl
    changed_none true false h o e = absurd (none-some o e)
    changed_none false same h o e = absurd (none-some o e)

    changing_none : (o : Object) → (changing g id f None).1 ≡ Some o → IsGiven d id
    changing_none o e = changed_none (id.domain == g.number) (id_eq id g.root) (λ same. given_same d id g.root same root) o e

  on_none : (b : Bool) (op : Op) (id : Id) (o : Object) → (cond b (reading g id (reply_of g.root op) None) (changing g id (change_of op) None)).1 ≡ Some o → IsGiven d id
  on_none true op id o e = absurd (none-some o e)
  on_none false op id o e = changing_none id (change_of op) o e

  removing_none : (b : Bool) (id : Id) (s : Option Object) (o : Object) → (removed b (missing g id) None s).1 ≡ Some o → IsGiven d id
  removing_none b id None o e = absurd (none-some o e)
  removing_none true id (Some x) o e = absurd (none-some o e)
  removing_none false id (Some x) o e = absurd (none-some o e)

  linking_none : (place : Option LinkPlace) (new : Option Id) (id : Id) → group_of place ≡ Some id → (o : Object) → (linking g place new None).1 ≡ Some o → IsGiven d id
  linking_none (Some place) (Some new) id at o e =
      let same : place.group ≡ id = (let both : Some place.group ≡ Some id = at in cc) in
      subst (IsGiven d) same (changing_none place.group (link_to place new) o e)
  linking_none (Some place) None id at o e = absurd (none-some o e)
  linking_none None new id at o e = absurd (none-some o e)

  make_none : (make : Make) (place : Option LinkPlace) (s : Step) (id : Id) → touched_by_make g place s ≡ Some id → (o : Object) → (make_act g make place s None).1 ≡ Some o → IsGiven d id
  make_none make place Only id at o e = fresh id at
  make_none make place Link id at o e = linking_none place g.fresh id at o e
  make_none make place Making id at o e = fresh id at

  act_none : (op : Op) (s : Step) (id : Id) → touched g op s ≡ Some id → (o : Object) → (act g op s id None).1 ≡ Some o → IsGiven d id
  act_none (MakeObject make place) s id at o e = make_none make place s id at o e
  act_none (DropObject own) s id at o e = removing_none (id_eq id g.root) id (object_here g id None) o e
  act_none op s id at o e = on_none (reads_object op) op id o e

  -- ---- a step, and many

  left_given : (op : Op) (s : Step) (id : Id) (old : Option Object) → touched g op s ≡ Some id → ((o : Object) → old ≡ Some o → IsGiven d id)
      → (o : Object) → (act g op s id old).1 ≡ Some o → IsGiven d id
  left_given op s id None at known o e = act_none op s id at o e
  left_given op s id (Some x) at known o e = known x refl

  touched_given : (op : Op) (s : Step) (t : Option Id) (m : Objects) → touched g op s ≡ t → AreGiven d m → AreGiven d (on_touched t (act g op s) m).1
  touched_given op s None m at all = all
  touched_given op s (Some id) m at all = given_set d m id (act g op s id (get m id)).1 (left_given op s id (get m id) at (all id)) all

  step_given : (op : Op) (o : Option Step) (m : Objects) → AreGiven d m → AreGiven d (step_taken g op o m).1
  step_given op None m all = all
  step_given op (Some s) m all = touched_given op s (touched g op s) m refl all

  run_or : (op : Op) (b : Bool) (p q : Reply × Objects) → AreGiven d p.1 → AreGiven d q.1 → AreGiven d (cond b p q).1
  run_or op true p q h k = h
  run_or op false p q h k = k

  run_given : (op : Op) (p : Reply × Objects) (ts : List Turn) → AreGiven d p.1 → AreGiven d (run_on g op p ts).1
  run_given op p [] all = all
  run_given op p (t ∷ ts) all = run_or op (was_done p.0) (run_on g op (step_taken g op t.step p.1) ts) p (run_given op (step_taken g op t.step p.1) ts (step_given op t.step p.1 all)) all

  stop_given : (op : Op) (ts : List Turn) (m new : Objects) → StopsIn g op ts m new → AreGiven d m → AreGiven d new
  stop_given op ts m new stops all = subst (AreGiven d) (sym stops.stands) (run_given op (started m) stops.front all)

without_given : (d : RegisterState) (number : ℕ) (m : Objects) → AreGiven d m → AreGiven d (without_domain number m)
without_given d number m all = λ q o e. all q o (stays (q.domain == number) (get m q) o (sym (get-without number m q) ∙ e))

-- ---- a granted request, and any

-- the root and the new id of what is granted were given
pub record HasGiven (d : RegisterState) (issue : Issue) : Type 0 where
  pub root : IsGiven d issue.grant.root
  pub fresh : (id : Id) → issue.grant.fresh ≡ Some id → IsGiven d id

abbrev pub MayGrant : RegisterState → Verdict → Type 0
MayGrant d (verdict.Granted issue) = HasGiven d issue
MayGrant d v = Unit {0}

served_given : (d : RegisterState) (op : Op) (issue : Issue) (m : Objects) → HasGiven d issue → AreGiven d m → AreGiven d (served op issue m).1
served_given d DropNode issue m h all = without_given d issue.grant.number m all
served_given d op issue m h all = run_given d issue.grant h.root h.fresh op (started m) issue.left all

same_given : (d : RegisterState) (what : What) (new : Objects) (p : What × Objects) → (what, new) ≡ p → AreGiven d p.1 → AreGiven d new
same_given d what new p e all = subst (AreGiven d) (sym (ap (λ x. x.1) e)) all

pub obeys_given : (d : RegisterState) (op : Op) (v : Verdict) (m new : Objects) (what : What) → MayGrant d v → Obeys op v m what new → AreGiven d m → AreGiven d new
obeys_given d op (verdict.Granted issue) m new (Replied r) h e all = same_given d (Replied r) new _ e (served_given d op issue m h all)
obeys_given d op (verdict.Granted issue) m new (Denied right) h e all = same_given d (Denied right) new _ e (served_given d op issue m h all)
obeys_given d op (verdict.Granted issue) m new NoMemory h e all = stop_given d issue.grant h.root h.fresh op issue.left m new e all
obeys_given d op (verdict.Answered answer) m new (Replied r) h e all = same_given d (Replied r) new (Replied answer, m) e all
obeys_given d op (verdict.Answered answer) m new (Denied right) h e all = same_given d (Denied right) new (Replied answer, m) e all
obeys_given d op (verdict.Answered answer) m new NoMemory h e all = absurd e
obeys_given d op (verdict.Denied right) m new (Replied r) h e all = same_given d (Replied r) new (Denied right, m) e all
obeys_given d op (verdict.Denied right) m new (Denied other) h e all = same_given d (Denied other) new (Denied right, m) e all
obeys_given d op (verdict.Denied right) m new NoMemory h e all = absurd e
obeys_given d op (verdict.Refused refusal) m new (Replied r) h e all = same_given d (Replied r) new (Replied (Refused refusal), m) e all
obeys_given d op (verdict.Refused refusal) m new (Denied right) h e all = same_given d (Denied right) new (Replied (Refused refusal), m) e all
obeys_given d op (verdict.Refused refusal) m new NoMemory h e all = absurd e
obeys_given d op verdict.NoMemory m new what h e all = subst (AreGiven d) (sym e.1) all

-- ---- an id without a request

-- an id that wasn't given has no object
none_given : (d : RegisterState) (m : Objects) (id : Id) → AreGiven d m → (IsGiven d id → ⊥) → get m id ≡ None
none_given d m id all never = at (get m id) refl where
  at : (o : Option Object) → get m id ≡ o → get m id ≡ None
  at None e = e
  at (Some x) e = absurd (never (all id x e))

pub fresh_is : (d new : RegisterState) (m : Objects) (k : Kind) (number : ℕ) (r : Option Id) → AreGiven d m → number < d.catalogue.next → (r, new) ≡ fresh_given d k number
    → IfSome r (IsFreshId k number (record { register = new; objects = m }))
fresh_is d new m k number r all below e =
    subst (λ (p : Option Id × RegisterState). IfSome p.0 (IsFreshId k number (record { register = p.1; objects = m }))) (sym e) (at (nat_lt d.serial serial_limit)) where
      at : (b : Bool) → let p : Option Id × RegisterState = cond b (Some (record { kind = k; domain = number; run = d.run; serial = d.serial }), record d { serial = d.serial + 1 }) (None, d) in
          IfSome p.0 (IsFreshId k number (record { register = p.1; objects = m }))
      at true = record {
        kind = refl;
        domain = refl;
        given = record { number = below; out = record { run = omega arith; serial = λ same. omega arith } };
        free = none_given d m (record { kind = k; domain = number; run = d.run; serial = d.serial }) all (λ h. let less : d.serial < d.serial = h.out.serial refl in absurd (omega arith));
      }
      at false = tt
