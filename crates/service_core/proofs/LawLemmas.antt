-- What granted requests do, and which places calls have.
use Rattle.std.proofs.Common.{◌≡◌, ⊎_elim, ℕ, ◌+◌, Bool, true, false, cond, List, [], ◌∷◌, map, length, Option, Some, None, option_map, is_eq, refl, ap, sym, subst, ◌∙◌, arith}
use Rattle.std.specs.FinMap.{get}
use Rattle.std.specs.Ordering.{eq_by_cmp}
use Rattle.std.proofs.lemmas.Cmp.{tied_itself}
use Rattle.object_ids.specs.IdValues.{Id}
use Rattle.object_ids.specs.IdOrder.{id_order}
use Rattle.object_ids.proofs.IdOrders.{id_order_total, tied_ids}
use Rattle.access_lists.specs.declared.people.Caller.{Caller}
use Rattle.access_lists.specs.InForce.{has}
use Rattle.domains.specs.Changes.{remove_fault, without_node}
use Rattle.domains.specs.Contents.{Contents}
use Rattle.domains.specs.declared.classes.Node.{Node}
use Rattle.domains.specs.declared.classes.NodeClass.{NodeClass}
use Rattle.domains.specs.declared.classes.NodeClass.TheVariants.{Domain}
use Rattle.domains.specs.declared.faults.CatFault.{CatFault}
use Rattle.object_ops.specs.Replies.{nothing}
use Rattle.object_ops.specs.Needs.{right_for}
use Rattle.object_ops.specs.Parts.{id_of}
use Rattle.object_ops.specs.declared.grants.Step.{Step}
use Rattle.object_ops.specs.declared.grants.Step.TheVariants.{Only, Link, Make as Making}
use Rattle.object_ops.specs.declared.ops.LinkPlace.{LinkPlace}
use Rattle.object_ops.specs.declared.ops.Make.{Make}
use Rattle.object_ops.specs.declared.ops.Op.{Op}
use Rattle.object_ops.specs.declared.ops.Op.TheVariants.{DropNode, MakeObject}
use Rattle.object_ops.specs.declared.ops.Request.{Request}
use Rattle.object_ops.specs.declared.replies.Reply.{Reply}
use Rattle.object_ops.specs.declared.replies.Reply.TheVariants.{Done}
use Rattle.object_acts.specs.declared.objects.Object.{Object}
use Rattle.chunk_owner.specs.Acts.{act, acted, on_touched}
use Rattle.chunk_owner.specs.Lanes.{at_id}
use Rattle.chunk_owner.proofs.KeptLemmas.{touched_named}
use Rattle.register.specs.Decided.{RegisterState, at_maybe, changed_at, decided, forgotten, node_removed, passed}
use Rattle.register.specs.Grants.{HasSteps, IfGranted, IsIssueOf}
use Rattle.register.specs.Laws.{GrantsAreIssues, TakesPlace}
use Rattle.register.specs.Tickets.{Issue}
use Rattle.register.specs.declared.tickets.Turn.{Turn}
use Rattle.register.specs.declared.verdicts.Verdict.{Verdict}
use Rattle.register.specs.declared.verdicts.Verdict.TheVariants as verdict
use Rattle.service_core.specs.declared.answers.What.{What}
use Rattle.service_core.specs.declared.answers.What.TheVariants.{Replied, Denied, NoMemory}
use Rattle.service_core.specs.Laws.{DomainsAreForgotten, Gives, IsDoneAt, IsGranted, LinkedThenMade, MadeAlone, OneObject, PlacesGoOn, PlacesInOrder}
use Rattle.service_core.specs.Steps.{IsAnswered, World, by_verdict, run_on, served, started, step, without_domain}
use Rattle.service_core.proofs.ForgetLemmas.{get-without}
use Rattle.service_core.proofs.TurnLemmas.{run_by_steps, run_steps}
use Rattle.service_core.proofs.DecideLemmas.{no_id}
use Rattle.chunk_owner.proofs.OfOwners.WholeLemmas.{get-set_at}
use Rattle.containers.proofs.Plain.{passed_over}
use Rattle.object_acts.specs.Objects.{Objects}

-- ---- places

module _ (takes : TakesPlace) where
  place_after : (w new : World) (caller : Caller) (request : Request) (what : What) → IsAnswered w caller request what new → new.register.places ≡ w.register.places + 1
  place_after w new caller request (Replied r) said = ap (λ (p : What × World). p.1.register.places) said ∙ takes w.register caller request
  place_after w new caller request (Denied right) said = ap (λ (p : What × World). p.1.register.places) said ∙ takes w.register caller request
  place_after w new caller request NoMemory said = ⊎_elim
      (λ early. ap (λ (x : World). x.register.places) early.1)
      (λ late. ap (λ (x : RegisterState). x.places) late.0 ∙ takes w.register caller request)
      said.1

  pub places_go_on : PlacesGoOn
  places_go_on w new caller request answer steps = place_after w new caller request answer.what steps.answered

  pub places_in_order : PlacesInOrder
  places_in_order w last [] after c calls = let place : c.answer.place ≡ w.register.places = calls.0.place in omega (arith, place)
  places_in_order w last (b ∷ bs) after c calls =
      let next : b.after.register.places ≡ w.register.places + 1 = place_after w b.after b.caller b.request b.answer.what calls.0.answered in
      let place : c.answer.place ≡ b.after.register.places + length bs = places_in_order b.after last bs after c calls.1 in
      omega (arith, next, place)

-- ---- what is granted

-- the steps of an operation on one object
only_of : (n : ℕ) (op : Op) (ts : List Turn) (id : Id) → id_of op ≡ Some id → HasSteps n op ts → map (λ t. t.step) ts ≡ Some Only ∷ []
only_of n DropNode ts id names has = absurd (no_id id names)
only_of n (MakeObject make place) ts id names has = absurd (no_id id names)
only_of n op ts id names has = has

object_served : (op : Op) (issue : Issue) (m : Objects) (id : Id) → id_of op ≡ Some id → served op issue m ≡ run_on issue.grant op (started m) issue.left
object_served DropNode issue m id names = absurd (no_id id names)
object_served op issue m id names = refl

issue_in : (v : Verdict) (issue : Issue) (P : Issue → Type 0) → v ≡ verdict.Granted issue → IfGranted v P → P issue
issue_in v issue P e given = subst (λ (x : Verdict). IfGranted x P) e given

module _ (issues : GrantsAreIssues) (w : World) (caller : Caller) (request : Request) (issue : Issue) (is : IsGranted w caller request issue) where
  steps_of : HasSteps (length w.register.issued) request.op issue.left
  steps_of = (issue_in (decided w.register caller request).0 issue (IsIssueOf w.register request.op) is.granted (issues w.register caller request is.lanes)).steps

  -- what serves it is answered and left
  gives : (p : Reply × Objects) → served request.op issue w.objects ≡ p → Gives w caller request p
  gives p e =
      let obeyed : by_verdict request.op (decided w.register caller request).0 w.objects ≡ (Replied p.0, p.1) =
      ap (λ (v : Verdict). by_verdict request.op v w.objects) is.granted ∙ ap (λ (q : Reply × Objects). (Replied q.0, q.1)) e in
      record { reply = ap (λ (q : What × Objects). q.0) obeyed; objects = ap (λ (q : What × Objects). q.1) obeyed }

  by_steps : (ss : List (Option Step)) → served request.op issue w.objects ≡ run_on issue.grant request.op (started w.objects) issue.left → map (λ t. t.step) issue.left ≡ ss
      → Gives w caller request (run_steps issue.grant request.op (started w.objects) ss)
  by_steps ss runs are = gives _ (runs ∙ run_by_steps issue.grant request.op (started w.objects) issue.left ∙ ap (run_steps issue.grant request.op (started w.objects)) are)

  -- ---- new objects

  make_served : (make : Make) (place : Option LinkPlace) → request.op ≡ MakeObject make place → served request.op issue w.objects ≡ run_on issue.grant request.op (started w.objects) issue.left
  make_served make place e = subst (λ (op : Op). served op issue w.objects ≡ run_on issue.grant op (started w.objects) issue.left) (sym e) refl

  make_steps_of : (make : Make) (place : Option LinkPlace) → request.op ≡ MakeObject make place → HasSteps (length w.register.issued) (MakeObject make place) issue.left
  make_steps_of make place e = subst (λ (op : Op). HasSteps (length w.register.issued) op issue.left) e steps_of

  -- ---- one object

  at_named : (id : Id) → id_of request.op ≡ Some id → acted issue.grant request.op Only w.objects ≡ at_id id (act issue.grant request.op Only id) w.objects
  at_named id names = ap (λ (t : Option Id). on_touched t (act issue.grant request.op Only) w.objects) (touched_named issue.grant request.op Only id names)

  named_gives : (id : Id) → id_of request.op ≡ Some id → Gives w caller request (at_id id (act issue.grant request.op Only id) w.objects)
  named_gives id names =
      subst (λ (p : Reply × Objects). Gives w caller request p) (at_named id names)
      (by_steps (Some Only ∷ []) (object_served request.op issue w.objects id names) (only_of (length w.register.issued) request.op issue.left id names steps_of))

done_at : (w : World) (caller : Caller) (request : Request) (id : Id) (f : Option Object → Reply × Option Object) → Gives w caller request (at_id id f w.objects)
    → IsDoneAt w caller request id (f (get w.objects id))
done_at w caller request id f gives =
    let new = (f (get w.objects id)).1 in
    let left : (q : Id) → get (step w caller request).1.objects q ≡ cond (eq_by_cmp id_order q id) new (get w.objects q) =
    λ q. ap (λ (m : Objects). get m q) gives.objects ∙ get-set_at w.objects id new q in
    record {
      reply = gives.reply;
      there = left id ∙ ap (λ r. cond (is_eq r) new (get w.objects id)) (tied_itself id_order_total id);
      others = λ q other. left q ∙ passed_over (eq_by_cmp id_order q id) new (get w.objects q) (λ e. other (tied_ids q id e));
    }

module _ (issues : GrantsAreIssues) where
  pub linked_then_made : LinkedThenMade
  linked_then_made w caller request issue make place is e =
      by_steps issues w caller request issue is (Some Link ∷ Some Making ∷ [])
      (make_served issues w caller request issue is make (Some place) e) (make_steps_of issues w caller request issue is make (Some place) e)

  pub made_alone : MadeAlone
  made_alone w caller request issue make is e =
      by_steps issues w caller request issue is (Some Only ∷ [])
      (make_served issues w caller request issue is make None e) (make_steps_of issues w caller request issue is make None e)

  pub one_object : OneObject
  one_object w caller request issue id is names =
      done_at w caller request id (act issue.grant request.op Only id) (named_gives issues w caller request issue is id names)

-- ---- domains

module _ (d : RegisterState) (path : List ℕ) (number : ℕ) (root : Id) (m : Objects) where
  abbrev Drops : Verdict × RegisterState → Type 0
  Drops p = (by_verdict DropNode p.0 m).0 ≡ Replied (Done 200 nothing) → (by_verdict DropNode p.0 m).1 ≡ without_domain number m

  forgotten_drops : (c : Contents) (class : NodeClass) → class ≡ Domain number root → Drops (forgotten (changed_at d path c) class)
  forgotten_drops c class e = subst (λ (k : NodeClass). Drops (forgotten (changed_at d path c) k)) (sym e) (λ done. refl)

  removed_drops : (class : NodeClass) (fault : Option CatFault) → class ≡ Domain number root → Drops (node_removed d path class fault)
  removed_drops class None e = forgotten_drops (without_node d.catalogue path) class e
  removed_drops class (Some fault) e = λ done. absurd (cc)

  judged_drops : (class : NodeClass) (right : Bool) → class ≡ Domain number root
      → Drops (cond right (node_removed d path class (remove_fault d.catalogue path)) (verdict.Denied (right_for DropNode), passed d))
  judged_drops class true e = removed_drops class (remove_fault d.catalogue path) e
  judged_drops class false e = λ done. absurd (cc)

domain_in : (o : Option Node) (class : NodeClass) → option_map (λ (n : Node). n.class) o ≡ Some class → (node : Node) × (o ≡ Some node) × (node.class ≡ class)
domain_in None class e = absurd (cc)
domain_in (Some node) class e = (node, refl, cc)

pub domains_are_forgotten : DomainsAreForgotten
domains_are_forgotten w caller path number root at done =
    let d = w.register in
    let found = domain_in (get d.catalogue.nodes path) (Domain number root) at in
    let Drops' : Option Node → Type 0 = λ o. Drops d path number root w.objects (at_maybe d caller path DropNode o) in
    let drops : Drops d path number root w.objects (at_maybe d caller path DropNode (get d.catalogue.nodes path)) =
    subst Drops' (sym found.1) (judged_drops d path number root w.objects found.0.class (has found.0.list caller (right_for DropNode)) found.2) in
    λ q. ap (λ (m : Objects). get m q) (drops done) ∙ get-without number w.objects q
