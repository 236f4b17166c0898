-- Which events calls are, and where turns are taken.
use Rattle.std.proofs.Common.{◌≡◌, ◌⊎◌, inl, inr, ⊎_elim, ℕ, ◌<◌, ◌==◌, nat_lt, Bool, true, false, cond, List, [], ◌∷◌, ◌++◌, length, Option, Some, None, refl, sym, ap, subst, ◌∙◌, eqb-true}
use Rattle.std.specs.FinMap.{same_map}
use Rattle.access_lists.specs.declared.people.Caller.{Caller}
use Rattle.object_ids.proofs.IdOrders.{id_order_once, id_order_total}
use Rattle.object_ops.specs.declared.grants.Grant.{Grant}
use Rattle.object_ops.specs.declared.grants.Step.{Step}
use Rattle.object_ops.specs.declared.grants.Step.TheVariants.{Link, Make as Making}
use Rattle.object_ops.specs.declared.ops.Op.{Op}
use Rattle.object_ops.specs.declared.ops.Op.TheVariants.{DropNode}
use Rattle.object_ops.specs.declared.ops.Request.{Request}
use Rattle.chunk_owner.specs.Acts.{IsStepOf, IsTouchedIn, touched}
use Rattle.register.specs.Decided.{Decides, RegisterState, decided}
use Rattle.register.specs.Grants.{AreAtHome, HasSteps, IsAtHome, IsIssueOf}
use Rattle.register.specs.Laws.{GrantsAreIssues}
use Rattle.register.specs.Tickets.{Issue}
use Rattle.register.specs.declared.tickets.Turn.{Turn}
use Rattle.register.specs.declared.verdicts.Verdict.{Verdict}
use Rattle.register.specs.declared.verdicts.Verdict.TheVariants as verdict
use Rattle.lane_histories.specs.Histories.{IsIn, RegisterList, Ticket, TicketList, issued, part_of, cut_of, tickets, tickets_for, tickets_of}
use Rattle.lane_histories.specs.Legal.{IsLegalRegister}
use Rattle.lane_histories.specs.declared.items.Part.{Part}
use Rattle.lane_histories.specs.declared.items.Part.TheVariants.{Only, First, Second}
use Rattle.lane_histories.specs.declared.items.RegisterItem.TheVariants.{Entered, DrawnCut, RegisterCut}
use Rattle.service_histories.specs.ArrayServices.{Asked, MayDecide, array_service, cut_recorded, left_by, listed, task_of, turns_for, turns_of}
use Rattle.service_histories.specs.Calls.{CutsLeave, DecisionsAnswer, DropsAct, DropsFindMemory, DropsReply, IsAnswer, StepsAct, TurnsAreAtHome}
use Rattle.service_histories.specs.declared.tasks.Task.{Task}
use Rattle.service_histories.specs.declared.tasks.Task.TheVariants.{TakesStep, DropsDomain}
use Rattle.service_histories.proofs.IdMaps.{get_without}
use Rattle.service_histories.proofs.Readying.{decided_on, drawn_on, issue_in, recorded_on}
use Rattle.service_histories.proofs.Shapes.{IsOther, one_of, two_of}
use Rattle.service_histories.proofs.StepLemmas.{is_home}

-- ---- calls

module _ (d : RegisterState) (asked : Asked) where
  abbrev caller : Caller
  caller = asked.0.value

  abbrev request : Request
  request = asked.1.value

  told : (v : Verdict) (new : RegisterState) → ◌≡◌ {A = Verdict × RegisterState} (v, new) (decided d caller request)
      → ◌≡◌ {A = Verdict × RegisterState} (v, (decided d caller request).1) (decided d caller request)
  told v new h = λ i. ((ap (λ (p : Verdict × RegisterState). p.0) h) i, (decided d caller request).1)

  answer : (v : Verdict) (new : RegisterState) → Decides d caller request v new → IsAnswer d asked v new
  answer (verdict.Granted issue) new h = record { may = told (verdict.Granted issue) new h; leaves = ap (λ (p : Verdict × RegisterState). p.1) h }
  answer (verdict.Answered reply) new h = record { may = told (verdict.Answered reply) new h; leaves = ap (λ (p : Verdict × RegisterState). p.1) h }
  answer (verdict.Denied right) new h = record { may = told (verdict.Denied right) new h; leaves = ap (λ (p : Verdict × RegisterState). p.1) h }
  answer (verdict.Refused refusal) new h = record { may = told (verdict.Refused refusal) new h; leaves = ap (λ (p : Verdict × RegisterState). p.1) h }
  answer verdict.NoMemory new h = record { may = (h.0, h.1, refl); leaves = h.2 }

pub decisions_answer : DecisionsAnswer
decisions_answer d asked v new h = answer d asked v new h

pub drops_act : DropsAct
drops_act number old new h = same_map id_order_total id_order_once _ _ (λ q. h q ∙ sym (get_without number old q))

pub drops_reply : DropsReply
drops_reply number old issue = refl

pub cuts_leave : (lanes : ℕ) → CutsLeave lanes
cuts_leave lanes d = record { drawn = refl; whole = refl; short = refl }

pub steps_act : (lanes : ℕ) → StepsAct lanes
steps_act lanes g op s = record { acts = λ m. refl; short = tt }

pub drops_find_memory : (lanes : ℕ) → DropsFindMemory lanes
drops_find_memory lanes number never = never

-- ---- turns

in_either : {X : Type 0} (xs ys : List X) (x : X) → IsIn (xs ++ ys) x → IsIn xs x ⊎ IsIn ys x
in_either [] ys x here = inr here
in_either (y ∷ xs) ys x here = ⊎_elim (λ e. inl (inl e)) (λ more. ⊎_elim (λ a. inl (inr a)) (λ b. inr b) (in_either xs ys x more)) here

is_in : {X : Type 0} (xs ys : List X) (x : X) → IsIn (xs ++ x ∷ ys) x
is_in [] ys x = inl refl
is_in (y ∷ xs) ys x = inr (is_in xs ys x)

module _ (issues : GrantsAreIssues) (lanes l place : ℕ) (part : Part) (g : Grant) (op : Op) (s : Step) where
  abbrev ticket : Ticket Task
  ticket = part_of place part (TakesStep g op s)

  abbrev Home : Type 0
  Home = IsTouchedIn l lanes (touched g op s)

  -- a ticket of a turn at home
  same_task : (p : ℕ) (q : Part) (h : Grant) (x : Op) (z : Step) → ◌≡◌ {A = Ticket Task} (part_of p q (TakesStep h x z)) ticket
      → IsTouchedIn l lanes (touched h x z) → Home
  same_task p q h x z e home =
      let task : ◌≡◌ {A = Task} (TakesStep h x z) (TakesStep g op s) = cc in
      subst (λ (t : Grant × Op × Step). IsTouchedIn l lanes (touched t.0 t.1 t.2)) (λ i. (grants task i, ops task i, steps task i)) home
    where
      grants : ◌≡◌ {A = Task} (TakesStep h x z) (TakesStep g op s) → h ≡ g
      grants e = cc

      ops : ◌≡◌ {A = Task} (TakesStep h x z) (TakesStep g op s) → x ≡ op
      ops e = cc

      steps : ◌≡◌ {A = Task} (TakesStep h x z) (TakesStep g op s) → z ≡ s
      steps e = cc

  no_drop : (p : ℕ) (q : Part) (number : ℕ) → ◌≡◌ {A = Ticket Task} (part_of p q (DropsDomain number)) ticket → Home
  no_drop p q number e = absurd (cc)

  in_or : (here : Bool) (t : Ticket Task) → IsIn (cond here (t ∷ []) []) ticket → (here ≡ true → t ≡ ticket → Home) → Home
  in_or true t there f = ⊎_elim (λ e. f refl e) (λ none. absurd none) there
  in_or false t there f = absurd there

  turn_home : (h : Grant) (x : Op) (lane : ℕ) (step : Option Step) (z : Step) (p : ℕ) (q : Part) → step ≡ Some z → IsStepOf x z → IsAtHome lanes x h step lane
      → IsIn (cond (lane == l) (part_of p q (task_of h x step) ∷ []) []) ticket → Home
  turn_home h x lane None z p q is of home there = absurd (let never : None ≡ Some z = is in cc)
  turn_home h x lane (Some y) z p q is of home there =
      let same : y ≡ z = (let both : Some y ≡ Some z = is in cc) in
      in_or (lane == l) _ there (λ at e. same_task p q h x y e
      (subst (λ (n : ℕ). IsTouchedIn n lanes (touched h x y)) (eqb-true lane l at) (is_home lanes h x x lane y (subst (IsStepOf x) (sym same) of) home)))

  listed_home : (h : Grant) (x : Op) → IsOther x → (ts : List Turn) (p : ℕ) → HasSteps lanes x ts → AreAtHome lanes x h ts
      → IsIn (tickets_for (array_service lanes) l p (listed h x ts)) ticket → Home
  listed_home h x other [] p has homes there = absurd there
  listed_home h x other (t ∷ []) p has homes there =
      let one = one_of lanes x t other has in
      turn_home h x t.lane t.step one.0 p Only one.1 one.2 homes.0 there
  listed_home h x other (t ∷ u ∷ ts) p has homes there =
      let two = two_of lanes x t u ts other has in
      ⊎_elim (turn_home h x t.lane t.step Link p First two.first two.link homes.0) (turn_home h x u.lane u.step Making p (Second t.lane) two.second two.making homes.1.0)
      (in_either (cond (t.lane == l) (part_of p First (task_of h x t.step) ∷ []) []) (cond (u.lane == l) (part_of p (Second t.lane) (task_of h x u.step) ∷ []) []) ticket there)

  other_home : (issue : Issue) (y x : Op) → y ≡ x → IsOther x → (p : ℕ) → HasSteps lanes y issue.left → AreAtHome lanes y issue.grant issue.left
      → IsIn (tickets_for (array_service lanes) l p (listed issue.grant x issue.left)) ticket → Home
  other_home issue y x e other p has homes there =
      listed_home issue.grant x other issue.left p (subst (λ (z : Op). HasSteps lanes z issue.left) e has) (subst (λ (z : Op). AreAtHome lanes z issue.grant issue.left) e homes) there

  turns_home : (issue : Issue) (y x : Op) → y ≡ x → (p : ℕ) → HasSteps lanes y issue.left → AreAtHome lanes y issue.grant issue.left
      → IsIn (tickets_for (array_service lanes) l p (turns_for x issue)) ticket → Home
  turns_home issue y DropNode e p has homes there = in_or (nat_lt l lanes) _ there (λ at same. no_drop p Only issue.grant.number same)
  turns_home issue y x e p has homes there = other_home issue y x e tt p has homes there

  entry_home : (d : RegisterState) (asked : Asked) (v : Verdict) (p : ℕ) → length d.issued ≡ lanes → 0 < lanes → MayDecide d asked v
      → IsIn (tickets_for (array_service lanes) l p (turns_of asked v)) ticket → Home
  entry_home d asked (verdict.Granted issue) p count some may there =
      let is : (decided d asked.0.value asked.1.value).0 ≡ verdict.Granted issue = sym (ap (λ (q : Verdict × RegisterState). q.0) may) in
      let f = issue_in (decided d asked.0.value asked.1.value).0 issue (IsIssueOf d asked.1.value.op) is (issues d asked.0.value asked.1.value (subst (λ (n : ℕ). 0 < n) (sym count) some)) in
      turns_home issue asked.1.value.op asked.1.value.op refl p (subst (λ (n : ℕ). HasSteps n asked.1.value.op issue.left) count f.steps)
      (subst (λ (n : ℕ). AreAtHome n asked.1.value.op issue.grant issue.left) count f.homes) there
  entry_home d asked (verdict.Answered reply) p count some may there = absurd there
  entry_home d asked (verdict.Denied right) p count some may there = absurd there
  entry_home d asked (verdict.Refused refusal) p count some may there = absurd there
  entry_home d asked verdict.NoMemory p count some may there = absurd there

  no_cut : (number c : ℕ) → ◌≡◌ {A = Ticket Task} (cut_of number c) ticket → Home
  no_cut number c e = absurd (cc)

  issued_home : (d : RegisterState) (places cuts : ℕ) (items : RegisterList (array_service lanes)) → length d.issued ≡ lanes → 0 < lanes
      → IsLegalRegister (array_service lanes) d places cuts items → IsIn (issued (array_service lanes) l items) ticket → Home
  issued_home d places cuts [] count some legal there = absurd there
  issued_home d places cuts (Entered e ∷ items) count some legal there = ⊎_elim
      (entry_home d e.asked e.verdict e.place count some legal.0.1)
      (issued_home (left_by d e.asked e.verdict) _ cuts items ((decided_on d e.asked e.verdict).lanes ∙ count) some legal.1)
      (in_either (tickets_of (array_service lanes) l (Entered e)) (issued (array_service lanes) l items) ticket there)
  issued_home d places cuts (DrawnCut number c ∷ items) count some legal there = ⊎_elim
      (λ here. in_or (nat_lt l lanes) _ here (λ at e. no_cut number c e))
      (issued_home _ places _ items ((drawn_on d).lanes ∙ count) some legal.1)
      (in_either (tickets_of (array_service lanes) l (DrawnCut number c)) (issued (array_service lanes) l items) ticket there)
  issued_home d places cuts (RegisterCut p found ∷ items) count some legal there =
      issued_home (cut_recorded found d) places cuts items ((recorded_on found d).lanes ∙ count) some legal.1 there

pub turns_are_at_home : GrantsAreIssues → (lanes : ℕ) → TurnsAreAtHome lanes
turns_are_at_home issues lanes start h over legal l place part g op s next =
    issued_home issues lanes l place part g op s start.register 0 0 h.register over.count over.some legal.register
    (subst (λ (ts : TicketList (array_service lanes)). IsIn ts (part_of place part (TakesStep g op s))) (sym next.1) (is_in (tickets (h.lane l)) next.0 (part_of place part (TakesStep g op s))))
