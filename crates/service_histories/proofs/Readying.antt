-- The turns of a granted request find what they need, where only what was given before it is there.
use Rattle.std.proofs.Common.{◌≡◌, ℕ, ◌+◌, ◌<◌, ◌≤◌, Bool, true, false, List, [], ◌∷◌, length, Option, Some, None, IsSomeAnd, refl, sym, ap, subst, ◌∙◌, arith, eqb-true}
use Rattle.std.specs.FinMap.{get}
use Rattle.std.proofs.lemmas.Bool.{and_parts}
use Rattle.std.proofs.lemmas.Option.{same_Some}
use Rattle.access_lists.specs.declared.people.Caller.{Caller}
use Rattle.object_ids.specs.IdOrder.{id_eq}
use Rattle.object_ids.specs.IdValues.{Id}
use Rattle.object_ids.specs.declared.ids.Kind.TheVariants.{Group}
use Rattle.object_ops.specs.Parts.{kind_made}
use Rattle.object_ops.specs.declared.grants.Grant.{Grant}
use Rattle.object_ops.specs.declared.grants.Step.{Step}
use Rattle.object_ops.specs.declared.grants.Step.TheVariants.{Link, Make as Making}
use Rattle.object_ops.specs.declared.ops.LinkPlace.{LinkPlace}
use Rattle.object_ops.specs.declared.ops.Make.{Make}
use Rattle.object_ops.specs.declared.ops.Op.{Op}
use Rattle.object_ops.specs.declared.ops.Op.TheVariants.{DropNode, MakeObject}
use Rattle.object_ops.specs.declared.ops.Request.{Request}
use Rattle.object_acts.specs.declared.objects.Object.{Object}
use Rattle.object_acts.specs.Objects.{Objects}
use Rattle.chunk_owner.specs.Acts.{HasFresh, IsFreshFor, IsStepOf, acted}
use Rattle.register.specs.Decided.{IsGivenOut, RegisterState, decided, passed}
use Rattle.register.specs.Grants.{HasSteps, IfGranted, IsIssueOf}
use Rattle.register.specs.Grants.{IsFreshFor as IsFreshIn}
use Rattle.register.specs.Laws.{GrantsAreIssues}
use Rattle.register.specs.Tickets.{Issue}
use Rattle.register.specs.declared.tickets.Turn.{Turn}
use Rattle.register.specs.declared.verdicts.Verdict.{Verdict}
use Rattle.register.specs.declared.verdicts.Verdict.TheVariants as verdict
use Rattle.service_core.specs.Steps.{IsGiven, without_domain}
use Rattle.lane_histories.specs.Ready.{AreReady, FindsAll, GivesOut}
use Rattle.service_histories.specs.ArrayServices.{Asked, MayDecide, array_service, cut_drawn, cut_recorded, left_by, listed, task_of, turns_for, turns_of}
use Rattle.service_histories.specs.Readies.{IsGivenIn, Needs, array_readiness}
use Rattle.service_histories.specs.declared.tasks.Task.{Task}
use Rattle.service_histories.proofs.Adding.{acted_each, makes}
use Rattle.service_histories.proofs.Decisions.{Continues, IsGrantOf, IsOldOrNew, decided_leaves, length-all_counted, made, stood}
use Rattle.service_histories.proofs.IdMaps.{each_without}
use Rattle.service_histories.proofs.Shapes.{IsOne, IsOther, IsPair, one_of, two_of}

-- ---- what was given stays so

out_later : (d new : RegisterState) (id : Id) → new.run ≡ d.run → d.serial ≤ new.serial → IsGivenOut d.run d.serial id → IsGivenOut new.run new.serial id
out_later d new id run more h = record { run = omega (arith, run, h.run); serial = λ same. omega (arith, more, h.serial (same ∙ run)) }

given_later : (d new : RegisterState) (id : Id) → Continues d new → IsGiven d id → IsGiven new id
given_later d new id c h = record { number = omega (arith, c.next, h.number); out = out_later d new id c.run c.serial h.out }

module _ (lanes : ℕ) (d new : RegisterState) (c : Continues d new) (m : Objects) (h : IsGivenIn lanes d m) where
  root_later : (path : List ℕ) (number : ℕ) (root : Id) → IsOldOrNew d new path number root → IsGivenOut new.run new.serial root
  root_later path number root (stood at) = out_later d new root c.run c.serial (h.roots path number root at)
  root_later path number root (made n r serial more) =
      subst (IsGivenOut new.run new.serial) (sym r) (record { run = omega (arith, c.run); serial = λ _. omega (arith, serial) })

  number_later : (path : List ℕ) (number : ℕ) (root : Id) → IsOldOrNew d new path number root → (number < new.catalogue.next) × (root.domain ≡ number) × (root.kind ≡ Group)
  number_later path number root (stood at) = let was = h.numbers path number root at in (omega (arith, was.0, c.next), was.1, was.2)
  number_later path number root (made n r serial more) = (omega (arith, n, more), ap (λ (id : Id). id.domain) r ∙ sym n, ap (λ (id : Id). id.kind) r)

  pub given_after : IsGivenIn lanes new m
  given_after = record {
    some_lane = h.some_lane;
    lanes_are = c.lanes ∙ h.lanes_are;
    roots = λ path number root at. root_later path number root (c.domains path number root at);
    numbers = λ path number root at. number_later path number root (c.domains path number root at);
    objects = λ id o at. given_later d new id c (h.objects id o at);
  }

passed_on : (d : RegisterState) → Continues d (passed d)
passed_on d = record { run = refl; lanes = refl; serial = omega arith; next = omega arith; domains = λ path number root at. stood at }

pub decided_on : (d : RegisterState) (asked : Asked) (v : Verdict) → Continues d (left_by d asked v)
decided_on d asked (verdict.Granted issue) = (decided_leaves d asked.0.value asked.1.value).continues
decided_on d asked (verdict.Answered answer) = (decided_leaves d asked.0.value asked.1.value).continues
decided_on d asked (verdict.Denied right) = (decided_leaves d asked.0.value asked.1.value).continues
decided_on d asked (verdict.Refused refusal) = (decided_leaves d asked.0.value asked.1.value).continues
decided_on d asked verdict.NoMemory = passed_on d

pub drawn_on : (d : RegisterState) → Continues d (cut_drawn d)
drawn_on d = record { run = refl; lanes = length-all_counted d.issued; serial = omega arith; next = omega arith; domains = λ path number root at. stood at }

pub recorded_on : (found : Bool) (d : RegisterState) → Continues d (cut_recorded found d)
recorded_on true d = record { run = refl; lanes = refl; serial = omega arith; next = omega arith; domains = λ path number root at. stood at }
recorded_on false d = record { run = refl; lanes = refl; serial = omega arith; next = omega arith; domains = λ path number root at. stood at }

-- ids of one number, run and serial are given together
given_same : (d : RegisterState) (id root : Id) → id_eq id root ≡ true → IsGiven d root → IsGiven d id
given_same d id root e h =
    let a = and_parts _ _ e in
    let b = and_parts _ _ a.1 in
    let c = and_parts _ _ b.1 in
    let domain : id.domain ≡ root.domain = eqb-true id.domain root.domain b.0 in
    let run : id.run ≡ root.run = eqb-true id.run root.run c.0 in
    let serial : id.serial ≡ root.serial = eqb-true id.serial root.serial c.1 in
    record { number = omega (arith, h.number, domain); out = record { run = omega (arith, h.out.run, run); serial = λ same. omega (arith, h.out.serial (sym run ∙ same), serial) } }

-- ---- a granted request

pub issue_in : (v : Verdict) (issue : Issue) (P : Issue → Type 0) → v ≡ verdict.Granted issue → IfGranted v P → P issue
issue_in v issue P e given = subst (λ (x : Verdict). IfGranted x P) e given

module _ (issues : GrantsAreIssues) (lanes : ℕ) (d : RegisterState) (caller : Caller) (request : Request) (issue : Issue)
    (is : (decided d caller request).0 ≡ verdict.Granted issue) where
  abbrev new : RegisterState
  new = (decided d caller request).1

  abbrev g : Grant
  g = issue.grant

  abbrev op : Op
  op = request.op

  c : Continues d new
  c = (decided_leaves d caller request).continues

  grant : IsGrantOf d new request.path issue
  grant = issue_in (decided d caller request).0 issue (IsGrantOf d new request.path) is (decided_leaves d caller request).grant

  module _ (m : Objects) (h : IsGivenIn lanes d m) where
    issue_is : IsIssueOf d op issue
    issue_is = issue_in (decided d caller request).0 issue (IsIssueOf d op) is
        (issues d caller request (subst (λ (n : ℕ). 0 < n) (sym h.lanes_are) h.some_lane))

    root_kind : g.root.kind ≡ Group
    root_kind = (h.numbers request.path g.number g.root grant.domain).2

    root_given : IsGiven d g.root
    root_given =
        let n = h.numbers request.path g.number g.root grant.domain in
        record { number = omega (arith, n.0, n.1); out = h.roots request.path g.number g.root grant.domain }

    fresh_of : (o : Op) → IsFreshIn d o g → (id : Id) → g.fresh ≡ Some id → (g.serial ≡ d.serial + 1) × (id.domain ≡ g.number) × (id.run ≡ d.run) × (id.serial ≡ d.serial)
    fresh_of (MakeObject make place) f id at =
        let same = same_Some _ id (sym f.1 ∙ at) in
        (f.0, sym (ap (λ (x : Id). x.domain) same), sym (ap (λ (x : Id). x.run) same), sym (ap (λ (x : Id). x.serial) same))
    fresh_of o f id at = absurd (let none : None ≡ Some id = sym f.1 ∙ at in cc)

    -- the new id is given with the request
    fresh_given : (id : Id) → g.fresh ≡ Some id → IsGiven new id
    fresh_given id at =
        let f = fresh_of op issue_is.fresh id at in
        let n = h.numbers request.path g.number g.root grant.domain in
        record {
          number = omega (arith, f.1, n.0, c.next);
          out = record { run = omega (arith, f.2, c.run); serial = λ _. omega (arith, f.3, f.0, grant.serial) };
        }

    new_one : (id : Id) → id.run ≡ d.run → id.serial ≡ d.serial → (o : Option Object) → get m id ≡ o → o ≡ None
    new_one id run serial None at = refl
    new_one id run serial (Some o) at = let below = (h.objects id o at).out.serial run in absurd (omega (arith, below, serial))

    fresh_free : (make : Make) (place : Option LinkPlace) → op ≡ MakeObject make place → HasFresh g (MakeObject make place) m
    fresh_free make place e =
        let f : IsFreshIn d (MakeObject make place) g = subst (λ (o : Op). IsFreshIn d o g) e issue_is.fresh in
        let id : Id = record { kind = kind_made make; domain = g.number; run = d.run; serial = d.serial } in
        subst (λ (o : Option Id). IsSomeAnd o (IsFreshFor make m)) (sym f.1) (record { kind = refl; new = new_one id refl refl (get m id) refl })

    free : (o : Op) → op ≡ o → HasFresh g o m
    free (MakeObject make place) e = fresh_free make place e
    free o e = tt

    step_needs : (s : Step) → IsStepOf op s → Needs (task_of g op (Some s)) m
    step_needs s step = record { step = step; fresh = free op refl; root = root_kind }

    -- what was there, and what the step adds, was given
    step_after : (e : RegisterState) → Continues d e → (s : Step) → ((id : Id) → makes op s ≡ true → g.fresh ≡ Some id → IsGiven e id) → IsGivenIn lanes e (acted g op s m).1
    step_after e on s fresh =
        let all = given_after lanes d e on m h in
        record {
          some_lane = all.some_lane;
          lanes_are = all.lanes_are;
          roots = all.roots;
          numbers = all.numbers;
          objects = acted_each (IsGiven e) g (λ id same. given_same e id g.root same (given_later d e g.root on root_given)) op s fresh m all.objects;
        }

    drop_after : (number : ℕ) → IsGivenIn lanes new (without_domain number m)
    drop_after number =
        let all = given_after lanes d new c m h in
        record {
          some_lane = all.some_lane;
          lanes_are = all.lanes_are;
          roots = all.roots;
          numbers = all.numbers;
          objects = each_without number (λ id o. IsGiven new id) m all.objects;
        }

    last_finds : (s : Step) → IsStepOf op s → Needs (task_of g op (Some s)) m × IsGivenIn lanes new (acted g op s m).1
    last_finds s step = (step_needs s step, step_after new c s (λ id makes at. fresh_given id at))

    stay : Continues d d
    stay = record { run = refl; lanes = refl; serial = omega arith; next = omega arith; domains = λ path number root at. stood at }

    -- the first of two makes nothing
    first_finds : (s : Step) → IsStepOf op s → makes op s ≡ false → Needs (task_of g op (Some s)) m × IsGivenIn lanes d (acted g op s m).1
    first_finds s step none = (step_needs s step, step_after d stay s (λ id makes at. absurd (let never : true ≡ false = sym makes ∙ none in cc)))

  -- ---- turns

  abbrev Finds : RegisterState → Task → Type 0
  Finds e task = FindsAll (array_service lanes) Needs (IsGivenIn lanes d) (IsGivenIn lanes e) task

  last_task : (step : Option Step) → ((m : Objects) → IsGivenIn lanes d m → IsOne op step) → Finds new (task_of g op step)
  last_task None steps m h = let p = steps m h in absurd (let never : None ≡ Some p.0 = p.1 in cc)
  last_task (Some s) steps m h = let p = steps m h in last_finds m h s (subst (IsStepOf op) (sym (same_Some s p.0 p.1)) p.2)

  first_task : (step : Option Step) → ((m : Objects) → IsGivenIn lanes d m → (step ≡ Some Link) × IsStepOf op Link × (makes op Link ≡ false)) → Finds d (task_of g op step)
  first_task None steps m h = let p = steps m h in absurd (let never : None ≡ Some Link = p.0 in cc)
  first_task (Some s) steps m h =
      let p = steps m h in
      let same : Link ≡ s = sym (same_Some s Link p.0) in
      first_finds m h s (subst (IsStepOf op) same p.1) (subst (λ (x : Step). makes op x ≡ false) same p.2)

  listed_ready : IsOther op → (ts : List Turn) → ts ≡ issue.left → AreReady (array_service lanes) Needs (IsGivenIn lanes d) (IsGivenIn lanes new) (listed g op ts)
  listed_ready other [] e = tt
  listed_ready other (t ∷ []) e = last_task t.step (λ m h. one_of (length d.issued) op t other (subst (HasSteps (length d.issued) op) (sym e) (issue_is m h).steps))
  listed_ready other (t ∷ u ∷ ts) e = (
    first_task t.step (λ m h. let p = pair m h in (p.first, p.link, p.makes_none)),
    last_task u.step (λ m h. let p = pair m h in (Making, p.second, p.making)),
  )
    where
      pair : (m : Objects) → IsGivenIn lanes d m → IsPair op t.step u.step
      pair m h = two_of (length d.issued) op t u ts other (subst (HasSteps (length d.issued) op) (sym e) (issue_is m h).steps)

  other_ready : (o : Op) → op ≡ o → IsOther o → AreReady (array_service lanes) Needs (IsGivenIn lanes d) (IsGivenIn lanes new) (listed g o issue.left)
  other_ready o e other =
      subst (λ (x : Op). AreReady (array_service lanes) Needs (IsGivenIn lanes d) (IsGivenIn lanes new) (listed g x issue.left)) e
      (listed_ready (subst IsOther (sym e) other) issue.left refl)

  turns_ready : (o : Op) → op ≡ o → AreReady (array_service lanes) Needs (IsGivenIn lanes d) (IsGivenIn lanes new) (turns_for o issue)
  turns_ready DropNode e = λ m h. (tt, drop_after m h g.number)
  turns_ready o e = other_ready o e tt

-- ---- the whole

module _ (issues : GrantsAreIssues) (lanes : ℕ) where
  ready : (d : RegisterState) (asked : Asked) (v : Verdict) → MayDecide d asked v
      → AreReady (array_service lanes) Needs (IsGivenIn lanes d) (IsGivenIn lanes (left_by d asked v)) (turns_of asked v)
  ready d asked (verdict.Granted issue) may =
      turns_ready issues lanes d asked.0.value asked.1.value issue (sym (ap (λ (p : Verdict × RegisterState). p.0) may)) asked.1.value.op refl
  ready d asked (verdict.Answered answer) may = tt
  ready d asked (verdict.Denied right) may = tt
  ready d asked (verdict.Refused refusal) may = tt
  ready d asked verdict.NoMemory may = tt

  pub gives_out : GivesOut (array_service lanes) (array_readiness lanes)
  gives_out = record {
    decided = λ d asked v m may h. given_after lanes d (left_by d asked v) (decided_on d asked v) m h;
    drawn = λ d m h. given_after lanes d (cut_drawn d) (drawn_on d) m h;
    recorded = λ found d m h. given_after lanes d (cut_recorded found d) (recorded_on found d) m h;
    ready = ready;
  }
