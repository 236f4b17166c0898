-- The tickets of a granted request: each has the next number of its lane, and its turn is one of the request's.
use Rattle.std.proofs.Common.{◌≡◌, ◌≢◌, ⊎_elim, ℕ, suc, ◌+◌, ◌<◌, ◌≤◌, Bool, false, not, cond, List, [], ◌∷◌, length, map, Option, Some, None}
use Rattle.std.proofs.Common.{refl, sym, ap, ◌∙◌, subst, arith, get_or-set_other, get_or-set_same}
use Rattle.std.specs.Prelude.{slice_index, slice_set}
use Rattle.std.proofs.lemmas.Bool.Decides.{eqb_tells}
use Rattle.object_ops.specs.Replies.{nothing}
use Rattle.object_ops.specs.declared.grants.Grant.{Grant}
use Rattle.object_ops.specs.declared.grants.Step.{Step}
use Rattle.object_ops.specs.declared.grants.Step.TheVariants.{Link, Make as Making}
use Rattle.object_ops.specs.declared.grants.Step.TheVariants.{Only as OnlyStep}
use Rattle.object_ops.specs.declared.ops.Op.{Op}
use Rattle.object_ops.specs.declared.ops.Op.TheVariants.{DropNode, MakeObject}
use Rattle.object_ops.specs.declared.replies.Reply.{Reply}
use Rattle.object_ops.specs.declared.replies.Reply.TheVariants as reply
use Rattle.chunk_owner.specs.Lanes.{Lane}
use Rattle.register.specs.Decided.{RegisterState, decided}
use Rattle.register.specs.Grants.{AreBare, HasSteps, IfGranted, IsIssueOf}
use Rattle.register.specs.Grants.{turns_of as turns_given}
use Rattle.register.specs.Laws.{DecisionsIssue, GrantsAreIssues}
use Rattle.register.specs.Tickets.{AreEach, AreInLanes, Issue, Issues}
use Rattle.register.specs.declared.tickets.Turn.{Turn}
use Rattle.register.specs.declared.verdicts.Verdict.{Verdict}
use Rattle.register.specs.declared.verdicts.Verdict.TheVariants as verdict
use Rattle.service_core.specs.declared.answers.What.{What}
use Rattle.service_core.specs.declared.answers.What.TheVariants as what
use Rattle.lane_histories.specs.Histories.{IsIn, part_of, register_after}
use Rattle.lane_histories.specs.Legal.{is_well}
use Rattle.lane_histories.specs.Replies.{by_register, by_turn, no_memory, two_what, what_of}
use Rattle.lane_histories.specs.Replies.{What as LaneWhat}
use Rattle.lane_histories.specs.Services.{Service, each_lane}
use Rattle.lane_histories.specs.declared.items.Entry.{Entry}
use Rattle.lane_histories.specs.declared.items.LaneItem.TheVariants.{Passed}
use Rattle.lane_histories.specs.declared.items.Outcome.{Outcome}
use Rattle.lane_histories.specs.declared.items.Outcome.TheVariants.{Done, Short, Skipped}
use Rattle.lane_histories.specs.declared.items.Part.{Part}
use Rattle.lane_histories.specs.declared.items.Part.TheVariants.{First, Only, Second}
use Rattle.lane_histories.specs.declared.items.RegisterItem.{RegisterItem}
use Rattle.hall_rule.specs.AskLaws.{AsksAreAnswered, LaneLaws, LanesAreServed, ServeLaws}
use Rattle.hall_rule.specs.Asks.{MayServe}
use Rattle.hall_rule.specs.Claims.{bumped, count_of}
use Rattle.hall_rule.specs.LaneTickets.{IsServingLanes}
use Rattle.hall_rule.specs.Machines.{Machines}
use Rattle.hall_rule.specs.declared.view.Start.{Start}
use Rattle.hall_rule.specs.Seen.{at_lane, lane_of}
use Rattle.hall_rule.specs.Steps.{others_of}
use Rattle.hall_rule.specs.WholeTurns.{HasActed, HasTurned, MayAct}
use Rattle.service_histories.specs.ArrayServices.{Asked, MayDecide, array_service, listed, task_of, turns_for, turns_of}
use Rattle.service_histories.specs.Counts.{IsCounted, RegistersCount}
use Rattle.service_histories.specs.PlainSteps.{answer_of, of_verdict}
use Rattle.service_histories.specs.declared.tasks.Task.{Task}
use Rattle.service_histories.specs.declared.tasks.Task.TheVariants.{DropsDomain}
use Rattle.hall.specs.Answers.{ArrayStart, ArrayView, IsServed, IsServingJob}
use Rattle.hall.specs.ArrayMachines.{IsOpened, lanes_in, machines}

-- ---- the steps of a request

not_two : (x y : Option Step) (zs : List (Option Step)) → ◌≡◌ {A = List (Option Step)} (x ∷ y ∷ zs) (Some OnlyStep ∷ []) → ⊥
not_two x y zs e = cc

not_three : (x y z : Option Step) (zs : List (Option Step))
    → ◌≡◌ {A = List (Option Step)} (x ∷ y ∷ z ∷ zs) (Some Link ∷ Some Making ∷ []) → ⊥
not_three x y z zs e = cc

three : (n : ℕ) (op : Op) (t u v : Turn) (ts : List Turn) → op ≢ DropNode → HasSteps n op (t ∷ u ∷ v ∷ ts) → ⊥
three n DropNode t u v ts other has = other refl
three n (MakeObject make (Some place)) t u v ts other has = not_three t.step u.step v.step (map (λ (x : Turn). x.step) ts) has
three n (MakeObject make None) t u v ts other has = not_two t.step u.step (map (λ (x : Turn). x.step) (v ∷ ts)) has
three n op t u v ts other has = not_two t.step u.step (map (λ (x : Turn). x.step) (v ∷ ts)) has

no_third : (n : ℕ) (op : Op) (t u : Turn) (ts : List Turn) → op ≢ DropNode → HasSteps n op (t ∷ u ∷ ts) → ts ≡ []
no_third n op t u [] other has = refl
no_third n op t u (v ∷ ts) other has = absurd (three n op t u v ts other has)

-- those of any operation but the removal of a node are listed
turns_listed : (op : Op) (issue : Issue) → op ≢ DropNode → turns_for op issue ≡ listed issue.grant op issue.left
turns_listed DropNode issue other = absurd (other refl)
turns_listed op issue other = refl

-- ---- numbers

second_number : (count : ℕ → ℕ) (counts : List ℕ) (a b n : ℕ) → slice_index counts a ≡ count a → slice_index counts b ≡ count b
    → a < length counts → n ≡ slice_index counts a → slice_index (slice_set counts a (n + 1)) b ≡ bumped count a b
second_number count counts a b n first second within is = ⊎_elim
    (λ same.
    let at : slice_index (slice_set counts a (n + 1)) b ≡ n + 1 =
    subst (λ (k : ℕ). slice_index (slice_set counts a (n + 1)) k ≡ n + 1) same.1 (get_or-set_same counts a (n + 1) 0 within) in
    at ∙ ap (λ (k : ℕ). k + 1) (is ∙ first ∙ ap count same.1) ∙ sym (ap (λ (t : Bool). cond t (count b + 1) (count b)) same.0))
    (λ far. get_or-set_other counts a b (n + 1) 0 (λ e. far.1 (sym e)) ∙ second
    ∙ sym (ap (λ (t : Bool). cond t (count b + 1) (count b)) far.0))
    (eqb_tells a b)

-- one ticket of each lane from this one on
abbrev pub AreLanesLeft : (ℕ → ℕ) → ℕ → ℕ → List Turn → Type 0
AreLanesLeft count lanes lane [] = lane ≡ lanes
AreLanesLeft count lanes lane (t ∷ ts) = (t.lane ≡ lane) × (t.ticket ≡ count lane) × (t.step ≡ None) × (lane < lanes)
    × AreLanesLeft count lanes (lane + 1) ts

lanes_left : (count : ℕ → ℕ) (lanes lane : ℕ) (ts : List Turn) (counts after : List ℕ)
    → ((l : ℕ) → lane ≤ l → l < lanes → slice_index counts l ≡ count l) → AreInLanes lanes ts → AreEach lanes lane ts → AreBare ts
    → Issues counts ts after → AreLanesLeft count lanes lane ts
lanes_left count lanes lane [] counts after number within each bare issues = each
lanes_left count lanes lane (t ∷ ts) counts after number within each bare issues =
    let below : lane < lanes = subst (λ (l : ℕ). l < lanes) each.0 within.0 in
    let up : suc lane ≡ lane + 1 = omega arith in (
      each.0,
      issues.0 ∙ ap (slice_index counts) each.0 ∙ number lane (omega arith) below,
      bare.0,
      below,
      lanes_left count lanes (lane + 1) ts (slice_set counts t.lane (t.ticket + 1)) after
          (λ l from few. get_or-set_other counts t.lane l (t.ticket + 1) 0 (λ e. later l from (e ∙ each.0))
          ∙ number l (omega (arith, from)) few)
          within.1 (subst (λ (l : ℕ). AreEach lanes l ts) up each.1) bare.1 issues.1,
    )
  where
    later : (l : ℕ) → lane + 1 ≤ l → l ≡ lane → ⊥
    later l from same = omega (arith, from, same)

-- ---- what is told

well_alike : (a b : ℕ) (y : Outcome Reply) → is_well (array_service a) y ≡ is_well (array_service b) y
well_alike a b (Done r) = refl
well_alike a b Short = refl
well_alike a b Skipped = refl

-- the last of two turns that was reached
abbrev last_what : Outcome Reply → Outcome Reply → LaneWhat Verdict Reply
last_what x (Done r) = by_turn r
last_what x Short = no_memory
last_what x Skipped = what_of x

last_is : (x y : Outcome Reply) → two_what x (Some y) ≡ Some (last_what x y)
last_is x (Done r) = refl
last_is x Short = refl
last_is x Skipped = refl

-- ---- the tickets in hand

-- A request was granted, and its tickets are in hand: each has the next number of its lane.
pub record HoldsTickets {D : Type 0} (start : ArrayStart D) (before : List (RegisterItem Asked Verdict)) (e : Entry Asked Verdict)
    (place : ℕ) (op : Op) (grant : Grant) (turns : List Turn) (v : ArrayView D) : Type 0 where
  pub may : MayServe (machines (lanes_in start)) start before e v
  pub place_is : e.place ≡ place
  pub told : of_verdict e.verdict ≡ what.Replied (reply.Done 200 nothing)
  pub counts : List ℕ
  pub after : List ℕ
  pub enough : length counts ≡ lanes_in start
  pub number : (l : ℕ) → l < lanes_in start → slice_index counts l ≡ count_of (array_service (lanes_in start)) before l
  pub within : AreInLanes (lanes_in start) turns
  pub issues : Issues counts turns after
  pub steps : HasSteps (lanes_in start) op turns
  pub one_or_two : op ≢ DropNode → turns_of e.asked e.verdict ≡ listed grant op turns
  pub in_each : op ≡ DropNode → turns_of e.asked e.verdict ≡ each_lane (DropsDomain grant.number)

-- One ticket in each lane is in hand, after some were taken.
pub record IsTakingLanes {D : Type 0} (start : ArrayStart D) (before : List (RegisterItem Asked Verdict)) (e : Entry Asked Verdict)
    (grant : Grant) (v w : ArrayView D) (turns : List Turn) : Type 0 where
  pub lane : ℕ
  pub serving : IsServingLanes (machines (lanes_in start)) start (count_of (array_service (lanes_in start)) before)
      (part_of e.place Only (DropsDomain grant.number)) lane [] v w
  pub tickets : AreLanesLeft (count_of (array_service (lanes_in start)) before) (lanes_in start) lane turns

module _ {D : Type 0} {start : ArrayStart D} {before : List (RegisterItem Asked Verdict)} {e : Entry Asked Verdict} {place : ℕ} {op : Op}
    {grant : Grant} {issue : Issue} {v : ArrayView D} (opened : IsOpened start) (counted : (lanes : ℕ) → RegistersCount lanes)
    (granted : GrantsAreIssues) (issued_by : DecisionsIssue) (job : IsServingJob start before e place op grant issue v) where
  abbrev d : RegisterState
  d = register_after (array_service (lanes_in start)) start.register before

  abbrev new : RegisterState
  new = (decided d e.asked.0.value e.asked.1.value).1

  numbers_are : IsCounted (lanes_in start) before start.register d
  numbers_are = counted (lanes_in start) start.register 0 0 before opened.some_lane opened.lanes job.serving.serving.legal

  numbers : (l : ℕ) → l < lanes_in start → slice_index d.issued l ≡ count_of (array_service (lanes_in start)) before l
  numbers l below =
      let now = numbers_are.tickets l below in
      let was = opened.register.tickets l in
      omega (arith, now, was)

  is_granted : (decided d e.asked.0.value e.asked.1.value).0 ≡ verdict.Granted issue
  is_granted = sym (ap (λ (p : Verdict × RegisterState). p.0)
      (subst (λ (x : Verdict). MayDecide d e.asked x) job.serving.verdict_is job.serving.serving.decided))

  is_issue : IsIssueOf d e.asked.1.value.op issue
  is_issue = subst (λ (x : Verdict). IfGranted x (IsIssueOf d e.asked.1.value.op)) is_granted
      (granted d e.asked.0.value e.asked.1.value (subst (λ (k : ℕ). 0 < k) (sym numbers_are.lanes_are) opened.some_lane))

  turns_are : turns_of e.asked e.verdict ≡ turns_for op issue
  turns_are = ap (λ (x : Verdict). turns_of e.asked x) job.serving.verdict_is ∙ ap (λ (o : Op). turns_for o issue) job.serving.op_is

  pub tickets_in_hand : HoldsTickets start before e place op grant issue.left v
  tickets_in_hand = record {
    may = job.serving.serving.may;
    place_is = job.serving.place_is;
    told = ap of_verdict job.serving.verdict_is;
    counts = d.issued;
    after = new.issued;
    enough = numbers_are.lanes_are;
    number = numbers;
    within = subst (λ (k : ℕ). AreInLanes k issue.left) numbers_are.lanes_are is_issue.lanes;
    issues = subst (λ (x : Verdict). Issues d.issued (turns_given x) new.issued) is_granted
        (issued_by d e.asked.0.value e.asked.1.value);
    steps = subst (λ (o : Op). HasSteps (lanes_in start) o issue.left) job.serving.op_is
        (subst (λ (k : ℕ). HasSteps k e.asked.1.value.op issue.left) numbers_are.lanes_are is_issue.steps);
    one_or_two = λ other. turns_are ∙ turns_listed op issue other ∙ ap (λ (g : Grant). listed g op issue.left) job.grant_is;
    in_each = λ removal. turns_are ∙ ap (λ (o : Op). turns_for o issue) removal
        ∙ ap (λ (g : Grant). each_lane (DropsDomain g.number)) job.grant_is;
  }

module _ {D : Type 0} {start : ArrayStart D} {before : List (RegisterItem Asked Verdict)} {e : Entry Asked Verdict} {place : ℕ} {op : Op}
    {grant : Grant} {turns : List Turn} {v : ArrayView D} (k : HoldsTickets start before e place op grant turns v) where
  abbrev s : Service
  s = array_service (lanes_in start)

  abbrev m : Machines s RegisterState Lane (Start RegisterState Lane D) D
  m = machines (lanes_in start)

  -- ---- one step or two

  module _ (other : op ≢ DropNode) where
    listed_as : (ts : List Turn) → turns ≡ ts → turns_of e.asked e.verdict ≡ listed grant op ts
    listed_as ts is = k.one_or_two other ∙ ap (λ (xs : List Turn). listed grant op xs) is

    pub none_third : (t u : Turn) (ts : List Turn) → turns ≡ t ∷ u ∷ ts → ts ≡ []
    none_third t u ts is = no_third (lanes_in start) op t u ts other (subst (HasSteps (lanes_in start) op) is k.steps)

    first_number : (t : Turn) (ts : List Turn) → turns ≡ t ∷ ts → (t.lane < lanes_in start) × (t.ticket ≡ count_of s before t.lane)
    first_number t ts is =
        let below = subst (AreInLanes (lanes_in start)) is k.within in
        let tickets = subst (λ (xs : List Turn). Issues k.counts xs k.after) is k.issues in
        (below.0, tickets.0 ∙ k.number t.lane below.0)

    after_number : (t u : Turn) (ts : List Turn) → turns ≡ t ∷ u ∷ ts
        → (u.lane < lanes_in start) × (u.ticket ≡ bumped (count_of s before) t.lane u.lane)
    after_number t u ts is =
        let below = subst (AreInLanes (lanes_in start)) is k.within in
        let tickets = subst (λ (xs : List Turn). Issues k.counts xs k.after) is k.issues in (
          below.1.0,
          tickets.1.0
              ∙ second_number (count_of s before) k.counts t.lane u.lane t.ticket (k.number t.lane below.0) (k.number u.lane below.1.0)
              (subst (λ (n : ℕ). t.lane < n) (sym k.enough) below.0) tickets.0,
        )

    module _ (asks : AsksAreAnswered m) where
      laws : ServeLaws m start before e v
      laws = asks.serve start before e v k.may

      -- what a turn with a ticket promises
      abbrev Acts : Turn → Part → Bool → Outcome Reply → ArrayView D → ArrayView D → Type 0
      Acts t part skip y u w = MayAct s start t.lane t.ticket place part (task_of grant op t.step) skip u
          → HasActed m start t.lane place part (task_of grant op t.step) y u w

      may_only : (t : Turn) → turns ≡ t ∷ [] → MayAct s start t.lane t.ticket place Only (task_of grant op t.step) false v
      may_only t is =
          let n = first_number t [] is in
          subst (λ (p : ℕ). MayAct s start t.lane t.ticket p Only (task_of grant op t.step) false v) k.place_is
          (laws.may_act_only t.lane (task_of grant op t.step) (listed_as (t ∷ []) is) t.ticket n.1 n.0)

      may_first : (t u : Turn) (ts : List Turn) → turns ≡ t ∷ u ∷ ts
          → MayAct s start t.lane t.ticket place First (task_of grant op t.step) false v
      may_first t u ts is =
          let n = first_number t (u ∷ ts) is in
          subst (λ (p : ℕ). MayAct s start t.lane t.ticket p First (task_of grant op t.step) false v) k.place_is
          (laws.may_act_first t.lane (task_of grant op t.step) u.lane (task_of grant op u.step) (listed_as (t ∷ u ∷ ts) is) t.ticket n.1 n.0)

      -- the first ticket may be taken, whether it is the only one or not
      pub may_begin : (t : Turn) (ts : List Turn) → turns ≡ t ∷ ts
          → (part : Part) × MayAct s start t.lane t.ticket place part (task_of grant op t.step) false v
      may_begin t [] is = (Only, may_only t is)
      may_begin t (u ∷ ts) is = (First, may_first t u ts is)

      pub none_served : turns ≡ [] → (told : What) → told ≡ what.Replied (reply.Done 200 nothing) → IsServed start e told v v
      none_served is told says = record {
        what_is = by_register e.verdict;
        served = laws.by_none (listed_as [] is);
        told = says ∙ sym k.told;
      }

      pub one_served : (t : Turn) (ts : List Turn) → turns ≡ t ∷ ts → ts ≡ [] → (y : Outcome Reply) (told : What) (w : ArrayView D)
          → told ≡ answer_of (what_of y) → ((part : Part) → Acts t part false y v w) → IsServed start e told v w
      one_served t ts is none y told w says acted =
          let only : turns ≡ t ∷ [] = is ∙ ap (λ (xs : List Turn). t ∷ xs) none in record {
            what_is = what_of y;
            served = laws.by_one t.lane (task_of grant op t.step) (listed_as (t ∷ []) only) y w
                (subst (λ (p : ℕ). HasActed m start t.lane p Only (task_of grant op t.step) y v w) (sym k.place_is)
                (acted Only (may_only t only)));
            told = says;
          }

      -- the second, behind the first
      module _ (t u : Turn) (ts : List Turn) (is : turns ≡ t ∷ u ∷ ts) (x : Outcome Reply) (w : ArrayView D)
          (acted : (part : Part) → Acts t part false x v w) (skip : Bool) (says : skip ≡ not (is_well (array_service 1) x)) where
        first_acted : HasActed m start t.lane e.place First (task_of grant op t.step) x v w
        first_acted = subst (λ (p : ℕ). HasActed m start t.lane p First (task_of grant op t.step) x v w) (sym k.place_is)
            (acted First (may_first t u ts is))

        pub may_follow : MayAct s start u.lane u.ticket place (Second t.lane) (task_of grant op u.step) skip w
        may_follow =
            let n = after_number t u ts is in
            let same : not (is_well s x) ≡ skip = ap not (well_alike (lanes_in start) 1 x) ∙ sym says in
            subst (λ (b : Bool). MayAct s start u.lane u.ticket place (Second t.lane) (task_of grant op u.step) b w) same
            (subst (λ (p : ℕ). MayAct s start u.lane u.ticket p (Second t.lane) (task_of grant op u.step) (not (is_well s x)) w) k.place_is
            (laws.may_act_second t.lane (task_of grant op t.step) u.lane (task_of grant op u.step) (listed_as (t ∷ u ∷ ts) is) u.ticket x w
            n.1 n.0 first_acted))

        pub two_served : (y : Outcome Reply) (told : What) (z : ArrayView D)
            → ((known : LaneWhat Verdict Reply) → two_what x (Some y) ≡ Some known → told ≡ answer_of known)
            → ((part : Part) → Acts u part skip y w z) → IsServed start e told v z
        two_served y told z tells then_acted = record {
          what_is = last_what x y;
          served = laws.by_two t.lane (task_of grant op t.step) u.lane (task_of grant op u.step) (listed_as (t ∷ u ∷ ts) is) x y
              (last_what x y) w z first_acted
              (subst (λ (p : ℕ). HasActed m start u.lane p (Second t.lane) (task_of grant op u.step) y w z) (sym k.place_is)
              (then_acted (Second t.lane) may_follow))
              (last_is x y);
          told = tells (last_what x y) (last_is x y);
        }

  -- ---- one in each lane

  module _ (each : LanesAreServed m) where
    abbrev task : Task
    task = DropsDomain grant.number

    pub lanes_begin : op ≡ DropNode → IsTakingLanes start before e grant v v turns
    lanes_begin removal =
        let has = subst (λ (o : Op). HasSteps (lanes_in start) o turns) removal k.steps in record {
          lane = 0;
          serving = each.begin_entry start before e v task k.may (k.in_each removal);
          tickets = lanes_left (count_of s before) (lanes_in start) 0 turns k.counts k.after (λ l from below. k.number l below) k.within
              has.0 has.1 k.issues;
        }

    module _ {w : ArrayView D} {left : List Turn} (taking : IsTakingLanes start before e grant v w left) where
      lane_laws : LaneLaws m start (count_of s before) (part_of e.place Only task) taking.lane [] v w
      lane_laws = each.lane start (count_of s before) (part_of e.place Only task) taking.lane [] v w taking.serving

      module _ (t : Turn) (ts : List Turn) (is : left ≡ t ∷ ts) where
        now : AreLanesLeft (count_of s before) (lanes_in start) taking.lane (t ∷ ts)
        now = subst (AreLanesLeft (count_of s before) (lanes_in start) taking.lane) is taking.tickets

        pub may_drop : MayAct s start t.lane t.ticket place Only (task_of grant op t.step) false w
        may_drop =
            subst (λ (x : Task). MayAct s start t.lane t.ticket place Only x false w) (ap (task_of grant op) (sym now.2))
            (subst (λ (p : ℕ). MayAct s start t.lane t.ticket p Only task false w) k.place_is
            (subst (λ (n : ℕ). MayAct s start t.lane n e.place Only task false w) (sym now.1)
            (subst (λ (l : ℕ). MayAct s start l (count_of s before taking.lane) e.place Only task false w) (sym now.0)
            (lane_laws.may_act now.3 now.3 k.may.pass refl e.place task refl))))

        pub lanes_go_on : (y : Outcome Reply) (u : ArrayView D)
            → ((part : Part) → MayAct s start t.lane t.ticket place part (task_of grant op t.step) false w
            → HasActed m start t.lane place part (task_of grant op t.step) y w u)
            → IsTakingLanes start before e grant v u ts
        lanes_go_on y u acted =
            let did = acted Only may_drop in record {
              lane = taking.lane + 1;
              serving = lane_laws.go_on u (Passed place Only (task_of grant op t.step) y) did.owner now.3
                  (λ i. part_of (sym k.place_is i) Only (task_of grant op (now.2 i)))
                  (subst (λ (l : ℕ). IsIn (lane_of u.seen.lanes l) (Passed place Only (task_of grant op t.step) y)) now.0 did.here)
                  (subst (λ (l : ℕ). HasTurned m start (at_lane l (Passed place Only (task_of grant op t.step) y) did.owner) (others_of w.claims) w u)
                  now.0 did.turned)
                  did.longer;
              tickets = now.4;
            }

      pub lanes_served : op ≡ DropNode → left ≡ [] → (told : What) → told ≡ what.Replied (reply.Done 200 nothing) → IsServed start e told v w
      lanes_served removal none told says =
          let last : taking.lane ≡ lanes_in start =
          subst (AreLanesLeft (count_of s before) (lanes_in start) taking.lane) none taking.tickets in record {
            what_is = by_register e.verdict;
            served = each.by_each start before e task v w (k.in_each removal)
                (subst (λ (l : ℕ). IsServingLanes m start (count_of s before) (part_of e.place Only task) l [] v w) last taking.serving);
            told = says ∙ sym k.told;
          }
