-- The numbers that a register gave out are those of its list.
use Rattle.std.proofs.Common.{◌≡◌, ⊎_elim, ℕ, zero, suc, ◌+◌, ◌<◌, ◌≤◌, ◌==◌, Bool, true, false, cond, List, [], ◌∷◌, ◌++◌, length, replicate, refl, sym, ap, subst, ◌∙◌, arith, lt-ltb, eq-or-lt_of_le, length-append}
use Rattle.std.specs.Prelude.{slice_index, slice_set}
use Rattle.std.proofs.lemmas.Bool.Decides.{eqb_tells}
use Rattle.std.proofs.lemmas.Grind.{get_or_default_zero}
use Rattle.std.proofs.lemmas.List.{get_or-set_other, get_or-set_same, length-set}
use Rattle.object_ops.specs.declared.grants.Grant.{Grant}
use Rattle.object_ops.specs.declared.ops.Op.{Op}
use Rattle.object_ops.specs.declared.ops.Op.TheVariants.{DropNode}
use Rattle.register.specs.Decided.{RegisterState, decided}
use Rattle.register.specs.Grants.{HasSteps, IsIssueOf}
use Rattle.register.specs.Grants.{turns_of as turns_given}
use Rattle.register.specs.Laws.{DecisionsIssue, GrantsAreIssues, TakesPlace}
use Rattle.register.specs.Tickets.{AreEach, Issue, Issues, all_counted}
use Rattle.register.specs.declared.tickets.Turn.{Turn}
use Rattle.register.specs.declared.verdicts.Verdict.{Verdict}
use Rattle.register.specs.declared.verdicts.Verdict.TheVariants as verdict
use Rattle.lane_histories.specs.Histories.{Ticket, cut_of, in_each, issued, part_of, places, register_after, register_step, tickets_for, tickets_of}
use Rattle.lane_histories.specs.Legal.{IsLegalRegister, IsLegalRegisterItem, cuts_on, places_on}
use Rattle.lane_histories.specs.declared.items.Part.TheVariants.{Only, First, Second}
use Rattle.lane_histories.specs.declared.items.RegisterItem.{RegisterItem}
use Rattle.lane_histories.specs.declared.items.RegisterItem.TheVariants.{Entered, DrawnCut, RegisterCut}
use Rattle.service_histories.specs.ArrayServices.{Asked, MayDecide, array_service, left_by, listed, task_of, turns_for, turns_of}
use Rattle.service_histories.specs.Counts.{FreshRegistersHaveRoom, InstallsAreFresh, IsCounted, RegistersCount}
use Rattle.service_histories.specs.declared.tasks.Task.{Task}
use Rattle.service_histories.specs.declared.tasks.Task.TheVariants.{DropsDomain}
use Rattle.service_histories.proofs.Readying.{decided_on, drawn_on, issue_in, recorded_on}
use Rattle.service_histories.proofs.Shapes.{IsOther, no_three}

-- ---- turns of a lane

abbrev once : Bool → ℕ
once b = cond b 1 0

-- how many of the turns are of a lane
abbrev taken : ℕ → List Turn → ℕ
taken l [] = 0
taken l (t ∷ ts) = once (t.lane == l) + taken l ts

module _ (l : ℕ) where
  one_here : (lane : ℕ) → lane ≡ l → once (lane == l) ≡ 1
  one_here lane same = ⊎_elim (λ e. ap once e.0) (λ far. absurd (far.1 same)) (eqb_tells lane l)

  none_here : (lane : ℕ) → (lane ≡ l → ⊥) → once (lane == l) ≡ 0
  none_here lane far = ⊎_elim (λ same. absurd (far same.1)) (λ e. ap once e.0) (eqb_tells lane l)

  -- a ticket adds one to the number of its lane
  ticket_adds : (counts : List ℕ) (lane n : ℕ) → l < length counts → n ≡ slice_index counts lane
      → slice_index (slice_set counts lane (n + 1)) l ≡ slice_index counts l + once (lane == l)
  ticket_adds counts lane n within is = ⊎_elim
      (λ same.
      let at : slice_index (slice_set counts lane (n + 1)) l ≡ n + 1 =
      subst (λ (k : ℕ). slice_index (slice_set counts k (n + 1)) l ≡ n + 1) (sym same.1) (get_or-set_same counts l (n + 1) 0 within) in
      let was : n ≡ slice_index counts l = is ∙ ap (slice_index counts) same.1 in
      let one = one_here lane same.1 in
      omega (arith, at, was, one))
      (λ far.
      let at : slice_index (slice_set counts lane (n + 1)) l ≡ slice_index counts l = get_or-set_other counts lane l (n + 1) 0 (λ e. far.1 (sym e)) in
      let none = none_here lane far.1 in
      omega (arith, at, none))
      (eqb_tells lane l)

  -- each turn has the next ticket, so a lane's number grows by its turns
  turns_add : (counts : List ℕ) (ts : List Turn) (after : List ℕ) → l < length counts → Issues counts ts after
      → slice_index after l ≡ slice_index counts l + taken l ts
  turns_add counts [] after within is = let same = ap (λ (ns : List ℕ). slice_index ns l) is in omega (arith, same)
  turns_add counts (t ∷ ts) after within is =
      let few : l < length (slice_set counts t.lane (t.ticket + 1)) = subst (λ (n : ℕ). l < n) (sym (length-set counts t.lane (t.ticket + 1))) within in
      let one = ticket_adds counts t.lane t.ticket within is.0 in
      let more = turns_add (slice_set counts t.lane (t.ticket + 1)) ts after few is.1 in
      omega (arith, one, more)

  -- of one turn of each lane one is this lane's
  later_none : (n k : ℕ) (ts : List Turn) → AreEach n k ts → l < k → taken l ts ≡ 0
  later_none n k [] each below = refl
  later_none n k (t ∷ ts) each below =
      let lane = each.0 in
      let none = none_here t.lane (λ e. omega (arith, e, lane, below)) in
      let more = later_none n (suc k) ts each.1 (omega (arith, below)) in
      omega (arith, none, more)

  each_one : (n k : ℕ) (ts : List Turn) → AreEach n k ts → k ≤ l → l < n → taken l ts ≡ 1
  each_one n k [] each from below = absurd (omega (arith, each, from, below))
  each_one n k (t ∷ ts) each from below = ⊎_elim
      (λ (here : k ≡ l).
      let one = one_here t.lane (each.0 ∙ here) in
      let more = later_none n (suc k) ts each.1 (omega (arith, here)) in
      omega (arith, one, more))
      (λ (past : k < l).
      let lane = each.0 in
      let none = none_here t.lane (λ e. omega (arith, e, lane, past)) in
      let more = each_one n (suc k) ts each.1 (omega (arith, past)) below in
      omega (arith, none, more))
      (eq-or-lt_of_le from)

-- a drawn cut takes a ticket of each lane
all_add : (counts : List ℕ) (l : ℕ) → l < length counts → slice_index (all_counted counts) l ≡ slice_index counts l + 1
all_add [] l within = absurd (omega arith)
all_add (n ∷ ns) zero within = refl
all_add (n ∷ ns) (suc l) within = all_add ns l (omega arith)

length-one : {X : Type 0} (b : Bool) (x : X) → length (cond b (x ∷ []) []) ≡ once b
length-one true x = refl
length-one false x = refl

module _ (lanes l : ℕ) (below : l < lanes) where
  each_count : (x : Ticket Task) → length (in_each lanes l x) ≡ 1
  each_count x = ap (λ (b : Bool). length (cond b (x ∷ []) [])) (lt-ltb l lanes below)

  -- ---- the turns of a verdict

  module _ (place : ℕ) where
    listed_count : (g : Grant) (op : Op) → IsOther op → (ts : List Turn) → HasSteps lanes op ts
        → length (tickets_for (array_service lanes) l place (listed g op ts)) ≡ taken l ts
    listed_count g op other [] has = refl
    listed_count g op other (t ∷ []) has = let one = length-one (t.lane == l) (part_of place Only (task_of g op t.step)) in omega (arith, one)
    listed_count g op other (t ∷ u ∷ []) has =
        let first : List (Ticket Task) = cond (t.lane == l) (part_of place First (task_of g op t.step) ∷ []) [] in
        let second : List (Ticket Task) = cond (u.lane == l) (part_of place (Second t.lane) (task_of g op u.step) ∷ []) [] in
        let both : length (first ++ second) ≡ length first + length second = length-append first second in
        let one : length first ≡ once (t.lane == l) = length-one (t.lane == l) (part_of place First (task_of g op t.step)) in
        let two : length second ≡ once (u.lane == l) = length-one (u.lane == l) (part_of place (Second t.lane) (task_of g op u.step)) in
        omega (arith, both, one, two)
    listed_count g op other (t ∷ u ∷ v ∷ ts) has = absurd (no_three lanes op t u v ts other has)

    turns_count : (issue : Issue) (op : Op) → HasSteps lanes op issue.left
        → length (tickets_for (array_service lanes) l place (turns_for op issue)) ≡ taken l issue.left
    turns_count issue DropNode has =
        each_count (part_of place Only (DropsDomain issue.grant.number)) ∙ sym (each_one l lanes 0 issue.left has.0 (omega arith) below)
    turns_count issue op has = listed_count issue.grant op tt issue.left has

  -- ---- a verdict

  module _ (some : 0 < lanes) (issues : GrantsAreIssues) (given : DecisionsIssue) (d : RegisterState) (count : length d.issued ≡ lanes) where
    within : l < length d.issued
    within = subst (λ (n : ℕ). l < n) (sym count) below

    -- what a verdict's turns add to the number of the lane
    abbrev Adds : Asked → Verdict → ℕ → Type 0
    Adds asked v n = slice_index (left_by d asked v).issued l ≡ slice_index d.issued l + n

    turns_issued : (asked : Asked) (v : Verdict) → (decided d asked.0.value asked.1.value).0 ≡ v
        → slice_index (decided d asked.0.value asked.1.value).1.issued l ≡ slice_index d.issued l + taken l (turns_given v)
    turns_issued asked v is =
        turns_add l d.issued (turns_given v) (decided d asked.0.value asked.1.value).1.issued within
        (subst (λ (x : Verdict). Issues d.issued (turns_given x) (decided d asked.0.value asked.1.value).1.issued) is (given d asked.0.value asked.1.value))

    granted_steps : (asked : Asked) (issue : Issue) → (decided d asked.0.value asked.1.value).0 ≡ verdict.Granted issue
        → HasSteps lanes asked.1.value.op issue.left
    granted_steps asked issue is =
        let some_lane : 0 < length d.issued = subst (λ (n : ℕ). 0 < n) (sym count) some in
        let of = issue_in (decided d asked.0.value asked.1.value).0 issue (IsIssueOf d asked.1.value.op) is (issues d asked.0.value asked.1.value some_lane) in
        subst (λ (n : ℕ). HasSteps n asked.1.value.op issue.left) count of.steps

    verdict_adds : (place : ℕ) (asked : Asked) (v : Verdict) → MayDecide d asked v
        → Adds asked v (length (tickets_for (array_service lanes) l place (turns_of asked v)))
    verdict_adds place asked (verdict.Granted issue) may =
        let is : (decided d asked.0.value asked.1.value).0 ≡ verdict.Granted issue = sym (ap (λ (p : Verdict × RegisterState). p.0) may) in
        turns_issued asked (verdict.Granted issue) is
        ∙ ap (λ (n : ℕ). slice_index d.issued l + n) (sym (turns_count place issue asked.1.value.op (granted_steps asked issue is)))
    verdict_adds place asked (verdict.Answered answer) may = turns_issued asked (verdict.Answered answer) (sym (ap (λ (p : Verdict × RegisterState). p.0) may))
    verdict_adds place asked (verdict.Denied right) may = turns_issued asked (verdict.Denied right) (sym (ap (λ (p : Verdict × RegisterState). p.0) may))
    verdict_adds place asked (verdict.Refused refusal) may = turns_issued asked (verdict.Refused refusal) (sym (ap (λ (p : Verdict × RegisterState). p.0) may))
    verdict_adds place asked verdict.NoMemory may = omega arith

    -- ---- an item

    item_adds : (i : RegisterItem Asked Verdict) (p c : ℕ) → IsLegalRegisterItem (array_service lanes) d p c i
        → slice_index (register_step (array_service lanes) d i).issued l ≡ slice_index d.issued l + length (tickets_of (array_service lanes) l i)
    item_adds (Entered e) p c legal = verdict_adds e.place e.asked e.verdict legal.1
    item_adds (DrawnCut number at) p c legal =
        all_add d.issued l within ∙ ap (λ (n : ℕ). slice_index d.issued l + n) (sym (each_count (cut_of number at)))
    item_adds (RegisterCut at true) p c legal = omega arith
    item_adds (RegisterCut at false) p c legal = omega arith

-- ---- a list

module _ (takes : TakesPlace) where
  verdict_place : (d : RegisterState) (asked : Asked) (v : Verdict) → (left_by d asked v).places ≡ d.places + 1
  verdict_place d asked (verdict.Granted issue) = takes d asked.0.value asked.1.value
  verdict_place d asked (verdict.Answered answer) = takes d asked.0.value asked.1.value
  verdict_place d asked (verdict.Denied right) = takes d asked.0.value asked.1.value
  verdict_place d asked (verdict.Refused refusal) = takes d asked.0.value asked.1.value
  verdict_place d asked verdict.NoMemory = refl

  module _ (issues : GrantsAreIssues) (given : DecisionsIssue) (lanes : ℕ) (some : 0 < lanes) where
    -- how many places were given once the items behind one are there
    item_places : (i : RegisterItem Asked Verdict) (items : List (RegisterItem Asked Verdict)) (d : RegisterState)
        → (register_step (array_service lanes) d i).places + places items ≡ d.places + places (i ∷ items)
    item_places (Entered e) items d = let one = verdict_place d e.asked e.verdict in omega (arith, one)
    item_places (DrawnCut number at) items d = refl
    item_places (RegisterCut at true) items d = refl
    item_places (RegisterCut at false) items d = refl

    item_lanes : (i : RegisterItem Asked Verdict) (d : RegisterState) → length (register_step (array_service lanes) d i).issued ≡ length d.issued
    item_lanes (Entered e) d = (decided_on d e.asked e.verdict).lanes
    item_lanes (DrawnCut number at) d = (drawn_on d).lanes
    item_lanes (RegisterCut at found) d = (recorded_on found d).lanes

    counted : (d : RegisterState) (p c : ℕ) (items : List (RegisterItem Asked Verdict)) → length d.issued ≡ lanes
        → IsLegalRegister (array_service lanes) d p c items → IsCounted lanes items d (register_after (array_service lanes) d items)
    counted d p c [] count legal = record { places = omega arith; lanes_are = count; tickets = λ l below. omega arith }
    counted d p c (i ∷ items) count legal =
        let rest = counted (register_step (array_service lanes) d i) (places_on p i) (cuts_on c i) items (item_lanes i d ∙ count) legal.1 in
        record {
          places = rest.places ∙ item_places i items d;
          lanes_are = rest.lanes_are;
          tickets = λ l below.
              let one = item_adds lanes l below some issues given d count i p c legal.0 in
              let more = rest.tickets l below in
              let both = length-append (tickets_of (array_service lanes) l i) (issued (array_service lanes) l items) in
              omega (arith, one, more, both);
        }

pub registers_count : TakesPlace → GrantsAreIssues → DecisionsIssue → (lanes : ℕ) → RegistersCount lanes
registers_count takes issues given lanes d p c items some count legal = counted takes issues given lanes some d p c items count legal

-- ---- a fresh register

zeros : (n l : ℕ) → slice_index (replicate n 0) l ≡ 0
zeros zero l = refl
zeros (suc n) zero = refl
zeros (suc n) (suc l) = zeros n l

pub installs_are_fresh : InstallsAreFresh
installs_are_fresh c lanes run = record { places = refl; tickets = zeros lanes }

pub fresh_registers_have_room : (lanes : ℕ) → RegistersCount lanes → FreshRegistersHaveRoom lanes
fresh_registers_have_room lanes counts d p c items some count legal fresh few_places few_tickets =
    let after = counts d p c items some count legal in
    let at = after.places in
    let none = fresh.places in
    record {
      places = omega (arith, at, none, few_places);
      tickets = λ l x within.
          let below : l < lanes = subst (λ (n : ℕ). l < n) after.lanes_are within in
          let now = after.tickets l below in
          let was = fresh.tickets l in
          let few = few_tickets l below in
          let same = get_or_default_zero (register_after (array_service lanes) d items).issued l x within in
          omega (arith, now, was, few, same);
    }
