-- How many claims an item issues.
use Rattle.std.proofs.Common.{◌≡◌, ◌≢◌, ℕ, ◌+◌, ◌≤◌, List, [], ◌∷◌, ◌++◌, length, length-append, cond, Bool, true, false, eqb, eq-eqb}
use Rattle.std.proofs.Common.{ne_eqb, refl, sym, ap, ◌∙◌, arith}
use Rattle.std.specs.Prelude.{nat_lt}
use mathlib.Core.Logic.{dite}
use native.Mathlib.Decide.{ℕ_discrete}
use Rattle.lane_histories.specs.Services.{Service, Turns, no_turn, one_turn, two_turns, each_lane}
use Rattle.lane_histories.specs.Histories.{Ticket, part_of, cut_of, tickets_of, tickets_for, in_lane, in_each, issued}
use Rattle.lane_histories.specs.declared.items.RegisterItem.{RegisterItem}
use Rattle.lane_histories.specs.declared.items.RegisterItem.TheVariants.{Entered, DrawnCut, RegisterCut}
use Rattle.lane_histories.specs.declared.items.Part.TheVariants.{Only, First, Second}
use Rattle.hall_rule.specs.declared.queue.Queue.{Queue}
use Rattle.hall_rule.specs.declared.queue.Queue.TheVariants.{OfRegister, OfDesk, OfLane}
use Rattle.hall_rule.specs.declared.queue.Claim.{Claim}
use Rattle.hall_rule.specs.Sums.{total, times, once_below, upward}
use Rattle.hall_rule.specs.Queues.{same_queue}
use Rattle.hall_rule.specs.Seen.{lanes_of, lanes_issued}
use Rattle.hall_rule.specs.Claims.{same_number, numbers, waits, holds_at, holds, busy, bumped, claims_of, count_of}
use Rattle.hall_rule.proofs.Sums.{times_upward, once_no, once_step}
use Rattle.lane_histories.proofs.RegisterLists.{issued_push}

-- no ticket that was just issued is held
pub issued_hold : (q : Queue) (count : ℕ → ℕ) (lanes : List ℕ) → total (holds q) (claims_of count lanes) ≡ 0
issued_hold q count [] = refl
issued_hold q count (a ∷ lanes) = let more = issued_hold q (bumped count a) lanes in omega arith

pub issued_hold_at : (q : Queue) (n : ℕ) (count : ℕ → ℕ) (lanes : List ℕ) → total (holds_at q n) (claims_of count lanes) ≡ 0
issued_hold_at q n count [] = refl
issued_hold_at q n count (a ∷ lanes) = let more = issued_hold_at q n (bumped count a) lanes in omega arith

pub issued_busy : (count : ℕ → ℕ) (lanes : List ℕ) → total busy (claims_of count lanes) ≡ 0
issued_busy count [] = refl
issued_busy count (a ∷ lanes) = let more = issued_busy (bumped count a) lanes in omega arith

pub issued_register : (count : ℕ → ℕ) (lanes : List ℕ) → total (numbers OfRegister) (claims_of count lanes) ≡ 0
issued_register count [] = refl
issued_register count (a ∷ lanes) = let more = issued_register (bumped count a) lanes in omega arith

pub issued_desk : (count : ℕ → ℕ) (lanes : List ℕ) → total (numbers OfDesk) (claims_of count lanes) ≡ 0
issued_desk count [] = refl
issued_desk count (a ∷ lanes) = let more = issued_desk (bumped count a) lanes in omega arith

pub issued_at_register : (n : ℕ) (count : ℕ → ℕ) (lanes : List ℕ) → total (waits OfRegister n) (claims_of count lanes) ≡ 0
issued_at_register n count [] = refl
issued_at_register n count (a ∷ lanes) = let more = issued_at_register n (bumped count a) lanes in omega arith

pub issued_at_desk : (n : ℕ) (count : ℕ → ℕ) (lanes : List ℕ) → total (waits OfDesk n) (claims_of count lanes) ≡ 0
issued_at_desk n count [] = refl
issued_at_desk n count (a ∷ lanes) = let more = issued_at_desk n (bumped count a) lanes in omega arith

-- the tickets issued are the numbers from the first that was free on, each once
pub issued_at_lane : (l n : ℕ) (count : ℕ → ℕ) (lanes : List ℕ)
    → total (waits (OfLane l) n) (claims_of count lanes) + once_below n (count l) ≡ once_below n (count l + times l lanes)
issued_at_lane l n count [] = let same : once_below n (count l) ≡ once_below n (count l + 0) =
    ap (once_below n) (let z : count l ≡ count l + 0 = omega arith in z) in omega arith
issued_at_lane l n count (a ∷ lanes) =
    let more = issued_at_lane l n (bumped count a) lanes in
    let here : cond (eqb a l) (same_number (count a) n) 0 + once_below n (count l) ≡ once_below n (bumped count a l) = go (eqb a l) refl in
    let last : once_below n (bumped count a l + times l lanes) ≡ once_below n (count l + times l (a ∷ lanes)) =
    ap (once_below n) (step_on (eqb a l)) in
    omega arith
  where
    step_on : (b : Bool) → cond b (count l + 1) (count l) + times l lanes ≡ count l + (cond b 1 0 + times l lanes)
    step_on true = omega arith
    step_on false = omega arith

    go : (b : Bool) → eqb a l ≡ b → cond b (same_number (count a) n) 0 + once_below n (count l)
        ≡ once_below n (cond b (count l + 1) (count l))
    go false e = omega arith
    go true e =
        let same : a ≡ l = dite (ℕ_discrete a l) (λ s. s) (λ ne. absurd (clash (sym e ∙ ne_eqb a l ne))) in
        let step = once_step n (count l) in
        let is : same_number (count a) n ≡ same_number (count l) n = ap (λ (x : ℕ). same_number (count x) n) same in
        omega arith
      where
        clash : true ≡ false → ⊥
        clash x = cc

module _ {X : Type 0} where
  length_in_lane : (l a : ℕ) (x : X) → length (in_lane l a x) ≡ cond (eqb a l) 1 0
  length_in_lane l a x = go (eqb a l)
    where
      go : (b : Bool) → length (cond b (x ∷ []) []) ≡ cond b 1 0
      go true = refl
      go false = refl

  length_in_each : (lanes l : ℕ) (x : X) → length (in_each lanes l x) ≡ times l (upward 0 lanes)
  length_in_each lanes l x =
      let up = times_upward l 0 lanes in
      let none = once_no l 0 (omega arith) in
      let same : once_below l (0 + lanes) ≡ once_below l lanes = ap (once_below l) (let z : 0 + lanes ≡ lanes = omega arith in z) in
      let here : length (in_each lanes l x) ≡ once_below l lanes = go (nat_lt l lanes) in
      omega arith
    where
      go : (b : Bool) → length (cond b (x ∷ []) []) ≡ cond b 1 0
      go true = refl
      go false = refl

module _ (service : Service) where
  pub length_for : (l place : ℕ) (t : Turns service.Task) → length (tickets_for service l place t) ≡ times l (lanes_of service.lanes t)
  length_for l place no_turn = refl
  length_for l place (one_turn a task) = let one = length_in_lane l a (part_of place Only task) in omega arith
  length_for l place (two_turns a task b next) =
      let one = length_in_lane l a (part_of place First task) in
      let two = length_in_lane l b (part_of place (Second a) next) in
      let both = length-append (in_lane l a (part_of place First task)) (in_lane l b (part_of place (Second a) next)) in omega arith
  length_for l place (each_lane task) = length_in_each service.lanes l (part_of place Only task)

  pub length_of : (l : ℕ) (e : RegisterItem service.Asked service.Verdict)
      → length (tickets_of service l e) ≡ times l (lanes_issued service e)
  length_of l (Entered e) = length_for l e.place (service.turns e.asked e.verdict)
  length_of l (DrawnCut number at) = length_in_each {X = Ticket service.Task} service.lanes l (cut_of number at)
  length_of l (RegisterCut at found) = refl

  -- a lane's count goes on by the tickets that an item issues
  pub count_pushed : (l : ℕ) (register : List (RegisterItem service.Asked service.Verdict)) (e : RegisterItem service.Asked service.Verdict)
      → count_of service (register ++ e ∷ []) l ≡ count_of service register l + times l (lanes_issued service e)
  count_pushed l register e = ap length (issued_push service l register e)
      ∙ length-append (issued service l register) (tickets_of service l e) ∙ ap (λ (n : ℕ). count_of service register l + n) (length_of l e)

-- two numbers on one queue are two claims
pub two_held : (q : Queue) (a b : ℕ) → a ≢ b → (c : Claim) → holds_at q a c + holds_at q b c ≤ holds q c
two_held q a b ne c = go c.held (same_queue c.queue q)
  where
    apart : same_number c.number a + same_number c.number b ≤ 1
    apart = dite (ℕ_discrete c.number a)
        (λ e. let z : same_number c.number b ≡ 0 = ap (λ (t : Bool). cond {A = ℕ} t 1 0) (ne_eqb c.number b (λ f. ne (sym e ∙ f))) in
        let one = at_most (eqb c.number a) in omega arith)
        (λ n. let z : same_number c.number a ≡ 0 = ap (λ (t : Bool). cond {A = ℕ} t 1 0) (ne_eqb c.number a n) in
        let one = at_most (eqb c.number b) in omega arith)
      where
        at_most : (t : Bool) → cond t 1 0 ≤ 1
        at_most true = omega arith
        at_most false = omega arith

    go : (held same : Bool) → cond held (cond same (same_number c.number a) 0) 0 + cond held (cond same (same_number c.number b) 0) 0 ≤ cond
        held (cond same 1 0) 0
    go true true = apart
    go true false = omega arith
    go false same = omega arith

pub held_le : (q : Queue) (n : ℕ) (c : Claim) → holds_at q n c ≤ holds q c
held_le q n c = go c.held (same_queue c.queue q) (eqb c.number n)
  where
    go : (held same t : Bool) → cond held (cond same (cond t 1 0) 0) 0 ≤ cond held (cond same 1 0) 0
    go true true true = omega arith
    go true true false = omega arith
    go true false t = omega arith
    go false same t = omega arith

pub number_self : (n : ℕ) → same_number n n ≡ 1
number_self n = ap (λ (t : Bool). cond {A = ℕ} t 1 0) (eq-eqb n n refl)
