-- The outcome of a part of a request is found in a list in order.
use Rattle.std.proofs.Common.{◌≡◌, ⊎_elim, ℕ, ◌<◌, Bool, true, false, cond, [], ◌∷◌, Some, refl, ap, ◌∙◌, arith, eq-eqb, ne_eqb}
use Rattle.lane_histories.specs.Services.{Service}
use Rattle.lane_histories.specs.Histories.{IsIn, LaneItem, LaneList, Part, Only, First, Second, part_of, Outcome, Passed, WasCut, ticket_of, tickets}
use Rattle.lane_histories.specs.TicketOrder.{IsPair, Precedes}
use Rattle.lane_histories.specs.Replies.{is_same_part, outcome_of}
use Rattle.lane_histories.specs.Laws.{OutcomesAreFound}
use Rattle.lane_histories.proofs.Lists.{all_at}
use Rattle.lane_histories.proofs.Orders.{InOrder, all_tickets, lane_ordered}

pub same_itself : (part : Part) → is_same_part part part ≡ true
same_itself Only = refl
same_itself First = refl
same_itself (Second a) = eq-eqb a a refl

pair_differs : (a b : Part) → IsPair a b → is_same_part a b ≡ false
pair_differs Only b pair = absurd pair
pair_differs First Only pair = absurd pair
pair_differs First First pair = absurd pair
pair_differs First (Second l) pair = refl
pair_differs (Second l) b pair = absurd pair

module _ (s : Service) where
  -- the first item of a list is of this part
  pub found_first : (place : ℕ) (part : Part) (task : s.Task) (y : Outcome s.Reply) (rest : LaneList s)
      → outcome_of place part (Passed place part task y ∷ rest) ≡ Some y
  found_first place part task y rest =
      ap (λ (b : Bool). cond b (cond (is_same_part part part) (Some y) (outcome_of place part rest)) (outcome_of place part rest)) (eq-eqb place place refl)
      ∙ ap (λ (b : Bool). cond b (Some y) (outcome_of place part rest)) (same_itself part)

  -- it is of an earlier ticket: the search goes on
  goes_past : (place : ℕ) (part : Part) (task : s.Task) (i : LaneItem s.Task s.Reply) (rest : LaneList s)
      → Precedes (ticket_of i) (part_of place part task) → outcome_of place part (i ∷ rest) ≡ outcome_of place part rest
  goes_past place part task (WasCut number c found) rest before = refl
  goes_past place part task (Passed other there act y) rest before = ⊎_elim
      (λ (less : other < place).
      ap (λ (b : Bool). cond b (cond (is_same_part there part) (Some y) (outcome_of place part rest)) (outcome_of place part rest)) (ne_eqb other place (λ e. absurd (omega (arith, e)))))
      (λ (same : (other ≡ place) × IsPair there part).
      ap (λ (b : Bool). cond b (cond (is_same_part there part) (Some y) (outcome_of place part rest)) (outcome_of place part rest)) (eq-eqb other place same.0)
      ∙ ap (λ (b : Bool). cond b (Some y) (outcome_of place part rest)) (pair_differs there part same.1))
      before

  outcome_in : (items : LaneList s) (place : ℕ) (part : Part) (task : s.Task) (y : Outcome s.Reply) → InOrder (tickets items)
      → IsIn items (Passed place part task y) → outcome_of place part items ≡ Some y
  outcome_in [] place part task y order here = absurd here
  outcome_in (i ∷ items) place part task y order here = ⊎_elim
      (λ same. ap (λ (x : LaneItem s.Task s.Reply). outcome_of place part (x ∷ items)) same ∙ found_first place part task y items)
      (λ later. goes_past place part task i items (all_at _ items (Passed place part task y) (all_tickets s _ items order.0) later) ∙ outcome_in items place part task y order.1 later)
      here

  pub outcomes_are_found : OutcomesAreFound s
  outcomes_are_found start h l place part task y legal here = outcome_in (h.lane l) place part task y (lane_ordered s start h l legal) here
