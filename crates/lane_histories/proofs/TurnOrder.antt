-- A lane takes its turns in the order in which their tickets were issued.
use Rattle.std.proofs.Common.{◌≡◌, ℕ, zero, suc, List, [], ◌∷◌, ◌++◌, Some, ap, ◌∙◌, subst}
use Rattle.std.specs.Prelude.{slice_get}
use Rattle.lane_histories.specs.Services.{Service}
use Rattle.lane_histories.specs.Histories.{LaneItem, LaneList, Ticket, ticket_of, tickets, issued}
use Rattle.lane_histories.specs.Laws.{TicketsAreNumbered, TicketsStay, TurnsComeInOrder}
use Rattle.lane_histories.proofs.Lists.{all_at}
use Rattle.lane_histories.proofs.Orders.{InOrder, all_tickets, lane_ordered}
use Rattle.lane_histories.proofs.Tickets.{get_front, ticket_stays}

module _ (s : Service) where
  order_from : (front items : LaneList s) → InOrder (tickets (front ++ items)) → InOrder (tickets items)
  order_from [] items order = order
  order_from (i ∷ front) items order = order_from front items order.1

  pub turns_come_in_order : TurnsComeInOrder s
  turns_come_in_order start h legal l front back i k is here =
      let order = order_from front (i ∷ back) (subst (λ (items : LaneList s). InOrder (tickets items)) is (lane_ordered s start h l legal)) in
      all_at _ back k (all_tickets s _ back order.0) here

  ticket_is : (items : LaneList s) (n : ℕ) (i : LaneItem s.Task s.Reply) → slice_get items n ≡ Some i
      → slice_get (tickets items) n ≡ Some (ticket_of i)
  ticket_is [] n i is = absurd (cc)
  ticket_is (x ∷ items) zero i is = let same : x ≡ i = cc in ap (λ (y : LaneItem s.Task s.Reply). Some (ticket_of y)) same
  ticket_is (x ∷ items) (suc n) i is = ticket_is items n i is

  pub tickets_are_numbered : TicketsAreNumbered s
  tickets_are_numbered start h legal l n i is =
      let starts = legal.in_order l in
      ap (λ (ts : List (Ticket s.Task)). slice_get ts n) starts.1 ∙ get_front (tickets (h.lane l)) starts.0 n (ticket_of i) (ticket_is (h.lane l) n i is)

  pub tickets_stay : TicketsStay s
  tickets_stay h g prefix l n ticket is =
      let more = prefix.register in
      ap (λ items. slice_get (issued s l items) n) more.1 ∙ ticket_stays s l n ticket h.register more.0 is
