-- The order in which tickets are issued.
--     InOrder ts        each of them before all later ones
use Rattle.std.proofs.Common.{◌≡◌, ◌⊎◌, inl, inr, ⊎_elim, ℕ, suc, ◌<◌, ◌≤◌, Bool, true, false, cond, List, [], ◌∷◌, ◌++◌, refl, ap, sym, ◌∙◌, subst, arith}
use Rattle.std.specs.Prelude.{◌==◌, nat_lt}
use Rattle.std.specs.List.{AllByRecursion}
use Rattle.lane_histories.specs.Services.{Service, World, Turns, no_turn, one_turn, two_turns, each_lane}
use Rattle.lane_histories.specs.Histories.{Entered, DrawnCut, RegisterCut, Part, Only, First, Second, Ticket, part_of, cut_of, Outcome, LaneItem, Passed, ticket_of, tickets, tickets_for, issued, in_each, register_step, IsIn, History, RegisterList, LaneList, TicketList}
use Rattle.lane_histories.specs.TicketOrder.{Precedes}
use Rattle.lane_histories.specs.Legal.{IsLegalRegister, IsLegal}
use Rattle.lane_histories.proofs.Lists.{all_at, all_weaker, all_front, all_back}

abbrev pub InOrder : {T : Type 0} → List (Ticket T) → Type 0
InOrder [] = Unit {0}
InOrder (t ∷ ts) = AllByRecursion (Precedes t) ts × InOrder ts

-- issued when so many places were given and so many cuts drawn, or later
abbrev pub IsIssuedSince : {T : Type 0} → ℕ → ℕ → Ticket T → Type 0
IsIssuedSince places cuts (part_of place part task) = places ≤ place
IsIssuedSince places cuts (cut_of number at) = (cuts ≤ number) × (places ≤ at)

pub record Ordered {T : Type 0} (places cuts : ℕ) (ts : List (Ticket T)) : Type 0 where
  pub since : AllByRecursion (IsIssuedSince places cuts) ts
  pub order : InOrder ts

module _ (s : Service) where
  since_earlier : (places cuts p n : ℕ) (t : Ticket s.Task) → p ≤ places → n ≤ cuts → IsIssuedSince places cuts t → IsIssuedSince p n t
  since_earlier places cuts p n (part_of place part task) le few since = omega arith
  since_earlier places cuts p n (cut_of number at) le few since = let a = since.0 in let b = since.1 in (omega arith, omega arith)

  before_since : (p cuts : ℕ) (part : Part) (task : s.Task) (t : Ticket s.Task) → IsIssuedSince (suc p) cuts t
      → Precedes (part_of p part task) t
  before_since p cuts part task (part_of place next other) since = inl since
  before_since p cuts part task (cut_of number at) since = since.1

  cut_before_since : (number at : ℕ) (t : Ticket s.Task) → IsIssuedSince at (suc number) t → Precedes (cut_of number at) t
  cut_before_since number at (part_of place next other) since = since
  cut_before_since number at (cut_of later there) since = since

  one_ordered : (p n : ℕ) (part : Part) (task : s.Task) (ts : TicketList s) → Ordered (suc p) n ts → Ordered p n (part_of p part task ∷ ts)
  one_ordered p n part task ts rest = record {
    since = (omega arith, all_weaker _ _ ts (λ t h. since_earlier (suc p) n p n t (omega arith) (omega arith) h) rest.since);
    order = (all_weaker _ _ ts (λ t h. before_since p n part task t h) rest.since, rest.order);
  }

  earlier_ordered : (p n : ℕ) (ts : TicketList s) → Ordered (suc p) n ts → Ordered p n ts
  earlier_ordered p n ts rest = record {
    since = all_weaker _ _ ts (λ t h. since_earlier (suc p) n p n t (omega arith) (omega arith) h) rest.since;
    order = rest.order;
  }

  maybe_ordered : (p n : ℕ) (part : Part) (task : s.Task) (here : Bool) (ts : TicketList s) → Ordered (suc p) n ts
      → Ordered p n (cond here (part_of p part task ∷ []) [] ++ ts)
  maybe_ordered p n part task true ts rest = one_ordered p n part task ts rest
  maybe_ordered p n part task false ts rest = earlier_ordered p n ts rest

  pair_ordered : (p n at : ℕ) (task next : s.Task) (here there : Bool) (ts : TicketList s) → Ordered (suc p) n ts
      → Ordered p n ((cond here (part_of p First task ∷ []) [] ++ cond there (part_of p (Second at) next ∷ []) []) ++ ts)
  pair_ordered p n at task next true true ts rest = let later = one_ordered p n (Second at) next ts rest in record {
    since = (omega arith, later.since);
    order = ((inr (refl, tt), (one_ordered p n First task ts rest).order.0), later.order);
  }
  pair_ordered p n at task next true false ts rest = one_ordered p n First task ts rest
  pair_ordered p n at task next false true ts rest = one_ordered p n (Second at) next ts rest
  pair_ordered p n at task next false false ts rest = earlier_ordered p n ts rest

  turns_ordered : (l p n : ℕ) (turns : Turns s.Task) (ts : TicketList s) → Ordered (suc p) n ts
      → Ordered p n (tickets_for s l p turns ++ ts)
  turns_ordered l p n no_turn ts rest = earlier_ordered p n ts rest
  turns_ordered l p n (one_turn at task) ts rest = maybe_ordered p n Only task (at == l) ts rest
  turns_ordered l p n (two_turns at task after next) ts rest = pair_ordered p n at task next (at == l) (after == l) ts rest
  turns_ordered l p n (each_lane task) ts rest = maybe_ordered p n Only task (nat_lt l s.lanes) ts rest

  cut_ordered : (places cuts : ℕ) (here : Bool) (ts : TicketList s) → Ordered places (suc cuts) ts
      → Ordered places cuts (cond here (cut_of cuts places ∷ []) [] ++ ts)
  cut_ordered places cuts true ts rest = record {
    since = ((omega arith, omega arith), all_weaker _ _ _ (λ t h. since_earlier places (suc cuts) places cuts t (omega arith) (omega arith) h) rest.since);
    order = (all_weaker _ _ _ (λ t h. cut_before_since cuts places t h) rest.since, rest.order);
  }
  cut_ordered places cuts false ts rest = record {
    since = all_weaker _ _ _ (λ t h. since_earlier places (suc cuts) places cuts t (omega arith) (omega arith) h) rest.since;
    order = rest.order;
  }

  pub issued_ordered : (l : ℕ) (d : s.Register) (places cuts : ℕ) (items : RegisterList s) → IsLegalRegister s d places cuts items
      → Ordered places cuts (issued s l items)
  issued_ordered l d places cuts [] legal = record { since = tt; order = tt }
  issued_ordered l d places cuts (Entered e ∷ items) legal =
      let rest = issued_ordered l (register_step s d (Entered e)) (suc places) cuts items legal.1 in
      subst (λ (p : ℕ). Ordered places cuts (tickets_for s l p (s.turns e.asked e.verdict) ++ issued s l items)) (sym legal.0.0) (turns_ordered l places cuts (s.turns e.asked e.verdict) (issued s l items) rest)
  issued_ordered l d places cuts (DrawnCut number at ∷ items) legal =
      let rest = issued_ordered l (s.drawn d) places (suc cuts) items legal.1 in
      let same : number ≡ cuts = legal.0.0 in
      let there : at ≡ places = legal.0.1 in
      subst (λ (x : ℕ × ℕ). Ordered places cuts (in_each s.lanes l (cut_of x.0 x.1) ++ issued s l items)) (λ i. (sym same i, sym there i)) (cut_ordered places cuts (nat_lt l s.lanes) (issued s l items) rest)
  issued_ordered l d places cuts (RegisterCut at found ∷ items) legal = issued_ordered l (s.recorded found d) places cuts items legal.1

  pub order_front : (xs ys : TicketList s) → InOrder (xs ++ ys) → InOrder xs
  order_front [] ys order = tt
  order_front (x ∷ xs) ys order = (all_front _ xs ys order.0, order_front xs ys order.1)

  pub lane_ordered : (start : World s) (h : History s) (l : ℕ) → IsLegal s start h → InOrder (tickets (h.lane l))
  lane_ordered start h l legal =
      let starts = legal.in_order l in
      order_front (tickets (h.lane l)) starts.0 (subst InOrder starts.1 (issued_ordered l start.register 0 0 h.register legal.register).order)

  -- ---- items in order

  pub all_tickets : (P : Ticket s.Task → Type 0) (items : LaneList s) → AllByRecursion P (tickets items)
      → AllByRecursion (λ i. P (ticket_of i)) items
  all_tickets P [] a = tt
  all_tickets P (i ∷ items) a = (a.0, all_tickets P items a.1)

  pub in_tickets : (items : LaneList s) (i : LaneItem s.Task s.Reply) → IsIn items i → IsIn (tickets items) (ticket_of i)
  in_tickets [] i here = absurd here
  in_tickets (x ∷ items) i here = ⊎_elim (λ same. inl (ap ticket_of same)) (λ later. inr (in_tickets items i later)) here

  -- all behind an item have later tickets
  pub behind : (xs ys : LaneList s) (i : LaneItem s.Task s.Reply) → InOrder (tickets (xs ++ ys)) → IsIn xs i
      → AllByRecursion (λ j. Precedes (ticket_of i) (ticket_of j)) ys
  behind [] ys i order here = absurd here
  behind (x ∷ xs) ys i order here = ⊎_elim
      (λ same. subst (λ (y : LaneItem s.Task s.Reply). AllByRecursion (λ j. Precedes (ticket_of y) (ticket_of j)) ys) same (all_back _ xs ys (all_tickets _ (xs ++ ys) order.0)))
      (λ later. behind xs ys i order.1 later)
      here

  -- of two items in a list one is the other, or one has the later ticket
  pub either_first : (items : LaneList s) (i j : LaneItem s.Task s.Reply) → InOrder (tickets items) → IsIn items i → IsIn items j
      → (i ≡ j) ⊎ (Precedes (ticket_of i) (ticket_of j) ⊎ Precedes (ticket_of j) (ticket_of i))
  either_first [] i j order a b = absurd a
  either_first (x ∷ items) i j order a b =
      let behind_x = all_tickets _ items order.0 in
      ⊎_elim
      (λ (i_here : x ≡ i). ⊎_elim
      (λ (j_here : x ≡ j). inl (sym i_here ∙ j_here))
      (λ j_later. inr (inl (subst (λ (y : LaneItem s.Task s.Reply). Precedes (ticket_of y) (ticket_of j)) i_here (all_at _ items j behind_x j_later))))
      b)
      (λ i_later. ⊎_elim
      (λ (j_here : x ≡ j). inr (inr (subst (λ (y : LaneItem s.Task s.Reply). Precedes (ticket_of y) (ticket_of i)) j_here (all_at _ items i behind_x i_later))))
      (λ j_later. either_first items i j order.1 i_later j_later)
      b)
      a

  -- an item that comes behind others has none of their tickets
  pub same_first : (items : LaneList s) (place : ℕ) (task other : s.Task) (x y : Outcome s.Reply) → InOrder (tickets items)
      → IsIn items (Passed place First task x) → IsIn items (Passed place First other y)
      → Passed place First task x ≡ Passed place First other y
  same_first items place task other x y order a b = ⊎_elim
      (λ same. same)
      (λ differ. absurd (⊎_elim never never differ))
      (either_first items (Passed place First task x) (Passed place First other y) order a b)
    where
      never : (place < place) ⊎ ((place ≡ place) × ⊥) → ⊥
      never h = ⊎_elim (λ less. omega arith) (λ pair. pair.1) h
