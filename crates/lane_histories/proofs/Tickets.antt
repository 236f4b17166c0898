-- The numbers of tickets: a ticket's number is its index among those that its lane was issued.
use Rattle.std.proofs.Common.{◌≡◌, ℕ, zero, suc, ◌<◌, ◌≤◌, ◌*◌, Bool, true, false, cond, List, [], ◌∷◌, ◌++◌, length, Some, refl, ap, sym}
use Rattle.std.proofs.Common.{◌∙◌, ◌+◌, subst, arith, length-append, append_assoc, eq-eqb}
use Rattle.std.specs.Prelude.{◌==◌, nat_lt, slice_get}
use Rattle.std.proofs.lemmas.Bool.{lt-ltb}
use Rattle.lane_histories.specs.Services.{Service, Turns, each_lane, no_turn, one_turn, two_turns}
use Rattle.lane_histories.specs.Counting.{CountsPlaces, CountsTickets, RegistersCount}
use Rattle.lane_histories.specs.Histories.{RegisterItem, Entry, Entered, Only, First, Second, part_of, Ticket, History, StartsWith, in_lane}
use Rattle.lane_histories.specs.Histories.{tickets_for, tickets, tickets_of, issued, places, in_each, cut_of, DrawnCut, RegisterCut}
use Rattle.lane_histories.specs.Histories.{register_step, register_after, RegisterList, LaneList, TicketList}
use Rattle.lane_histories.specs.Legal.{IsNext, IsLegalRegisterItem, IsLegalRegister, places_on, cuts_on}
use Rattle.lane_histories.proofs.Prefixes.{issued_both}
use Rattle.lane_histories.proofs.RegisterLists.{issued_push}

module _ {X : Type 0} where
  pub get_front : (xs ys : List X) (n : ℕ) (x : X) → slice_get xs n ≡ Some x → slice_get (xs ++ ys) n ≡ Some x
  get_front [] ys n x is = absurd (cc)
  get_front (y ∷ xs) ys zero x is = is
  get_front (y ∷ xs) ys (suc n) x is = get_front xs ys n x is

  get_next : (xs ys : List X) (x : X) → slice_get (xs ++ x ∷ ys) (length xs) ≡ Some x
  get_next [] ys x = refl
  get_next (y ∷ xs) ys x = get_next xs ys x

  -- what stands behind the first elements
  next_is : (xs front : List X) (x : X) → StartsWith xs front → slice_get xs (length front) ≡ Some x
      → (rest : List X) × (xs ≡ front ++ x ∷ rest)
  next_is xs front x starts is =
      let rest = behind front starts.0 x (subst (λ (l : List X). slice_get l (length front) ≡ Some x) starts.1 is) in
      (rest.0, starts.1 ∙ ap (λ l. front ++ l) rest.1)
    where
      behind : (front more : List X) (x : X) → slice_get (front ++ more) (length front) ≡ Some x → (rest : List X) × (more ≡ x ∷ rest)
      behind [] [] x is = absurd (cc)
      behind [] (y ∷ more) x is = let same : y ≡ x = cc in (more, ap (λ z. z ∷ more) same)
      behind (y ∷ front) more x is = behind front more x is

module _ (s : Service) where
  -- a ticket that was issued stays
  pub ticket_stays : (l n : ℕ) (ticket : Ticket s.Task) (register more : RegisterList s)
      → slice_get (issued s l register) n ≡ Some ticket → slice_get (issued s l (register ++ more)) n ≡ Some ticket
  ticket_stays l n ticket register more is = ap (λ (ts : TicketList s). slice_get ts n) (issued_both s l register more)
      ∙ get_front (issued s l register) (issued s l more) n ticket is

  tickets_length : (h : History s) (l : ℕ) → length (tickets (h.lane l)) ≡ length (h.lane l)
  tickets_length h l = count (h.lane l)
    where
      count : (items : LaneList s) → length (tickets items) ≡ length items
      count [] = refl
      count (i ∷ items) = ap suc (count items)

  -- the lane's next ticket is the one whose number is the length of its list
  pub next_by_number : (h : History s) (l : ℕ) (ticket : Ticket s.Task) → StartsWith (issued s l h.register) (tickets (h.lane l))
      → slice_get (issued s l h.register) (length (h.lane l)) ≡ Some ticket → IsNext s h l ticket
  next_by_number h l ticket starts is =
      next_is (issued s l h.register) (tickets (h.lane l)) ticket starts
      (subst (λ (n : ℕ). slice_get (issued s l h.register) n ≡ Some ticket) (sym (tickets_length h l)) is)

  -- the first ticket that a new item gets in a lane has the lane's next number
  at_the_end : (register : RegisterList s) (i : RegisterItem s.Asked s.Verdict) (l : ℕ) (ticket : Ticket s.Task) (more : TicketList s)
      → tickets_of s l i ≡ ticket ∷ more → slice_get (issued s l (register ++ i ∷ [])) (length (issued s l register)) ≡ Some ticket
  at_the_end register i l ticket more are =
      ap (λ (ts : TicketList s). slice_get ts (length (issued s l register)))
      (issued_push s l register i ∙ ap (λ ts. issued s l register ++ ts) are)
      ∙ get_next (issued s l register) more ticket

  -- so have those of a drawn cut
  pub cut_number : (register : RegisterList s) (l number c : ℕ) → l < s.lanes
      → slice_get (issued s l (register ++ DrawnCut number c ∷ [])) (length (issued s l register)) ≡ Some (cut_of number c)
  cut_number register l number c below = at_the_end register (DrawnCut number c) l (cut_of number c) []
      (ap (λ (b : Bool). cond {A = TicketList s} b (cut_of number c ∷ []) []) (lt-ltb l s.lanes below))

  -- the tickets that a new entry gets have the next numbers of their lanes
  module _ (register : RegisterList s) (e : Entry s.Asked s.Verdict) where
    pub one_number : (l : ℕ) (task : s.Task) → s.turns e.asked e.verdict ≡ one_turn l task
        → slice_get (issued s l (register ++ Entered e ∷ [])) (length (issued s l register)) ≡ Some (part_of e.place Only task)
    one_number l task is = at_the_end register (Entered e) l (part_of e.place Only task) []
        (ap (tickets_for s l e.place) is ∙ ap (λ (b : Bool). cond b (part_of e.place Only task ∷ []) []) (eq-eqb l l refl))

    pub each_number : (l : ℕ) (task : s.Task) → l < s.lanes → s.turns e.asked e.verdict ≡ each_lane task
        → slice_get (issued s l (register ++ Entered e ∷ [])) (length (issued s l register)) ≡ Some (part_of e.place Only task)
    each_number l task below is = at_the_end register (Entered e) l (part_of e.place Only task) []
        (ap (tickets_for s l e.place) is ∙ ap (λ (b : Bool). cond b (part_of e.place Only task ∷ []) []) (lt-ltb l s.lanes below))

    pub first_number : (a b : ℕ) (task next : s.Task) → s.turns e.asked e.verdict ≡ two_turns a task b next
        → slice_get (issued s a (register ++ Entered e ∷ [])) (length (issued s a register)) ≡ Some (part_of e.place First task)
    first_number a b task next is =
        at_the_end register (Entered e) a (part_of e.place First task) (in_lane a b (part_of e.place (Second a) next))
        (ap (tickets_for s a e.place) is ∙ ap (λ (here : Bool). cond here (part_of e.place First task ∷ []) [] ++ in_lane a b
        (part_of e.place (Second a) next)) (eq-eqb a a refl))

    -- where both turns are in one lane, the second's number is the next but one
    pub second_number : (a b : ℕ) (task next : s.Task) → s.turns e.asked e.verdict ≡ two_turns a task b next
        → slice_get (issued s b (register ++ Entered e ∷ [])) (length (issued s b register ++ in_lane b a (part_of e.place First task)))
        ≡ Some (part_of e.place (Second a) next)
    second_number a b task next is =
        let one : TicketList s = in_lane b a (part_of e.place First task) in
        let two : Ticket s.Task = part_of e.place (Second a) next in
        let are : tickets_of s b (Entered e) ≡ one ++ two ∷ [] = ap (tickets_for s b e.place) is
        ∙ ap (λ (here : Bool). one ++ cond here (two ∷ []) []) (eq-eqb b b refl) in
        let all : issued s b (register ++ Entered e ∷ []) ≡ (issued s b register ++ one) ++ two ∷ [] =
        issued_push s b register (Entered e) ∙ ap (λ ts. issued s b register ++ ts) are
        ∙ sym (append_assoc (issued s b register) one (two ∷ [])) in
        ap (λ (ts : TicketList s). slice_get ts (length (issued s b register ++ one))) all ∙ get_next (issued s b register ++ one) [] two

  -- ---- how many there are

  in_lane_few : {X : Type 0} (lane other : ℕ) (x : X) → length (in_lane lane other x) ≤ 1
  in_lane_few lane other x = elim (other == lane) as (λ b. length (cond b (x ∷ []) []) ≤ 1) [ true ↦ omega arith | false ↦ omega arith ]

  in_each_few : {X : Type 0} (lanes lane : ℕ) (x : X) → length (in_each lanes lane x) ≤ 1
  in_each_few lanes lane x = elim (nat_lt lane lanes) as (λ b. length (cond b (x ∷ []) []) ≤ 1) [ true ↦ omega arith | false ↦ omega arith ]

  turns_few : (l place : ℕ) (turns : Turns s.Task) → length (tickets_for s l place turns) ≤ 2
  turns_few l place no_turn = omega arith
  turns_few l place (one_turn a task) = let one = in_lane_few l a (part_of place Only task) in omega arith
  turns_few l place (two_turns a task b next) =
      let one = in_lane_few l a (part_of place First task) in
      let two = in_lane_few l b (part_of place (Second a) next) in
      let both = length-append (in_lane l a (part_of place First task)) (in_lane l b (part_of place (Second a) next)) in omega arith
  turns_few l place (each_lane task) = let one = in_each_few s.lanes l (part_of place Only task) in omega arith

  item_few : (l : ℕ) (i : RegisterItem s.Asked s.Verdict) → length (tickets_of s l i) ≤ 2
  item_few l (Entered e) = turns_few l e.place (s.turns e.asked e.verdict)
  item_few l (DrawnCut number c) = let one = in_each_few {X = Ticket s.Task} s.lanes l (cut_of number c) in omega arith
  item_few l (RegisterCut p found) = omega arith

  pub issued_few : (l : ℕ) (register : RegisterList s) → length (issued s l register) ≤ 2 * length register
  issued_few l [] = omega arith
  issued_few l (i ∷ register) =
      let one = item_few l i in
      let more = issued_few l register in
      let both = length-append (tickets_of s l i) (issued s l register) in omega arith

  -- ---- a register that counts what it gave

  module _ (counts : s.Register → ℕ → ℕ) (c : CountsTickets s counts) (l : ℕ) where
    counted : (i : RegisterItem s.Asked s.Verdict) (d : s.Register) (p n : ℕ) → IsLegalRegisterItem s d p n i
        → counts (register_step s d i) l ≡ counts d l + length (tickets_of s l i)
    counted (Entered e) d p n legal = c.decided d e.asked e.verdict l e.place legal.1
    counted (DrawnCut number at) d p n legal = c.drawn d l number at
    counted (RegisterCut at found) d p n legal = let same = c.recorded d l found in omega (arith, same)

    -- so its count is the number of the lane's next ticket
    pub counts_issued : (register : RegisterList s) (d : s.Register) (p n : ℕ) → IsLegalRegister s d p n register
        → counts (register_after s d register) l ≡ counts d l + length (issued s l register)
    counts_issued [] d p n legal = omega arith
    counts_issued (i ∷ register) d p n legal =
        let one : counts (register_step s d i) l ≡ counts d l + length (tickets_of s l i) = counted i d p n legal.0 in
        let more : counts (register_after s (register_step s d i) register) l
        ≡ counts (register_step s d i) l + length (issued s l register) =
        counts_issued register (register_step s d i) (places_on p i) (cuts_on n i) legal.1 in
        let both : length (tickets_of s l i ++ issued s l register) ≡ length (tickets_of s l i) + length (issued s l register) =
        length-append (tickets_of s l i) (issued s l register) in
        omega arith

  module _ (count : s.Register → ℕ) (c : CountsPlaces s count) where
    pub counts_places : (register : RegisterList s) (d : s.Register) (p n : ℕ) → IsLegalRegister s d p n register
        → count (register_after s d register) ≡ count d + places register
    counts_places [] d p n legal = omega arith
    counts_places (Entered e ∷ register) d p n legal =
        let one = c.decided d e.asked e.verdict legal.0.1 in
        let more = counts_places register (s.decided d e.asked e.verdict) (suc p) n legal.1 in
        omega (arith, one, more)
    counts_places (DrawnCut number at ∷ register) d p n legal =
        let one = c.drawn d in
        let more = counts_places register (s.drawn d) p (suc n) legal.1 in omega (arith, one, more)
    counts_places (RegisterCut at found ∷ register) d p n legal =
        let one = c.recorded d found in
        let more = counts_places register (s.recorded found d) p n legal.1 in omega (arith, one, more)

  pub registers_count : RegistersCount s
  registers_count = record {
    tickets = λ counts c start h legal l. counts_issued counts c l h.register start.register 0 0 legal.register;
    places = λ count c start h legal. counts_places count c h.register start.register 0 0 legal.register;
    few = λ h l. issued_few l h.register;
  }
