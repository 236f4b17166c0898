-- The next turn of a lane finds its objects as it needs them.
use Rattle.std.proofs.Common.{◌≡◌, ◌⊎◌, inl, inr, ⊎_elim, ℕ, Bool, true, false, cond, [], ◌∷◌, ◌++◌, refl, ap, sym, subst, ◌∙◌, zero, suc, ◌+◌, take, drop, arith, append_assoc}
use Rattle.std.specs.Prelude.{◌==◌, nat_lt}
use Rattle.std.specs.List.{AllByRecursion}
use Rattle.lane_histories.specs.Services.{Service, Turns, World, no_turn, one_turn, two_turns, each_lane}
use Rattle.lane_histories.specs.Histories.{History, objects_after, RegisterItem, Entered, DrawnCut, RegisterCut, Part, Only, First, Second, Ticket, part_of, cut_of, Outcome, Done, Short, Skipped, LaneItem, Passed, WasCut, ticket_of, tickets, tickets_for, tickets_of, issued, register_step, objects_left, objects_step, register_at, RegisterList, LaneList, TicketList}
use Rattle.lane_histories.specs.Legal.{IsLegalRegister, IsNext, IsLegal, cuts_on, places_on}
use Rattle.lane_histories.specs.Kept.{IsBelow}
use Rattle.lane_histories.specs.Ready.{AreReady, FindsAll, GivesOut, KeptIsGiven, Readiness, TurnsAreReady}
use Rattle.lane_histories.proofs.Lists.{all_front, head_is, tail_is, take_drop}
use Rattle.lane_histories.proofs.Orders.{IsIssuedSince, issued_ordered}
use Rattle.lane_histories.proofs.Prefixes.{tickets_both}

module _ (s : Service) (r : Readiness s) (g : GivesOut s r) where
  abbrev Finds : Ticket s.Task → s.Objects → Type 0
  Finds (part_of place part task) o = r.Needs task o
  Finds (cut_of number c) o = Unit {0}

  -- a ticket finds what it needs, and leaves what is given after it
  abbrev Serves : (s.Objects → Type 0) → (s.Objects → Type 0) → Ticket s.Task → Type 0
  Serves Before After ticket = (o : s.Objects) → Before o → Finds ticket o × ((i : LaneItem s.Task s.Reply) → ticket_of i ≡ ticket → After (objects_step s o i))

  -- so do the tickets of one item of the register's list, in one lane
  abbrev AllServe : (s.Objects → Type 0) → (s.Objects → Type 0) → TicketList s → Type 0
  AllServe Before After [] = (o : s.Objects) → Before o → After o
  AllServe Before After (t ∷ []) = Serves Before After t
  AllServe Before After (t ∷ u ∷ ts) = Serves Before Before t × AllServe Before After (u ∷ ts)

  -- the next ticket is among these; or these were passed, and it is among the later ones
  abbrev Reached : (s.Objects → Type 0) → TicketList s → s.Objects → LaneList s → Ticket s.Task → TicketList s → Type 0
  Reached After later o rest ticket more =
      Finds ticket (objects_after s o rest)
      ⊎ ((now : s.Objects) × (left : LaneList s) × After now × (later ≡ tickets left ++ ticket ∷ more) × (objects_after s o rest ≡ objects_after s now left))

  reached : (Before After : s.Objects → Type 0) (ts later : TicketList s) (o : s.Objects) (rest : LaneList s) (ticket : Ticket s.Task) (more : TicketList s)
      → AllServe Before After ts → Before o → ts ++ later ≡ tickets rest ++ ticket ∷ more → Reached After later o rest ticket more
  reached Before After [] later o rest ticket more serve before are = inr (o, rest, serve o before, are, refl)
  reached Before After (t ∷ []) later o [] ticket more serve before are = inl (subst (λ (x : Ticket s.Task). Finds x o) (sym (head_is t ticket later more are)) (serve o before).0)
  reached Before After (t ∷ []) later o (i ∷ rest) ticket more serve before are =
      inr (objects_step s o i, rest, (serve o before).1 i (head_is t (ticket_of i) later (tickets rest ++ ticket ∷ more) are), tail_is t (ticket_of i) later (tickets rest ++ ticket ∷ more) are, refl)
  reached Before After (t ∷ u ∷ ts) later o [] ticket more serve before are = inl (subst (λ (x : Ticket s.Task). Finds x o) (sym (head_is t ticket (u ∷ (ts ++ later)) more are)) (serve.0 o before).0)
  reached Before After (t ∷ u ∷ ts) later o (i ∷ rest) ticket more serve before are =
      reached Before After (u ∷ ts) later (objects_step s o i) rest ticket more serve.1
      ((serve.0 o before).1 i (head_is t (ticket_of i) (u ∷ (ts ++ later)) (tickets rest ++ ticket ∷ more) are)) (tail_is t (ticket_of i) (u ∷ (ts ++ later)) (tickets rest ++ ticket ∷ more) are)

  -- ---- the tickets of an entry

  module _ (Before After : s.Objects → Type 0) (grows : (o : s.Objects) → Before o → After o) where
    -- whatever came of the turn
    left_given : (task : s.Task) (y : Outcome s.Reply) (o : s.Objects) → FindsAll s r.Needs Before After task → Before o
        → After (objects_left s task y o)
    left_given task (Done reply) o finds before = (finds o before).1
    left_given task Short o finds before = grows o before
    left_given task Skipped o finds before = grows o before

    part_serves : (place : ℕ) (part : Part) (task : s.Task) → FindsAll s r.Needs Before After task
        → Serves Before After (part_of place part task)
    part_serves place part task finds o before = ((finds o before).0, λ i is. step i is)
      where
        step : (i : LaneItem s.Task s.Reply) → ticket_of i ≡ part_of place part task → After (objects_step s o i)
        step (Passed other there that y) is = let same : that ≡ task = cc in subst (λ (t : s.Task). After (objects_left s t y o)) (sym same) (left_given task y o finds before)
        step (WasCut number c found) is = absurd (cc)

    cut_serves : (number c : ℕ) → Serves Before After (cut_of number c)
    cut_serves number c o before = (tt, λ i is. step i is)
      where
        step : (i : LaneItem s.Task s.Reply) → ticket_of i ≡ cut_of number c → After (objects_step s o i)
        step (Passed other there that y) is = absurd (cc)
        step (WasCut other at found) is = grows o before

    maybe_serves : (here : Bool) (t : Ticket s.Task) → Serves Before After t → AllServe Before After (cond here (t ∷ []) [])
    maybe_serves true t serves = serves
    maybe_serves false t serves = grows

    pair_serves : (here there : Bool) (t u : Ticket s.Task) → Serves Before Before t → Serves Before After t → Serves Before After u
        → AllServe Before After (cond here (t ∷ []) [] ++ cond there (u ∷ []) [])
    pair_serves true true t u keeps serves other = (keeps, other)
    pair_serves true false t u keeps serves other = serves
    pair_serves false true t u keeps serves other = other
    pair_serves false false t u keeps serves other = grows

  same_given : (Before : s.Objects → Type 0) (o : s.Objects) → Before o → Before o
  same_given Before o before = before

  entry_serves : (l place : ℕ) (turns : Turns s.Task) (Before After : s.Objects → Type 0) → ((o : s.Objects) → Before o → After o)
      → AreReady s r.Needs Before After turns → AllServe Before After (tickets_for s l place turns)
  entry_serves l place no_turn Before After grows ready = grows
  entry_serves l place (one_turn a task) Before After grows ready = maybe_serves Before After grows (a == l) _ (part_serves Before After grows place Only task ready)
  entry_serves l place (two_turns a task b next) Before After grows ready =
      pair_serves Before After grows (a == l) (b == l) _ _ (part_serves Before Before (same_given Before) place First task ready.0)
      (part_serves Before After grows place First task (λ o before. let one = ready.0 o before in (one.0, grows _ one.1))) (part_serves Before After grows place (Second a) next ready.1)
  entry_serves l place (each_lane task) Before After grows ready = maybe_serves Before After grows (nat_lt l s.lanes) _ (part_serves Before After grows place Only task ready)

  item_serves : (l : ℕ) (d : s.Register) (places cuts : ℕ) (i : RegisterItem s.Asked s.Verdict) (items : RegisterList s)
      → IsLegalRegister s d places cuts (i ∷ items) → AllServe (r.Given d) (r.Given (register_step s d i)) (tickets_of s l i)
  item_serves l d places cuts (Entered e) items legal = entry_serves l e.place (s.turns e.asked e.verdict) _ _ (λ o given. g.decided d e.asked e.verdict o legal.0.1 given) (g.ready d e.asked e.verdict legal.0.1)
  item_serves l d places cuts (DrawnCut number c) items legal = maybe_serves _ _ (g.drawn d) (nat_lt l s.lanes) _ (cut_serves _ _ (g.drawn d) number c)
  item_serves l d places cuts (RegisterCut p found) items legal = g.recorded found d

  -- ---- the whole list

  finds_next : (l : ℕ) (items : RegisterList s) (d : s.Register) (places cuts : ℕ) (o : s.Objects) (rest : LaneList s) (ticket : Ticket s.Task) (more : TicketList s) → IsLegalRegister s d places cuts items → r.Given d o
      → issued s l items ≡ tickets rest ++ ticket ∷ more → Finds ticket (objects_after s o rest)
  finds_next l [] d places cuts o [] ticket more legal given are = absurd (cc)
  finds_next l [] d places cuts o (i ∷ rest) ticket more legal given are = absurd (cc)
  finds_next l (i ∷ items) d places cuts o rest ticket more legal given are = ⊎_elim
      (λ here. here)
      (λ later. rw later.4 (finds_next l items (register_step s d i) (places_on places i) (cuts_on cuts i) later.0 later.1 ticket more legal.1 later.2 later.3))
      (reached (r.Given d) (r.Given (register_step s d i)) (tickets_of s l i) (issued s l items) o rest ticket more (item_serves l d places cuts i items legal) given are)

  next_ready : (start : World s) (h : History s) → IsLegal s start h → ((l : ℕ) → r.Given start.register (start.objects l))
      → (l place : ℕ) (part : Part) (task : s.Task) → IsNext s h l (part_of place part task)
      → r.Needs task (objects_after s (start.objects l) (h.lane l))
  next_ready start h legal given l place part task next = finds_next l h.register start.register 0 0 (start.objects l) (h.lane l) (part_of place part task) next.0 legal.register (given l) next.1

module _ (s : Service) (r : Readiness s) (g : GivesOut s r) where
  -- ---- some first items of a lane

  -- what they passed of an item's tickets leaves what is given after it, and the rest goes on from there
  record Passes (P : LaneItem s.Task s.Reply → Type 0) (After : s.Objects → Type 0) (later : TicketList s) (o : s.Objects) (rest : LaneList s) : Type 0 where
    now : s.Objects
    left : LaneList s
    more : TicketList s
    given : After now
    are : later ≡ tickets left ++ more
    objects : objects_after s o rest ≡ objects_after s now left
    all : AllByRecursion P left

  module _ (P : LaneItem s.Task s.Reply → Type 0) (Before After : s.Objects → Type 0) (grows : (o : s.Objects) → Before o → After o) where
    passes : (ts later : TicketList s) (o : s.Objects) (rest : LaneList s) (more : TicketList s) → AllServe s r g Before After ts → Before o
        → ts ++ later ≡ tickets rest ++ more → AllByRecursion P rest → Passes P After later o rest
    passes [] later o rest more serve before are all = record { now = o; left = rest; more = more; given = serve o before; are = are; objects = refl; all = all }
    passes (t ∷ ts) later o [] more serve before are all = record { now = o; left = []; more = later; given = grows o before; are = refl; objects = refl; all = tt }
    passes (t ∷ []) later o (i ∷ rest) more serve before are all = record {
      now = objects_step s o i;
      left = rest;
      more = more;
      given = (serve o before).1 i (head_is t (ticket_of i) later (tickets rest ++ more) are);
      are = tail_is t (ticket_of i) later (tickets rest ++ more) are;
      objects = refl;
      all = all.1;
    }
    passes (t ∷ u ∷ ts) later o (i ∷ rest) more serve before are all =
        let p = passes (u ∷ ts) later (objects_step s o i) rest more serve.1 ((serve.0 o before).1 i (head_is t (ticket_of i) (u ∷ (ts ++ later)) (tickets rest ++ more) are))
        (tail_is t (ticket_of i) (u ∷ (ts ++ later)) (tickets rest ++ more) are) all.1 in
        record { now = p.now; left = p.left; more = p.more; given = p.given; are = p.are; objects = p.objects; all = p.all }

  -- a part of a place at or above p isn't below it
  only_cuts : (p cuts : ℕ) (o : s.Objects) (rest : LaneList s) → AllByRecursion (IsIssuedSince p cuts) (tickets rest) → AllByRecursion (IsBelow p) rest → objects_after s o rest ≡ o
  only_cuts p cuts o [] since below = refl
  only_cuts p cuts o (Passed place part task y ∷ rest) since below = let a = since.0 in let b = below.0 in absurd (omega (arith, a, b))
  only_cuts p cuts o (WasCut number c found ∷ rest) since below = only_cuts p cuts o rest since.1 below.1

  module _ (l : ℕ) where
    kept_given : (n : ℕ) (items : RegisterList s) (d : s.Register) (places cuts : ℕ) (o : s.Objects) (rest : LaneList s) (more : TicketList s)
        → IsLegalRegister s d places cuts items → r.Given d o → issued s l items ≡ tickets rest ++ more → AllByRecursion (IsBelow (places + n)) rest
        → r.Given (register_at s n d items) (objects_after s o rest)
    kept_given n [] d places cuts o [] more legal given are below = given
    kept_given n [] d places cuts o (i ∷ rest) more legal given are below = absurd (cc)
    kept_given zero (Entered e ∷ items) d places cuts o rest more legal given are below =
        let since = (issued_ordered s l d places cuts (Entered e ∷ items) legal).since in
        let first = all_front (IsIssuedSince places cuts) (tickets rest) more (subst (AllByRecursion (IsIssuedSince places cuts)) are since) in
        let same = only_cuts places cuts o rest first (subst (λ (p : ℕ). AllByRecursion (IsBelow {T = s.Task} {R = s.Reply} p) rest) (let none : places + 0 ≡ places = omega arith in none) below) in
        subst (r.Given d) (sym same) given
    kept_given (suc n) (Entered e ∷ items) d places cuts o rest more legal given are below =
        let on = s.decided d e.asked e.verdict in
        let p = passes (IsBelow (places + suc n)) (r.Given d) (r.Given on) (λ o given. g.decided d e.asked e.verdict o legal.0.1 given) (tickets_of s l (Entered e)) (issued s l items) o rest more
        (item_serves s r g l d places cuts (Entered e) items legal) given are below in
        subst (r.Given (register_at s n on items)) (sym p.objects)
        (kept_given n items on (suc places) cuts p.now p.left p.more legal.1 p.given p.are
        (subst (λ (q : ℕ). AllByRecursion (IsBelow {T = s.Task} {R = s.Reply} q) p.left) (let same : places + suc n ≡ suc places + n = omega arith in same) p.all))
    kept_given n (DrawnCut number c ∷ items) d places cuts o rest more legal given are below =
        let p = passes (IsBelow (places + n)) (r.Given d) (r.Given (s.drawn d)) (g.drawn d) (tickets_of s l (DrawnCut number c)) (issued s l items) o rest more
        (item_serves s r g l d places cuts (DrawnCut number c) items legal) given are below in
        subst (r.Given (register_at s n (s.drawn d) items)) (sym p.objects)
        (kept_given n items (s.drawn d) places (suc cuts) p.now p.left p.more legal.1 p.given p.are p.all)
    kept_given n (RegisterCut q found ∷ items) d places cuts o rest more legal given are below =
        kept_given n items (s.recorded found d) places cuts o rest more legal.1 (g.recorded found d o given) are below

pub turns_are_ready : (s : Service) (r : Readiness s) → TurnsAreReady s r
turns_are_ready s r gives = next_ready s r gives

-- the first items of a lane have the first of its tickets
pub kept_is_given : (s : Service) (r : Readiness s) → KeptIsGiven s r
kept_is_given s r gives start h legal given l k p below =
    let order = legal.in_order l in
    let split = ap tickets (sym (take_drop k (h.lane l))) ∙ tickets_both s (take k (h.lane l)) (drop k (h.lane l)) in
    kept_given s r gives l p h.register start.register 0 0 (start.objects l) (take k (h.lane l)) (tickets (drop k (h.lane l)) ++ order.0) legal.register (given l)
    (order.1 ∙ ap (λ (ts : TicketList s). ts ++ order.0) split ∙ append_assoc (tickets (take k (h.lane l))) (tickets (drop k (h.lane l))) order.0)
    (subst (λ (q : ℕ). AllByRecursion (IsBelow {T = s.Task} {R = s.Reply} q) (take k (h.lane l))) (let same : p ≡ 0 + p = omega arith in same) below)
