-- Where each turn found memory, the replay is the plain one.
use Rattle.std.proofs.Common.{◌≡◌, inl, ⊎_elim, ℕ, zero, suc, Bool, true, false, not, cond, List, [], ◌∷◌, ◌++◌, drop, map, Option, Some, refl, ap, sym, ◌∙◌, subst, append_assoc, eq-eqb}
use Rattle.std.specs.Prelude.{◌==◌, nat_lt, slice_get}
use Rattle.std.specs.List.{AllByRecursion}
use Rattle.std.proofs.lemmas.Bool.Decides.{eqb_tells}
use Rattle.lane_histories.specs.Services.{Service, Turns, World, no_turn, one_turn, two_turns, each_lane}
use Rattle.lane_histories.specs.Histories.{RegisterItem, Entered, DrawnCut, RegisterCut, Part, Only, First, Second, Ticket, part_of, cut_of, Outcome, Done, Short, Skipped, LaneItem, Passed, WasCut, ticket_of, tickets, History, IsIn, changed_at, in_lane, tickets_for, tickets_of, issued, objects_left, Entry, RegisterList, LaneList, TicketList}
use Rattle.lane_histories.specs.Legal.{IsLegalLane, IsLegal, IsLegalOutcome, is_skipped, is_well}
use Rattle.lane_histories.specs.Replays.{Stage, all_taken, decided_stage, next_objects, replayed, stage_step, staged, taken, turn_taken, turns_taken}
use Rattle.lane_histories.specs.Replies.{What, answers, by_turn, next_outcome, one_what, pair_what, reply, stage_what, two_what}
use Rattle.lane_histories.specs.PlainReplays.{plain_step, plainly, second_done, turns_done, plain_answers, second_reply, turns_reply}
use Rattle.lane_histories.specs.Laws.{WholeAnswersArePlain, IsFound, IsWhole, WholeIsPlain}
use Rattle.lane_histories.proofs.Lists.{tail_is}
use Rattle.lane_histories.proofs.FoundLemmas.{found_first}
use Rattle.lane_histories.proofs.ReplayLemmas.{Ready, ready_with, replays_are_products, stepped, taken_passes}
use Rattle.lane_histories.proofs.AnswerLemmas.{replies_are_replays}

module _ (s : Service) where
  -- the items that are left have just these tickets, may come, and found memory
  record Filled (st : Stage s) (left : ℕ → TicketList s) : Type 0 where
    tickets_are : (l : ℕ) → tickets (st.rest l) ≡ left l
    found : (l : ℕ) → AllByRecursion IsFound (st.rest l)
    ready : Ready s st left

  -- ---- the next item of a lane

  abbrev IsFoundOutcome : Outcome s.Reply → Type 0
  IsFoundOutcome (Done reply) = Unit {0}
  IsFoundOutcome Short = ⊥
  IsFoundOutcome Skipped = Unit {0}

  record Next (o : s.Objects) (rest : LaneList s) (place : ℕ) (part : Part) (task : s.Task) : Type 0 where
    outcome : Outcome s.Reply
    here : IsIn rest (Passed place part task outcome)
    leaves : next_objects s o rest ≡ objects_left s task outcome o
    told : next_outcome place part rest ≡ Some outcome
    legal : IsLegalOutcome s o part task outcome
    found : IsFoundOutcome outcome

  found_outcome : (place : ℕ) (part : Part) (task : s.Task) (y : Outcome s.Reply) → IsFound (Passed place part task y) → IsFoundOutcome y
  found_outcome place part task (Done reply) found = tt
  found_outcome place part task Short found = found
  found_outcome place part task Skipped found = tt

  next_of : (o : s.Objects) (rest : LaneList s) (place : ℕ) (part : Part) (task : s.Task) (more : TicketList s)
      → tickets rest ≡ part_of place part task ∷ more
      → IsLegalLane s o rest → AllByRecursion IsFound rest → Next o rest place part task
  next_of o [] place part task more are legal found = absurd (cc)
  next_of o (WasCut number c ok ∷ rest) place part task more are legal found = absurd (cc)
  next_of o (Passed there role other y ∷ rest) place part task more are legal found =
      let e1 : there ≡ place = cc in
      let e2 : role ≡ part = cc in
      let e3 : other ≡ task = cc in
      subst (λ (x : ℕ × Part × s.Task). Next o (Passed there role other y ∷ rest) x.0 x.1 x.2) (λ i. (e1 i, e2 i, e3 i)) (record {
        outcome = y;
        here = inl refl;
        leaves = refl;
        told = found_first s there role other y [];
        legal = legal.0;
        found = found_outcome there role other y found.0;
      })

  -- a turn that isn't a second one is done
  abbrev IsNoSecond : Part → Type 0
  IsNoSecond Only = Unit {0}
  IsNoSecond First = Unit {0}
  IsNoSecond (Second a) = ⊥

  is_done_there : (o : s.Objects) (part : Part) (task : s.Task) (y : Outcome s.Reply) → IsNoSecond part
      → IsLegalOutcome s o part task y → IsFoundOutcome y → y ≡ Done (s.acted task o).0
  is_done_there o part task (Done reply) must legal found = ap Done legal
  is_done_there o part task Short must legal found = absurd found
  is_done_there o Only task Skipped must legal found = absurd legal
  is_done_there o First task Skipped must legal found = absurd legal
  is_done_there o (Second a) task Skipped must legal found = absurd must

  next_done : (o : s.Objects) (rest : LaneList s) (place : ℕ) (part : Part) (task : s.Task) → IsNoSecond part
      → Next o rest place part task → next_objects s o rest ≡ (s.acted task o).1
  next_done o rest place part task must next =
      next.leaves ∙ ap (λ (y : Outcome s.Reply). objects_left s task y o) (is_done_there o part task next.outcome must next.legal next.found)

  -- ---- some lanes take a turn

  filled_lane : (here : Bool) (ticket : Ticket s.Task) (later : TicketList s) (rest : LaneList s)
      → tickets rest ≡ cond here (ticket ∷ []) [] ++ later → AllByRecursion IsFound rest
      → (tickets (cond here (drop 1 rest) rest) ≡ later) × AllByRecursion IsFound (cond here (drop 1 rest) rest)
  filled_lane false ticket later rest are found = (are, found)
  filled_lane true ticket later [] are found = absurd (cc)
  filled_lane true ticket later (i ∷ rest) are found = (tail_is (ticket_of i) ticket (tickets rest) later are, found.1)

  module _ (st : Stage s) (here : ℕ → Bool) (ticket : Ticket s.Task) (later : ℕ → TicketList s)
      (filled : Filled st (λ l. cond (here l) (ticket ∷ []) [] ++ later l)) where
    taken_filled : Filled (taken s here st) later
    taken_filled = record {
      tickets_are = λ l. (filled_lane (here l) ticket (later l) (st.rest l) (filled.tickets_are l) (filled.found l)).0;
      found = λ l. (filled_lane (here l) ticket (later l) (st.rest l) (filled.tickets_are l) (filled.found l)).1;
      ready = (taken_passes s st here ticket later filled.ready).ready;
    }

  filled_with : (st : Stage s) (f g : ℕ → TicketList s) → ((l : ℕ) → f l ≡ g l) → Filled st f → Filled st g
  filled_with st f g same filled = record { tickets_are = λ l. filled.tickets_are l ∙ same l; found = filled.found; ready = ready_with s st f g same filled.ready }

  -- the next item of a lane that takes its turn
  next_in : (st : Stage s) (l place : ℕ) (part : Part) (task : s.Task) (here : ℕ → Bool) (later : ℕ → TicketList s)
      → Filled st (λ m. cond (here m) (part_of place part task ∷ []) [] ++ later m) → here l ≡ true
      → Next (st.objects l) (st.rest l) place part task
  next_in st l place part task here later filled is =
      let are : tickets (st.rest l) ≡ part_of place part task ∷ later l = filled.tickets_are l ∙ ap (λ (b : Bool). cond b (part_of place part task ∷ []) [] ++ later l) is in
      next_of (st.objects l) (st.rest l) place part task (later l) are (filled.ready.legal l) (filled.found l)

  -- where the lanes that take a turn are done, so are the objects
  each_done : (st : Stage s) (place : ℕ) (part : Part) (task : s.Task) (here : ℕ → Bool) (later : ℕ → TicketList s) → IsNoSecond part
      → Filled st (λ m. cond (here m) (part_of place part task ∷ []) [] ++ later m)
      → (l : ℕ) → (taken s here st).objects l ≡ cond (here l) (s.acted task (st.objects l)).1 (st.objects l)
  each_done st place part task here later must filled l = by_case (here l) (λ is. next_done (st.objects l) (st.rest l) place part task must (next_in st l place part task here later filled is))
    where
      by_case : (b : Bool) → (b ≡ true → next_objects s (st.objects l) (st.rest l) ≡ (s.acted task (st.objects l)).1)
          → cond b (next_objects s (st.objects l) (st.rest l)) (st.objects l) ≡ cond b (s.acted task (st.objects l)).1 (st.objects l)
      by_case true is = is refl
      by_case false is = refl

  -- at one lane
  one_done : (o : ℕ → s.Objects) (task : s.Task) (a l : ℕ)
      → cond (a == l) (s.acted task (o l)).1 (o l) ≡ changed_at a (s.acted task (o a)).1 o l
  one_done o task a l = ⊎_elim
      (λ same. ap (λ (m : ℕ). cond (a == l) (s.acted task (o m)).1 (o l)) (sym same.1))
      (λ other. ap (λ (b : Bool). cond b (s.acted task (o l)).1 (o l)) other.0 ∙ sym (ap (λ (b : Bool). cond b (s.acted task (o a)).1 (o l)) other.0))
      (eqb_tells a l)

  -- ---- a second turn

  second_left : (o : s.Objects) (a : ℕ) (next : s.Task) (y : Outcome s.Reply) (well : Bool) → IsLegalOutcome s o (Second a) next y
      → IsFoundOutcome y → is_skipped y ≡ not well → objects_left s next y o ≡ cond well (s.acted next o).1 o
  second_left o a next (Done reply) true legal found agree = refl
  second_left o a next (Done reply) false legal found agree = absurd (cc)
  second_left o a next Short well legal found agree = absurd found
  second_left o a next Skipped true legal found agree = absurd (cc)
  second_left o a next Skipped false legal found agree = refl

  second_is : (well : Bool) (b : ℕ) (next : s.Task) (o : ℕ → s.Objects) (l : ℕ)
      → cond (b == l) (cond well (s.acted next (o l)).1 (o l)) (o l) ≡ second_done s well b next o l
  second_is true b next o l = one_done o next b l
  second_is false b next o l = either (b == l)
    where
      either : (here : Bool) → cond here (o l) (o l) ≡ o l
      either true = refl
      either false = refl

  module _ (st : Stage s) (place a b : ℕ) (task next : s.Task) (later : ℕ → TicketList s)
      (filled : Filled st (λ l. (in_lane l a (part_of place First task) ++ in_lane l b (part_of place (Second a) next)) ++ later l)) where
    abbrev between : ℕ → TicketList s
    between l = in_lane l b (part_of place (Second a) next) ++ later l

    apart : Filled st (λ l. in_lane l a (part_of place First task) ++ between l)
    apart = filled_with st _ _ (λ l. append_assoc (in_lane l a (part_of place First task)) (in_lane l b (part_of place (Second a) next)) (later l)) filled

    abbrev mid : Stage s
    mid = turn_taken s st a

    half : Filled mid between
    half = taken_filled st (λ l. a == l) (part_of place First task) between apart

    abbrev well : Bool
    well = s.went_well (s.acted task (st.objects a)).0

    first_next : Next (st.objects a) (st.rest a) place First task
    first_next = next_in st a place First task (λ l. a == l) between apart (eq-eqb a a refl)

    first_well : is_well s first_next.outcome ≡ well
    first_well = ap (is_well s) (is_done_there (st.objects a) First task first_next.outcome tt first_next.legal first_next.found)

    was_there : (l : ℕ) (x : LaneItem s.Task s.Reply) → IsIn (mid.rest l) x → IsIn (st.rest l) x
    was_there = (taken_passes s st (λ l. a == l) (part_of place First task) between apart.ready).was

    second_objects : (l : ℕ) → (b == l) ≡ true
        → next_objects s (mid.objects l) (mid.rest l) ≡ cond well (s.acted next (mid.objects l)).1 (mid.objects l)
    second_objects l is =
        let there = next_in mid l place (Second a) next (λ m. b == m) later half is in
        let agree = filled.ready.pairs a l place task next first_next.outcome there.outcome first_next.here (was_there l _ there.here) in
        there.leaves ∙ second_left (mid.objects l) a next there.outcome well there.legal there.found (agree ∙ ap not first_well)

    mid_is : mid.objects ≡ changed_at a (s.acted task (st.objects a)).1 st.objects
    mid_is = λ i. λ l. (each_done st place First task (λ m. a == m) between tt apart l ∙ one_done st.objects task a l) i

    pair_plain : (l : ℕ) → (turn_taken s mid b).objects l ≡ turns_done s (two_turns a task b next) st.objects l
    pair_plain l =
        by_case (b == l) (second_objects l) ∙ second_is well b next mid.objects l ∙ ap (λ (o : ℕ → s.Objects). second_done s well b next o l) mid_is
      where
        by_case : (here : Bool) → (here ≡ true → next_objects s (mid.objects l) (mid.rest l) ≡ cond well (s.acted next (mid.objects l)).1 (mid.objects l))
            → cond here (next_objects s (mid.objects l) (mid.rest l)) (mid.objects l) ≡ cond here (cond well (s.acted next (mid.objects l)).1 (mid.objects l)) (mid.objects l)
        by_case true is = is refl
        by_case false is = refl

    second_next : Next (mid.objects b) (mid.rest b) place (Second a) next
    second_next = next_in mid b place (Second a) next (λ m. b == m) later half (eq-eqb b b refl)

    second_answered : (first : s.Reply) (goes_on : Bool) (y : Outcome s.Reply) → IsLegalOutcome s (mid.objects b) (Second a) next y
        → IsFoundOutcome y → is_skipped y ≡ not goes_on
        → two_what {V = s.Verdict} (Done first) (Some y) ≡ Some (by_turn (second_reply s goes_on b next mid.objects first))
    second_answered first true (Done reply) legal found agree = ap (λ (r : s.Reply). Some (by_turn r)) legal
    second_answered first false (Done reply) legal found agree = absurd (cc)
    second_answered first goes_on Short legal found agree = absurd found
    second_answered first true Skipped legal found agree = absurd (cc)
    second_answered first false Skipped legal found agree = refl

    abbrev answered : s.Reply → Option (What s.Verdict s.Reply)
    answered reply = Some (by_turn reply)

    pair_answered : pair_what {V = s.Verdict} (next_outcome place First (st.rest a)) (next_outcome place (Second a) (mid.rest b))
        ≡ Some (by_turn (second_reply s well b next (changed_at a (s.acted task (st.objects a)).1 st.objects) (s.acted task (st.objects a)).0))
    pair_answered =
        let first : s.Reply = (s.acted task (st.objects a)).0 in
        let agree = filled.ready.pairs a b place task next first_next.outcome second_next.outcome first_next.here (was_there b _ second_next.here) in
        (λ i. pair_what (first_next.told i) (second_next.told i))
        ∙ ap (λ (x : Outcome s.Reply). two_what {V = s.Verdict} x (Some second_next.outcome)) (is_done_there (st.objects a) First task first_next.outcome tt first_next.legal first_next.found)
        ∙ second_answered first well second_next.outcome second_next.legal second_next.found (agree ∙ ap not first_well)
        ∙ ap (λ (o : ℕ → s.Objects). answered (second_reply s well b next o first)) mid_is

    pair_filled : Filled (turn_taken s mid b) later
    pair_filled = taken_filled mid (λ l. b == l) (part_of place (Second a) next) later half

  -- ---- all turns of a request

  turns_plain : (st : Stage s) (place : ℕ) (turns : Turns s.Task) (later : ℕ → TicketList s)
      → Filled st (λ l. tickets_for s l place turns ++ later l)
      → ((l : ℕ) → (turns_taken s st turns).objects l ≡ turns_done s turns st.objects l) × Filled (turns_taken s st turns) later
  turns_plain st place no_turn later filled = (λ l. refl, filled)
  turns_plain st place (one_turn a task) later filled =
      (λ l. each_done st place Only task (λ m. a == m) later tt filled l ∙ one_done st.objects task a l, taken_filled st (λ l. a == l) (part_of place Only task) later filled)
  turns_plain st place (two_turns a task b next) later filled = (pair_plain st place a b task next later filled, pair_filled st place a b task next later filled)
  turns_plain st place (each_lane task) later filled =
      (each_done st place Only task (λ m. nat_lt m s.lanes) later tt filled, taken_filled st (λ m. nat_lt m s.lanes) (part_of place Only task) later filled)

  turns_answered : (st : Stage s) (e : Entry s.Asked s.Verdict) (turns : Turns s.Task) (later : ℕ → TicketList s)
      → Filled st (λ l. tickets_for s l e.place turns ++ later l)
      → stage_what s st e turns ≡ Some (turns_reply s e.verdict turns st.objects)
  turns_answered st e no_turn later filled = refl
  turns_answered st e (one_turn a task) later filled =
      let next = next_in st a e.place Only task (λ m. a == m) later filled (eq-eqb a a refl) in
      ap (λ (y : Option (Outcome s.Reply)). one_what {V = s.Verdict} y) (next.told ∙ ap (λ (y : Outcome s.Reply). Some y) (is_done_there (st.objects a) Only task next.outcome tt next.legal next.found))
  turns_answered st e (two_turns a task b next) later filled = pair_answered st e.place a b task next later filled
  turns_answered st e (each_lane task) later filled = refl

  -- ---- items of the register's list

  abbrev world_of : Stage s → World s
  world_of st = record { register = st.register; objects = st.objects }

  with_register : (st : Stage s) (d : s.Register) (left : ℕ → TicketList s) → Filled st left → Filled (record st { register = d }) left
  with_register st d left filled = record {
    tickets_are = filled.tickets_are;
    found = filled.found;
    ready = record { starts = filled.ready.starts; legal = filled.ready.legal; pairs = filled.ready.pairs };
  }

  -- a cut leaves the objects
  cut_leaves : (o : s.Objects) (rest : LaneList s) (here : Bool) (number c : ℕ) (more : TicketList s)
      → tickets rest ≡ cond here (cut_of number c ∷ []) [] ++ more → cond here (next_objects s o rest) o ≡ o
  cut_leaves o rest false number c more are = refl
  cut_leaves o [] true number c more are = absurd (cc)
  cut_leaves o (Passed place part task y ∷ rest) true number c more are = absurd (cc)
  cut_leaves o (WasCut other at found ∷ rest) true number c more are = refl

  step_plain : (st : Stage s) (i : RegisterItem s.Asked s.Verdict) (later : ℕ → TicketList s)
      → Filled st (λ l. tickets_of s l i ++ later l)
      → (plain_step s (world_of st) i ≡ world_of (stage_step s st i)) × Filled (stage_step s st i) later
  step_plain st (Entered e) later filled =
      let decided = decided_stage s st e in
      let plain = turns_plain decided e.place (s.turns e.asked e.verdict) later (with_register st decided.register _ filled) in
      let register = (stepped s st (Entered e) later filled.ready).register in
      (λ i. record { register = sym register i; objects = λ l. sym (plain.0 l) i }, plain.1)
  step_plain st (DrawnCut number c) later filled =
      let decided : Stage s = record st { register = s.drawn st.register } in
      let here : ℕ → Bool = λ l. nat_lt l s.lanes in
      let objects : (l : ℕ) → (all_taken s decided).objects l ≡ st.objects l = λ l. cut_leaves (st.objects l) (st.rest l) (nat_lt l s.lanes) number c (later l) (filled.tickets_are l) in
      (λ i. record { register = s.drawn st.register; objects = λ l. sym (objects l) i }, taken_filled decided here (cut_of number c) later (with_register st (s.drawn st.register) _ filled))
  step_plain st (RegisterCut p found) later filled = (refl, with_register st (s.recorded found st.register) _ filled)

  all_plain : (items : RegisterList s) (st : Stage s) → Filled st (λ l. issued s l items)
      → plainly s items (world_of st) ≡ world_of (replayed s items st)
  all_plain [] st filled = refl
  all_plain (i ∷ items) st filled =
      let step = step_plain st i (λ l. issued s l items) filled in
      ap (plainly s items) step.0 ∙ all_plain items (stage_step s st i) step.1

  answers_plain : (items : RegisterList s) (st : Stage s) → Filled st (λ l. issued s l items)
      → answers s items st ≡ map (λ w. Some w) (plain_answers s items (world_of st))
  answers_plain [] st filled = refl
  answers_plain (Entered e ∷ items) st filled =
      let decided = decided_stage s st e in
      let here = turns_answered decided e (s.turns e.asked e.verdict) (λ l. issued s l items) (with_register st decided.register _ filled) in
      let step = step_plain st (Entered e) (λ l. issued s l items) filled in
      let later = answers_plain items (stage_step s st (Entered e)) step.1 ∙ ap (λ (w : World s). map (λ x. Some x) (plain_answers s items w)) (sym step.0) in
      λ i. here i ∷ later i
  answers_plain (DrawnCut number c ∷ items) st filled =
      let step = step_plain st (DrawnCut number c) (λ l. issued s l items) filled in
      answers_plain items (stage_step s st (DrawnCut number c)) step.1 ∙ ap (λ (w : World s). map (λ x. Some x) (plain_answers s items w)) (sym step.0)
  answers_plain (RegisterCut p found ∷ items) st filled =
      let step = step_plain st (RegisterCut p found) (λ l. issued s l items) filled in
      answers_plain items (stage_step s st (RegisterCut p found)) step.1 ∙ ap (λ (w : World s). map (λ x. Some x) (plain_answers s items w)) (sym step.0)

  whole_filled : (start : World s) (h : History s) → IsLegal s start h → IsWhole s h
      → Filled (staged start h.lane) (λ l. issued s l h.register)
  whole_filled start h legal whole = record {
    tickets_are = whole.all_passed;
    found = whole.found;
    ready = record { starts = legal.in_order; legal = legal.lanes; pairs = legal.pairs };
  }

  pub plain_is_replayed : (start : World s) (h : History s) → IsLegal s start h → IsWhole s h
      → plainly s h.register start ≡ world_of (replayed s h.register (staged start h.lane))
  plain_is_replayed start h legal whole = all_plain h.register (staged start h.lane) (whole_filled start h legal whole)

-- ---- the laws

pub whole_is_plain : (s : Service) → WholeIsPlain s
whole_is_plain s start h legal whole =
    let same = plain_is_replayed s start h legal whole in
    let product = replays_are_products s start h legal in
    (ap (λ (w : World s). w.register) same ∙ product.register, λ l. ap (λ (w : World s). w.objects l) same ∙ product.objects l)

-- the n-th of a list whose elements are all there
get_there : {X : Type 0} (xs : List X) (n : ℕ) (o : Option X) → slice_get (map (λ x. Some x) xs) n ≡ Some o → o ≡ slice_get xs n
get_there [] n o is = absurd (cc)
get_there (x ∷ xs) zero o is = let same : Some x ≡ o = cc in sym same
get_there (x ∷ xs) (suc n) o is = get_there xs n o is

pub whole_answers_are_plain : (s : Service) → WholeAnswersArePlain s
whole_answers_are_plain s start h legal whole place few =
    let plain = answers_plain s h.register (staged start h.lane) (whole_filled s start h legal whole) in
    get_there (plain_answers s h.register start) place (reply s h place)
    (sym (ap (λ (xs : List (Option (What s.Verdict s.Reply))). slice_get xs place) plain) ∙ replies_are_replays s start h legal place few)
