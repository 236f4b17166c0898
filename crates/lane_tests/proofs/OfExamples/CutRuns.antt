-- Each event of the lists is enabled, and leaves what is said.
use Rattle.std.proofs.Common.{◌≡◌, ◌⊎◌, inl, inr, ⊎_elim, ℕ, zero, suc, ◌<◌, Bool, true, false, List, [], ◌∷◌, ◌++◌, length, Option, Some, None, refl, ap, sym, ◌∙◌, subst, arith}
use Rattle.std.specs.List.{AllByRecursion}
use Rattle.lane_histories.specs.Histories.{part_of, cut_of, IsIn, LaneList, StartsWith, changed_at, places}
use Rattle.lane_histories.specs.declared.items.RegisterItem.{RegisterItem}
use Rattle.lane_histories.specs.declared.items.RegisterItem.TheVariants.{Entered, DrawnCut, RegisterCut}
use Rattle.lane_histories.specs.declared.items.LaneItem.TheVariants.{Passed, WasCut}
use Rattle.lane_histories.specs.declared.items.Outcome.TheVariants.{Done}
use Rattle.lane_histories.specs.declared.items.Part.TheVariants.{Only}
use Rattle.lane_histories.specs.declared.items.Reach.{Reach}
use Rattle.lane_histories.specs.Legal.{IsNext}
use Rattle.lane_histories.specs.Cuts.{GoesOn, IsCutTo, IsNoCut, IsWholeCut, NoCutIsOut, last_cut, objects_at_cut}
use Rattle.lane_histories.specs.JournalContents.{TellsCuts}
use Rattle.lane_histories.specs.Desks.{IsImage}
use Rattle.lane_histories.specs.Core.{Event, IsOpened, with_desk, with_item, with_lane, Happens, Runs, asks, cuts_lane, cuts_register, appends, takes_turn, history}
use Rattle.lane_histories.proofs.LaneLists.{at_case, at_each}
use Rattle.lane_histories.proofs.Lists.{in_front, nothing_more}
use Rattle.lane_tests.specs.declared.examples.requests.Request.{Request}
use Rattle.lane_tests.specs.declared.examples.requests.Request.TheVariants.{Looks, Writes, Revokes}
use Rattle.lane_tests.specs.declared.examples.requests.Verdict.{Verdict}
use Rattle.lane_tests.specs.declared.examples.requests.Verdict.TheVariants.{Answered, Granted}
use Rattle.lane_tests.specs.Examples.Cuts.{Notes, after_early, after_late, after_looks, after_settled, asked, batch_appended, built_late, cut_early, cut_late, drawn_early, drawn_late, early_events, late_events, start, lane_cut, looked, looked_times, looks_times, nothing_held, opened, register_cut_at, settling, to_its_append, written, written_later}
use Rattle.lane_tests.specs.Examples.Notes.{Held, contents, notes}

-- ---- the drawn cuts of a list

abbrev pub drawn_cuts : List (RegisterItem Request Verdict) → List (ℕ × ℕ)
drawn_cuts [] = []
drawn_cuts (Entered e ∷ items) = drawn_cuts items
drawn_cuts (DrawnCut number c ∷ items) = (number, c) ∷ drawn_cuts items
drawn_cuts (RegisterCut p found ∷ items) = drawn_cuts items

cut_in : (items : List (RegisterItem Request Verdict)) (number c : ℕ) → IsIn items (DrawnCut number c) → IsIn (drawn_cuts items) (number, c)
cut_in [] number c here = here
cut_in (Entered e ∷ items) number c here = ⊎_elim (λ same. absurd (cc)) (λ later. cut_in items number c later) here
cut_in (DrawnCut other at ∷ items) number c here =
    ⊎_elim (λ same. let e : other ≡ number = cc in let f : at ≡ c = cc in inl (λ i. (e i, f i))) (λ later. inr (cut_in items number c later)) here
cut_in (RegisterCut p found ∷ items) number c here = ⊎_elim (λ same. absurd (cc)) (λ later. cut_in items number c later) here

-- a list with one drawn cut
pub one_cut : (items : List (RegisterItem Request Verdict)) (place number c : ℕ) → drawn_cuts items ≡ (0, place) ∷ []
    → IsIn items (DrawnCut number c) → (0 ≡ number) × (place ≡ c)
one_cut items place number c are here = ⊎_elim
    (λ (same : (0, place) ≡ (number, c)). (ap (λ (x : ℕ × ℕ). x.0) same, ap (λ (x : ℕ × ℕ). x.1) same))
    (λ none. absurd none)
    (subst (λ (cuts : List (ℕ × ℕ)). IsIn cuts (number, c)) are (cut_in items number c here))

-- ---- where both lanes have their cut

module _ (core : Notes) (place : ℕ) (are : drawn_cuts core.list ≡ (0, place) ∷ []) (drawn : IsIn core.list (DrawnCut 0 place))
    (zeroth : IsIn (core.items 0) (WasCut 0 place true)) (first : IsIn (core.items 1) (WasCut 0 place true)) where
  in_lane : (l : ℕ) → l < 2 → IsIn (core.items l) (WasCut 0 place true)
  in_lane zero few = zeroth
  in_lane (suc zero) few = first
  in_lane (suc (suc l)) few = absurd (omega arith)

  no_cut_out : NoCutIsOut notes (history core)
  no_cut_out l number c few here =
      let cut = one_cut core.list place number c are here in
      (true, subst (λ (x : ℕ × ℕ). IsIn (core.items l) (WasCut x.0 x.1 true)) (λ i. (cut.0 i, cut.1 i)) (in_lane l few))

  cut_to : IsCutTo notes (history core) place
  cut_to = record {
    cut = inr (0, record { drawn = drawn; everywhere = in_lane });
    last = λ number e whole. let cut = one_cut core.list place number e are whole.drawn in let same : place ≡ e = cut.1 in omega arith;
  }

-- ---- events

pub lane_cuts : (core : Notes) (l c : ℕ) → core.crashed ≡ false → IsNext notes (history core) l (cut_of 0 c)
    → Happens (cuts_lane l true) core (lane_cut l c core)
lane_cuts core l c up next = (
  up,
  record {
    number = 0;
    c = c;
    next = next;
    built = record core.desk.built { written = changed_at l (core.objects l) core.desk.built.written };
    cuts = record {
      own = ⊎_elim (λ same. same.1) (λ other. absurd (other.0 refl)) (at_case l (core.objects l) core.desk.built.written l);
      others = λ m other o told. ⊎_elim (λ same. absurd (other same.0)) (λ apart. apart.1 ∙ told) (at_case l (core.objects l) core.desk.built.written m);
      catalogue = λ right told. told;
    };
    new_is = refl;
  },
)

looks_at : (core : Notes) → core.crashed ≡ false → Happens (asks 0 Looks Answered) core (looked core)
looks_at core up = (up, (refl, refl))

pub no_cut_yet : (core : Notes) → drawn_cuts core.list ≡ [] → NoCutIsOut notes (history core)
no_cut_yet core none l number c few here = absurd (subst (λ (cuts : List (ℕ × ℕ)). IsIn cuts (number, c)) none (cut_in core.list number c here))

turn_at : (core : Notes) → core.crashed ≡ false → IsNext notes (history core) 0 (part_of 7 Only 5) → (core.objects 0) ≡ []
    → (core.torn 0) ≡ false → Happens (takes_turn 0 (Done 0)) core (written core)
turn_at core up next empty whole = (
  up,
  record {
    place = 7;
    part = Only;
    task = 5;
    next = next;
    reached = tt;
    legal = ap length (sym empty);
    new_is = ap (λ (torn : Bool). with_lane core 0 (Passed 7 Only 5 (Done 0)) (5 ∷ (core.objects 0)) torn) (sym whole);
  },
)

-- ---- events one after another

looks_first : (n : ℕ) (events : List (Event notes)) (core new : Notes) → core.crashed ≡ false → Runs events (looked_times n core) new
    → Runs (looks_times n ++ events) core new
looks_first zero events core new up runs = runs
looks_first (suc n) events core new up runs = (looked core, looks_at core up, looks_first n events (looked core) new up runs)

-- ---- the end of a keeping

-- both lanes are cut: the register is cut, and all is appended
module _ (ok : Bool) (core : Notes) (place : ℕ) (up : core.crashed ≡ false) (settled : core.desk.pending ≡ None)
    (are : drawn_cuts core.list ≡ (0, place) ∷ []) (drawn : IsIn core.list (DrawnCut 0 place))
    (zeroth : IsIn (core.items 0) (WasCut 0 place true)) (first : IsIn (core.items 1) (WasCut 0 place true)) (whole_zeroth : (core.torn 0) ≡ false) (whole_first : (core.torn 1) ≡ false)
    (are_then : drawn_cuts (core.list ++ RegisterCut (places core.list) true ∷ []) ≡ (0, place) ∷ []) (last : last_cut None (core.list ++ RegisterCut (places core.list) true ∷ []) ≡ Some (places core.list)) where
  abbrev registered : Notes
  registered = register_cut_at (places core.list) core

  whole : (l : ℕ) → l < 2 → (core.torn l) ≡ false
  whole zero few = whole_zeroth
  whole (suc zero) few = whole_first
  whole (suc (suc l)) few = absurd (omega arith)

  drawn_then : IsIn registered.list (DrawnCut 0 place)
  drawn_then = in_front core.list (RegisterCut (places core.list) true ∷ []) _ drawn

  registers : Runs (cuts_register true ∷ appends ok 0 0 0 ∷ []) core (batch_appended ok place (places core.list) registered)
  registers = (
    registered,
    (up, (record { settled = settled; cuts = no_cut_out core place are drawn zeroth first }, (record core.desk.built { right = core.register }, record { own = refl; lanes = λ l o told. told }, refl))),
    (
      batch_appended ok place (places core.list) registered,
      (
        up,
        record {
          idle = record { settled = settled; cuts = no_cut_out registered place are_then drawn_then zeroth first };
          reach = record { c = place; p = places core.list };
          cut = cut_to registered place are_then drawn_then zeroth first;
          register = last;
          whole = whole;
          end = 0;
          owed = 0;
          new_is = refl;
        },
      ),
      refl,
    ),
  )

-- ---- the late cut

pub late_runs : (ok : Bool) → Runs (cut_late ok) opened (after_late ok)
late_runs ok =
    let writing = asked (Writes 5) (Granted 5) true after_looks in
    let revoked = asked Revokes Answered false writing in
    let at_turn = drawn_late in
    let at_cut = written at_turn in
    let half = lane_cut 0 9 at_cut in
    let cut = lane_cut 1 9 half in
    looks_first 7 (late_events ok) opened (after_late ok) refl (
      writing,
      (refl, (refl, refl)),
      (
        revoked,
        (refl, (refl, refl)),
        (
          at_turn,
          (refl, (record { settled = refl; cuts = no_cut_yet revoked refl }, refl)),
          (
            at_cut,
            (turn_at at_turn refl (cut_of 0 9 ∷ [], refl) refl refl),
            (
              half,
              (lane_cuts at_cut 0 9 refl ([], refl)),
              (
                cut,
                (lane_cuts half 1 9 refl ([], refl)),
                (registers ok cut 9 refl refl refl (inr (inr (inr (inr (inr (inr (inr (inr (inr (inl refl)))))))))) (inr (inl refl)) (inl refl) refl refl refl refl),
              ),
            ),
          ),
        ),
      ),
    )

-- ---- the early cut

pub early_runs : Runs cut_early opened after_early
early_runs =
    let at_draw = with_item after_looks (DrawnCut 0 7) true in
    let writing = asked (Writes 5) (Granted 5) true at_draw in
    let at_cut = drawn_early in
    let half = lane_cut 0 7 at_cut in
    let cut = lane_cut 1 7 half in
    looks_first 7 early_events opened after_early refl (
      at_draw,
      (refl, (record { settled = refl; cuts = no_cut_yet after_looks refl }, refl)),
      (
        writing,
        (refl, (refl, refl)),
        (
          at_cut,
          (refl, (refl, refl)),
          (
            half,
            (lane_cuts at_cut 0 7 refl (part_of 7 Only 5 ∷ [], refl)),
            (
              cut,
              (lane_cuts half 1 7 refl ([], refl)),
              (registers true cut 7 refl refl refl (inr (inr (inr (inr (inr (inr (inr (inl refl)))))))) (inl refl) (inl refl) refl refl refl refl),
            ),
          ),
        ),
      ),
    )

-- ---- behind them

runs_on : (front back : List (Event notes)) (old mid new : Notes) → Runs front old mid → Runs back mid new → Runs (front ++ back) old new
runs_on [] back old mid new same runs = subst (λ (core : Notes). Runs back core new) (sym same) runs
runs_on (e ∷ front) back old mid new first runs = (first.0, first.1, runs_on front back first.0 mid new first.2 runs)

-- the batch that was refused is settled
pub settled_runs : Runs settling (after_late false) after_settled
settled_runs =
    let reach : Reach = record { c = 9; p = 9 } in
    (with_desk (after_late false) true (built_late.desk.built, reach) 0 0 0 0 0, (refl, record { batch = (built_late.desk.built, reach); pending = refl; end = 0; owed = 0; new_is = refl }), (after_settled, (refl, refl), refl))

pub settled_from_opened : Runs (cut_late false ++ settling) opened after_settled
settled_from_opened = runs_on (cut_late false) settling opened (after_late false) after_settled (late_runs false) settled_runs

-- the note's turn comes behind the early cut
pub later_runs : Runs (cut_early ++ takes_turn 0 (Done 0) ∷ []) opened written_later
later_runs = runs_on cut_early (takes_turn 0 (Done 0) ∷ []) opened after_early written_later early_runs (written_later, turn_at after_early refl ([], refl) refl refl, refl)

-- what is more of a lane's list is no cut
abbrev HasTurnsMore : LaneList notes → LaneList notes → Type 0
HasTurnsMore front items = (starts : StartsWith items front) × AllByRecursion IsNoCut starts.0

turns_more : (l : ℕ) → HasTurnsMore (after_early.items l) (written_later.items l)
turns_more = at_each 0 (after_early.items 0 ++ Passed 7 Only 5 (Done 0) ∷ []) after_early.items (λ l items. HasTurnsMore (after_early.items l) items)
    ((Passed 7 Only 5 (Done 0) ∷ [], refl), (tt, tt))
    (λ l other. (([], sym (nothing_more (after_early.items l))), tt))

pub later_goes_on : GoesOn (history after_early) (history written_later)
later_goes_on = record {
  longer = record { register = ([], sym (nothing_more after_early.list)); lane = λ l. (turns_more l).0; keepings = ([], sym (nothing_more after_early.keepings)) };
  entries = tt;
  turns = λ l. (turns_more l).1;
}

-- what was cut tells both lanes as they were at their cuts
pub early_told : TellsCuts notes contents start (history after_early) after_early.desk.built
early_told = record { lanes = lanes; catalogue = refl }
  where
    lanes : (l : ℕ) → l < 2 → contents.TellsLane after_early.desk.built l (objects_at_cut notes [] (after_early.items l))
    lanes zero few = refl
    lanes (suc zero) few = refl
    lanes (suc (suc l)) few = absurd (omega arith)

pub early_whole : IsWholeCut notes (history after_early) 0 7
early_whole = record { drawn = inr (inr (inr (inr (inr (inr (inr (inl refl))))))); everywhere = lanes }
  where
    lanes : (l : ℕ) → l < 2 → IsIn (after_early.items l) (WasCut 0 7 true)
    lanes zero few = inl refl
    lanes (suc zero) few = inl refl
    lanes (suc (suc l)) few = absurd (omega arith)

-- ---- what a crash leaves of the batch that was refused

same_batch : (x y : Held) (from to : Reach) → ◌≡◌ {A = Option (Held × Reach)} (Some (x, from)) (Some (y, to)) → y ≡ x
same_batch x y from to e = let pair : ◌≡◌ {A = Held × Reach} (x, from) (y, to) = cc in ap (λ (b : Held × Reach). b.0) (sym pair)

pub refused_images : (x : Held) → IsImage x (after_late false).desk → (x ≡ nothing_held) ⊎ ((x.right ≡ false) × (x.written 0 ≡ 5 ∷ []))
refused_images x image = ⊎_elim
    (λ held. inl held)
    (λ pending.
    let same = same_batch built_late.desk.built x to_its_append pending.0 pending.1 in inr (ap (λ (held : Held). held.right) same, ap (λ (held : Held). held.written 0) same))
    image

pub none_happens : (e : Event notes) (new : Notes) → Happens e after_settled new → ⊥
none_happens e new happens = never happens.0
  where
    never : true ≡ false → ⊥
    never e = cc

-- ---- the opening

pub opened_is : IsOpened start opened
opened_is = record {
  list = refl;
  register = refl;
  items = λ l. refl;
  objects = λ l. refl;
  torn = λ l. refl;
  keepings = refl;
  own = refl;
  pending = refl;
  built = refl;
  held = record { catalogue = refl; lanes = λ l few. refl };
}
