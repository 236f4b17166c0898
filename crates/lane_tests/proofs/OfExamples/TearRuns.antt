-- What a torn lane would leave.
use Rattle.std.proofs.Common.{◌≡◌, inl, inr, ⊎_elim, ℕ, zero, suc, ◌<◌, ◌≤◌, Bool, true, false, List, [], ◌∷◌, length, take, get_or, None, refl, ap, sym, ◌∙◌, subst, arith}
use Rattle.lane_histories.specs.Histories.{cut_of, part_of, IsIn, changed_at, objects_after}
use Rattle.lane_histories.specs.declared.items.RegisterItem.TheVariants.{DrawnCut}
use Rattle.lane_histories.specs.declared.items.LaneItem.TheVariants.{Passed, WasCut}
use Rattle.lane_histories.specs.declared.items.Outcome.TheVariants.{Done}
use Rattle.lane_histories.specs.declared.items.Part.TheVariants.{Only}
use Rattle.lane_histories.specs.declared.items.Reach.{Reach}
use Rattle.lane_histories.specs.Legal.{IsNext}
use Rattle.lane_histories.specs.Kept.{IsKept, ToldWorld}
use Rattle.lane_histories.specs.JournalContents.{TellsAll}
use Rattle.lane_histories.specs.Core.{Happens, IsIdle, Runs, cuts_lane, history, takes_turn, with_item, with_lane}
use Rattle.lane_histories.proofs.LaneLists.{at_case}
use Rattle.lane_histories.specs.Cuts.{IsCutTo, IsWholeCut}
use Rattle.lane_tests.specs.declared.examples.requests.Request.TheVariants.{Revokes, Writes}
use Rattle.lane_tests.specs.declared.examples.requests.Verdict.TheVariants.{Answered, Granted}
use Rattle.lane_tests.specs.Examples.Cuts.{Notes, asked, lane_cut, opened, register_cut_at, start}
use Rattle.lane_tests.specs.Examples.Notes.{contents, notes}
use Rattle.lane_tests.specs.Examples.ShortCuts.{after_short, drawn_behind, none_cut, short_events}
use Rattle.lane_tests.specs.Examples.Tears.{both_written, half_cut, torn_core, torn_events, wrote}
use Rattle.lane_tests.proofs.OfExamples.CutRuns.{drawn_cuts, lane_cuts, no_cut_yet, one_cut}

-- ---- the events

turn_wrote : (core : Notes) (place note : ℕ) → core.crashed ≡ false → IsNext notes (history core) 0 (part_of place Only note)
    → core.torn 0 ≡ false → Happens (takes_turn 0 (Done (length (core.objects 0)))) core (wrote place note core)
turn_wrote core place note up next whole = (
  up,
  record {
    place = place;
    part = Only;
    task = note;
    next = next;
    reached = tt;
    legal = refl;
    new_is = ap (λ (torn : Bool). with_lane core 0 (Passed place Only note (Done (length (core.objects 0)))) (note ∷ core.objects 0) torn) (sym whole);
  },
)

half_cuts : (core : Notes) → core.crashed ≡ false → IsNext notes (history core) 0 (cut_of 0 2)
    → Happens (cuts_lane 0 false) core (half_cut core)
half_cuts core up next = (
  up,
  record {
    number = 0;
    c = 2;
    next = next;
    built = record core.desk.built { written = changed_at 0 (6 ∷ []) core.desk.built.written };
    torn = true;
    tears = record {
      own = λ is. absurd (never is);
      others = λ m other o told. ⊎_elim (λ same. absurd (other same.0)) (λ apart. apart.1 ∙ told) (at_case 0 (6 ∷ []) core.desk.built.written m);
      catalogue = λ right told. told;
    };
    stays = λ is. absurd (never is);
    new_is = refl;
  },
)
  where
    never : true ≡ false → ⊥
    never e = cc

-- no ticket of the cut is out, whether it found memory or not
module _ (core : Notes) (settled : core.desk.pending ≡ None) (are : drawn_cuts core.list ≡ (0, 2) ∷ [])
    (zeroth : IsIn (core.items 0) (WasCut 0 2 false)) (first : IsIn (core.items 1) (WasCut 0 2 true)) where
  in_lane : (l : ℕ) → l < 2 → (found : Bool) × IsIn (core.items l) (WasCut 0 2 found)
  in_lane zero few = (false, zeroth)
  in_lane (suc zero) few = (true, first)
  in_lane (suc (suc l)) few = absurd (omega arith)

  idle_at : IsIdle core
  idle_at = record {
    settled = settled;
    cuts = λ l number c few here.
        let cut = one_cut core.list 2 number c are here in
        let mine = in_lane l few in
        (mine.0, subst (λ (x : ℕ × ℕ). IsIn (core.items l) (WasCut x.0 x.1 mine.0)) (λ i. (cut.0 i, cut.1 i)) mine.1);
  }

pub torn_runs : Runs torn_events opened torn_core
torn_runs =
    let one = asked (Writes 5) (Granted 5) true opened in
    let two = asked (Writes 6) (Granted 6) true one in
    let written = wrote 0 5 two in
    let drawn = with_item both_written (DrawnCut 0 2) true in
    let half = half_cut drawn in
    let cut = lane_cut 1 2 half in (
      one,
      (refl, (refl, refl)),
      (
        two,
        (refl, (refl, refl)),
        (
          written,
          turn_wrote two 0 5 refl (part_of 1 Only 6 ∷ [], refl) refl,
          (
            both_written,
            turn_wrote written 1 6 refl ([], refl) refl,
            (
              drawn,
              (refl, (record { settled = refl; cuts = no_cut_yet both_written refl }, refl)),
              (
                half,
                half_cuts drawn refl ([], refl),
                (
                  cut,
                  lane_cuts half 1 2 refl ([], refl),
                  (
                    torn_core,
                    (refl, (idle_at cut refl refl (inr (inr (inl refl))) (inl refl), (record cut.desk.built { right = cut.register }, record { own = refl; lanes = λ l o told. told }, refl))),
                    refl,
                  ),
                ),
              ),
            ),
          ),
        ),
      ),
    )

-- ---- nothing in the lists forbids an append

pub torn_idle : IsIdle torn_core
torn_idle = idle_at torn_core refl refl (inr (inr (inl refl))) (inl refl)

-- ---- what it would leave is kept in no way

unlike : (k : ℕ) → 6 ∷ [] ≡ objects_after notes [] (take k (torn_core.items 0)) → ⊥
unlike zero e = cc
unlike (suc zero) e = let heads : ◌≡◌ {A = ℕ} 6 5 = ap (λ (xs : List ℕ). get_or xs 0 0) e in omega arith
unlike (suc (suc zero)) e = cc
unlike (suc (suc (suc zero))) e = cc
unlike (suc (suc (suc (suc k)))) e = cc

pub torn_unkept : (w : ToldWorld notes) (reach : Reach) → TellsAll contents torn_core.desk.built w
    → IsKept notes start (history torn_core) w reach → ⊥
torn_unkept w reach told kept = unlike (kept.k 0) (told.lanes 0 (omega arith) ∙ (kept.kept.lanes 0 (omega arith)).objects)

-- ---- a cut that found no memory and left what was cut, and then a keeping of the register alone

none_cuts : (core : Notes) → core.crashed ≡ false → core.torn 0 ≡ false → IsNext notes (history core) 0 (cut_of 0 2)
    → Happens (cuts_lane 0 false) core (none_cut core)
none_cuts core up whole next = (
  up,
  record {
    number = 0;
    c = 2;
    next = next;
    built = core.desk.built;
    torn = false;
    tears = record { own = λ is o told. told; others = λ m other o told. told; catalogue = λ right told. told };
    stays = λ is. whole;
    new_is = refl;
  },
)

abbrev short_kept : Notes
short_kept = register_cut_at 2 (lane_cut 1 2 (none_cut drawn_behind))

-- no lane is torn
short_whole : (l : ℕ) → l < 2 → short_kept.torn l ≡ false
short_whole zero few = refl
short_whole (suc zero) few = refl
short_whole (suc (suc l)) few = absurd (omega arith)

-- the cut wasn't done in the lane 0, so there is none
none_whole : (number e : ℕ) → IsWholeCut notes (history short_kept) number e → e ≤ 0
none_whole number e whole = ⊎_elim (λ same. absurd (cc)) (λ later. ⊎_elim (λ same. absurd (cc)) (λ none. absurd none) later) (whole.everywhere 0 (omega arith))

short_cut_to : IsCutTo notes (history short_kept) 0
short_cut_to = record { cut = inl refl; last = none_whole }

pub short_runs : Runs short_events opened after_short
short_runs =
    let one = asked (Writes 5) (Granted 5) true opened in
    let two = asked Revokes Answered false one in
    let written = wrote 0 5 two in
    let none = none_cut drawn_behind in
    let cut = lane_cut 1 2 none in (
      one,
      (refl, (refl, refl)),
      (
        two,
        (refl, (refl, refl)),
        (
          written,
          turn_wrote two 0 5 refl ([], refl) refl,
          (
            drawn_behind,
            (refl, (record { settled = refl; cuts = no_cut_yet written refl }, refl)),
            (
              none,
              none_cuts drawn_behind refl refl ([], refl),
              (
                cut,
                lane_cuts none 1 2 refl ([], refl),
                (
                  short_kept,
                  (refl, (idle_at cut refl refl (inr (inl refl)) (inl refl), (record cut.desk.built { right = cut.register }, record { own = refl; lanes = λ l o told. told }, refl))),
                  (
                    after_short,
                    (
                      refl,
                      record {
                        idle = idle_at short_kept refl refl (inr (inl refl)) (inl refl);
                        reach = record { c = 0; p = 2 };
                        cut = short_cut_to;
                        register = refl;
                        whole = short_whole;
                        end = 0;
                        owed = 0;
                        new_is = refl;
                      },
                    ),
                    refl,
                  ),
                ),
              ),
            ),
          ),
        ),
      ),
    )
