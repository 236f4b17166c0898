-- The lists of the late cut, and an earlier moment of theirs.
use Rattle.std.proofs.Common.{◌≡◌, ◌≢◌, ⊎_elim, ℕ, zero, suc, ◌≤◌, true, false, cond, [], ◌∷◌, ◌++◌, refl, ap, sym, ◌∙◌, subst, arith, ne_eqb}
use Rattle.std.specs.Prelude.{◌==◌, nat_lt}
use Rattle.std.proofs.lemmas.Bool.{le-ltb}
use Rattle.std.specs.List.{AllByRecursion}
use Rattle.lane_histories.specs.Histories.{changed_at, cut_of, issued, part_of, tickets}
use Rattle.lane_histories.specs.declared.items.RegisterItem.TheVariants.{RegisterCut}
use Rattle.lane_histories.specs.declared.items.LaneItem.TheVariants.{Passed, WasCut}
use Rattle.lane_histories.specs.declared.items.Outcome.TheVariants.{Done}
use Rattle.lane_histories.specs.declared.items.Part.TheVariants.{Only}
use Rattle.lane_histories.specs.Legal.{HasTickets, IsPrefix}
use Rattle.lane_histories.specs.Laws.{IsFound, IsWhole}
use Rattle.lane_histories.specs.Core.{history}
use Rattle.lane_histories.proofs.LaneLists.{at_case}
use Rattle.lane_tests.specs.Examples.Cuts.{after_late, drawn_late, lane_cut, written}
use Rattle.lane_tests.specs.Examples.Notes.{notes}

pub drawn_first : IsPrefix (history drawn_late) (history (after_late true))
drawn_first = record {
  register = (RegisterCut 9 true ∷ [], refl);
  lane = λ l. ((after_late true).items l, refl);
  keepings = ((after_late true).keepings, refl);
}

pub drawn_has : HasTickets notes (history drawn_late)
drawn_has l = omega arith

-- ---- lanes that aren't there

other_lane : {X : Type 0} (l : ℕ) (x : X) (f : ℕ → X) (m : ℕ) → m ≢ l → changed_at l x f m ≡ f m
other_lane l x f m differ = ⊎_elim (λ same. absurd (differ same.0)) (λ other. other.1) (at_case l x f m)

module _ (m : ℕ) (behind : 2 ≤ m) where
  no_items : (after_late true).items m ≡ []
  no_items =
      let first = written drawn_late in
      let second = lane_cut 0 9 first in
      other_lane 1 (second.items 1 ++ WasCut 0 9 true ∷ []) second.items m (λ same. omega (arith, same))
      ∙ other_lane 0 (first.items 0 ++ WasCut 0 9 true ∷ []) first.items m (λ same. omega (arith, same))
      ∙ other_lane 0 (drawn_late.items 0 ++ Passed 7 Only 5 (Done 0) ∷ []) drawn_late.items m (λ same. omega (arith, same))

  no_tickets : issued notes m (after_late true).list ≡ []
  no_tickets =
      let not_first : (0 == m) ≡ false = ne_eqb 0 m (λ same. omega (arith, same)) in
      let not_there : nat_lt m 2 ≡ false = le-ltb m 2 behind in
      λ i. cond (not_first i) (part_of 7 Only 5 ∷ []) [] ++ (cond (not_there i) (cut_of 0 9 ∷ []) [] ++ [])

pub late_whole : IsWhole notes (history (after_late true))
late_whole = record { all_passed = passed; found = found }
  where
    passed : (l : ℕ) → tickets ((after_late true).items l) ≡ issued notes l (after_late true).list
    passed zero = refl
    passed (suc zero) = refl
    passed (suc (suc l)) = ap tickets (no_items (suc (suc l)) (omega arith)) ∙ sym (no_tickets (suc (suc l)) (omega arith))

    found : (l : ℕ) → AllByRecursion IsFound ((after_late true).items l)
    found zero = (tt, (tt, tt))
    found (suc zero) = (tt, tt)
    found (suc (suc l)) = subst (AllByRecursion IsFound) (sym (no_items (suc (suc l)) (omega arith))) tt
