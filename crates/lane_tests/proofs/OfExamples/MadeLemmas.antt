-- An object that is linked and then made, or not.
use Rattle.std.proofs.Common.{◌≡◌, ⊎_elim, ℕ, zero, suc, Bool, true, false, not, [], ◌∷◌, refl, ap, sym, ◌∙◌}
use Rattle.lane_histories.specs.Histories.{IsIn, StartsWith, issued, tickets}
use Rattle.lane_histories.specs.declared.items.LaneItem.{LaneItem}
use Rattle.lane_histories.specs.declared.items.LaneItem.TheVariants.{Passed}
use Rattle.lane_histories.specs.declared.items.Outcome.{Outcome}
use Rattle.lane_histories.specs.declared.items.Outcome.TheVariants.{Done}
use Rattle.lane_histories.specs.declared.items.Part.{Part}
use Rattle.lane_histories.specs.declared.items.Part.TheVariants.{First, Second}
use Rattle.lane_histories.specs.Legal.{IsLegal, IsLegalLane, IsLegalOutcome, PairsAgree, is_skipped, is_well}
use Rattle.lane_tests.specs.Examples.Links.{Task, link_to, links, make_at}
use Rattle.lane_tests.specs.Examples.Made.{asked_for, group_in, make_turn, made_with, two_lanes, with_group}

module _ (linked : Bool) (made : Outcome Bool) (agree : is_skipped made ≡ not linked)
    (may : IsLegalOutcome links [] (Second 0) (make_at 1) made) where
  link_is : (here : Bool) → IsLegalLane links (group_in here 0) (Passed 0 First (link_to 0 1) (Done here) ∷ [])
  link_is true = (refl, tt)
  link_is false = (refl, tt)

  lanes : (l : ℕ) → IsLegalLane links (group_in linked l) (two_lanes (Done linked) (make_turn made) l)
  lanes zero = link_is linked
  lanes (suc zero) = (may, tt)
  lanes (suc (suc l)) = tt

  in_order : (l : ℕ) → StartsWith (issued links l (asked_for 1)) (tickets (two_lanes (Done linked) (make_turn made) l))
  in_order zero = ([], refl)
  in_order (suc zero) = ([], refl)
  in_order (suc (suc l)) = (issued links (suc (suc l)) (asked_for 1), refl)

  -- what a list of one has
  only_one : (i k : LaneItem Task Bool) → IsIn (i ∷ []) k → i ≡ k
  only_one i k here = ⊎_elim (λ same. same) (λ none. absurd none) here

  outcome_is : (p q : ℕ) (a b : Part) (t u : Task) (x y : Outcome Bool) → ◌≡◌ {A = LaneItem Task Bool} (Passed p a t x) (Passed q b u y) → x ≡ y
  outcome_is p q a b t u x y e = cc

  no_second : (p q a : ℕ) (t u : Task) (x y : Outcome Bool) → ◌≡◌ {A = LaneItem Task Bool} (Passed p First t x) (Passed q (Second a) u y) → ⊥
  no_second p q a t u x y e = cc

  no_first : (p q a : ℕ) (t u : Task) (x y : Outcome Bool) → ◌≡◌ {A = LaneItem Task Bool} (Passed p (Second a) t x) (Passed q First u y) → ⊥
  no_first p q a t u x y e = cc

  pairs : PairsAgree links (two_lanes (Done linked) (make_turn made))
  pairs zero zero place task next x y first second = absurd (no_second 0 place 0 (link_to 0 1) next (Done linked) y (only_one _ _ second))
  pairs zero (suc zero) place task next x y first second =
      let one : Done linked ≡ x = outcome_is 0 place First First (link_to 0 1) task (Done linked) x (only_one _ _ first) in
      let two : made ≡ y = outcome_is 0 place (Second 0) (Second 0) (make_at 1) next made y (only_one _ _ second) in
      ap is_skipped (sym two) ∙ agree ∙ ap (λ (z : Outcome Bool). not (is_well links z)) one
  pairs zero (suc (suc b)) place task next x y first second = absurd second
  pairs (suc zero) b place task next x y first second = absurd (no_first 0 place 0 (make_at 1) task made x (only_one _ _ first))
  pairs (suc (suc a)) b place task next x y first second = absurd first

  pub made_legal : IsLegal links (with_group linked) (made_with linked made)
  made_legal = record { register = ((refl, refl), tt); lanes = lanes; in_order = in_order; pairs = pairs }
