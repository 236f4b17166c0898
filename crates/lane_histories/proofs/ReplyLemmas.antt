-- What a place is answered, as the history grows.
use Rattle.std.proofs.Common.{◌≡◌, ℕ, Bool, true, false, cond, [], ◌∷◌, ◌++◌, Option, Some, None, refl, ap, ◌∙◌}
use Rattle.std.specs.Prelude.{◌==◌}
use Rattle.lane_histories.specs.Services.{Service, Turns, no_turn, one_turn, two_turns, each_lane}
use Rattle.lane_histories.specs.Histories.{Entry, Entered, DrawnCut, RegisterCut, Part, Only, First, Second, Outcome, Passed, WasCut, History, RegisterList, LaneList}
use Rattle.lane_histories.specs.Legal.{IsPrefix}
use Rattle.lane_histories.specs.Replies.{What, entry_at, entry_what, is_same_part, one_what, outcome_of, pair_what, turns_what, two_what}
use Rattle.lane_histories.specs.Laws.{RepliesStay}

-- what is known stays
abbrev Stays : {X : Type 0} → Option X → Option X → Type 0
Stays {X} old new = (x : X) → old ≡ Some x → new ≡ Some x

module _ (s : Service) where
  never : {X : Type 0} (x : X) → None ≡ Some x → ⊥
  never x e = cc

  first_stays : {X : Type 0} (here : Bool) (v old new : Option X) → Stays old new → Stays (cond here v old) (cond here v new)
  first_stays true v old new stays x is = is
  first_stays false v old new stays x is = stays x is

  both_stay : {X : Type 0} (here : Bool) (u v old new : Option X) → Stays u v → Stays old new → Stays (cond here u old) (cond here v new)
  both_stay true u v old new one two x is = one x is
  both_stay false u v old new one two x is = two x is

  entry_stays : (place : ℕ) (xs ys : RegisterList s) → Stays (entry_at place xs) (entry_at place (xs ++ ys))
  entry_stays place [] ys e is = absurd (never e is)
  entry_stays place (Entered e ∷ xs) ys x is = first_stays (e.place == place) (Some e) (entry_at place xs) (entry_at place (xs ++ ys)) (entry_stays place xs ys) x is
  entry_stays place (DrawnCut number c ∷ xs) ys x is = entry_stays place xs ys x is
  entry_stays place (RegisterCut p found ∷ xs) ys x is = entry_stays place xs ys x is

  outcome_stays : (place : ℕ) (part : Part) (xs ys : LaneList s) → Stays (outcome_of place part xs) (outcome_of place part (xs ++ ys))
  outcome_stays place part [] ys y is = absurd (never y is)
  outcome_stays place part (Passed other there task z ∷ xs) ys y is =
      let old = outcome_of place part xs in
      let new = outcome_of place part (xs ++ ys) in
      let later : Stays old new = outcome_stays place part xs ys in
      let same = is_same_part there part in
      both_stay (other == place) (cond same (Some z) old) (cond same (Some z) new) old new (first_stays same (Some z) old new later) later y is
  outcome_stays place part (WasCut number c found ∷ xs) ys y is = outcome_stays place part xs ys y is

  one_stays : (old new : Option (Outcome s.Reply)) → Stays old new → Stays {X = What s.Verdict s.Reply} (one_what old) (one_what new)
  one_stays None new stays w is = absurd (never w is)
  one_stays (Some y) new stays w is = ap one_what (stays y refl) ∙ is

  two_stays : (x : Outcome s.Reply) (old new : Option (Outcome s.Reply)) → Stays old new → Stays {X = What s.Verdict s.Reply} (two_what x old) (two_what x new)
  two_stays x None new stays w is = absurd (never w is)
  two_stays x (Some y) new stays w is = ap (two_what x) (stays y refl) ∙ is

  pair_stays : (old new also then_new : Option (Outcome s.Reply)) → Stays old new → Stays also then_new → Stays {X = What s.Verdict s.Reply} (pair_what old also) (pair_what new then_new)
  pair_stays None new also then_new one two w is = absurd (never w is)
  pair_stays (Some x) new also then_new one two w is = ap (λ (o : Option (Outcome s.Reply)). pair_what o then_new) (one x refl) ∙ two_stays x also then_new two w is

  module _ (h g : History s) (prefix : IsPrefix h g) where
    lane_outcome_stays : (l place : ℕ) (part : Part) → Stays (outcome_of place part (h.lane l)) (outcome_of place part (g.lane l))
    lane_outcome_stays l place part y is = ap (outcome_of place part) (prefix.lane l).1 ∙ outcome_stays place part (h.lane l) (prefix.lane l).0 y is

    turns_stay : (e : Entry s.Asked s.Verdict) (turns : Turns s.Task) → Stays (turns_what s h.lane e turns) (turns_what s g.lane e turns)
    turns_stay e no_turn w is = is
    turns_stay e (one_turn l task) w is = one_stays _ _ (lane_outcome_stays l e.place Only) w is
    turns_stay e (two_turns a task b next) w is = pair_stays _ _ _ _ (lane_outcome_stays a e.place First) (lane_outcome_stays b e.place (Second a)) w is
    turns_stay e (each_lane task) w is = is

    at_entry : (old new : Option (Entry s.Asked s.Verdict)) → Stays old new → Stays (entry_what s h.lane old) (entry_what s g.lane new)
    at_entry None new stays w is = absurd (never w is)
    at_entry (Some e) new stays w is = ap (entry_what s g.lane) (stays e refl) ∙ turns_stay e (s.turns e.asked e.verdict) w is

    register_entry_stays : (place : ℕ) → Stays (entry_at place h.register) (entry_at place g.register)
    register_entry_stays place e is = ap (entry_at place) prefix.register.1 ∙ entry_stays place h.register prefix.register.0 e is

  pub replies_stay : RepliesStay s
  replies_stay h g place w prefix is = at_entry h g prefix (entry_at place h.register) (entry_at place g.register) (register_entry_stays h g prefix place) w is
