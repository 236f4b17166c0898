-- The passes of a hall's workers.
--     IsGiver h k n p    the first pass, which gave k numbers away and has n more
--     IsHired h x p      a pass under the number x, which has asked nothing
--     IsStaff doors ws   a worker at each door, in order, and behind them one that flushes
use Rattle.std.specs.Prelude.{◌≡◌, ℕ, ◌+◌, List, [], ◌∷◌, ◌++◌, length, map, Some, None}
use Rattle.lane_histories.specs.Histories.{own}
use Rattle.hall_rule.specs.Seen.{nothing}
use Rattle.hall_rule.specs.Sums.{upward}
use Rattle.hall.specs.Answers.{ArrayView}
use Rattle.hall.specs.Passes.{IsPassOf, names_of, opening, view_of}
use Rattle.hall.specs.declared.desk.AtDesk.{Ghosts}
use Rattle.hall.specs.declared.hall.Hall.{Hall}
use Rattle.hall.specs.declared.pass.Pass.{Pass}
use Rattle.rest_session.specs.declared.halls.workers.Worker.{Worker}

pub record IsGiver {D K : Type 0} {g : Ghosts D K} (h : Hall D K) (k n : ℕ) (p : Pass D K g) : Type 0 where
  pub of_this_hall : IsPassOf h p
  pub number : (view_of p).number ≡ 0
  pub spare : (view_of p).spare ≡ upward (k + 1) n
  pub joined : (view_of p).joined ≡ []
  pub seen : (view_of p).seen ≡ nothing (opening h).owners
  pub front : p.front ≡ 0

pub record IsHired {D K : Type 0} {g : Ghosts D K} (h : Hall D K) (x : ℕ) (p : Pass D K g) : Type 0 where
  pub of_this_hall : IsPassOf h p
  pub number : (view_of p).number ≡ x
  pub spare : (view_of p).spare ≡ []
  pub joined : (view_of p).joined ≡ []
  pub unasked : own x (view_of p).seen.register ≡ []
  pub keepings : (view_of p).seen.keepings ≡ []
  pub front : p.front ≡ 0

-- the number is the pass's own, and it has no other
pub record IsAlone {K : Type 0} (v : ArrayView K) : Type 0 where
  pub spare : v.spare ≡ []
  pub joined : v.joined ≡ []

-- how many numbers a pass has: its own, its spare and its joined ones
abbrev pub numbers : {D K : Type 0} {g : Ghosts D K} → Pass D K g → ℕ
numbers p = length (names_of p)

abbrev pub IsStaff : {D K F G : Type 0} {g : Ghosts D K} → List F → List (Worker D F G K g) → Type 0
IsStaff doors workers = map (λ w. w.door) workers ≡ map (λ d. Some d) doors ++ None ∷ []
