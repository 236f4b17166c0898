-- How far was cut, by the lists.
--     IsWholeCut s h number c     a drawn cut whose items are done in every lane
--     IsCutTo s h c               c is the places at the last of them
--     last_cut None items         the places at the last of all cuts, if that is a register cut that found memory
--     register_cut items          the places at the last register cut that found memory
--     objects_at_cut s o items    a lane's objects at its last cut that found memory
--     behind_cut items            its items behind that cut
--     GoesOn h g                  requests and turns came, and no cut
use Rattle.std.specs.Prelude.{◌≡◌, ◌⊎◌, ℕ, ◌<◌, ◌≤◌, Bool, true, false, List, [], ◌∷◌, ◌++◌, Option, Some, None}
use Rattle.std.specs.List.{AllByRecursion}
use Rattle.lane_histories.specs.Services.{Service}
use Rattle.lane_histories.specs.Histories.{RegisterItem, Entered, DrawnCut, RegisterCut, LaneItem, Passed, WasCut, LaneList, Reach, History, IsIn, objects_step}
use Rattle.lane_histories.specs.Legal.{IsPrefix}

-- ---- drawn cuts

pub record IsWholeCut (s : Service) (h : History s) (number c : ℕ) : Type 0 where
  pub drawn : IsIn h.register (DrawnCut number c)
  pub everywhere : (l : ℕ) → l < s.lanes → IsIn (h.lane l) (WasCut number c true)

-- and 0 before there is one
pub record IsCutTo (s : Service) (h : History s) (c : ℕ) : Type 0 where
  pub cut : (c ≡ 0) ⊎ ((number : ℕ) × IsWholeCut s h number c)
  pub last : (number e : ℕ) → IsWholeCut s h number e → e ≤ c

-- no ticket of a drawn cut is out
abbrev pub NoCutIsOut : (s : Service) → History s → Type 0
NoCutIsOut s h = (l number c : ℕ) → l < s.lanes → IsIn h.register (DrawnCut number c) → (found : Bool) × IsIn (h.lane l) (WasCut number c found)

-- the numbers are those of cuts, or 0
pub record IsOfCuts (s : Service) (h : History s) (reach : Reach) : Type 0 where
  pub c : (reach.c ≡ 0) ⊎ ((number : ℕ) × IsWholeCut s h number reach.c)
  pub p : (reach.p ≡ 0) ⊎ IsIn h.register (RegisterCut reach.p true)

-- ---- register cuts

abbrev pub cut_step : {Q V : Type 0} → Option ℕ → RegisterItem Q V → Option ℕ
cut_step last (Entered e) = last
cut_step last (DrawnCut number c) = None
cut_step last (RegisterCut p true) = Some p
cut_step last (RegisterCut p false) = None

abbrev pub last_cut : {Q V : Type 0} → Option ℕ → List (RegisterItem Q V) → Option ℕ
last_cut last [] = last
last_cut last (i ∷ items) = last_cut (cut_step last i) items

abbrev pub register_cut_from : {Q V : Type 0} → ℕ → List (RegisterItem Q V) → ℕ
register_cut_from p [] = p
register_cut_from p (Entered e ∷ items) = register_cut_from p items
register_cut_from p (DrawnCut number c ∷ items) = register_cut_from p items
register_cut_from p (RegisterCut q true ∷ items) = register_cut_from q items
register_cut_from p (RegisterCut q false ∷ items) = register_cut_from p items

-- and 0 before there is one
abbrev pub register_cut : {Q V : Type 0} → List (RegisterItem Q V) → ℕ
register_cut items = register_cut_from 0 items

-- ---- cuts of a lane

-- `cut` are the objects at the last cut so far, and `now` those after all items so far
abbrev pub objects_cut : (s : Service) → s.Objects → s.Objects → LaneList s → s.Objects
objects_cut s cut now [] = cut
objects_cut s cut now (Passed place part task y ∷ items) = objects_cut s cut (objects_step s now (Passed place part task y)) items
objects_cut s cut now (WasCut number c true ∷ items) = objects_cut s now now items
objects_cut s cut now (WasCut number c false ∷ items) = objects_cut s cut now items

-- and those at the opening before there is one
abbrev pub objects_at_cut : (s : Service) → s.Objects → LaneList s → s.Objects
objects_at_cut s o items = objects_cut s o o items

abbrev pub behind_cut_from : {T R : Type 0} → List (LaneItem T R) → List (LaneItem T R) → List (LaneItem T R)
behind_cut_from since [] = since
behind_cut_from since (Passed place part task y ∷ items) = behind_cut_from (since ++ Passed place part task y ∷ []) items
behind_cut_from since (WasCut number c true ∷ items) = behind_cut_from [] items
behind_cut_from since (WasCut number c false ∷ items) = behind_cut_from (since ++ WasCut number c false ∷ []) items

-- all of them before there is one
abbrev pub behind_cut : {T R : Type 0} → List (LaneItem T R) → List (LaneItem T R)
behind_cut items = behind_cut_from [] items

-- ---- between cuts

abbrev pub IsEntry : {Q V : Type 0} → RegisterItem Q V → Type 0
IsEntry (Entered e) = Unit {0}
IsEntry (DrawnCut number c) = ⊥
IsEntry (RegisterCut p found) = ⊥

-- no cut that found memory
abbrev pub IsNoCut : {T R : Type 0} → LaneItem T R → Type 0
IsNoCut (Passed place part task y) = Unit {0}
IsNoCut (WasCut number c true) = ⊥
IsNoCut (WasCut number c false) = Unit {0}

pub record GoesOn {s : Service} (h g : History s) : Type 0 where
  pub longer : IsPrefix h g
  pub entries : AllByRecursion IsEntry longer.register.0
  pub turns : (l : ℕ) → AllByRecursion IsNoCut (longer.lane l).0
