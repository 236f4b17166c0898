-- Which worlds are kept from a history.
--     IsKeptWith s start h w reach k    the catalogue is that of place p, and the objects of each lane l those after its first k l items
--     HasCut s h c k                    a drawn cut at c places has its item among the first k l of each lane l
--     IsKept s start h w reach          both, with some k
use Rattle.std.specs.Prelude.{◌≡◌, ◌⊎◌, ℕ, ◌<◌, ◌≤◌, Bool, length, take, drop}
use Rattle.std.specs.List.{AllByRecursion}
use Rattle.lane_histories.specs.Services.{Service, World}
use Rattle.lane_histories.specs.Histories.{DrawnCut, LaneItem, Passed, WasCut, LaneList, History, Reach, IsIn, places, register_at, objects_after}

-- what a journal tells of a world
pub record ToldWorld (s : Service) : Type 0 where
  pub catalogue : s.Catalogue
  pub objects : ℕ → s.Objects

-- the item belongs to no place at or above p
abbrev pub IsBelow : {T R : Type 0} → ℕ → LaneItem T R → Type 0
IsBelow p (Passed place part task outcome) = place < p
IsBelow p (WasCut number c found) = Unit {0}

-- it belongs to no place below c
abbrev pub IsFrom : {T R : Type 0} → ℕ → LaneItem T R → Type 0
IsFrom c (Passed place part task outcome) = c ≤ place
IsFrom c (WasCut number at found) = Unit {0}

-- the objects are those after the first k items; none of these is of a place of p or above, and all of places below c are among them
pub record IsKeptLane (s : Service) (catalogue : s.Catalogue) (start kept : s.Objects) (items : LaneList s) (reach : Reach)
    (k : ℕ) : Type 0 where
  pub few : k ≤ length items
  pub objects : s.Alike catalogue kept (objects_after s start (take k items))
  pub below : AllByRecursion (IsBelow reach.p) (take k items)
  pub all : AllByRecursion (IsFrom reach.c) (drop k items)

pub record IsKeptWith (s : Service) (start : World s) (h : History s) (w : ToldWorld s) (reach : Reach) (k : ℕ → ℕ) : Type 0 where
  pub order : reach.c ≤ reach.p
  pub catalogue : w.catalogue ≡ s.catalogue (register_at s reach.p start.register h.register)
  pub lanes : (l : ℕ) → l < s.lanes → IsKeptLane s w.catalogue (start.objects l) (w.objects l) (h.lane l) reach (k l)

-- there is no cut yet; or a cut was drawn at c places, and has its item among the first of each lane
abbrev pub HasCut : (s : Service) → History s → ℕ → (ℕ → ℕ) → Type 0
HasCut s h c k =
    (c ≡ 0)
    ⊎ ((number : ℕ) × IsIn h.register (DrawnCut number c)
    × ((l : ℕ) → l < s.lanes → (found : Bool) × IsIn (take (k l) (h.lane l)) (WasCut number c found)))

-- kept, so that it stays so as the history grows
pub record IsKept (s : Service) (start : World s) (h : History s) (w : ToldWorld s) (reach : Reach) : Type 0 where
  pub k : ℕ → ℕ
  pub kept : IsKeptWith s start h w reach k
  pub few : reach.p ≤ places h.register
  pub cut : HasCut s h reach.c k
