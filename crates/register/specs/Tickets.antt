-- The turns of lanes that a request takes, in order.
use Rattle.std.specs.Prelude.{◌≡◌, ℕ, suc, ◌+◌, ◌<◌, List, [], ◌∷◌, ◌++◌, length, drop, Option, Some, None, slice_index, slice_set}
use Rattle.object_ids.specs.IdValues.{Id}
use Rattle.object_ids.specs.Ids.{lane_of}
use Rattle.object_ops.specs.declared.grants.Grant.{Grant}
use Rattle.object_ops.specs.declared.grants.Step.{Step}
use Rattle.register.specs.declared.tickets.Turn.{Turn}

-- the place of a request, what was fixed, and the turns that are still to be taken
pub record Issue : Type 0 where
  pub place : ℕ
  pub grant : Grant
  pub left : List Turn

-- the next ticket of an object's lane; `counts` has how many each lane has given
abbrev pub turn_at : List ℕ → Id → Step → Turn
turn_at counts id step = let lane = lane_of (length counts) id in record { lane = lane; ticket = slice_index counts lane; step = Some step }

abbrev pub counted : List ℕ → Id → List ℕ
counted counts id = let lane = lane_of (length counts) id in slice_set counts lane (slice_index counts lane + 1)

-- the next ticket of each lane from the number `lane` on, without a step
abbrev pub turns_from : ℕ → List ℕ → List Turn
turns_from lane [] = []
turns_from lane (n ∷ ns) = record { lane = lane; ticket = n; step = None } ∷ turns_from (lane + 1) ns

-- the turns that tickets hold: up to two by themselves, and then one of each lane from a lane on
abbrev pub turn_list : Option Turn → List Turn
turn_list None = []
turn_list (Some turn) = turn ∷ []

abbrev pub turns_left : Option Turn → Option Turn → ℕ → List ℕ → List Turn
turns_left first second lane counts = turn_list first ++ (turn_list second ++ turns_from lane (drop lane counts))

abbrev pub all_counted : List ℕ → List ℕ
all_counted [] = []
all_counted (n ∷ ns) = (n + 1) ∷ all_counted ns

-- each turn is of one of so many lanes
abbrev pub AreInLanes : ℕ → List Turn → Type 0
AreInLanes lanes [] = Unit {0}
AreInLanes lanes (t ∷ ts) = (t.lane < lanes) × AreInLanes lanes ts

-- one turn of each lane from a number on, in order
abbrev pub AreEach : ℕ → ℕ → List Turn → Type 0
AreEach lanes lane [] = lane ≡ lanes
AreEach lanes lane (t ∷ ts) = (t.lane ≡ lane) × AreEach lanes (suc lane) ts

-- each turn has the next ticket of its lane, and no other ticket was given
abbrev pub Issues : List ℕ → List Turn → List ℕ → Type 0
Issues counts [] after = after ≡ counts
Issues counts (t ∷ ts) after = (t.ticket ≡ slice_index counts t.lane) × Issues (slice_set counts t.lane (t.ticket + 1)) ts after
