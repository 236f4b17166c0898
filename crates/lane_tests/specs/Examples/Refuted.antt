-- Words for what no history of linked objects has.
--     IsReplayed before h     its replay may come so, and leaves no item
--     HasPair h x y           the two turns of some request came to this
use Rattle.std.specs.Prelude.{◌≡◌, ℕ, Bool, []}
use Rattle.lane_histories.specs.Services.{World}
use Rattle.lane_histories.specs.Histories.{History, IsIn}
use Rattle.lane_histories.specs.declared.items.LaneItem.TheVariants.{Passed}
use Rattle.lane_histories.specs.declared.items.Outcome.{Outcome}
use Rattle.lane_histories.specs.declared.items.Part.TheVariants.{First, Second}
use Rattle.lane_histories.specs.Replays.{IsReplay, replayed, staged}
use Rattle.lane_tests.specs.Examples.Links.{Task, links}

pub record IsReplayed (before : World links) (h : History links) : Type 0 where
  pub replay : IsReplay links (staged before h.lane) 0 0 h.register
  pub rest : (l : ℕ) → (replayed links h.register (staged before h.lane)).rest l ≡ []

pub record HasPair (h : History links) (x y : Outcome Bool) : Type 0 where
  pub first_lane : ℕ
  pub second_lane : ℕ
  pub place : ℕ
  pub task : Task
  pub next : Task
  pub first : IsIn (h.lane first_lane) (Passed place First task x)
  pub second : IsIn (h.lane second_lane) (Passed place (Second first_lane) next y)
