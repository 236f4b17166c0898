-- Which contents of a journal tell a world that is kept.
--     TellsKept ..      a content tells a world that is kept, with these numbers
--     IsKeptBatch ..    so does the content that a batch leads to, and its numbers are no smaller than those of the disk
use Rattle.std.specs.Prelude.{◌≤◌}
use Rattle.lane_histories.specs.Services.{Service, World}
use Rattle.lane_histories.specs.Histories.{Reach, History}
use Rattle.lane_histories.specs.Kept.{IsKept, ToldWorld}
use Rattle.lane_histories.specs.Cuts.{IsOfCuts}
use Rattle.lane_histories.specs.JournalContents.{JournalContents, TellsAll}

pub record TellsKept (s : Service) (j : JournalContents s) (start : World s) (h : History s) (x : j.Content) (reach : Reach) : Type 0 where
  pub world : ToldWorld s
  pub told : TellsAll j x world
  pub kept : IsKept s start h world reach

-- the numbers are at least those
pub record IsAsFar (from to : Reach) : Type 0 where
  pub c : from.c ≤ to.c
  pub p : from.p ≤ to.p

pub record IsKeptBatch (s : Service) (j : JournalContents s) (start : World s) (h : History s) (own : Reach) (x : j.Content)
    (reach : Reach) : Type 0 where
  pub tells : TellsKept s j start h x reach
  pub cuts : IsOfCuts s h reach
  pub far : IsAsFar own reach
