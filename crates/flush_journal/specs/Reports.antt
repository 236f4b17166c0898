-- The numbers of a journal.
use Rattle.std.specs.Prelude.{◌≡◌, ◌≤◌}
use Rattle.flush_journal.specs.declared.report.Report.{Report}

-- numbers that a journal of version 1 can have: each batch takes some bytes before the end
pub record IsVersion1 (r : Report) : Type 0 where
  pub version : r.version ≡ 1
  pub some_lane : 1 ≤ r.lanes
  pub few_lanes : r.lanes ≤ 16
  pub counted : r.batches ≤ r.end
