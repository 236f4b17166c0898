use Rattle.std.proofs.Common.{◌≡◌, List, length}
use Rattle.register.specs.declared.verdicts.Verdict.{Verdict}
use Rattle.lane_histories.specs.declared.items.Entry.{Entry}
use Rattle.lane_histories.specs.declared.items.RegisterItem.{RegisterItem}
use Rattle.service_histories.specs.ArrayServices.{Asked}
use Rattle.hall.specs.Answers.{GoesThrough, IsServingJob}
use Rattle.hall.specs.ArrayMachines.{start_of}
use Rattle.hall.proofs.TicketLemmas.{IsTakingLanes}
use Rattle.hall.proofs.hall.Hall.take_lanes.Given as goal

abbrev pub invariant-lanes : goal.invariant-lanes
invariant-lanes g l = record {
  table : l.seat.table_id ≡ l.fn.seat.table_id;
  id : l.seat.id ≡ l.fn.seat.id;
  slots : l.seat.me.1 ≡ l.fn.seat.me.1;
  gates : (end : g.row.G.Denot) → GoesThrough g.G.Gate.goes l.job.place l.tickets.left l.gate end
      → GoesThrough g.G.Gate.goes l.job.place l.fn.tickets.left l.fn.gate end;
  taking : (before : List (RegisterItem Asked Verdict)) (e : Entry Asked Verdict)
      → IsServingJob (start_of l.self.table.shared.key) before e l.job.place l.job.op.now l.job.grant l.fn.tickets l.fn.seat.me.0
      → IsTakingLanes (start_of l.self.table.shared.key) before e l.job.grant l.fn.seat.me.0 l.seat.me.0 l.tickets.left;
}

abbrev pub decreases-lanes : goal.decreases-lanes
decreases-lanes g l = length l.tickets.left
