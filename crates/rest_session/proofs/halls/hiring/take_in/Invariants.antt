use Rattle.std.proofs.Common.{◌≡◌, ◌+◌, ◌≤◌, ◌++◌, List, Some, map, length, vec_len, vec_capacity}
use Rattle.std.specs.Prelude.{All, reverse}
use Rattle.hall.specs.Passes.{IsPassOf, TookIn, view_of}
use Rattle.hall.specs.declared.gate.OpenGate.{OpenGate}
use Rattle.rest_session.specs.declared.halls.workers.Worker.{Worker}
use Rattle.rest_session.specs.Halls.Staff.{numbers}
use Rattle.rest_session.proofs.halls.hiring.take_in.Given as goal

abbrev pub invariant-workers : goal.invariant-workers
invariant-workers g l = record {
  done : List (Worker g.row.D.Denot g.row.F.Denot OpenGate g.row.D-KnownBy.Denot g.D.AtDesk);
  parted : l.initial.workers.items ≡ l.workers.items ++ done;
  of : IsPassOf l.hall l.pass;
  names : numbers l.pass ≡ numbers l.initial.pass + length done;
  itself : TookIn (view_of l.pass) (view_of l.initial.pass);
  others : All (λ w. TookIn (view_of l.pass) (view_of w.pass)) done;
  handed : map (λ d. Some d) l.doors.items ≡ map (λ d. Some d) l.initial.doors.items ++ reverse (map (λ w. w.door) done);
  told : l.reports.items ≡ l.initial.reports.items ++ reverse (map (λ w. record { ends = w.ends; door_failed = w.door_failed }) done);
  doors_room : vec_len l.doors + vec_len l.workers ≤ vec_capacity l.doors;
  reports_room : vec_len l.reports + vec_len l.workers ≤ vec_capacity l.reports;
}

abbrev pub decreases-workers : goal.decreases-workers
decreases-workers g l = vec_len l.workers
