use Rattle.std.proofs.Common.{◌≡◌, Option, refl, sym, subst}
use Rattle.access_lists.specs.Tokens.Bearer.{TokenTable}
use Rattle.rest_session.specs.Halls.Visits.{telling}
use Rattle.rest_session.specs.Kept.Doors.{HaveEnded}
use Rattle.hsds_cli.specs.declared.closed.Closed.{Closed}
use Rattle.hsds_cli.specs.declared.status.Status.{Status}
use Rattle.hsds_cli.specs.Doors.{doors_of}
use Rattle.hsds_cli.specs.Serves.{IsServe, doors_closed}
use Rattle.hsds_cli.specs.Sides.{IsUntouched, Sides}
use Rattle.hsds_cli.proofs.ServeLemmas.{doors_ended}
use Rattle.hsds_cli.proofs.SessionLemmas.{keeps}
use Rattle.hsds_cli.proofs.serve.serve.Goals as goal

pub returns-clause-served : goal.returns-clause-served
returns-clause-served g c = λ left held input out.
    let sides : Sides = record {
      text = g.C.Source.left c.args.config.now;
      left_before = left;
      left_after = left;
      held_before = held;
      held_after = held;
      config_before = g.C.Source.faults c.args.config.now;
      config_after = g.C.Source.faults c.configured.new.config;
      input_before = input;
      input_after = input;
      out_before = out;
      out_after = out;
    } in
    let served = c.serve_doors-doors.result in
    let doors = doors_of g.F.Door g.F.Link.Source g.F.Link.Sink c.args.doors.items served.doors.items in
    let ended = subst (λ (t : TokenTable). HaveEnded g.D.Disk _ (telling g.F.Door g.F.Link.Source g.F.Link.Sink) t c.args.links c.args.disk served.disk c.args.doors.items served.doors.items served.outcome)
    c.in-Ok-of_table.ensures c.serve_doors-doors.ensures.ended in
    let untouched : IsUntouched sides = record { left = keeps left left refl; held = keeps held held refl } in
    subst (λ (o : Option Closed). IsServe g.D.Disk _ c.args.links sides doors c.args.disk served.disk o c.status_by-status.result) (sym c.closed_by.ensures)
    (subst (λ (s : Status). IsServe g.D.Disk _ c.args.links sides doors c.args.disk served.disk (doors_closed served.outcome) s) (sym c.status_by-status.ensures)
    (doors_ended g.D.Disk _ c.args.links sides doors c.args.disk untouched c.in-Ok.config c.in-Ok.ensures.ok served.disk served.outcome ended c.serve_doors-doors.ensures.disk_fault))
