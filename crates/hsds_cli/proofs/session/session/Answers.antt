use Rattle.std.proofs.Common.{◌≡◌, Option, sym, subst, ◌∙◌}
use Rattle.hsds_cli.specs.declared.closed.Closed.{Closed}
use Rattle.hsds_cli.specs.Openings.{IsSession, closed_by}
use Rattle.hsds_cli.specs.Sides.{Sides}
use Rattle.hsds_cli.specs.declared.status.Status.{Status}
use Rattle.hsds_cli.proofs.SessionLemmas.{session_ended}
use Rattle.hsds_cli.proofs.session.session.Goals as goal

pub returns-clause-session : goal.returns-clause-session
returns-clause-session g c =
    let sides : Sides = record {
      text = g.C.Source.left c.args.config.now;
      left_before = g.S.Source.left c.args.input.now;
      left_after = g.S.Source.left c.serve_ends-disk.new.input;
      held_before = g.K.Sink.held c.args.out.now;
      held_after = g.K.Sink.held c.serve_ends-disk.new.out;
      config_before = g.C.Source.faults c.args.config.now;
      config_after = g.C.Source.faults c.configured.new.config;
      input_before = g.S.Source.faults c.args.input.now;
      input_after = g.S.Source.faults c.serve_ends-disk.new.input;
      out_before = g.K.Sink.faults c.args.out.now;
      out_after = g.K.Sink.faults c.serve_ends-disk.new.out;
    } in
    subst (λ (o : Option Closed). IsSession g.D.Disk sides c.args.disk c.serve_ends-disk.result.disk o c.status_by.result) (sym c.closed_by.ensures)
    (subst (λ (s : Status). IsSession g.D.Disk sides c.args.disk c.serve_ends-disk.result.disk (closed_by c.serve_ends-disk.result.outcome) s) (sym c.status_by.ensures)
    (session_ended g.D.Disk sides c.args.disk c.serve_ends-disk.result.disk c.in-Ok.config c.in-Ok.ensures.ok c.in-Ok-of_table.tokens c.in-Ok-of_table.ensures c.serve_ends-disk.result.outcome
    c.serve_ends-disk.ensures.ended c.serve_ends-disk.ensures.causes c.serve_ends-disk.ensures.disk_fault))
