use Rattle.std.proofs.Common.{Some, Global, map, string_bytes, ap, ◌∙◌}
use Rattle.command_words.specs.Views.{as_command}
use Rattle.command_words.specs.declared.command.Wanted.{Wanted}
use Rattle.hsds_cli.specs.Doors.{doors_of}
use Rattle.hsds_cli.specs.Sides.{Sides, sides_of}
use Rattle.hsds_cli.specs.declared.command_end.WithDoors.{WithDoors}
use Rattle.hsds_cli.proofs.RunLemmas.{commanded, run_beside}
use Rattle.hsds_cli.proofs.ServeLemmas.{run_of_serve}
use Rattle.hsds_cli.proofs.run.obey.Goals as goal

pub returns-in-Ok-Session-clause-run : goal.returns-in-Ok-Session-clause-run
returns-in-Ok-Session-clause-run g c =
    let sides : Sides = record {
      text = g.C.Source.left c.args.config.now;
      left_before = g.S.Source.left c.args.input.now;
      left_after = g.S.Source.left c.session.new.input;
      held_before = g.K.Sink.held c.args.out.now;
      held_after = g.K.Sink.held c.session.new.out;
      config_before = g.C.Source.faults c.args.config.now;
      config_after = g.C.Source.faults c.session.new.config;
      input_before = g.S.Source.faults c.args.input.now;
      input_after = g.S.Source.faults c.session.new.input;
      out_before = g.K.Sink.faults c.args.out.now;
      out_after = g.K.Sink.faults c.session.new.out;
    } in
    run_beside g.D.Disk _ (map (string_bytes {Z = Global}) c.args.words.now) sides g.F.Door g.F.Link.Source g.F.Link.Sink c.args.doors.items c.args.disk c.beside.result
    c.session.result _ (ap (λ (x : WithDoors g.row.D.Denot g.row.F.Denot). x.end) c.beside.ensures)
    (ap (λ (x : WithDoors g.row.D.Denot g.row.F.Denot). x.doors.items) c.beside.ensures)
    (c.in-Ok-Session.ensures.ok ∙ ap (λ (w : Wanted). Some (as_command w)) c.in-Ok-Session.field-0-is)
    c.session.ensures.session

pub returns-in-Ok-Serve-clause-run : goal.returns-in-Ok-Serve-clause-run
returns-in-Ok-Serve-clause-run g c =
    let sides : Sides = record {
      text = g.C.Source.left c.args.config.now;
      left_before = g.S.Source.left c.args.input.now;
      left_after = g.S.Source.left c.args.input.now;
      held_before = g.K.Sink.held c.args.out.now;
      held_after = g.K.Sink.held c.args.out.now;
      config_before = g.C.Source.faults c.args.config.now;
      config_after = g.C.Source.faults c.serve.new.config;
      input_before = g.S.Source.faults c.args.input.now;
      input_after = g.S.Source.faults c.args.input.now;
      out_before = g.K.Sink.faults c.args.out.now;
      out_after = g.K.Sink.faults c.args.out.now;
    } in
    let doors = doors_of g.F.Door g.F.Link.Source g.F.Link.Sink c.args.doors.items c.serve.result.doors.items in
    run_of_serve g.D.Disk _ (map (string_bytes {Z = Global}) c.args.words.now) sides doors c.args.disk c.serve.result.end.disk c.serve.result.end.closed c.serve.result.end.status _ _ _ _ _
    (c.in-Ok-Serve.ensures.ok ∙ ap (λ (w : Wanted). Some (as_command w)) c.in-Ok-Serve.field-0-is)
    (c.serve.ensures.served (g.S.Source.left c.args.input.now) (g.K.Sink.held c.args.out.now) (g.S.Source.faults c.args.input.now) (g.K.Sink.faults c.args.out.now))

pub returns-in-Ok-clause-run : goal.returns-in-Ok-clause-run
returns-in-Ok-clause-run g c =
    let sides : Sides = sides_of g.C.Source g.S.Source g.K.Sink c.args.config.now c.operate.new.config c.args.input.now c.operate.new.input c.args.out.now c.operate.new.out in
    let doors = doors_of g.F.Door g.F.Link.Source g.F.Link.Sink c.args.doors.items c.args.doors.items in
    run_beside g.D.Disk _ (map (string_bytes {Z = Global}) c.args.words.now) sides g.F.Door g.F.Link.Source g.F.Link.Sink c.args.doors.items c.args.disk c.beside-in-Ok.result
    c.operate.result _ (ap (λ (x : WithDoors g.row.D.Denot g.row.F.Denot). x.end) c.beside-in-Ok.ensures)
    (ap (λ (x : WithDoors g.row.D.Denot g.row.F.Denot). x.doors.items) c.beside-in-Ok.ensures) c.in-Ok.ensures.ok
    (commanded g.D.Disk _ sides doors c.args.disk c.operate.result.disk c.operate.result.closed _ c.operate.result.status c.operate.ensures.operated c.operate.ensures.closed)
