use Rattle.std.proofs.Common.{◌≡◌, refl, sym, subst}
use Rattle.service_core.proofs.OfJournals.Beginning.{recovered}
use Rattle.service_core.specs.Worlds.{seen}
use Rattle.hsds_cli.specs.Exports.{IsExported}
use Rattle.hsds_cli.specs.Sides.{Sides}
use Rattle.hsds_cli.specs.declared.status.Status.{Status}
use Rattle.hsds_cli.proofs.ExportLemmas.{export_not_opened, exported}
use Rattle.hsds_cli.proofs.SessionLemmas.{keeps, untouched}
use Rattle.hsds_cli.proofs.export.export.Goals as goal

pub returns-in-Err-clause-exported : goal.returns-in-Err-clause-exported
returns-in-Err-clause-exported g c = λ text left config input.
    let sides : Sides = record {
      text = text;
      left_before = left;
      left_after = left;
      held_before = g.K.Sink.held c.args.out.now;
      held_after = g.K.Sink.held c.args.out.now;
      config_before = config;
      config_after = config;
      input_before = input;
      input_after = input;
      out_before = g.K.Sink.faults c.args.out.now;
      out_after = g.K.Sink.faults c.args.out.now;
    } in
    subst (λ (s : Status). IsExported g.D.Disk c.args.path.now sides c.args.disk c.in-Err.field-0.disk s) (sym c.opening_status.ensures)
    (export_not_opened g.D.Disk c.args.path.now sides c.args.disk c.in-Err.field-0.disk c.in-Err.field-0.why c.in-Err.ensures.why (untouched sides refl refl))

pub returns-clause-exported : goal.returns-clause-exported
returns-clause-exported g c = λ text left config input.
    let sides : Sides = record {
      text = text;
      left_before = left;
      left_after = left;
      held_before = g.K.Sink.held c.args.out.now;
      held_after = g.K.Sink.held c.tell-status.new.out;
      config_before = config;
      config_after = config;
      input_before = input;
      input_after = input;
      out_before = g.K.Sink.faults c.args.out.now;
      out_after = g.K.Sink.faults c.tell-status.new.out;
    } in
    exported g.D.Disk c.args.path.now sides c.args.disk c.into_disk.result c.exports_are_loaded.ensures.loads c.exports_are_loaded.ensures.line (seen c.in-Ok.field-0.world)
    (λ honest. let o = c.in-Ok.ensures.opened honest in (o.0, o.1, recovered o.0.held o.0.lanes c.in-Ok.field-0.world o.3 c.objects_are_whole.ensures))
    (keeps left left refl) c.tell-status.result c.tell-status.ensures.told
