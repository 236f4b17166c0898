use Rattle.std.proofs.Common.{◌≡◌, ℕ, ◌-◌, refl, sym, ap, subst, ◌∙◌}
use Rattle.hsds_cli.specs.Openings.{IsVerified}
use Rattle.hsds_cli.specs.Sides.{Sides}
use Rattle.hsds_cli.specs.declared.status.Status.{Status}
use Rattle.hsds_cli.proofs.SessionLemmas.{keeps, untouched}
use Rattle.hsds_cli.proofs.VerifyLemmas.{is_report, not_opened, reported}
use Rattle.hsds_cli.proofs.operate.verify.Goals as goal

pub returns-in-Err-clause-verified : goal.returns-in-Err-clause-verified
returns-in-Err-clause-verified g c = λ text left config input.
    let sides : Sides = record {
      text = text;
      left_before = left;
      left_after = left;
      held_before = g.K.Sink.held c.args.out.now;
      held_after = g.K.Sink.held c.args.out.now;
      config_before = config;
      config_after = config;
      input_before = input;
      input_after = input;
      out_before = g.K.Sink.faults c.args.out.now;
      out_after = g.K.Sink.faults c.args.out.now;
    } in
    subst (λ (s : Status). IsVerified g.D.Disk sides c.args.disk c.in-Err.field-0.disk s) (sym c.opening_status.ensures)
    (not_opened g.D.Disk sides c.args.disk c.in-Err.field-0.disk c.in-Err.field-0.why c.in-Err.ensures.why (untouched sides refl refl))

pub returns-clause-verified : goal.returns-clause-verified
returns-clause-verified g c = λ text left config input.
    let sides : Sides = record {
      text = text;
      left_before = left;
      left_after = left;
      held_before = g.K.Sink.held c.args.out.now;
      held_after = g.K.Sink.held c.tell-status.new.out;
      config_before = config;
      config_after = config;
      input_before = input;
      input_after = input;
      out_before = g.K.Sink.faults c.args.out.now;
      out_after = g.K.Sink.faults c.tell-status.new.out;
    } in
    reported g.D.Disk sides c.args.disk c.into_disk.result c.report.result c.saturating_sub.result
    (λ honest. let o = c.in-Ok.ensures.opened honest in is_report (g.D.Disk.reads c.args.disk) c.report.result c.in-Ok.field-0.journal c.saturating_sub.result o.0 c.in-Ok.field-0.world o.1 o.2 o.3
    c.report.ensures.numbers (c.saturating_sub.ensures ∙ ap (λ (n : ℕ). n - 1) c.run.ensures))
    (keeps left left refl) c.tell-status.result c.tell-status.ensures.told
