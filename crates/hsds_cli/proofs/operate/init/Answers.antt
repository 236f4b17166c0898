use Rattle.std.proofs.Common.{◌≡◌, ℕ, List, refl, sym, subst, ◌∙◌}
use Rattle.hsds_cli.specs.Lines.{IsPrinted, init_line, made_line}
use Rattle.hsds_cli.specs.Makings.{IsInit}
use Rattle.hsds_cli.specs.Sides.{Sides}
use Rattle.hsds_cli.specs.declared.status.Status.{Status}
use Rattle.hsds_cli.proofs.InitLemmas.{init_made, init_not_made}
use Rattle.hsds_cli.proofs.SessionLemmas.{keeps, untouched}
use Rattle.hsds_cli.proofs.operate.init.Goals as goal

pub returns-in-Ok-make_journal-clause-init : goal.returns-in-Ok-make_journal-clause-init
returns-in-Ok-make_journal-clause-init g c = λ left faults.
    let sides : Sides = record {
      text = g.C.Source.left c.args.config.now;
      left_before = left;
      left_after = left;
      held_before = g.K.Sink.held c.args.out.now;
      held_after = g.K.Sink.held c.print.new.out;
      config_before = g.C.Source.faults c.args.config.now;
      config_after = g.C.Source.faults c.configured.new.config;
      input_before = faults;
      input_after = faults;
      out_before = g.K.Sink.faults c.args.out.now;
      out_after = g.K.Sink.faults c.print.new.out;
    } in
    let line : c.as_str.result.now ≡ init_line c.args.lanes c.in-Ok.config.catalogue =
    c.as_str.ensures.value ∙ c.in-Ok-made_line.ensures ∙ (λ i. made_line c.args.lanes (c.folders-folders.ensures i) (c.domains-domains.ensures.value i)) in
    init_made g.D.Disk c.args.lanes sides c.args.disk c.into_disk.result c.in-Ok.config c.in-Ok.ensures.ok c.in-Ok-make_journal.ensures.none
    (λ honest image at. c.in-Ok-make_journal.ensures.images honest image (subst (λ (d : g.row.D.Denot). g.D.Disk.images d image) c.into_disk.ensures at)) (keeps left left refl) c.print.result
    (subst (λ (l : List ℕ). IsPrinted l (g.K.Sink.held c.args.out.now) (g.K.Sink.held c.print.new.out) (g.K.Sink.faults c.args.out.now) (g.K.Sink.faults c.print.new.out) c.print.result) line c.print.ensures.printed)

pub returns-clause-init : goal.returns-clause-init
returns-clause-init g c = λ left faults.
    let sides : Sides = record {
      text = g.C.Source.left c.args.config.now;
      left_before = left;
      left_after = left;
      held_before = g.K.Sink.held c.args.out.now;
      held_after = g.K.Sink.held c.args.out.now;
      config_before = g.C.Source.faults c.args.config.now;
      config_after = g.C.Source.faults c.configured.new.config;
      input_before = faults;
      input_after = faults;
      out_before = g.K.Sink.faults c.args.out.now;
      out_after = g.K.Sink.faults c.args.out.now;
    } in
    subst (λ (s : Status). IsInit g.D.Disk c.args.lanes sides c.args.disk c.in-Err-make_journal.field-0.disk s) (sym c.making_status.ensures)
    (init_not_made g.D.Disk c.args.lanes sides c.args.disk c.in-Err-make_journal.field-0.disk c.in-Ok.config c.in-Ok.ensures.ok c.in-Err-make_journal.field-0.why c.in-Err-make_journal.ensures.why
    (untouched sides refl refl) c.in-Err-make_journal.ensures.found c.in-Err-make_journal.ensures.refused c.in-Err-make_journal.ensures.stands
    c.in-Err-make_journal.ensures.memory)
