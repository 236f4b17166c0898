use Rattle.hsds_cli.specs.Sides.{Sides}
use Rattle.hsds_cli.proofs.ImportLemmas.{imported, later_of}
use Rattle.hsds_cli.proofs.import.import.Goals as goal

pub returns-clause-imported : goal.returns-clause-imported
returns-clause-imported g c = λ text config.
    let sides : Sides = record {
      text = text;
      left_before = g.S.Source.left c.args.input.now;
      left_after = g.S.Source.left c.import_domain-disk.new.input;
      held_before = g.K.Sink.held c.args.out.now;
      held_after = g.K.Sink.held c.tell.new.out;
      config_before = config;
      config_after = config;
      input_before = g.S.Source.faults c.args.input.now;
      input_after = g.S.Source.faults c.import_domain-disk.new.input;
      out_before = g.K.Sink.faults c.args.out.now;
      out_after = g.K.Sink.faults c.tell.new.out;
    } in
    imported g.D.Disk c.args.path.now c.args.owner.now sides c.args.disk c.import_domain-disk.result.disk c.import_domain-disk.result.outcome c.tell.result c.import_domain-disk.ensures.came_to
    c.import_domain-disk.ensures.causes c.import_domain-disk.ensures.disk_fault c.tell.ensures.told

pub returns-clause-input_later : goal.returns-clause-input_later
returns-clause-input_later g c = later_of _ _ c.import_domain-disk.result.outcome c.import_domain-disk.ensures.causes
