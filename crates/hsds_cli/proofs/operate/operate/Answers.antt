use Rattle.std.proofs.Common.{refl}
use Rattle.command_words.specs.Views.{as_command}
use Rattle.hsds_cli.specs.Sides.{Sides, sides_of}
use Rattle.hsds_cli.proofs.OperateLemmas.{operated_as, operated_status}
use Rattle.hsds_cli.proofs.SessionLemmas.{keeps}
use Rattle.hsds_cli.proofs.operate.operate.Goals as goal

pub returns-in-Init-clause-operated : goal.returns-in-Init-clause-operated
returns-in-Init-clause-operated g c =
    let sides : Sides = sides_of g.C.Source g.S.Source g.K.Sink c.args.config.now c.init.new.config c.args.input.now c.args.input.now c.args.out.now c.init.new.out in
    operated_as g.D.Disk sides c.args.disk c.init.result.disk c.args.wanted.now _ c.init.result.status c.in-Init.is
    (c.init.ensures.init (g.S.Source.left c.args.input.now) (g.S.Source.faults c.args.input.now))

pub returns-in-Init-clause-statuses : goal.returns-in-Init-clause-statuses
returns-in-Init-clause-statuses g c =
    let sides : Sides = sides_of g.C.Source g.S.Source g.K.Sink c.args.config.now c.init.new.config c.args.input.now c.args.input.now c.args.out.now c.init.new.out in
    operated_status g.D.Disk sides c.args.disk c.init.result.disk (as_command c.args.wanted.now) c.init.result.status (returns-in-Init-clause-operated g c)

pub returns-in-Export-clause-operated : goal.returns-in-Export-clause-operated
returns-in-Export-clause-operated g c =
    let sides : Sides = sides_of g.C.Source g.S.Source g.K.Sink c.args.config.now c.args.config.now c.args.input.now c.args.input.now c.args.out.now c.export.new.out in
    operated_as g.D.Disk sides c.args.disk c.export.result.disk c.args.wanted.now _ c.export.result.status c.in-Export.is
    (c.export.ensures.exported (g.C.Source.left c.args.config.now) (g.S.Source.left c.args.input.now) (g.C.Source.faults c.args.config.now) (g.S.Source.faults c.args.input.now), c.export.ensures.bytes)

pub returns-in-Export-clause-statuses : goal.returns-in-Export-clause-statuses
returns-in-Export-clause-statuses g c =
    let sides : Sides = sides_of g.C.Source g.S.Source g.K.Sink c.args.config.now c.args.config.now c.args.input.now c.args.input.now c.args.out.now c.export.new.out in
    operated_status g.D.Disk sides c.args.disk c.export.result.disk (as_command c.args.wanted.now) c.export.result.status (returns-in-Export-clause-operated g c)

pub returns-in-Import-clause-operated : goal.returns-in-Import-clause-operated
returns-in-Import-clause-operated g c =
    let sides : Sides = sides_of g.C.Source g.S.Source g.K.Sink c.args.config.now c.args.config.now c.args.input.now c.import.new.input c.args.out.now c.import.new.out in
    operated_as g.D.Disk sides c.args.disk c.import.result.disk c.args.wanted.now _ c.import.result.status c.in-Import.is
    (c.import.ensures.imported (g.C.Source.left c.args.config.now) (g.C.Source.faults c.args.config.now))

pub returns-in-Import-clause-statuses : goal.returns-in-Import-clause-statuses
returns-in-Import-clause-statuses g c =
    let sides : Sides = sides_of g.C.Source g.S.Source g.K.Sink c.args.config.now c.args.config.now c.args.input.now c.import.new.input c.args.out.now c.import.new.out in
    operated_status g.D.Disk sides c.args.disk c.import.result.disk (as_command c.args.wanted.now) c.import.result.status (returns-in-Import-clause-operated g c)

pub returns-in-Sample-clause-operated : goal.returns-in-Sample-clause-operated
returns-in-Sample-clause-operated g c =
    let sides : Sides = sides_of g.C.Source g.S.Source g.K.Sink c.args.config.now c.args.config.now c.args.input.now c.args.input.now c.args.out.now c.sample.new.out in
    operated_as g.D.Disk sides c.args.disk c.args.disk c.args.wanted.now _ c.sample.result c.in-Sample.is
    ((c.sample.ensures.told, keeps _ _ refl), refl)

pub returns-in-Sample-clause-statuses : goal.returns-in-Sample-clause-statuses
returns-in-Sample-clause-statuses g c =
    let sides : Sides = sides_of g.C.Source g.S.Source g.K.Sink c.args.config.now c.args.config.now c.args.input.now c.args.input.now c.args.out.now c.sample.new.out in
    operated_status g.D.Disk sides c.args.disk c.args.disk (as_command c.args.wanted.now) c.sample.result (returns-in-Sample-clause-operated g c)

pub returns-in-Verify-clause-operated : goal.returns-in-Verify-clause-operated
returns-in-Verify-clause-operated g c =
    let sides : Sides = sides_of g.C.Source g.S.Source g.K.Sink c.args.config.now c.args.config.now c.args.input.now c.args.input.now c.args.out.now c.verify.new.out in
    operated_as g.D.Disk sides c.args.disk c.verify.result.disk c.args.wanted.now _ c.verify.result.status c.in-Verify.is
    (c.verify.ensures.verified (g.C.Source.left c.args.config.now) (g.S.Source.left c.args.input.now) (g.C.Source.faults c.args.config.now) (g.S.Source.faults c.args.input.now), c.verify.ensures.bytes)

pub returns-in-Verify-clause-statuses : goal.returns-in-Verify-clause-statuses
returns-in-Verify-clause-statuses g c =
    let sides : Sides = sides_of g.C.Source g.S.Source g.K.Sink c.args.config.now c.args.config.now c.args.input.now c.args.input.now c.args.out.now c.verify.new.out in
    operated_status g.D.Disk sides c.args.disk c.verify.result.disk (as_command c.args.wanted.now) c.verify.result.status (returns-in-Verify-clause-operated g c)
