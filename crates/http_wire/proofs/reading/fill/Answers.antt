use Rattle.std.proofs.Common.{◌∙◌}
use Rattle.http_wire.proofs.Windows.{moved}
use Rattle.http_wire.proofs.reading.fill.Goals as goal

pub returns-clause-stays : goal.returns-clause-stays
returns-clause-stays g c = c.read_line.ensures.stays ∙ moved c.args.start c.args.end c.args.bytes.now _ c.requires.ordered c.requires.within c.rotate_left.ensures.after
