use Rattle.http_wire.proofs.Windows.{window_less}
use Rattle.http_wire.proofs.buffer.HeadBuffer.skip.Goals as goal

pub returns : goal.returns
returns c = window_less c.args.self.now.start c.args.self.now.end c.args.count c.args.self.now.bytes.items
