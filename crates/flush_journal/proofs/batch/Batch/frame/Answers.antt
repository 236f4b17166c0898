use Rattle.std.proofs.Common.{refl}
use Rattle.flush_journal.proofs.BatchLemmas.{whole_of}
use Rattle.flush_journal.proofs.batch.Batch.frame.Goals as goal

pub returns-clause-read : goal.returns-clause-read
returns-clause-read c = (whole_of c.args.self.now.frame.items _ c.args.self.now.whole refl).read
