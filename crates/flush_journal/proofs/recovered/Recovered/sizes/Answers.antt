use Rattle.std.proofs.Common.{subst}
use Rattle.flush_journal.specs.Records.{IsRecordMap}
use Rattle.flush_journal.proofs.recovered.Recovered.sizes.Goals as goal

pub returns : goal.returns
returns c = subst IsRecordMap c.self.view_is c.self.invariant
