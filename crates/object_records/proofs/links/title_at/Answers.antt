use Rattle.object_records.proofs.ReadLemmas.{title_read}
use Rattle.object_records.proofs.links.title_at.Goals as goal

pub returns-then-good_title-clause-reads : goal.returns-then-good_title-clause-reads
returns-then-good_title-clause-reads c = title_read _ c.in_ok-title.title c.in_ok-title.ensures (c.good_title.ensures.0 c.if-good_title.true)
