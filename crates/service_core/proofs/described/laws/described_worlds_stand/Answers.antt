use Rattle.service_core.proofs.OfDescribed.WorldLemmas.{worlds_stand}
use Rattle.service_core.proofs.described.laws.described_worlds_stand.Goals as goal

pub returns : goal.returns
returns c = worlds_stand c.described_records_stand.ensures.faultless
