use Rattle.chunk_owner.proofs.OfInstalls.Standing.{kept_faultless, kept_sound}
use Rattle.chunk_owner.proofs.installs.laws.described_records_stand.Goals as goal

pub returns : goal.returns
returns c = record { rules = kept_sound; faultless = kept_faultless }
