use Rattle.object_records.proofs.OfKeys.KeyLaws.{same_subject}
use Rattle.object_records.proofs.keys.laws.record_keys_differ.Goals as goal

pub returns : goal.returns
returns c = same_subject
