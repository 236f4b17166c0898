use Rattle.chunk_owner.proofs.OfInstalls.Telling.{tells_one}
use Rattle.chunk_owner.proofs.installs.laws.records_tell_one.Goals as goal

pub returns : goal.returns
returns c = tells_one c.entries_tell_apart.ensures.attributes c.entries_tell_apart.ensures.bodies c.records_stand.ensures.one
