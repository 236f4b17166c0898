use Rattle.std.proofs.Common.{ap}
use Rattle.object_records.specs.Entries.{Entry}
use Rattle.object_records.proofs.SameLemmas.{same_body, same_names}
use Rattle.object_records.proofs.laws.entries_tell_apart.Goals as goal

pub returns-clause-attributes : goal.returns-clause-attributes
returns-clause-attributes c = λ a b e. same_names a.attributes b.attributes (ap (λ (x : Entry). x.attributes) e)

pub returns-clause-bodies : goal.returns-clause-bodies
returns-clause-bodies c = λ a b e. same_body a.body b.body (ap (λ (x : Entry). x.kept) e)
