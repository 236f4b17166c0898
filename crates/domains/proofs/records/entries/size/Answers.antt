use Rattle.std.proofs.Common.{ap, sym, ◌∙◌}
use Rattle.domains.specs.Records.Lists.{size_of}
use Rattle.domains.proofs.OfRecords.ReadLemmas.{length-rest_of}
use Rattle.domains.proofs.records.entries.size.Goals as goal

pub returns-in-Some : goal.returns-in-Some
returns-in-Some c = c.len.ensures.len ∙ sym (length-rest_of c.in-Some.members.now.entries) ∙ ap size_of c.in-Some.ensures
