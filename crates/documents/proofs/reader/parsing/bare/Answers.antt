use Rattle.documents.proofs.OfReader.KeptLemmas.{bare_found}
use Rattle.documents.proofs.reader.parsing.bare.Goals as goal

pub returns-in-Ok-Some : goal.returns-in-Ok-Some
returns-in-Ok-Some c = let h = rw c.in-Ok-Some.field-0-is at c.in-Ok-Some.ensures.read in bare_found c.args.text.now h.0 c.in-Ok-Some.document h.1 h.2
