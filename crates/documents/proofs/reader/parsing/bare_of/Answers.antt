-- Bytes that are no UTF-8 have no document.
use Rattle.json_trees.proofs.OfKept.KeptLemmas.{no_text}
use Rattle.documents.proofs.OfReader.KeptLemmas.{bytes_found}
use Rattle.documents.proofs.reader.parsing.bare_of.Goals as goal

pub returns-in-Ok-clause-read : goal.returns-in-Ok-clause-read
returns-in-Ok-clause-read c = bytes_found c.args.text.now _ c.document_in.result c.in-Ok.ensures.cases.1 c.in-Ok.ensures.cases.0 c.document_in.ensures.read

pub returns-in-Err-clause-refused : goal.returns-in-Err-clause-refused
returns-in-Err-clause-refused c refused = no_text c.args.text.now c.in-Err.ensures.cases.0
