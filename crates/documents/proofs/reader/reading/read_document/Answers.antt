use Rattle.documents.specs.Reader.Documents.{doc_of}
use Rattle.documents.specs.Reader.Loads.{LoadsText}
use Rattle.documents.proofs.OfReader.DocumentLemmas.{gives_loads, gives_only, text_complete, text_sound}
use Rattle.documents.proofs.reader.reading.read_document.Goals as goal

pub returns-clause-loads : goal.returns-clause-loads
returns-clause-loads c = gives_loads c.whole.result (doc_of c.args.text.now) (LoadsText c.args.text.now) (text_sound c.args.text.now) c.whole.ensures.first

pub returns-clause-only : goal.returns-clause-only
returns-clause-only c = λ l h. gives_only c.whole.result (doc_of c.args.text.now) l c.whole.ensures.first (text_complete c.args.text.now l h)
