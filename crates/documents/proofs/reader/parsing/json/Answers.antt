use Rattle.documents.proofs.OfReader.ParseLemmas.{json_read, json_refused}
use Rattle.documents.proofs.reader.parsing.json.Goals as goal

pub returns-in-Ok : goal.returns-in-Ok
returns-in-Ok c = json_read _ _ c.in-Ok.ensures.ok.0 c.in-Ok.ensures.ok.1

pub returns-in-Err : goal.returns-in-Err
returns-in-Err c = json_refused c.args.text.now c.in-Err.error c.json_fault.result c.in-Err.ensures.err c.json_fault.ensures
