use Rattle.std.proofs.Common.{◌≡◌, ◌∙◌, Option, sym, ap, subst}
use Rattle.serde_json.specs.Read.{read}
use Rattle.object_records.specs.Readings.{Reads}
use Rattle.object_records.specs.Entries.{Entry, entry_of}
use Rattle.object_records.specs.declared.faults.BodyFault.TheVariants.{NoMemory}
use Rattle.object_records.proofs.ReadLemmas.{body_reads, json_told, not_a_text, read_some, some_bytes}
use Rattle.object_records.proofs.reading.read_object.Goals as goal

pub returns-in_default-clause-reads : goal.returns-in_default-clause-reads
returns-in_default-clause-reads c = not_a_text c.args.kind c.args.body.now c.in_default.ensures.cases.0

pub returns-in-Ok-from_str-clause-reads : goal.returns-in-Ok-from_str-clause-reads
returns-in-Ok-from_str-clause-reads c =
    let same = c.in-Ok.ensures.cases.0 in
    subst (λ (o : Option Entry). Reads entry_of c.object_in.result o)
    (sym (body_reads c.args.kind c.args.body.now _ c.in-Ok.ensures.cases.1 (ap read (sym same) ∙ c.in-Ok-from_str.ensures.ok)))
    c.object_in.ensures.reads

pub returns-in-Ok-from_str-clause-memory : goal.returns-in-Ok-from_str-clause-memory
returns-in-Ok-from_str-clause-memory c = λ is.
    let same = c.in-Ok.ensures.cases.0 in
    (c.in-Ok.ensures.cases.1, read_some c.args.body.now _ (ap read (sym same) ∙ c.in-Ok-from_str.ensures.ok))

pub returns-in-Err-clause-reads : goal.returns-in-Err-clause-reads
returns-in-Err-clause-reads c =
    let same = c.in-Ok.ensures.cases.0 in
    json_told c.args.kind c.args.body.now c.in-Err.error c.json_fault.result (λ plain. ap read (sym same) ∙ c.in-Err.ensures.err plain) c.json_fault.ensures

pub returns-in-Err-clause-memory : goal.returns-in-Err-clause-memory
returns-in-Err-clause-memory c = λ is.
    let wanting : c.json_fault.result ≡ NoMemory = cc in
    (c.in-Ok.ensures.cases.1, some_bytes _ c.args.body.now c.in-Ok.ensures.cases.0 (c.in-Err.ensures.memory (c.json_fault.ensures.0 wanting)))
