use Rattle.std.proofs.Common.{◌∙◌, ap}
use Rattle.flush_journal.specs.Records.{records_of}
use Rattle.flush_journal.proofs.EncodingLemmas.{bytes_each, payload_encoded, encoded_read, all_records, each_record}
use Rattle.flush_journal.proofs.laws.payload_is_encoding.Goals as goal

pub returns : goal.returns
returns c = λ bytes rs h. (
  λ e. let is = payload_encoded bytes rs (bytes_each bytes h) e in (is.0, all_records rs is.1),
  λ is. ap records_of is.0 ∙ encoded_read rs (each_record rs is.1),
)
