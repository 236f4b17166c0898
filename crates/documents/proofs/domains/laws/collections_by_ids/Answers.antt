use Rattle.documents.proofs.OfDomains.DocumentLemmas.{each_at_its_text, keys_are_texts, keys_in_order}
use Rattle.documents.proofs.domains.laws.collections_by_ids.Goals as goal

pub returns : goal.returns
returns c = record { each = each_at_its_text; only = keys_are_texts; order = keys_in_order }
