use Rattle.groups_links.proofs.IdLemmas.{id_read, id_told}
use Rattle.groups_links.proofs.laws.id_texts_are_read.Goals as goal

pub returns : goal.returns
returns c = λ text id. (id_told text id, λ own. id_read text id own.0 own.1)
