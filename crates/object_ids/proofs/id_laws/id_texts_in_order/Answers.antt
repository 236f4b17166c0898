use Rattle.object_ids.proofs.IdTexts.{same_id, same_order}
use Rattle.object_ids.proofs.id_laws.id_texts_in_order.Goals as goal

pub returns-clause-order : goal.returns-clause-order
returns-clause-order c = same_order

pub returns-clause-once : goal.returns-clause-once
returns-clause-once c = same_id
