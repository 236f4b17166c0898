use Rattle.flush_journal.proofs.ByteLemmas.{begins_magic, end_inside, held_bytes}
use Rattle.flush_journal.proofs.laws.content_lies_inside.Goals as goal

pub returns-clause-magic : goal.returns-clause-magic
returns-clause-magic c = begins_magic

pub returns-clause-end : goal.returns-clause-end
returns-clause-end c = end_inside

pub returns-clause-bytes : goal.returns-clause-bytes
returns-clause-bytes c = λ bytes content key body h is there. held_bytes bytes content h is key body there
