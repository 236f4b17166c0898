use Rattle.flush_journal.proofs.JournalLemmas.{either_held}
use Rattle.flush_journal.proofs.laws.content_tells_map.Goals as goal

pub returns : goal.returns
returns c = either_held
