use Rattle.std.proofs.Common.{sym, ◌∙◌}
use Rattle.flush_journal.proofs.EarlierLemmas.{front_stands, front_stays}
use Rattle.flush_journal.proofs.EncodingLemmas.{bytes_each}
use Rattle.flush_journal.proofs.laws.earlier_bytes_stay.Goals as goal

pub returns-clause-written : goal.returns-clause-written
returns-clause-written c = λ bytes content h is. front_stands bytes content (bytes_each bytes h) is

pub returns-clause-stays : goal.returns-clause-stays
returns-clause-stays c = λ before after content rs old new was is.
    front_stays before after content rs (bytes_each before old) (bytes_each after new) was is ∙ sym (front_stands before content (bytes_each before old) was)
