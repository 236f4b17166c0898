use Rattle.std.proofs.lemmas.List.Elements.{recursion_from_All}
use Rattle.flush_journal.proofs.PutLemmas.{put_others, put_last}
use Rattle.flush_journal.proofs.laws.last_record_wins.Goals as goal

pub returns-clause-last : goal.returns-clause-last
returns-clause-last c = λ m front back key body h. put_last m front back key body (recursion_from_All _ back h)

pub returns-clause-none : goal.returns-clause-none
returns-clause-none c = λ m records key h. put_others m records key (recursion_from_All _ records h)
