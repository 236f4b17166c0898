use Rattle.hall.proofs.ReachLemmas.{cuts_few}
use Rattle.hall.proofs.journal.JournalDesk.kept.Goals as goal

pub returns-clause-few : goal.returns-clause-few
returns-clause-few g c = cuts_few _ _ _ c.args.self.now.desk.kept c.reach_is_of_cuts.ensures.legal c.reach_is_of_cuts.ensures.kept
