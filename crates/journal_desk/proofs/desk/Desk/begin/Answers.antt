use Rattle.journal_desk.proofs.OpenLemmas.{opened}
use Rattle.journal_desk.proofs.desk.Desk.begin.Goals as goal

pub invariant_of-result : goal.invariant_of-result
invariant_of-result g c = rw (c.new.ensures, c.of-at.ensures, c.of-since.ensures)
    (opened _ _ _ c.args.journal c.requires.idle c.requires.says_all c.requires.opens (g.N.Note.history c.args.lanes c.args.note) c.requires.none
    (λ honest image left. g.met.D.Disk.only_now _ image honest left))
