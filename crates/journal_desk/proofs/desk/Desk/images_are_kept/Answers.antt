use Rattle.journal_desk.proofs.ImageLemmas.{image_kept, settled_image}
use Rattle.journal_desk.proofs.desk.Desk.images_are_kept.Goals as goal

pub returns-clause-images : goal.returns-clause-images
returns-clause-images g c = rw (← c.self.view_is) (λ honest image left. image_kept _ _ _ _ _ _ _ _ (c.self.invariant.desk.on_disk honest) image left)

pub returns-clause-settled : goal.returns-clause-settled
returns-clause-settled g c = rw (← c.self.view_is) (λ honest idle image left.
    settled_image _ _ _ _ _ _ _ _ (c.self.invariant.desk.on_disk honest) idle image left)

pub returns-clause-since : goal.returns-clause-since
returns-clause-since g c = rw (← c.self.view_is) (λ honest image left.
    image_kept _ _ _ _ _ _ _ _ (c.self.invariant.desk.on_disk honest) image (g.met.D.Disk.only_now _ image honest left))
