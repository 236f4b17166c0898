use Rattle.flush_journal.proofs.OfKeepings.Backing.{each_image}
use Rattle.flush_journal.proofs.keepings.laws.images_are_kept.Goals as goal

pub returns : goal.returns
returns g c = λ j building world worlds backed image left. each_image g.W.Kept.tells j building (g.W.Kept.says world) worlds backed image left
