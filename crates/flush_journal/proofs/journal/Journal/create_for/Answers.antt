use Rattle.std.proofs.Common.{refl, ◌∙◌, ap}
use Rattle.flush_journal.specs.Files.{content}
use Rattle.flush_journal.proofs.NewLemmas.{new_content}
use Rattle.flush_journal.proofs.journal.Journal.create_for.Goals as goal

pub returns-in-Ok-clause-settled : goal.returns-in-Ok-clause-settled
returns-in-Ok-clause-settled g c = λ h. record {
  idle = refl;
  numbers = record { version = refl; lanes = refl; batches = refl; end = refl };
  file = ap content (c.in-Ok.ensures.file h) ∙ new_content c.args.lanes _ c.requires.some c.requires.few;
  only = c.in-Ok.ensures.only h;
}
