use Rattle.std.proofs.Common.{refl, sym, ◌∙◌, ap, subst}
use Rattle.flush_journal.specs.Files.{content}
use Rattle.flush_journal.proofs.journal.Journal.recover.Goals as goal

pub returns-in-Ok-clause-recovered : goal.returns-in-Ok-clause-recovered
returns-in-Ok-clause-recovered g c = λ h.
    let first = c.in_ok-reader.ensures.bytes h in
    let then_ = c.read_journal.ensures.on.bytes h in
    let found = c.in-Ok.ensures.found h in
    let same = ap g.D.Disk.reads c.into_disk.ensures ∙ then_.reads in (
      _,
      ap content (sym first.reads) ∙ found.1,
      record {
        idle = refl;
        numbers = record { version = refl; lanes = refl; batches = refl; end = refl };
        file = ap content same ∙ found.1;
        only = λ i left. c.in_ok-reader.ensures.synced h i (then_.images i (subst (λ d. g.D.Disk.images d i) c.into_disk.ensures left)) ∙ sym (same ∙ first.reads);
      },
      refl,
    )
