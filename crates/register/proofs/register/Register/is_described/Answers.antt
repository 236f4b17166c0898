use Rattle.std.proofs.Common.{subst}
use Rattle.domains.specs.Contents.{IsCatalogue}
use Rattle.register.specs.Kept.{AreTexts}
use Rattle.register.proofs.register.Register.is_described.Goals as goal

pub returns : goal.returns
returns c = λ unmarked held says.
    c.kept_registers_are_described.ensures c.args.self.now held unmarked c.lanes-lanes.ensures.valid
    (subst IsCatalogue c.catalogue.ensures c.have_texts.ensures.valid) (subst AreTexts c.catalogue.ensures c.have_texts.ensures.texts) says
