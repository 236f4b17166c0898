use Rattle.register.proofs.SinceLemmas.{cuts_tell, draws, kept_say, others_keep, stay_since, stays, told_described}
use Rattle.register.proofs.laws.cuts_tell_registers.Goals as goal

pub returns : goal.returns
returns c = record { drawn = draws; catalogue = stays; kept = kept_say; since = stay_since; cuts = cuts_tell; others = others_keep; described = told_described }
