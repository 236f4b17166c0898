use Rattle.register.proofs.GrantLemmas.{grants_are_issues}
use Rattle.register.proofs.KeepLemmas.{takes_place, unserved_keep}
use Rattle.register.proofs.Saying.{still_said}
use Rattle.register.proofs.laws.decisions_keep.Goals as goal

pub returns : goal.returns
returns c = record { place = takes_place; unserved = unserved_keep; granted = grants_are_issues; says = still_said }
