use Rattle.std.proofs.Common.{subst}
use Rattle.service_core.specs.Worlds.{State}
use Rattle.service_histories.specs.Closings.{IsWorldSince}
use Rattle.hall.specs.ArrayMachines.{lanes_in}
use Rattle.hall.proofs.SharingLemmas.{uncut_since}
use Rattle.hall.proofs.worlds.ended_worlds_are_said.Goals as goal

pub returns : goal.returns
returns g c = λ start v first last register owners new ended uncut.
    c.worlds_close.ensures.said (lanes_in start) first last new.kept
    (subst (λ (s : State). IsWorldSince (lanes_in start) s last) (λ i. record { register = register i; lanes = owners i })
    (uncut_since start v last ended uncut))
