use Rattle.service_histories.proofs.CallLemmas.{turns_are_at_home}
use Rattle.service_histories.proofs.Readying.{gives_out}
use Rattle.service_histories.proofs.laws.turns_are_ready.Goals as goal

pub returns : goal.returns
returns c =
    let issues = c.decisions_keep.ensures.granted in
    let gives = gives_out issues in
    record { gives = gives; ready = λ lanes. c.turns_are_ready.ensures.turns lanes (gives lanes); home = turns_are_at_home issues }
