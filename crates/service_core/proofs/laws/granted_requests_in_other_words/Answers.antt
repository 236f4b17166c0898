use Rattle.service_core.proofs.LawLemmas.{domains_are_forgotten, linked_then_made, made_alone, one_object}
use Rattle.service_core.proofs.laws.granted_requests_in_other_words.Goals as goal

pub returns : goal.returns
returns c =
    let issues = c.decisions_keep.ensures.granted in
    record { linked = linked_then_made issues; alone = made_alone issues; one = one_object issues; forgotten = domains_are_forgotten }
