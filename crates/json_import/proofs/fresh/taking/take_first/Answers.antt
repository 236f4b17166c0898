use Rattle.std.proofs.Common.{ap, ◌∙◌}
use Rattle.std.specs.FinMap.{get, remove}
use Rattle.json_import.proofs.OfFresh.TakingLemmas.{none_taken, one_taken}
use Rattle.json_import.proofs.fresh.taking.take_first.Goals as goal

pub returns-in_default : goal.returns-in_default
returns-in_default g c = none_taken c.args.map.now c.in_default.ensures.step

pub returns : goal.returns
returns g c =
    let text = c.as_str.ensures.value ∙ c.in_ok-text.ensures.ok in
    one_taken c.args.map.now c.remove.new.self (c.in-Some.text.now, c.in-Some.field-0-1.now) c.remove.result
    c.in-Some.ensures.step
    (c.remove.ensures.value ∙ ap (get c.args.map.now) text) c.in-Some.ensures.value
    (c.remove.ensures.rest ∙ ap (remove c.args.map.now) text)
