use Rattle.std.proofs.Common.{Some, sym, ap, ◌∙◌, if◌then◌else◌}
use Rattle.json_trees.proofs.OfKept.PassLemmas.{is_value}
use Rattle.json_trees.proofs.kept.members.after.Goals as goal

pub returns-in_ok-next-clause-told : goal.returns-in_ok-next-clause-told
returns-in_ok-next-clause-told c tree rest h =
    let r = c.in_ok-next.ensures.told tree rest h in
    (r.1, ap (λ d. Some d) r.0 ∙ ap (λ b. if b then Some tree else c.args.found) (sym c.if-is_wanted.true))

pub returns-in_ok-pass_value-clause-told : goal.returns-in_ok-pass_value-clause-told
returns-in_ok-pass_value-clause-told c tree rest h = (c.in_ok-pass_value.ensures.passed rest (is_value _ rest tree h), ap (λ b. if b then Some tree else c.args.found) (sym c.if-is_wanted.false))
